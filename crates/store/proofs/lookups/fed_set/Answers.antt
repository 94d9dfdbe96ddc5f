-- `fed_set` joins what each process maps both ways.
use Rattle.std.proofs.Common.{ℕ, ◌≡◌, ◌+◌, [], ◌∷◌, ◌++◌, length, refl, sym, ◌∙◌, length-append}
use Rattle.sets.specs.Sets.{◌∪◌, ◌∩◌}
use Rattle.store.specs.Maps.{part, fed_up_to}
use Rattle.store.proofs.Use.{fed_more}
use Rattle.store.proofs.lookups.fed_set.Goals as goal

pub loop-maps-init : goal.loop-maps-init
unfolding part fed_up_to
loop-maps-init c = record {
  fed = refl;
  maps = rw (c.into_iter-maps-iterator.ensures.into_iter_gives, c.zip-maps-items.ensures.first) c.iter.ensures.rest;
  ways = rw c.into_iter-maps-iterator.ensures.into_iter_gives c.zip-maps-items.ensures.second.0;
}

pub loop-maps-preserved : goal.loop-maps-preserved
unfolding ◌∪◌ ◌∩◌
loop-maps-preserved c =
    let s = c.in-Some.ensures.steps in
    let i = c.loop-maps.invariant in
    let n : ℕ = length c.loop-maps.yielded in
    let e : length (c.loop-maps.yielded ++ (c.in-Some.maps, c.in-Some.ways) ∷ []) ≡ n + 1 = length-append c.loop-maps.yielded ((c.in-Some.maps, c.in-Some.ways) ∷ []) in
    let t = fed_more c.args.words.now n _ _ _ _ _ i.fed (sym i.maps ∙ s.0) (sym i.ways ∙ s.1) in
    record { fed = rw e t.0; maps = rw e t.1; ways = rw e t.2 }
