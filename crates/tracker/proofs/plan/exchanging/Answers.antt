-- `exchanging` is the plan of an exchange: the second gift is of what its giver then holds.
use Prim.Native.Nat.{ℕ}
use mathlib.Core.Path.{sym, ap}
use lib.ListN.{get_or}
use Rattle.sets.specs.Sets.{◌∪◌}
use Rattle.flow.specs.Links.{reach}
use Rattle.flow.proofs.Moves.{receiver_at}
use Rattle.store.specs.Maps.{Maps, view}
use Rattle.tracker.specs.Plans.{plan, plan_of}
use Rattle.tracker.proofs.Facts.{below64}
use Rattle.tracker.proofs.plan.exchanging.Goals as goal

pub returns : goal.returns
unfolding view ◌∪◌ plan_of
returns c d n =
    let m : Maps = view c.args.words.now d n in
    let first : ℕ = c.args.first.0 in
    let second : ℕ = c.args.second.0 in
    rw (c.reach-2.ensures d n, c.items.ensures, c.reach.ensures d n, c.items-given.ensures, below64 c.requires.0, below64 c.requires.1)
    (ap (λ (x : ℕ). plan 0 (get_or m.items first 0) (reach m.tables second) x (reach m.tables first)) (sym (receiver_at m.tables m.items first second c.requires.1)))
