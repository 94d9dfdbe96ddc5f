-- `reach` goes through each process that comes next, until none does.
use Rattle.std.proofs.Common.{ℕ, ◌≡◌, ◌+◌, ◌-◌, ◌^◌, ◌<◌, true, arith, subst, ◌∙◌}
use Rattle.sets.specs.Sets.{has, ◌∪◌, ◌∩◌}
use Rattle.flow.proofs.TableLaws.{table_at}
use Rattle.store.specs.Maps.{part, maps_in, ways_in}
use Rattle.store.specs.Search.{comes_next}
use Rattle.store.proofs.Words.{links_of, fed_rows, reach_view, ins_of, outs_of, outs_bound}
use Rattle.store.proofs.Searching.{search_start, search_over, next_lt, search_more, more_less}
use Rattle.store.proofs.spread.reach.Goals as goal
use Rattle.store.proofs.spread.reach.Goals.{In-Some}

-- the process that comes next
came : (c : In-Some) → (has c.loop-p.left c.in-Some.p ≡ true) × (comes_next (part 65 16 c.args.words.now) c.loop-p.seen c.in-Some.p ≡ true)
came c = rw c.of-rows.ensures at c.in-Some.ensures

below : (c : In-Some) → c.in-Some.p < 16
below c =
    let w = c.args.words.now in
    next_lt (links_of w) (part 65 16 w) _ (ins_of w c.fits-words) (outs_of w c.fits-words) c.loop-p.invariant _ (came c)

pub loop-p-init : goal.loop-p-init
loop-p-init c = rw c.with-seen.ensures (search_start _ _ _ (omega arith))

pub overflow_add-v : goal.overflow_add-v
overflow_add-v c = omega (arith, below (goal.at.overflow_add-v c).In-Some)

pub fed_by-requires : goal.fed_by-requires
fed_by-requires c = (omega arith, omega (arith, below (goal.at.fed_by-requires c).In-Some))

pub loop-p-smaller : goal.loop-p-smaller
loop-p-smaller c =
    let w = c.args.words.now in
    more_less (links_of w) (part 65 16 w) _ (ins_of w c.fits-words) (outs_of w c.fits-words) c.loop-p.invariant _ (came (goal.at.loop-p-smaller c).In-Some) _ c.without-left.ensures

-- the process of a container
own : (p : ℕ) → 8 + p - 8 ≡ p
own p = omega arith

pub loop-p-preserved : goal.loop-p-preserved
unfolding ◌∪◌ fed_rows
loop-p-preserved c =
    let w = c.args.words.now in
    let fits = c.fits-words in
    let h = below (goal.at.loop-p-preserved c).In-Some in
    search_more (links_of w) (part 65 16 w) _ (ins_of w fits) (outs_of w fits) c.loop-p.invariant _ (came (goal.at.loop-p-preserved c).In-Some)
    (subst (λ (z : ℕ). z < 2 ^ 64) (outs_of w fits _ h) (outs_bound w fits _)) _ _
    (rw (c.with-seen-in-Some.ensures, c.fed_by.ensures, c.of-rows.ensures, own c.in-Some.p, ← table_at 16 (λ p. maps_in w p ∩ ways_in w p) _ 0 h)) c.without-left.ensures

pub returns : goal.returns
returns c d n =
    let w = c.args.words.now in
    let fits = c.fits-words in
    search_over (links_of w) (part 65 16 w) _ (ins_of w fits) (outs_of w fits) c.loop-p.invariant (omega arith) (outs_bound w fits) (rw c.of-rows.ensures at c.in_default.ensures)
    ∙ reach_view w d n _
