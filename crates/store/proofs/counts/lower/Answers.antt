-- `lower` takes one from the count.
use Prim.Native.Nat.{ℕ, ◌-◌}
use native.Mathlib.Omega.{arith}
use mathlib.Core.Path.{ap, ◌∙◌}
use mathlib.Core.List.{[]}
use lib.ListN.{set}
use Rattle.flow.specs.Box.{row_of}
use Rattle.flow.specs.Calls.{with_row, lowered}
use Rattle.store.specs.Maps.{view, with_tables}
use Rattle.store.specs.Sorts.{sort_in}
use Rattle.store.proofs.counts.lower.Goals as goal

pub returns : goal.returns
unfolding lowered
returns c d n =
    let a = c.args in
    let m = view a.words.now d n in
    let x = sort_in a.x in
    c.recount.ensures d n ∙ ap (λ (z : ℕ). with_tables m (with_row m.tables x a.p.0 (set (row_of m.tables x a.p.0) a.c.0 z))) (ap (λ (z : ℕ). z - 1) (c.count-n.ensures d n))

pub overflow_sub-n : goal.overflow_sub-n
overflow_sub-n c = omega (arith, c.count-n.ensures [] [], c.requires.2)
