-- `union_of` joins the sets in order: before number i it has joined those before it.
use mathlib.Core.Path.{refl, sym, ap, ◌∙◌}
use lib.Seq.{take_all}
use borrow.Author.Rules.{rules}
use Rattle.sets.specs.Sets.{◌∪◌, union_of}
use Rattle.sets.proofs.Unions.{union_of_more}
use Rattle.sets.proofs.union_of.Goals as goal

pub loop-row-init : goal.loop-row-init
unfolding union_of
loop-row-init c = refl

pub loop-row-preserved : goal.loop-row-preserved
unfolding ◌∪◌
loop-row-preserved c = rw c.loop-row.invariant (sym (union_of_more _ _ c.loop-row-test.true))

pub returns : goal.returns
returns c = c.loop-row.invariant ∙ ap union_of (take_all _ _ c.loop-row-test.false)
