-- A forked child gets what its parent holds.
use native.Mathlib.Omega.{arith}
use mathlib.Core.Path.{refl, ap, sym, ◌∙◌}
use Rattle.store.specs.declared.Plan.{Plan}
use Rattle.flow.specs.Calls.{fork}
use Rattle.flow.specs.Refusals.{ranges}
use Rattle.tracker.specs.View.{view}
use Rattle.tracker.proofs.Facts.{process_a, own_a}
use Rattle.tracker.proofs.Joined.{copies, makes_plan}
use Rattle.terms.specs.Calls.{asked}
use Rattle.tracker.proofs.giving.CopyingGiving.make.Goals as goal

pub overflow_add-q : goal.overflow_add-q
unfolding ranges
overflow_add-q c = omega (arith, process_a c.requires.0 fork c.requires.1 refl)

pub returns : goal.returns
unfolding ranges
returns c =
    let t = c.args.t.now in
    let whole = copies (view t) (asked c.args.q) c.requires.1 (own_a c.requires.0 fork c.requires.1 refl) _ (ap (λ (p : Plan). p.given) c.requires.2) in
    makes_plan t.words t.descriptors t.names _ _ _ _ (whole ∙ sym c.requires.2) c.replace_items.ensures
