-- `breaks_anew` leaves out what is not given, and goes by the condition.
use Prim.Native.Nat.{◌^◌, ◌<◌}
use mathlib.Core.Path.{sym, ap, ◌∙◌}
use mir.Val.{Fits}
use mir.Syntax.{w64}
use borrow.Author.Rules.{rules}
use Rattle.sets.specs.Sets.{◌∪◌}
use Rattle.sets.proofs.Members.{union_lt}
use Rattle.terms.specs.Rules.{condition_in}
use Rattle.rules.specs.Judging.{breaks_anew}
use Rattle.rules.proofs.AnewLaws.{far}
use Rattle.rules.proofs.MetLaws.{joined}
use Rattle.rules.proofs.judging.breaks_anew.Goals as goal
use Rattle.rules.proofs.judging.breaks_anew.Goals.{Start}

gained_lt : (c : Start) → (c.args.plan.given ∪ c.args.plan.given2) < 2 ^ 64
gained_lt c =
    let x : Fits w64 c.args.plan.given = search rules in
    let y : Fits w64 c.args.plan.given2 = search rules in
    union_lt _ _ x.fits y.fits

pub returns-in-None : goal.returns-in-None
unfolding ◌∪◌
returns-in-None c = λ l m n. sym (far _ l _ (gained_lt (goal.at.returns-in-None c).Start) c.in-None.ensures)

pub returns-in-Some-Forbid : goal.returns-in-Some-Forbid
unfolding breaks_anew
returns-in-Some-Forbid c = λ l m n. c.enters.ensures ∙ ap (breaks_anew l _) (sym (ap condition_in c.in-Some-Forbid.field-0-is) ∙ c.in-Some-Forbid.ensures.0)

pub returns-in-Some-Separate : goal.returns-in-Some-Separate
returns-in-Some-Separate c = λ l m n.
    let x : Fits w64 c.args.plan.to = search rules in
    let y : Fits w64 c.args.plan.to2 = search rules in
    c.joins.ensures ∙ joined l _ x.fits y.fits _ _ m n _ _ ∙ ap (breaks_anew l _) (sym (ap condition_in c.in-Some-Separate.field-0-is) ∙ c.in-Some-Separate.ensures.0)

pub returns-in-Some-Confine : goal.returns-in-Some-Confine
unfolding breaks_anew
returns-in-Some-Confine c = λ l m n. c.leaves.ensures ∙ ap (breaks_anew l _) (sym (ap condition_in c.in-Some-Confine.field-0-is) ∙ c.in-Some-Confine.ensures.0)
