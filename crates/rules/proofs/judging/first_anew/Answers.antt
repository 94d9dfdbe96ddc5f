-- `first_anew` is `judge`; without rules there is no answer.
use mir.Val.{Fits}
use mir.Syntax.{w64}
use native.Mathlib.Omega.{arith}
use borrow.Author.Rules.{rules}
use Rattle.rules.proofs.AnewLaws.{judges}
use Rattle.rules.proofs.judging.first_anew.Goals as goal

pub returns-then-count-eq0 : goal.returns-then-count-eq0
returns-then-count-eq0 c =
    let x : Fits w64 c.args.plan.to = search rules in
    let y : Fits w64 c.args.plan.to2 = search rules in
    judges _ _ _ _ _ x.fits y.fits (λ j l m. absurd (omega (arith, c.count.ensures, c.if-count-eq0.true)))
