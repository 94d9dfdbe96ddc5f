-- `gets` joins the two shares; no item is past 63.
use mathlib.Core.Path.{sym}
use mir.Val.{Fits}
use mir.Syntax.{w64}
use lib.Bits.{or_zero_r}
use borrow.Author.Rules.{rules}
use Rattle.sets.specs.Sets.{◌∪◌}
use Rattle.sets.proofs.Members.{past_has}
use Rattle.rules.specs.Judging.{gets, only_if}
use Rattle.rules.proofs.judging.gets.Goals as goal

pub returns-then-i : goal.returns-then-i
unfolding gets only_if ◌∪◌
returns-then-i c =
    let x : Fits w64 c.args.plan.given = search rules in
    let y : Fits w64 c.args.plan.given2 = search rules in
    rw (past_has _ _ x.fits c.if-i.true, past_has _ _ y.fits c.if-i.true) (sym (or_zero_r 0))

pub returns : goal.returns
unfolding gets only_if ◌∪◌
returns c = rw (c.only_if.ensures, c.has.ensures, c.only_if-2.ensures, c.has-2.ensures)
