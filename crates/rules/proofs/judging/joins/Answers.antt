-- `joins` tries the two gifts; no item is past 63.
use mathlib.Core.Path.{sym, ap₂}
use mathlib.Core.Bool.{◌||◌}
use borrow.Author.Tests.{leb-true}
use Rattle.flow.proofs.Bools.{or_elim}
use Rattle.rules.proofs.MetLaws.{past_first, past_second}
use Rattle.rules.proofs.judging.joins.Goals as goal

pub returns-then-i-j : goal.returns-then-i-j
returns-then-i-j c =
    let b = c.ranges in
    or_elim _ _
    (λ e. let l = leb-true _ _ e in sym (ap₂ ◌||◌ (past_first _ _ _ _ b.x.fits b.first.fits l) (past_first _ _ _ _ b.y.fits b.second.fits l)))
    (λ e. let l = leb-true _ _ e in sym (ap₂ ◌||◌ (past_second _ _ _ _ b.x.fits b.first.fits l) (past_second _ _ _ _ b.y.fits b.second.fits l)))
    c.if-i-j.true
