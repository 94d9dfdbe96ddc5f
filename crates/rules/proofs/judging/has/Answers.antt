-- `has` asks what is left without i, where there can be one.
use Prim.Native.Nat.{◌%◌}
use native.Mathlib.Omega.{arith}
use mathlib.Core.Path.{◌≡◌, sym, ◌∙◌}
use borrow.Author.Tests.{le-ltb}
use Rattle.sets.specs.Sets.{has}
use Rattle.sets.proofs.Members.{past_has}
use Rattle.rules.proofs.TakenLaws.{taken_out}
use Rattle.rules.proofs.judging.has.Goals as goal

pub returns-else-i : goal.returns-else-i
unfolding has
returns-else-i c = le-ltb _ 64 c.if-i.false ∙ sym (past_has _ _ c.ranges.x.fits c.if-i.false)

pub returns-then-i : goal.returns-then-i
returns-then-i c =
    let e : c.args.i % 64 ≡ c.args.i = omega (arith, c.if-i.true) in
    rw (c.without.ensures, e) (taken_out _ _ c.ranges.x.fits c.if-i.true)
