-- `parts` goes by the condition.
use mathlib.Core.Path.{refl, sym}
use native.Mathlib.Omega.{arith}
use Rattle.rules.proofs.ConditionLaws.{forbids_by, separates_by, confines_by}
use Rattle.rules.proofs.stored.parts.Goals as goal

pub returns-in-Forbid : goal.returns-in-Forbid
returns-in-Forbid c = rw c.in-Forbid.is (sym (forbids_by 0x11 _ _ refl))

pub returns-in-Separate : goal.returns-in-Separate
returns-in-Separate c = rw c.in-Separate.is (sym (separates_by 0x12 _ _ refl))

pub returns-in-Confine : goal.returns-in-Confine
returns-in-Confine c = rw c.in-Confine.is (sym (confines_by 0x13 _ _ (λ e. omega (arith, e)) (λ e. omega (arith, e))))
