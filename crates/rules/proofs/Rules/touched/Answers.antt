-- `touched` asks for the first item, and of tag 12 hex for the second.
use native.Mathlib.Nat.{mod-eq_of_lt}
use native.Mathlib.Omega.{arith}
use mathlib.Core.Path.{sym, ap, ◌∙◌}
use borrow.Author.Tests.{eq-eqb, ne_eqb}
use Rattle.sets.specs.Sets.{has}
use Rattle.rules.specs.Stored.{condition_at}
use Rattle.rules.proofs.ConditionLaws.{separates_by, touches_is}
use Rattle.rules.proofs.Rules.touched.Goals as goal
use Rattle.rules.proofs.Rules.touched.Goals.{else-separate-2-via-then-separate-2+else-member-2, else-separate-2-via-else-separate-2}

pub returns-then-separate : goal.returns-then-separate
unfolding condition_at
returns-then-separate c = (sym (separates_by _ _ _ c.if-separate.true), rw (touches_is, sym c.member.ensures, c.if-member.true))

pub returns-then-member : goal.returns-then-member
unfolding condition_at
returns-then-member c = (c.condition.ensures, rw (touches_is, sym c.member.ensures, c.if-member.true))

pub returns-then-member-2 : goal.returns-then-member-2
unfolding condition_at
returns-then-member-2 c =
    (c.condition-then-member-2.ensures, rw (touches_is, sym c.member.ensures, c.if-member.false, eq-eqb _ 0x12 c.if-separate-2.true) (sym (c.member-then-separate-2.ensures ∙ ap (has _) (mod-eq_of_lt (omega arith))) ∙ c.if-member-2.true))

pub returns : goal.returns
unfolding condition_at
returns c =
    elim c.else-separate-2.branch [
      | else-separate-2-via-then-separate-2+else-member-2 w ↦ rw (touches_is, sym c.member.ensures, c.if-member.false, eq-eqb _ 0x12 w.if-separate-2.true) (sym (w.member-then-separate-2.ensures ∙ ap (has _) (mod-eq_of_lt (omega arith))) ∙ w.if-member-2.false)
      | else-separate-2-via-else-separate-2 w ↦ rw (touches_is, sym c.member.ensures, c.if-member.false, ne_eqb _ 0x12 w.if-separate-2.false)
    ]
