-- `read_count` asks the sets, then the byte.
use Prim.Native.Nat.{ℕ, ◌%◌, ◌<◌}
use native.Mathlib.Nat.{mod-eq_of_lt}
use mathlib.Core.Path.{◌≡◌, sym, ap, ◌∙◌}
use mathlib.Core.Bool.{Bool, true, false}
use Rattle.sets.specs.Sets.{has}
use Rattle.store.proofs.Counting.{least_zero}
use Rattle.store.proofs.Turning.{read_both, read_alone, read_more, read_none}
use Rattle.store.proofs.counts.Cells.read_count.Goals as goal
use Rattle.store.proofs.counts.Cells.read_count.Goals.{else-n-eq0-via-then-n-eq0+else-not-member-2, else-n-eq0-via-else-n-eq0}

-- what the test of a member says
held : (x i : ℕ) (r b : Bool) → i < 64 → r ≡ has x (i % 64) → r ≡ b → has x i ≡ b
held x i r b h e f = ap (has x) (sym (mod-eq_of_lt h)) ∙ sym e ∙ f

pub returns-then-not-member : goal.returns-then-not-member
returns-then-not-member c = sym (read_none _ _ (held _ _ _ false c.requires c.member.ensures c.if-not-member.true))

pub returns-then-not-member-2 : goal.returns-then-not-member-2
returns-then-not-member-2 c =
    let mapped = held c.args.self.maps _ _ true c.requires c.member.ensures c.if-not-member.false in
    let alone = held c.args.self.ways _ _ false c.requires c.member-then-n-eq0.ensures c.if-not-member-2.true in
    sym (read_alone _ _ mapped alone ∙ least_zero _ (sym c.byte-n.ensures ∙ c.if-n-eq0.true))

pub returns : goal.returns
returns c =
    let mapped = held c.args.self.maps _ _ true c.requires c.member.ensures c.if-not-member.false in
    c.byte-n.ensures
    ∙ sym
    (elim c.else-n-eq0.branch [
      | else-n-eq0-via-then-n-eq0+else-not-member-2 w ↦ read_both _ _ mapped (held c.args.self.ways _ _ true c.requires w.member-then-n-eq0.ensures w.if-not-member-2.false)
      | else-n-eq0-via-else-n-eq0 w ↦ read_more _ _ mapped (λ z. w.if-n-eq0.false (c.byte-n.ensures ∙ z))
    ])
