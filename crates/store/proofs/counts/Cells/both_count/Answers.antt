-- `both_count` asks the sets, then the byte.
use Prim.Native.Nat.{ℕ, max}
use mathlib.Core.Path.{sym, ap, ◌∙◌}
use mathlib.Core.Bool.{true, false}
use Rattle.store.proofs.Counting.{least_max}
use Rattle.store.proofs.Turning.{both_some, both_none, two_ways}
use Rattle.store.proofs.counts.Cells.both_count.Goals as goal

pub returns-then-not-member : goal.returns-then-not-member
returns-then-not-member c = sym (both_none _ _ (two_ways c.args.self _ false c.requires (sym c.member.ensures ∙ c.if-not-member.true)))

pub returns : goal.returns
returns c =
    c.max.ensures ∙ ap (λ (n : ℕ). max n 1) c.byte.ensures
    ∙ sym (both_some _ _ (two_ways c.args.self _ true c.requires (sym c.member.ensures ∙ c.if-not-member.false)) ∙ sym (least_max _))
