-- What the bytes of a code tell.
use Rattle.std.proofs.Common.{◌≡◌, ℕ, List, get_or, refl, rules, tests}
use Rattle.std.specs.Int.{to_le_bytes, w32}
use Rattle.flow.specs.Verdicts.{refused, rule, allow, inhibit, modify}
use Rattle.decision.specs.Logs.{word_from, word_by}

pub told_by : (bytes : List ℕ) (n : ℕ) → bytes ≡ to_le_bytes w32 n → word_from n ≡ word_by (get_or bytes 0 0) (get_or bytes 1 0) (get_or bytes 2 0) (get_or bytes 3 0)
unfolding word_from
told_by bytes n e = rw e refl

module _ (w first second last : ℕ) where
  pub told_allow : w ≡ 0 → word_by w first second last ≡ allow last
  unfolding word_by
  told_allow e = rw e refl

  pub told_inhibit : w ≡ 1 → word_by w first second last ≡ inhibit first
  unfolding word_by
  told_inhibit e = rw e refl

  pub told_modify : w ≡ 2 → word_by w first second last ≡ modify first second last
  unfolding word_by
  told_modify e = rw e refl

  pub told_rule : w ≡ 3 → word_by w first second last ≡ rule first
  unfolding word_by
  told_rule e = rw e refl

  pub told_refused : (w ≡ 0 → ⊥) → (w ≡ 1 → ⊥) → (w ≡ 2 → ⊥) → (w ≡ 3 → ⊥) → word_by w first second last ≡ refused first
  unfolding word_by
  told_refused a b c d = search (tests, rules)
