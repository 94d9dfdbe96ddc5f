-- A round's loop fills the rows two by two.
use Prim.Native.Nat.{ℕ, ◌+◌, ◌*◌, ◌/◌, ◌%◌, ◌<◌}
use native.Mathlib.Omega.{arith}
use native.Mathlib.Decide.{ℕ_discrete}
use mathlib.Core.Path.{◌≡◌, ◌∙◌}
use mathlib.Core.Bool.{true, false}
use mathlib.Core.List.{List}
use lib.ListN.{length, get_or, set, length-set}
use lib.Seq.{get_or-set_same, get_or-set_other}
use Rattle.flow.proofs.TableLaws.{table_at, table_length, is_table}
use Rattle.transpose.specs.Rounds.{even, word, shuffled}

-- row j of a round
abbrev pub row_at : ℕ → List ℕ → ℕ → ℕ
row_at d rows j = word d (even j) (get_or rows (j / 2) 0) (get_or rows (j / 2 + 32) 0)

-- the first n rows are there
pub record Filled (d : ℕ) (rows : List ℕ) (n : ℕ) (out : List ℕ) : Type 0 where
  pub size : length out ≡ 64
  pub there : (j : ℕ) → j < n → get_or out j 0 ≡ row_at d rows j

module _ (d : ℕ) (rows : List ℕ) where
  pub shuffled_size : length (shuffled d rows) ≡ 64
  unfolding shuffled
  shuffled_size = table_length 64 (row_at d rows)

  pub filled_none : (out : List ℕ) → length out ≡ 64 → Filled d rows 0 out
  filled_none out e = record { size = e; there = λ j h. absurd (omega arith) }

  pub filled_more : (i : ℕ) (out : List ℕ) (x y : ℕ) → i < 32 → Filled d rows (2 * i) out
      → x ≡ word d true (get_or rows i 0) (get_or rows (i + 32) 0) → y ≡ word d false (get_or rows i 0) (get_or rows (i + 32) 0)
      → Filled d rows (2 * (i + 1)) (set (set out (2 * i) x) (2 * i + 1) y)
  unfolding even
  filled_more i out x y h s p q =
      record { size = simp length-set s.size; there = λ j l. go j (ℕ_discrete j (2 * i + 1)) (ℕ_discrete j (2 * i)) l }
    where
      go : (j : ℕ) → Dec (j ≡ 2 * i + 1) → Dec (j ≡ 2 * i) → j < 2 * (i + 1)
          → get_or (set (set out (2 * i) x) (2 * i + 1) y) j 0 ≡ row_at d rows j
      go j (yes e) b l =
          let one : (2 * i + 1) % 2 ≡ 1 = omega arith in
          let half : (2 * i + 1) / 2 ≡ i = omega arith in
          rw (e, get_or-set_same (set out (2 * i) x) (2 * i + 1) y 0 (simp length-set (omega (arith, s.size))), one, half) q
      go j (no a) (yes e) l =
          let none : 2 * i % 2 ≡ 0 = omega arith in
          let half : 2 * i / 2 ≡ i = omega arith in
          get_or-set_other (set out (2 * i) x) (2 * i + 1) j y 0 a
          ∙ rw (e, get_or-set_same out (2 * i) x 0 (omega (arith, s.size)), none, half) p
      go j (no a) (no b) l =
          get_or-set_other (set out (2 * i) x) (2 * i + 1) j y 0 a ∙ get_or-set_other out (2 * i) j x 0 b ∙ s.there j (omega arith)

  pub shuffled_at : (j : ℕ) → j < 64 → get_or (shuffled d rows) j 0 ≡ row_at d rows j
  unfolding shuffled
  shuffled_at j h = table_at 64 (row_at d rows) j 0 h

  pub filled_all : (out : List ℕ) → Filled d rows 64 out → out ≡ shuffled d rows
  unfolding shuffled
  filled_all out s = is_table 64 (row_at d rows) out s.size s.there
