-- The rows of both halves, in pairs and numbered.
use Rattle.std.proofs.Common.{◌≡◌, ℕ, ◌+◌, ◌<◌, List, length, get_or, take, drop, ap, sym, ◌∙◌, zero-add, arith}
use Rattle.std.specs.List.{zip, enumerate_from}
use Rattle.std.proofs.lemmas.List.{length-take, length-drop, get_or-take, get_or-drop, get_or_default}
use Rattle.std.proofs.lemmas.List.FromFn.{length-enumerate_from, get_or-enumerate_from}
use Rattle.std.proofs.lemmas.Slice.Zip.{length-zip, get_or-zip}

module _ (rows : List ℕ) (size : length rows ≡ 64) where
  abbrev pairs : List (ℕ × ℕ)
  pairs = zip (take 32 rows) (drop 32 rows)

  pub pairs_long : length (enumerate_from 0 pairs) ≡ 32
  pairs_long = omega (arith, length-enumerate_from 0 pairs, length-zip (take 32 rows) (drop 32 rows), length-take 32 rows, length-drop 32 rows, size)

  -- pair number k is of the rows k and k + 32
  pub pair_at : (k i lo hi : ℕ) → k < length (enumerate_from 0 pairs) → (i, (lo, hi)) ≡ get_or (enumerate_from 0 pairs) k (i, (lo, hi))
      → (i ≡ k) × (i < 32) × (lo ≡ get_or rows i 0) × (hi ≡ get_or rows (i + 32) 0)
  pair_at k i lo hi h e =
      let below : k < 32 = omega (arith, pairs_long, h) in
      let first : k < length (take 32 rows) = omega (arith, length-take 32 rows, size) in
      let second : k < length (drop 32 rows) = omega (arith, length-drop 32 rows, size) in
      let both = length-zip (take 32 rows) (drop 32 rows) in
      let item : ℕ × (ℕ × ℕ) = (i, (lo, hi)) in
      let here : ℕ × (ℕ × ℕ) = (0 + k, get_or pairs k (lo, hi)) in
      let at : item ≡ here = e ∙ get_or-enumerate_from 0 pairs k item (omega (arith, both)) in
      let given : ℕ × ℕ = (lo, hi) in
      let found : ℕ × ℕ = (get_or (take 32 rows) k lo, get_or (drop 32 rows) k hi) in
      let pair : given ≡ found = ap (λ (p : ℕ × (ℕ × ℕ)). p.1) at ∙ get_or-zip (take 32 rows) (drop 32 rows) k given first second in
      let number : i ≡ k = ap (λ (p : ℕ × (ℕ × ℕ)). p.0) at ∙ zero-add k in
      let low : lo ≡ get_or rows k 0 = ap (λ (p : ℕ × ℕ). p.0) pair ∙ get_or-take 32 rows k lo below ∙ get_or_default rows k lo 0 (omega (arith, size)) in
      let high : hi ≡ get_or rows (32 + k) 0 = ap (λ (p : ℕ × ℕ). p.1) pair ∙ get_or-drop 32 rows k hi ∙ get_or_default rows (32 + k) hi 0 (omega (arith, size)) in
      let place : i + 32 ≡ 32 + k = omega arith in
      (number, omega arith, low ∙ ap (λ (n : ℕ). get_or rows n 0) (sym number), high ∙ ap (λ (n : ℕ). get_or rows n 0) (sym place))
