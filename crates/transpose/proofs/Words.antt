-- Members of shifted and masked words.
use Prim.Native.Nat.{ℕ, ◌+◌, ◌-◌, ◌*◌, ◌/◌, ◌%◌, ◌^◌, ◌≤◌, ◌<◌}
use native.Mathlib.Omega.{arith}
use mathlib.Core.Path.{◌≡◌, refl, sym, ap, ap₂, ◌∙◌}
use mathlib.Core.Bool.{Bool, true, false, not, ◌&&◌, ◌||◌}
use lib.Dec.{eqb, ltb}
use lib.Pow.{shr-shr, shl-shr, field, mod-mod-pow}
use borrow.Author.Tests.{ltb-false, not-false}
use Rattle.sets.specs.Sets.{has, those, ◌∪◌, ◌∩◌}
use Rattle.sets.proofs.Members.{those_has, those_lt, union_has, inter_has, less_has, union_lt, inter_lt, set_ext}
use Rattle.flow.proofs.Bools.{or_false_l, or_false_r, by, chosen_l, chosen_r}
use Rattle.flow.proofs.TableLaws.{none_of}
use Rattle.transpose.specs.Rounds.{upper, unfit, word, blended}

-- ---- shifts
shr_has : (x d b : ℕ) → has (x / 2 ^ d) b ≡ has x (d + b)
unfolding has
shr_has x d b = ap (λ (n : ℕ). eqb (n % 2) 1) (shr-shr x d b)

shl_digit : (x d e j : ℕ) → has (x * 2 ^ d % 2 ^ (j + 1 + (d + e))) (d + e) ≡ has x e
unfolding has
shl_digit x d e j =
    ap (λ (n : ℕ). eqb n 1)
    (ap (λ (n : ℕ). n % 2) (field (x * 2 ^ d) (j + 1) (d + e))
    ∙ mod-mod-pow (x * 2 ^ d / 2 ^ (d + e)) j 1
    ∙ ap (λ (n : ℕ). n % 2) (sym (shr-shr (x * 2 ^ d) d e) ∙ ap (λ (n : ℕ). n / 2 ^ e) (shl-shr x d)))

shl_has : (x d b : ℕ) → d ≤ b → b < 64 → has (x * 2 ^ d % 2 ^ 64) b ≡ has x (b - d)
shl_has x d b h k =
    let w : 64 ≡ 63 - b + 1 + (d + (b - d)) = omega arith in
    let e : b ≡ d + (b - d) = omega arith in
    ap₂ (λ (w i : ℕ). has (x * 2 ^ d % 2 ^ w) i) w e ∙ shl_digit x d (b - d) (63 - b)

-- ---- a word put together from two by a mask
choice : (s a b : Bool) → ((a && s) || (b && not s)) ≡ elim s [ true ↦ a | false ↦ b ]
choice true true b = refl
choice true false true = refl
choice true false false = refl
choice false true true = refl
choice false true false = refl
choice false false true = refl
choice false false false = refl

pub blend_is : (m x y : ℕ) → m < 2 ^ 64 → x < 2 ^ 64 → y < 2 ^ 64 → (x ∩ m) ∪ (y ∩ (2 ^ 64 - 1 - m)) ≡ blended m x y
unfolding blended
blend_is m x y hm hx hy =
    set_ext ((x ∩ m) ∪ (y ∩ (2 ^ 64 - 1 - m))) _ (union_lt (x ∩ m) (y ∩ (2 ^ 64 - 1 - m)) (inter_lt x m hx) (inter_lt y (2 ^ 64 - 1 - m) hy)) (those_lt _)
    (λ b h.
    union_has (x ∩ m) (y ∩ (2 ^ 64 - 1 - m)) b ∙ ap₂ ◌||◌ (inter_has x m b) (less_has y m b hm h) ∙ choice (has m b) (has x b) (has y b)
    ∙ sym (those_has _ b h))

-- columns without bit d from x, those with it from y
module _ (d m n : ℕ) (fit : unfit d m n ≡ false) (x y : ℕ) (f : ℕ → Bool)
    (above : (b : ℕ) → b < 64 → d ≤ b → upper d b ≡ true → has y b ≡ f b)
    (under : (b : ℕ) → upper d b ≡ false → has x b ≡ f b) where
  mixed : (b : ℕ) → b < 64 → ◌≡◌ {A = Bool} (elim (has m b) [ true ↦ has x b | false ↦ has y b ]) (f b)
  unfolding unfit
  mixed b h = by (upper d b) with_bit without_bit
    where
      with_bit : upper d b ≡ true → ◌≡◌ {A = Bool} (elim (has m b) [ true ↦ has x b | false ↦ has y b ]) (f b)
      with_bit u =
          let q = sym (chosen_l (upper d b) (has m b || not (has n b) || ltb b d) (not (has m b) || has n b) u) ∙ none_of 64 _ b fit h in
          let p = or_false_l (has m b || not (has n b)) (ltb b d) q in
          chosen_r (has m b) (has x b) (has y b) (or_false_l (has m b) (not (has n b)) p)
          ∙ above b h (ltb-false b d (or_false_r (has m b || not (has n b)) (ltb b d) q)) u

      without_bit : upper d b ≡ false → ◌≡◌ {A = Bool} (elim (has m b) [ true ↦ has x b | false ↦ has y b ]) (f b)
      without_bit u =
          let q = sym (chosen_r (upper d b) (has m b || not (has n b) || ltb b d) (not (has m b) || has n b) u) ∙ none_of 64 _ b fit h in
          chosen_l (has m b) (has x b) (has y b) (not-false (has m b) (or_false_l (not (has m b)) (has n b) q)) ∙ under b u

  joined : blended m x y ≡ those f
  unfolding blended
  joined = set_ext _ (those f) (those_lt _) (those_lt f) (λ b h. those_has _ b h ∙ mixed b h ∙ sym (those_has f b h))

module _ (d m n : ℕ) (fit : unfit d m n ≡ false) (lo hi : ℕ) where
  pub even_word : blended m lo (hi * 2 ^ d % 2 ^ 64) ≡ word d true lo hi
  unfolding word
  even_word =
      joined d m n fit lo (hi * 2 ^ d % 2 ^ 64) _
      (λ b h l u. shl_has hi d b l h ∙ sym (chosen_l (upper d b) (has hi (b - d)) (has lo b) u))
      (λ b u. sym (chosen_r (upper d b) (has hi (b - d)) (has lo b) u))

  pub odd_word : blended m (lo / 2 ^ d) hi ≡ word d false lo hi
  unfolding word
  odd_word =
      joined d m n fit (lo / 2 ^ d) hi _
      (λ b h l u. sym (chosen_l (upper d b) (has hi b) (has lo (d + b)) u))
      (λ b u. shr_has lo d b ∙ sym (chosen_r (upper d b) (has hi b) (has lo (d + b)) u))
