-- The bytes of a word: one made another leaves the rest.
use Prim.Native.Nat.{ℕ, suc, ◌+◌, ◌-◌, ◌*◌, ◌/◌, ◌%◌, ◌^◌, ◌≤◌, ◌<◌}
use native.Mathlib.Omega.{arith}
use native.Mathlib.Decide.{dec_lt}
use native.Mathlib.Nat.{add-mul, mod-lt, mod-eq_of_lt}
use mathlib.Core.Path.{◌≡◌, sym, ap, subst, ◌∙◌}
use lib.Arith.{digits_lt}
use lib.Pow.{pow_pos, pow-add, shr_lt, split, high, low, shr-shr, field, mod-mod-pow}
use Rattle.store.specs.Maps.{byte_of, put_byte}

module _ (w j n : ℕ) (l : n < 256) where
  abbrev e : ℕ
  e = 8 * j

  abbrev q : ℕ
  q = w / 2 ^ e

  low_part : w % 2 ^ e < 2 ^ e
  low_part = mod-lt w (pow_pos e)

  pub put_high : put_byte w j n / 2 ^ e ≡ q - byte_of w j + n
  unfolding put_byte
  put_high = high (q - byte_of w j + n) e low_part

  put_low : put_byte w j n % 2 ^ e ≡ w % 2 ^ e
  unfolding put_byte
  put_low = low (q - byte_of w j + n) e low_part

  pub byte_put : byte_of (put_byte w j n) j ≡ n
  unfolding byte_of
  byte_put = ap (λ (z : ℕ). z % 256) put_high ∙ omega arith

  -- a byte above it, and one below
  above_put : (k : ℕ) → byte_of (put_byte w j n) (suc (k + j)) ≡ byte_of w (suc (k + j))
  unfolding byte_of
  above_put k = ap (λ (z : ℕ). z % 256) (ap (λ (z : ℕ). put_byte w j n / 2 ^ z) s ∙ sym (shr-shr (put_byte w j n) e (8 + 8 * k)) ∙ ap (λ (z : ℕ). z / 2 ^ (8 + 8 * k)) put_high ∙ sym (shr-shr (q - byte_of w j + n) 8 (8 * k)) ∙ ap (λ (z : ℕ). z / 2 ^ (8 * k)) h ∙ shr-shr q 8 (8 * k) ∙ shr-shr w e (8 + 8 * k) ∙ ap (λ (z : ℕ). w / 2 ^ z) (sym s))
    where
      s : 8 * suc (k + j) ≡ e + (8 + 8 * k)
      s = omega arith

      h : (q - byte_of w j + n) / 2 ^ 8 ≡ q / 2 ^ 8
      h = omega arith

  below_put : (k i : ℕ) → j ≡ suc (k + i) → byte_of (put_byte w j n) i ≡ byte_of w i
  unfolding byte_of
  below_put k i d =
      sym (field (put_byte w j n) 8 (8 * i)) ∙ ap (λ (z : ℕ). z / 2 ^ (8 * i)) same ∙ field w 8 (8 * i)
    where
      s : e ≡ 8 * k + (8 + 8 * i)
      s = omega arith

      same : put_byte w j n % 2 ^ (8 + 8 * i) ≡ w % 2 ^ (8 + 8 * i)
      same =
          sym (mod-mod-pow (put_byte w j n) (8 * k) (8 + 8 * i)) ∙ ap (λ (z : ℕ). put_byte w j n % 2 ^ z % 2 ^ (8 + 8 * i)) (sym s)
          ∙ ap (λ (z : ℕ). z % 2 ^ (8 + 8 * i)) put_low ∙ ap (λ (z : ℕ). w % 2 ^ z % 2 ^ (8 + 8 * i)) s ∙ mod-mod-pow w (8 * k) (8 + 8 * i)

  pub byte_other : (i : ℕ) → (i ≡ j → ⊥) → byte_of (put_byte w j n) i ≡ byte_of w i
  byte_other i d = go (dec_lt i j)
    where
      go : Dec (i < j) → byte_of (put_byte w j n) i ≡ byte_of w i
      go (yes h) = below_put (j - suc i) i (omega arith)
      go (no h) = let s : suc ((i - suc j) + j) ≡ i = omega arith in ap (byte_of (put_byte w j n)) (sym s) ∙ above_put (i - suc j) ∙ ap (byte_of w) s

-- ---- a byte taken out, and another put in its place
module _ (w j : ℕ) where
  abbrev t : ℕ
  t = 2 ^ (8 * j)

  -- the bytes above it
  abbrev m : ℕ
  m = w / t - byte_of w j

  byte_part : byte_of w j ≤ w / t
  unfolding byte_of
  byte_part = omega arith

  -- the word as the bytes above, the byte and those below
  apart : w ≡ m * t + byte_of w j * t + w % t
  apart =
      let d : w / t ≡ m + byte_of w j = omega (arith, byte_part) in
      sym (split w (8 * j)) ∙ ap (λ (z : ℕ). z * t + w % t) d ∙ ap (λ (z : ℕ). z + w % t) (add-mul m (byte_of w j) t)

  put_is : (n : ℕ) → put_byte w j n ≡ m * t + n * t + w % t
  unfolding put_byte
  put_is n = ap (λ (z : ℕ). z + w % t) (add-mul m n t)

  pub byte_below : byte_of w j * t ≤ w
  byte_below = omega (arith, apart)

  pub put_from : (n : ℕ) → w - byte_of w j * t + n * t ≡ put_byte w j n
  put_from n = omega (arith, apart, put_is n)

  -- what it is made fits the word
  pub put_lt : (n : ℕ) → n < 256 → j < 8 → w < 2 ^ 64 → put_byte w j n < 2 ^ 64
  unfolding put_byte byte_of
  put_lt n l h b =
      let k : ℕ = 8 * (7 - j) in
      let s : (8 + k) + 8 * j ≡ 64 = omega arith in
      let p : 2 ^ (8 + k) ≡ 2 ^ 8 * 2 ^ k = pow-add 2 8 k in
      let q : w / t < 2 ^ (8 + k) = shr_lt (8 + k) (8 * j) (subst (λ (z : ℕ). w < 2 ^ z) (sym s) b) in
      let r : w / t - w / t % 256 + n < 2 ^ (8 + k) = omega arith in
      let f : 2 ^ (8 + k) * t ≡ 2 ^ 64 = sym (pow-add 2 (8 + k) (8 * j)) ∙ ap (λ (z : ℕ). 2 ^ z) s in
      subst (λ (z : ℕ). (w / t - w / t % 256 + n) * t + w % t < z) f (digits_lt r (mod-lt w (pow_pos (8 * j))))

  -- as the machine's shifts have it
  pub shifted_byte : w < 2 ^ 64 → byte_of w j * t % 18446744073709551616 ≡ byte_of w j * t
  shifted_byte h = mod-eq_of_lt (let l : byte_of w j * t < 2 ^ 64 = omega (arith, byte_below) in l)

  pub shifted_new : (n : ℕ) → n < 256 → j < 8 → w < 2 ^ 64 → n * t % 18446744073709551616 ≡ n * t
  shifted_new n l h b = mod-eq_of_lt (let k : n * t < 2 ^ 64 = omega (arith, put_is n, put_lt n l h b) in k)
