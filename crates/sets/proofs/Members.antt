-- Laws of membership.
use Prim.Native.Nat.{ℕ, zero, suc, ◌+◌, ◌-◌, ◌*◌, ◌/◌, ◌%◌, ◌^◌, ◌≤◌, ◌<◌, zero-le, suc-le-suc, max, min}
use mathlib.Core.Path.{◌≡◌, refl, sym, ap, ap₂, ◌∙◌}
use mathlib.Core.Logic.{◌⊎◌, inl, inr}
use mathlib.Core.Bool.{Bool, true, false, not, ◌&&◌, ◌||◌, true≢false, and_comm}
use native.Mathlib.Omega.{arith}
use native.Mathlib.Nat.{not-suc-le-zero, le_of_suc-le-suc, div-eq_of_lt, lt_of_lt_of_le, mod-eq_of_lt}
use native.Mathlib.Decide.{ℕ_discrete, dec_le}
use lib.Dec.{eqb, eqb-zero-suc, eqb-suc-zero, eqb-suc-suc}
use borrow.Author.Tests.{eq-eqb, ne_eqb}
use lib.Pow.{shr-shr, pow-lt, pow_mono}
use lib.Bits.{bit_or, bit_and, or_step, and_step, or_lt, and_le_l}
use lib.Count.{ones, ones_step, ones-le, count_trailing_zeros, under}
use Rattle.sets.specs.Sets.{has, bit, those_from, those, ◌∪◌, ◌∩◌, only, without, count, lowest}

-- ---- the lowest digit and the rest

has_zero : (x : ℕ) → has x 0 ≡ eqb (x % 2) 1
unfolding has
has_zero x = let e : x / 1 ≡ x = omega arith in rw e refl

has_suc : (x i : ℕ) → has x (suc i) ≡ has (x / 2) i
unfolding has
has_suc x i = let e : x / 2 / 2 ^ i ≡ x / 2 ^ suc i = shr-shr x 1 i ∙ ap (λ (k : ℕ). x / 2 ^ k) (omega arith) in rw e refl

low_digit : (x : ℕ) → x % 2 ≡ bit (has x 0)
unfolding bit
low_digit x = rw (has_zero x) (go (x % 2) (omega arith))
  where
    go : (n : ℕ) → n < 2 → n ≡ bit (eqb n 1)
    go zero h = refl
    go (suc zero) h = refl
    go (suc (suc n)) h = omega arith

-- x is the digit b and the rest m
module _ {x : ℕ} (b : Bool) (m : ℕ) (e : x ≡ bit b + 2 * m) where
  pub made_zero : has x 0 ≡ b
  unfolding bit
  made_zero = has_zero x ∙ go b e
    where
      go : (b : Bool) → x ≡ bit b + 2 * m → eqb (x % 2) 1 ≡ b
      go true e = let o : x % 2 ≡ 1 = omega arith in rw o refl
      go false e = let o : x % 2 ≡ 0 = omega arith in rw o refl

  pub made_suc : (i : ℕ) → has x (suc i) ≡ has m i
  unfolding bit
  made_suc i = has_suc x i ∙ ap (λ (n : ℕ). has n i) (go b e)
    where
      go : (b : Bool) → x ≡ bit b + 2 * m → x / 2 ≡ m
      go true e = omega arith
      go false e = omega arith

-- ---- those of which f holds

those_from_has : (n k : ℕ) (f : ℕ → Bool) (i : ℕ) → i < n → has (those_from n k f) i ≡ f (k + i)
unfolding those_from
those_from_has zero k f i h = absurd (not-suc-le-zero h)
those_from_has (suc n) k f zero h = made_zero (f k) (those_from n (suc k) f) refl ∙ ap f (omega arith)
those_from_has (suc n) k f (suc i) h =
    made_suc (f k) (those_from n (suc k) f) refl i ∙ those_from_has n (suc k) f i (le_of_suc-le-suc h) ∙ ap f (omega arith)

pub those_has : (f : ℕ → Bool) (i : ℕ) → i < 64 → has (those f) i ≡ f i
unfolding those
those_has f i h = those_from_has 64 0 f i h ∙ ap f (omega arith)

those_from_lt : (n k : ℕ) (f : ℕ → Bool) → those_from n k f < 2 ^ n
unfolding those_from bit
those_from_lt zero k f = omega arith
those_from_lt (suc n) k f = go (f k) (those_from_lt n (suc k) f)
  where
    go : (b : Bool) → those_from n (suc k) f < 2 ^ n → bit b + 2 * those_from n (suc k) f < 2 ^ suc n
    go true h = omega arith
    go false h = omega arith

pub those_lt : (f : ℕ → Bool) → those f < 2 ^ 64
unfolding those
those_lt f = those_from_lt 64 0 f

pub without_has : (x i j : ℕ) → j < 64 → has (without x i) j ≡ (has x j && not (eqb j i))
unfolding without
without_has x i j h = those_has (λ j. has x j && not (eqb j i)) j h

pub without_lt : (x i : ℕ) → without x i < 2 ^ 64
unfolding without
without_lt x i = those_lt (λ j. has x j && not (eqb j i))

-- ---- the empty set, and the set of one

pub none_has : (i : ℕ) → has 0 i ≡ false
unfolding bit
none_has zero = made_zero false 0 refl
none_has (suc i) = made_suc false 0 refl i ∙ none_has i

double : (j : ℕ) → only (suc j) ≡ bit false + 2 * only j
unfolding only bit
double j = let e : 2 ^ suc j ≡ 0 + 2 * 2 ^ j = omega arith in e

pub only_has : (j i : ℕ) → has (only j) i ≡ eqb j i
unfolding only bit
only_has zero zero = made_zero true 0 refl
only_has zero (suc i) = made_suc true 0 refl i ∙ none_has i ∙ sym (eqb-zero-suc i)
only_has (suc j) zero = made_zero false (only j) (double j) ∙ sym (eqb-suc-zero j)
only_has (suc j) (suc i) = made_suc false (only j) (double j) i ∙ only_has j i ∙ sym (eqb-suc-suc j i)

pub only_lt : (i : ℕ) → i < 64 → only i < 2 ^ 64
unfolding only
only_lt i h = pow-lt h

-- ---- two sets joined digit by digit

module _ (op low : ℕ → ℕ → ℕ) (f : Bool → Bool → Bool)
    (step : (x y : ℕ) → op x y ≡ op (x / 2) (y / 2) * 2 + low (x % 2) (y % 2))
    (table : (a b : Bool) → low (bit a) (bit b) ≡ bit (f a b)) where
  joined : (x y : ℕ) → op x y ≡ bit (f (has x 0) (has y 0)) + 2 * op (x / 2) (y / 2)
  joined x y =
      let e : low (x % 2) (y % 2) ≡ bit (f (has x 0) (has y 0)) = ap₂ low (low_digit x) (low_digit y) ∙ table (has x 0) (has y 0) in
      omega (arith, step x y)

  joined_has : (x y i : ℕ) → has (op x y) i ≡ f (has x i) (has y i)
  joined_has x y zero = made_zero (f (has x 0) (has y 0)) (op (x / 2) (y / 2)) (joined x y)
  joined_has x y (suc i) =
      made_suc (f (has x 0) (has y 0)) (op (x / 2) (y / 2)) (joined x y) i
      ∙ rw (has_suc x i, has_suc y i) (joined_has (x / 2) (y / 2) i)

or_table : (a b : Bool) → max (bit a) (bit b) ≡ bit (a || b)
unfolding bit
or_table true true = refl
or_table true false = refl
or_table false true = refl
or_table false false = refl

and_table : (a b : Bool) → min (bit a) (bit b) ≡ bit (a && b)
unfolding bit
and_table true true = refl
and_table true false = refl
and_table false true = refl
and_table false false = refl

pub union_has : (x y i : ℕ) → has (x ∪ y) i ≡ (has x i || has y i)
unfolding ◌∪◌
union_has = joined_has bit_or max ◌||◌ or_step or_table

pub inter_has : (x y i : ℕ) → has (x ∩ y) i ≡ (has x i && has y i)
unfolding ◌∩◌
inter_has = joined_has bit_and min ◌&&◌ and_step and_table

pub union_lt : (x y : ℕ) → x < 2 ^ 64 → y < 2 ^ 64 → (x ∪ y) < 2 ^ 64
unfolding ◌∪◌
union_lt x y h k = or_lt 64 x y h k

pub inter_le : (x y : ℕ) → (x ∩ y) ≤ x
unfolding ◌∩◌
inter_le x y = and_le_l x y

pub inter_lt : (x y : ℕ) → x < 2 ^ 64 → (x ∩ y) < 2 ^ 64
inter_lt x y h = omega (arith, inter_le x y)

-- ---- the members of a set below 2 ^ n are below n

past : (n x i : ℕ) → x < 2 ^ n → n ≤ i → has x i ≡ false
unfolding has
past n x i h k = ap (λ (m : ℕ). eqb (m % 2) 1) (div-eq_of_lt (lt_of_lt_of_le h (pow_mono k)))

pub past_has : (x i : ℕ) → x < 2 ^ 64 → 64 ≤ i → has x i ≡ false
past_has = past 64

pub has_below : (n x i : ℕ) → x < 2 ^ n → has x i ≡ true → i < n
has_below n x i h m = go (dec_le n i)
  where
    go : Dec (n ≤ i) → i < n
    go (yes k) = absurd (true≢false (sym m ∙ past n x i h k))
    go (no d) = omega arith

pub has_lt : (x i : ℕ) → x < 2 ^ 64 → has x i ≡ true → i < 64
has_lt = has_below 64

-- where the rest of a number by 64 is no member, the number is none
pub mod_out : (x i : ℕ) → x < 2 ^ 64 → has x (i % 64) ≡ false → has x i ≡ false
mod_out x i h e = go (dec_le 64 i)
  where
    go : Dec (64 ≤ i) → has x i ≡ false
    go (yes k) = past_has x i h k
    go (no d) = ap (has x) (sym (mod-eq_of_lt (omega arith))) ∙ e

-- ---- two sets with the same members are the same number

pub same_members : (n x y : ℕ) → x < 2 ^ n → y < 2 ^ n → ((i : ℕ) → i < n → has x i ≡ has y i) → x ≡ y
same_members zero x y h k e = omega arith
same_members (suc n) x y h k e =
    let a : x % 2 ≡ y % 2 = low_digit x ∙ ap bit (e 0 (omega arith)) ∙ sym (low_digit y) in
    let b : x / 2 ≡ y / 2 = same_members n (x / 2) (y / 2) (omega arith) (omega arith) (λ i l. sym (has_suc x i) ∙ e (suc i) (omega arith) ∙ has_suc y i) in
    omega arith

pub set_ext : (x y : ℕ) → x < 2 ^ 64 → y < 2 ^ 64 → ((i : ℕ) → i < 64 → has x i ≡ has y i) → x ≡ y
set_ext = same_members 64

-- ---- the lowest member

under_has : (n x t : ℕ) → x % 2 ≡ n → (n ≡ 0 → has (x / 2) t ≡ true) → has x (under n t) ≡ true
under_has zero x t e h = has_suc x t ∙ h refl
under_has (suc n) x t e h = has_zero x ∙ (let o : x % 2 ≡ 1 = omega arith in rw o refl)

-- of the k lowest digits
trailing_has : (k x : ℕ) → x < 2 ^ k → 0 < x → has x (count_trailing_zeros k x) ≡ true
unfolding count_trailing_zeros
trailing_has zero x h p = absurd (omega arith)
trailing_has (suc k) x h p =
    under_has (x % 2) x (count_trailing_zeros k (x / 2)) refl (λ e. trailing_has k (x / 2) (omega arith) (omega arith))

trailing_least : (k x i : ℕ) → has x i ≡ true → count_trailing_zeros k x ≤ i
unfolding count_trailing_zeros bit
trailing_least zero x i h = zero-le
trailing_least (suc k) x zero h = rw (low_digit x, h) zero-le
trailing_least (suc k) x (suc i) h = go (x % 2) (trailing_least k (x / 2) i (sym (has_suc x i) ∙ h))
  where
    go : (n : ℕ) {t : ℕ} → t ≤ i → under n t ≤ suc i
    go zero l = suc-le-suc l
    go (suc n) l = zero-le

pub lowest_has : (x : ℕ) → x < 2 ^ 64 → 0 < x → has x (lowest x) ≡ true
unfolding lowest
lowest_has x h p = trailing_has 64 x h p

pub lowest_least : (x i : ℕ) → has x i ≡ true → lowest x ≤ i
unfolding lowest
lowest_least x i h = trailing_least 64 x i h

pub lowest_none : lowest 0 ≡ 64
unfolding lowest count_trailing_zeros
lowest_none = refl

-- a member of x is one of x - 1, but for the lowest
before_has : (k x i : ℕ) → x < 2 ^ k → 0 < x → has x i ≡ true → has (x - 1) i ≡ not (eqb i (count_trailing_zeros k x))
unfolding count_trailing_zeros
before_has zero x i h p m = absurd (omega arith)
before_has (suc k) x i h p m = go (x % 2) refl i m (λ j. before_has k (x / 2) j (omega arith))
  where
    go : (n : ℕ) → x % 2 ≡ n → (i : ℕ) → has x i ≡ true → ((j : ℕ) → 0 < x / 2 → has (x / 2) j ≡ true → has (x / 2 - 1) j ≡ not (eqb j (count_trailing_zeros k (x / 2)))) → has (x - 1) i ≡ not (eqb i (under n (count_trailing_zeros k (x / 2))))
    go zero e zero m f = absurd (true≢false (sym m ∙ has_zero x ∙ rw e refl))
    go zero e (suc i) m f =
        has_suc (x - 1) i ∙ ap (λ (n : ℕ). has n i) (let q : (x - 1) / 2 ≡ x / 2 - 1 = omega arith in q)
        ∙ f i (omega arith) (sym (has_suc x i) ∙ m) ∙ sym (ap not (eqb-suc-suc i _))
    go (suc n) e zero m f = has_zero (x - 1) ∙ (let q : (x - 1) % 2 ≡ 0 = omega arith in rw q refl)
    go (suc n) e (suc i) m f =
        has_suc (x - 1) i ∙ ap (λ (n : ℕ). has n i) (let q : (x - 1) / 2 ≡ x / 2 = omega arith in q) ∙ sym (has_suc x i) ∙ m ∙ sym (ap not (eqb-suc-zero i))

under_first : (b : Bool) {c d : Bool} → (b ≡ true → c ≡ d) → (b && c) ≡ (b && d)
under_first true f = f refl
under_first false f = refl

pub lt_pow : (x : ℕ) → x < 2 ^ x
lt_pow zero = omega arith
lt_pow (suc x) = omega (arith, lt_pow x)

-- sets of any numbers
pub same_set : (x y : ℕ) → ((i : ℕ) → has x i ≡ has y i) → x ≡ y
same_set x y e = let n : x + y < 2 ^ (x + y) = lt_pow (x + y) in same_members (x + y) x y (omega arith) (omega arith) (λ i l. e i)

-- any number but 0 has a member
pub some_member : (x : ℕ) → 0 < x → (i : ℕ) × (has x i ≡ true)
some_member x p = (count_trailing_zeros x x, trailing_has x x (lt_pow x) p)

-- ---- how many members

bit_le : (a b : Bool) → (a ≡ true → b ≡ true) → bit a ≤ bit b
unfolding bit
bit_le true b h = rw (h refl) (omega arith)
bit_le false b h = zero-le

ones_part : (n x y : ℕ) → x < 2 ^ n → y < 2 ^ n → ((i : ℕ) → has x i ≡ true → has y i ≡ true) → (x ≡ y) ⊎ (ones x < ones y)
ones_part zero x y h k s = inl (omega arith)
ones_part (suc n) x y h k s =
    go (rw (low_digit x, low_digit y) (bit_le (has x 0) (has y 0) (s 0))) (ℕ_discrete (x % 2) (y % 2))
    (ones_part n (x / 2) (y / 2) (omega arith) (omega arith) (λ i m. sym (has_suc y i) ∙ s (suc i) (has_suc x i ∙ m)))
  where
    go : x % 2 ≤ y % 2 → Dec (x % 2 ≡ y % 2) → (x / 2 ≡ y / 2) ⊎ (ones (x / 2) < ones (y / 2)) → (x ≡ y) ⊎ (ones x < ones y)
    go l (yes e) (inl a) = inl (omega arith)
    go l (no d) (inl a) = inr (omega (arith, ones_step x, ones_step y, ap ones a))
    go l d (inr b) = inr (omega (arith, ones_step x, ones_step y))

-- a part of a set is the set, or has fewer members
pub count_part : (x y : ℕ) → x < 2 ^ 64 → y < 2 ^ 64 → ((i : ℕ) → has x i ≡ true → has y i ≡ true) → (x ≡ y) ⊎ (count x < count y)
unfolding count
count_part x y h k s = ones_part 64 x y h k s

pub count_le : (x : ℕ) → x < 2 ^ 64 → count x ≤ 64
unfolding count
count_le x h = ones-le 64 x h

-- ---- the machine's way to take a member out

rest : (n x : ℕ) → x < 2 ^ suc n → 2 ^ suc n - 1 - x ≡ bit (not (has x 0)) + 2 * (2 ^ n - 1 - x / 2)
unfolding bit
rest n x h = go (has x 0) (low_digit x)
  where
    go : (b : Bool) → x % 2 ≡ bit b → 2 ^ suc n - 1 - x ≡ bit (not b) + 2 * (2 ^ n - 1 - x / 2)
    go true e = omega arith
    go false e = omega arith

rest_has : (n x i : ℕ) → x < 2 ^ n → i < n → has (2 ^ n - 1 - x) i ≡ not (has x i)
rest_has zero x i h l = absurd (not-suc-le-zero l)
rest_has (suc n) x zero h l = made_zero (not (has x 0)) (2 ^ n - 1 - x / 2) (rest n x h)
rest_has (suc n) x (suc i) h l =
    made_suc (not (has x 0)) (2 ^ n - 1 - x / 2) (rest n x h) i
    ∙ rest_has n (x / 2) i (omega arith) (omega arith) ∙ ap not (sym (has_suc x i))

-- x less the members of y
pub less_has : (x y i : ℕ) → y < 2 ^ 64 → i < 64 → has (x ∩ (2 ^ 64 - 1 - y)) i ≡ (has x i && not (has y i))
less_has x y i h l = inter_has x (2 ^ 64 - 1 - y) i ∙ ap (λ (b : Bool). has x i && b) (rest_has 64 y i h l)

pub eqb_sym : (i j : ℕ) → eqb i j ≡ eqb j i
eqb_sym zero zero = refl
eqb_sym zero (suc j) = eqb-zero-suc j ∙ sym (eqb-suc-zero j)
eqb_sym (suc i) zero = eqb-suc-zero i ∙ sym (eqb-zero-suc i)
eqb_sym (suc i) (suc j) = eqb-suc-suc i j ∙ eqb_sym i j ∙ sym (eqb-suc-suc j i)

pub less_only : (x i : ℕ) → x < 2 ^ 64 → i < 64 → x ∩ (2 ^ 64 - 1 - only i) ≡ without x i
less_only x i h l =
    set_ext (x ∩ (2 ^ 64 - 1 - only i)) (without x i) (inter_lt x (2 ^ 64 - 1 - only i) h) (without_lt x i)
    (λ j k.
    less_has x (only i) j (only_lt i l) k ∙ rw (only_has i j, eqb_sym i j) (sym (without_has x i j k)))

-- x less its lowest member
pub rest_is : (x : ℕ) → x < 2 ^ 64 → 0 < x → x ∩ (x - 1) ≡ without x (lowest x)
unfolding lowest
rest_is x h p =
    set_ext (x ∩ (x - 1)) (without x (lowest x)) (inter_lt x (x - 1) h) (without_lt x (lowest x))
    (λ i k. inter_has x (x - 1) i ∙ under_first (has x i) (λ m. before_has 64 x i h p m) ∙ sym (without_has x (lowest x) i k))

pub rest_none : (i : ℕ) → without 0 i ≡ 0
rest_none i =
    set_ext (without 0 i) 0 (without_lt 0 i) (omega arith) (λ j k. without_has 0 i j k ∙ ap (λ (b : Bool). b && not (eqb j i)) (none_has j) ∙ sym (none_has j))

pub without_le : (x i : ℕ) → x < 2 ^ 64 → i < 64 → without x i ≤ x
without_le x i h l = rw (less_only x i h l) at (inter_le x (2 ^ 64 - 1 - only i))

-- ---- x without v, at v and elsewhere
pub without_at : (x v i : ℕ) → i < 64 → i ≡ v → has (without x v) i ≡ false
without_at x v i k d = without_has x v i k ∙ ap (λ (b : Bool). has x i && not b) (eq-eqb i v d) ∙ and_comm (has x i) false

pub without_other : (x v i : ℕ) → i < 64 → (i ≡ v → ⊥) → has (without x v) i ≡ has x i
without_other x v i k d = without_has x v i k ∙ ap (λ (b : Bool). has x i && not b) (ne_eqb i v d) ∙ and_comm (has x i) true

pub without_part : (x v i : ℕ) → has (without x v) i ≡ true → has x i ≡ true
without_part x v i m = first (has x i) (not (eqb i v)) (sym (without_has x v i (has_lt _ i (without_lt x v) m)) ∙ m)
  where
    first : (a b : Bool) → (a && b) ≡ true → a ≡ true
    first true b e = refl
    first false b e = e

-- with one taken out, one fewer
pub ones_more : (n k : ℕ) (f : ℕ → Bool) → ones (those_from (suc n) k f) ≡ bit (f k) + ones (those_from n (suc k) f)
unfolding those_from bit
ones_more n k f = go (f k) (those_from n (suc k) f)
  where
    go : (b : Bool) (m : ℕ) → ones (bit b + 2 * m) ≡ bit b + ones m
    go true m = let e : (1 + 2 * m) / 2 ≡ m = omega arith in omega (arith, ones_step (1 + 2 * m), ap ones e)
    go false m = let e : (0 + 2 * m) / 2 ≡ m = omega arith in omega (arith, ones_step (0 + 2 * m), ap ones e)

same_those : (n k : ℕ) (f g : ℕ → Bool) → ((j : ℕ) → k ≤ j → f j ≡ g j) → those_from n k f ≡ those_from n k g
unfolding those_from
same_those zero k f g e = refl
same_those (suc n) k f g e = rw (e k (omega arith), same_those n (suc k) f g (λ j h. e j (omega arith)))

less : (f : ℕ → Bool) (c : ℕ) → f c ≡ true → (n k : ℕ) → k ≤ c → c < k + n
    → ones (those_from n k f) ≡ ones (those_from n k (λ j. f j && not (eqb j c))) + 1
unfolding bit
less f c m zero k h l = absurd (omega arith)
less f c m (suc n) k h l =
    rw (ones_more n k f, ones_more n k (λ j. f j && not (eqb j c)))
    (go (λ a. less f c m n (suc k) a (omega arith)) (ℕ_discrete k c))
  where
    after : (n k : ℕ) → c < k → those_from n k f ≡ those_from n k (λ j. f j && not (eqb j c))
    after n k h = same_those n k f (λ j. f j && not (eqb j c)) (λ j l. rw (ne_eqb j c (λ e. omega arith)) (and_comm true (f j)))

    go : (suc k ≤ c → ones (those_from n (suc k) f) ≡ ones (those_from n (suc k) (λ j. f j && not (eqb j c))) + 1) → Dec (k ≡ c)
        → bit (f k) + ones (those_from n (suc k) f) ≡ bit (f k && not (eqb k c)) + ones (those_from n (suc k) (λ j. f j && not (eqb j c))) + 1
    go later (yes e) = rw (e, m, eq-eqb c c refl, after n (suc c) (omega arith)) (omega arith)
    go later (no d) = rw (ne_eqb k c d, and_comm (f k) true) (omega (arith, later (omega arith)))

pub count_less : (x v : ℕ) → x < 2 ^ 64 → has x v ≡ true → count x ≡ count (without x v) + 1
unfolding count without those
count_less x v h m =
    ap ones (set_ext x (those_from 64 0 (has x)) h (those_lt (has x)) (λ i l. sym (those_has (has x) i l)))
    ∙ less (has x) v m 64 0 zero-le (has_lt x v h m)

pub count_none : count 0 ≡ 0
unfolding count
count_none = omega (arith, ones-le 0 0 (omega arith))

-- ---- one turn of a loop that takes the lowest member v of those left
module _ (left : ℕ) (small : left < 2 ^ 64) (more : left ≡ 0 → ⊥) (v : ℕ) (is : v ≡ lowest left) where
  pub member : has left v ≡ true
  member = rw is (lowest_has left small (omega (arith, more)))

  pub turn_below : v < 64
  turn_below = has_lt left v small member

  pub itself : v % 64 ≡ v
  itself = mod-eq_of_lt turn_below

  pub turn_fewer : (later : ℕ) → later ≡ without left (v % 64) → count later < count left
  turn_fewer later e = rw (e, itself) (omega (arith, count_less left v small member))

  pub turn_less : (later : ℕ) → later ≡ without left (lowest left) → count later < count left
  turn_less later e = turn_fewer later (e ∙ ap (without left) (sym is ∙ sym itself))
