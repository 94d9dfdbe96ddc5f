-- Sets of the numbers 0 to 63, each coded as one number below 2 ^ 64: i is a member where bit i is set. The empty set is 0.
use Rattle.std.specs.Prelude.{ℕ, zero, suc, ◌+◌, ◌*◌, ◌/◌, ◌%◌, ◌^◌, Bool, true, false, not, ◌&&◌, List, [], ◌∷◌, ◌++◌, eqb}
use Rattle.std.specs.Int.Bits.{bit_or, bit_and}
use Rattle.std.specs.Int.Count.{ones, count_trailing_zeros}

infixl 40 ◌∪◌
infixl 41 ◌∩◌
-- the set x has the member i
unfoldable pub has : ℕ → ℕ → Bool
has x i = eqb (x / 2 ^ i % 2) 1

-- the set of i alone
unfoldable pub only : ℕ → ℕ
only i = 2 ^ i

unfoldable pub ◌∪◌ : ℕ → ℕ → ℕ
x ∪ y = bit_or x y

unfoldable pub ◌∩◌ : ℕ → ℕ → ℕ
x ∩ y = bit_and x y

-- 1 for true, 0 for false
unfoldable pub bit : Bool → ℕ
bit true = 1
bit false = 0

-- of the n numbers from k on, those that f holds of, counted from k
unfoldable pub those_from : ℕ → ℕ → (ℕ → Bool) → ℕ
those_from zero k f = 0
those_from (suc n) k f = bit (f k) + 2 * those_from n (suc k) f

-- of the numbers 0 to 63, those that f holds of
unfoldable pub those : (ℕ → Bool) → ℕ
those f = those_from 64 0 f

-- of the n numbers from k on, those that f holds of, in rising order
unfoldable pub rising_from : ℕ → ℕ → (ℕ → Bool) → List ℕ
rising_from zero k f = []
rising_from (suc n) k f = elim (f k) [ true ↦ k ∷ [] | false ↦ [] ] ++ rising_from n (suc k) f

-- of the numbers 0 to 63, those that f holds of, in rising order
unfoldable pub rising : (ℕ → Bool) → List ℕ
rising f = rising_from 64 0 f

-- the members of the set, in rising order
unfoldable pub members : ℕ → List ℕ
members x = rising (has x)

-- the set x less i
unfoldable pub without : ℕ → ℕ → ℕ
without x i = those (λ j. has x j && not (eqb j i))

-- how many members the set has
unfoldable pub count : ℕ → ℕ
count x = ones x

-- the lowest member, and 64 of the empty set
unfoldable pub lowest : ℕ → ℕ
lowest x = count_trailing_zeros 64 x

-- the members of all sets of a list
unfoldable pub union_of : List ℕ → ℕ
union_of [] = 0
union_of (x ∷ l) = x ∪ union_of l
