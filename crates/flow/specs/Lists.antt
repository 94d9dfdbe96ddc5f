-- Lists made from a function, and lists of tests.
use Rattle.std.specs.Prelude.{ℕ, zero, suc, Bool, true, false, List, [], ◌∷◌, eqb}
use Rattle.std.proofs.Math.Option.{Option, none, some}

infix 5 ◌⇒◌
-- the list of f k, f (k + 1), ..: n elements
unfoldable pub table_from : {A : Type 0} → ℕ → ℕ → (ℕ → A) → List A
table_from zero k f = []
table_from (suc n) k f = f k ∷ table_from n (suc k) f

-- the list of f 0, f 1, ..: n elements
unfoldable pub table : {A : Type 0} → ℕ → (ℕ → A) → List A
table n f = table_from n 0 f

-- f holds of some number below n
unfoldable pub some_below : ℕ → (ℕ → Bool) → Bool
some_below zero f = false
some_below (suc n) f = elim (f n) [ true ↦ true | false ↦ some_below n f ]

-- x stands in the list
unfoldable pub is_in : ℕ → List ℕ → Bool
is_in x [] = false
is_in x (y ∷ ys) = elim (eqb x y) [ true ↦ true | false ↦ is_in x ys ]

-- a test: the number of the refusal where it holds, none where it doesn't
abbrev pub Test : Type 0
Test = Option ℕ

-- that of a condition and its number
unfoldable pub ◌⇒◌ : Bool → ℕ → Test
b ⇒ n = elim b [ true ↦ some n | false ↦ none ]

-- the number of the first test of the list that holds
unfoldable pub first_that : List Test → Option ℕ
first_that [] = none
first_that (none ∷ ts) = first_that ts
first_that (some n ∷ ts) = some n

-- a number as a refusal: 0 stands for none
unfoldable pub refusal_from : ℕ → Option ℕ
refusal_from zero = none
refusal_from (suc n) = some (suc n)

unfoldable pub is_none : {A : Type 0} → Option A → Bool
is_none none = true
is_none (some x) = false
