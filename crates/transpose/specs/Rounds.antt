-- A round of the transposition at a distance d, a power of 2 below 64: rows i and i + 32 give rows 2 i and 2 i + 1.
use Rattle.std.specs.Prelude.{ℕ, ◌+◌, ◌-◌, ◌/◌, ◌%◌, Bool, true, false, not, ◌||◌, List, eqb, ltb, get_or}
use Rattle.sets.specs.Sets.{has, those}
use Rattle.flow.specs.Lists.{table, some_below}

-- the number b has the bit d
unfoldable pub upper : ℕ → ℕ → Bool
upper d b = eqb (b / d % 2) 1

unfoldable pub even : ℕ → Bool
even j = eqb (j % 2) 0

-- the masks m and n are not the columns without bit d and those with it, or a column with it is below d
unfoldable pub unfit : ℕ → ℕ → ℕ → Bool
unfit d m n = some_below 64 (λ b. elim (upper d b) [ true ↦ has m b || not (has n b) || ltb b d | false ↦ not (has m b) || has n b ])

-- columns without bit d come from the row lo, those with it from hi: to an even row from the column without bit d, to an odd row from the column with it
unfoldable pub word : ℕ → Bool → ℕ → ℕ → ℕ
word d e lo hi =
    those (λ b. elim (upper d b) [ true ↦ has hi (elim e [ true ↦ b - d | false ↦ b ]) | false ↦ has lo (elim e [ true ↦ b | false ↦ d + b ]) ])

unfoldable pub shuffled : ℕ → List ℕ → List ℕ
shuffled d rows = table 64 (λ j. word d (even j) (get_or rows (j / 2) 0) (get_or rows (j / 2 + 32) 0))

-- the columns of m from the row x, the others from the row y
unfoldable pub blended : ℕ → ℕ → ℕ → ℕ
blended m x y = those (λ b. elim (has m b) [ true ↦ has x b | false ↦ has y b ])
