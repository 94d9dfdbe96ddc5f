-- The search for the reach, among the processes of a set.
use Rattle.std.specs.Prelude.{ℕ, ◌≡◌, Bool, true, false, ◌||◌, List, get_or, Option, MatchOption}
use Rattle.sets.specs.Sets.{has}
use Rattle.flow.specs.Box.{container_of}
use Rattle.flow.specs.Links.{meets}

-- process p, by its set of what it maps, is fed from the set x
abbrev pub fed_from : List ℕ → ℕ → ℕ → Bool
fed_from rows x p = meets x (get_or rows p 0)

-- process p is in the set x or fed from it
abbrev pub comes_next : List ℕ → ℕ → ℕ → Bool
comes_next rows x p = has x (container_of p) || fed_from rows x p

-- the processes 0 to 7, and 8 to 15
abbrev pub low_half : ℕ
low_half = 0xFF

abbrev pub high_half : ℕ
high_half = 0xFF00

-- the set all has whatever a process of the set left maps
abbrev pub Within : List ℕ → ℕ → ℕ → Type 0
Within rows left all = (p : ℕ) → has left p ≡ true → (i : ℕ) → has (get_or rows p 0) i ≡ true → has all i ≡ true

-- r is a process of the set left that f holds of, or there is none
abbrev pub Finds : (ℕ → Bool) → ℕ → Option ℕ → Type 0
Finds f left r = MatchOption r ((p : ℕ) → has left p ≡ true → f p ≡ false) (λ p. (has left p ≡ true) × (f p ≡ true))
