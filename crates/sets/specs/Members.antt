-- How the members of a set are gone through, in rising order.
use Rattle.std.specs.Prelude.{◌≡◌, ℕ, Option, MatchOption}
use Rattle.sets.specs.Sets.{lowest, without}

-- of the set x the lowest member is taken, and y is left; of the empty set none
abbrev pub TakesLowest : ℕ → Option ℕ → ℕ → Type 0
TakesLowest x r y = MatchOption r ((x ≡ 0) × (y ≡ x)) (λ v. (x ≡ 0 → ⊥) × (v ≡ lowest x) × (y ≡ without x (lowest x)))
