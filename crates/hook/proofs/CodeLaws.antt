-- Answers in numbers.
use Prim.Native.Nat.{ℕ}
use mathlib.Core.Path.{◌≡◌, subst}
use Rattle.flow.specs.Queries.{Reply as Word}
use Rattle.hook.specs.Codes.{Given}

pub given_by : (w w' : Word) → w ≡ w' → (before n after : ℕ) → Given w before n after → Given w' before n after
given_by w w' e before n after h = subst (λ (x : Word). Given x before n after) e h
