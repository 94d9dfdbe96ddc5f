-- What holds of every element of a list, and of what stands for those past its end: `Every P d l`. Lists of n numbers below a limit.
use Prim.Native.Nat.{ℕ, zero, suc, ◌+◌, ◌<◌}
use native.Mathlib.Omega.{arith}
use native.Mathlib.Decide.{dec_lt}
use mathlib.Core.Path.{refl, ap₂, ◌∙◌}
use mathlib.Core.List.{List, [], ◌∷◌, ◌++◌}
use lib.ListN.{get_or, length, take, drop, length-append, length-take, get_or-eq_default}
use lib.Seq.{get_or-take, get_or-drop}
use Rattle.flow.specs.Lists.{table}
use Rattle.flow.proofs.TableLaws.{table_at, table_length}
use Rattle.decision.specs.Chains.{Numbers}

abbrev pub Every : {A : Type 0} → (A → Type 0) → A → List A → Type 0
Every P d l = (k : ℕ) → P (get_or l k d)

module _ {A : Type 0} (P : A → Type 0) (d : A) where
  pub every_append : (l m : List A) → Every P d l → Every P d m → Every P d (l ++ m)
  every_append [] m h g k = g k
  every_append (x ∷ l) m h g zero = h 0
  every_append (x ∷ l) m h g (suc k) = every_append l m (λ i. h (suc i)) g k

  pub every_one : (x : A) → P d → P x → Every P d (x ∷ [])
  every_one x z h zero = h
  every_one x z h (suc k) = z

  pub every_more : (l : List A) (x : A) → Every P d l → P x → Every P d (l ++ (x ∷ []))
  every_more l x h p = every_append l (x ∷ []) h (every_one x (rw (get_or-eq_default l d {n = length l} (omega arith)) at (h (length l))) p)

  pub every_table : (n : ℕ) (f : ℕ → A) → P d → ((i : ℕ) → P (f i)) → Every P d (table n f)
  every_table n f z h k = go (dec_lt k n)
    where
      go : Dec (k < n) → P (get_or (table n f) k d)
      go (yes l) = rw (table_at n f k d l) (h k)
      go (no l) = rw (get_or-eq_default (table n f) d {n = k} (omega (arith, table_length n f))) z

  pub every_part : (n m : ℕ) (l : List A) → P d → Every P d l → Every P d (take n (drop m l))
  every_part n m l z h k = go (dec_lt k n)
    where
      go : Dec (k < n) → P (get_or (take n (drop m l)) k d)
      go (yes b) = rw (get_or-take n (drop m l) k d b, get_or-drop m l k d) (h (m + k))
      go (no b) = rw (get_or-eq_default (take n (drop m l)) d {n = k} (omega (arith, length-take n (drop m l)))) z

-- ---- numbers below a limit
abbrev pub Below : ℕ → List ℕ → Type 0
Below limit l = Every (λ x. x < limit) 0 l

module _ {limit : ℕ} where
  pub append_numbers : {n m : ℕ} {l r : List ℕ} → Numbers n limit l → Numbers m limit r → Numbers (n + m) limit (l ++ r)
  append_numbers {n} {m} {l} {r} h g =
      record { size = length-append l r ∙ ap₂ (λ (x y : ℕ). x + y) h.size g.size; fits = every_append (λ x. x < limit) 0 l r h.fits g.fits }

  pub table_numbers : (n : ℕ) (f : ℕ → ℕ) → 0 < limit → ((i : ℕ) → f i < limit) → Numbers n limit (table n f)
  table_numbers n f z h = record { size = table_length n f; fits = every_table (λ x. x < limit) 0 n f z h }

  pub one_number : (x : ℕ) → x < limit → Numbers 1 limit (x ∷ [])
  one_number x h = record { size = refl; fits = every_one (λ x. x < limit) 0 x (omega arith) h }
