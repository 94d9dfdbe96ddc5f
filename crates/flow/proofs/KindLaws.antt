-- Kinds and their numbers.
use Prim.Native.Nat.{ℕ, zero, suc, ◌+◌}
use native.Mathlib.Omega.{arith}
use mathlib.Core.Path.{◌≡◌, refl, sym, ap, ◌∙◌}
use mathlib.Core.Bool.{true}
use mathlib.Core.List.{List, [], ◌∷◌}
use mathlib.Core.Option.{Option, none, some}
use lib.ListN.{get_or}
use borrow.Author.Tests.{eqb-true}
use Rattle.flow.specs.Calls.{Kind, start, open_name, create, pipe, device, dup, close, read, write, truncate, map_read, map_both, unmap, unlink, rename, link, fork, exit, label, kind_number, Call, is_kind}
use Rattle.flow.specs.Records.{kinds, kind_of}
use Rattle.flow.specs.Consequences.{KindsNumbered}

-- the list from number i on
unfoldable Indexed : ℕ → List (Option Kind) → Type 0
Indexed i [] = Unit {0}
Indexed i (none ∷ l) = Indexed (suc i) l
Indexed i (some k ∷ l) = (kind_number k ≡ i) × Indexed (suc i) l

indexed_at : (l : List (Option Kind)) (i n : ℕ) (k : Kind) → Indexed i l → get_or l n none ≡ some k → n + i ≡ kind_number k
unfolding Indexed
indexed_at [] i n k h e = absurd (let z : ◌≡◌ {A = ℕ} 0 1 = cc in let y : ⊥ = omega arith in y)
indexed_at (none ∷ l) i zero k h e = absurd (let z : ◌≡◌ {A = ℕ} 0 1 = cc in let y : ⊥ = omega arith in y)
indexed_at (none ∷ l) i (suc n) k h e = let w : n + suc i ≡ kind_number k = indexed_at l (suc i) n k h e in omega arith
indexed_at (some j ∷ l) i zero k h e = let q : j ≡ k = cc in let w : kind_number k ≡ i = rw q at h.0 in omega arith
indexed_at (some j ∷ l) i (suc n) k h e = let w : n + suc i ≡ kind_number k = indexed_at l (suc i) n k h.1 e in omega arith

pub kind_at : (k : Kind) → kind_of (kind_number k) ≡ some k
unfolding kind_of kinds kind_number
kind_at start = refl
kind_at open_name = refl
kind_at create = refl
kind_at pipe = refl
kind_at device = refl
kind_at dup = refl
kind_at close = refl
kind_at read = refl
kind_at write = refl
kind_at truncate = refl
kind_at map_read = refl
kind_at map_both = refl
kind_at unmap = refl
kind_at unlink = refl
kind_at rename = refl
kind_at link = refl
kind_at fork = refl
kind_at exit = refl
kind_at label = refl

kinds_indexed : Indexed 0 kinds
unfolding kinds Indexed kind_number
kinds_indexed = (refl, (refl, (refl, (refl, (refl, (refl, (refl, (refl, (refl, (refl, (refl, (refl, (refl, (refl, (refl, (refl, (refl, (refl, (refl, tt)))))))))))))))))))

number_at : (n : ℕ) (k : Kind) → kind_of n ≡ some k → n ≡ kind_number k
unfolding kind_of
number_at n k e =
    let w : n + 0 ≡ kind_number k = indexed_at kinds 0 n k kinds_indexed e in
    omega arith

pub kinds_numbered : KindsNumbered
unfolding KindsNumbered
kinds_numbered n k = (number_at n k, λ e. rw e (kind_at k))

-- no two kinds have one number
pub kind_is : (k : Kind) (q : Call) → is_kind k q ≡ true → q.kind ≡ k
unfolding is_kind
kind_is k q e =
    let h : some q.kind ≡ some k = sym (kind_at q.kind) ∙ ap kind_of (eqb-true (kind_number q.kind) (kind_number k) e) ∙ kind_at k in
    cc
