-- The six rounds together exchange rows and columns.
use Prim.Native.Nat.{ℕ, ◌+◌, ◌-◌, ◌/◌}
use mathlib.Core.Path.{◌≡◌, refl, sym, ap, ap₂, ◌∙◌}
use mathlib.Core.Bool.{Bool, true, false, not, ◌&&◌, ◌||◌}
use mathlib.Core.List.{List, [], ◌∷◌}
use lib.Dec.{eqb, ltb}
use lib.ListN.{get_or}
use borrow.Author.Tests.{ltb-true, eqb-true, not-false}
use Rattle.sets.specs.Sets.{has, those}
use Rattle.sets.proofs.Members.{those_has, those_lt, set_ext}
use Rattle.flow.specs.Lists.{some_below}
use Rattle.flow.proofs.Bools.{or_false_l, or_false_r, and_l, and_r}
use Rattle.flow.proofs.TableLaws.{is_table, none_of}
use Rattle.transpose.specs.Transposed.{transposed}
use Rattle.transpose.specs.Rounds.{upper, even, word, shuffled}
use Rattle.transpose.proofs.Filling.{shuffled_at, shuffled_size}

-- rounds at the distances of a list, the last one first
unfoldable pub rounds : List ℕ → List ℕ → List ℕ
rounds [] rows = rows
rounds (d ∷ ds) rows = shuffled d (rounds ds rows)

-- the columns from which a round takes column b, where it has bit d and where not
abbrev with_bit : ℕ → ℕ → ℕ → ℕ
with_bit d j b = elim (even j) [ true ↦ b - d | false ↦ b ]

abbrev without_bit : ℕ → ℕ → ℕ → ℕ
without_bit d j b = elim (even j) [ true ↦ b | false ↦ d + b ]

-- column b of row j does not come from column q of row p
unfoldable strays : List ℕ → ℕ → ℕ → ℕ → ℕ → Bool
strays [] j b p q = not (eqb j p && eqb b q)
strays (d ∷ ds) j b p q =
    not (ltb j 64 && ltb b 64)
    || elim (upper d b) [ true ↦ strays ds (j / 2 + 32) (with_bit d j b) p q | false ↦ strays ds (j / 2) (without_bit d j b) p q ]

-- two choices by one test: what follows from s in the one case and from t in the other
along : (u s t x y z : Bool) → (s ≡ false → x ≡ z) → (t ≡ false → y ≡ z)
    → ◌≡◌ {A = Bool} (elim u [ true ↦ s | false ↦ t ]) false → ◌≡◌ {A = Bool} (elim u [ true ↦ x | false ↦ y ]) z
along true s t x y z f g h = f h
along false s t x y z f g h = g h

comes : (ds rows : List ℕ) (j b p q : ℕ) → strays ds j b p q ≡ false → has (get_or (rounds ds rows) j 0) b ≡ has (get_or rows p 0) q
unfolding rounds strays word
comes [] rows j b p q h =
    let e = not-false (eqb j p && eqb b q) h in
    ap₂ (λ (r c : ℕ). has (get_or rows r 0) c) (eqb-true j p (and_l (eqb j p) (eqb b q) e)) (eqb-true b q (and_r (eqb j p) (eqb b q) e))
comes (d ∷ ds) rows j b p q h =
    let inside = not-false (ltb j 64 && ltb b 64) (or_false_l (not (ltb j 64 && ltb b 64)) _ h) in
    ap (λ (w : ℕ). has w b) (shuffled_at d (rounds ds rows) j (ltb-true j 64 (and_l (ltb j 64) (ltb b 64) inside)))
    ∙ those_has _ b (ltb-true b 64 (and_r (ltb j 64) (ltb b 64) inside))
    ∙ along (upper d b) (strays ds (j / 2 + 32) (with_bit d j b) p q) (strays ds (j / 2) (without_bit d j b) p q) _ _ _
    (comes ds rows (j / 2 + 32) (with_bit d j b) p q)
    (comes ds rows (j / 2) (without_bit d j b) p q)
    (or_false_r (not (ltb j 64 && ltb b 64)) _ h)

-- the distances of the six rounds, the last one first
unfoldable pub distances : List ℕ
distances = 1 ∷ 2 ∷ 4 ∷ 8 ∷ 16 ∷ 32 ∷ []

-- of all 64 x 64 places none strays
none_strays : some_below 64 (λ j. some_below 64 (λ b. strays distances j b b j)) ≡ false
unfolding some_below strays upper even distances
none_strays = refl

pub exchanged : (rows : List ℕ) → rounds distances rows ≡ transposed rows
unfolding transposed rounds distances word
exchanged rows =
    is_table 64 (λ i. those (λ r. has (get_or rows r 0) i)) (rounds distances rows) (shuffled_size 1 _)
    (λ i h.
    set_ext (get_or (rounds distances rows) i 0) (those (λ r. has (get_or rows r 0) i))
    (rw (shuffled_at 1 _ i h) (those_lt _)) (those_lt _)
    (λ b k.
    comes distances rows i b b i (none_of 64 (λ b. strays distances i b b i) b (none_of 64 (λ j. some_below 64 (λ b. strays distances j b b j)) i none_strays h) k)
    ∙ sym (those_has (λ r. has (get_or rows r 0) i) b k)))
