-- A part of the words, and an entry of a table.
use Prim.Native.Nat.{ℕ, zero, suc, ◌+◌, ◌-◌, ◌≤◌, ◌<◌}
use native.Mathlib.Omega.{arith}
use native.Mathlib.Decide.{dec_lt}
use native.Mathlib.Nat.{not-suc-le-zero, le_of_suc-le-suc}
use mathlib.Core.Path.{◌≡◌, refl, sym, ap, ◌∙◌}
use mathlib.Core.List.{List, [], ◌∷◌, ◌++◌}
use lib.ListN.{length, get_or, take, drop, length-take, length-drop, get_or-append}
use lib.Seq.{get_or-take, get_or-drop, get_or-append_right, take_at, drop_at, drop-drop, length-take-le, paste, length_paste_head}
use Rattle.store.specs.Maps.{part}

-- an element does not depend on the default
pub get_d_any : (l : List ℕ) (i d e : ℕ) → i < length l → get_or l i d ≡ get_or l i e
get_d_any [] i d e h = absurd (not-suc-le-zero h)
get_d_any (x ∷ l) zero d e h = refl
get_d_any (x ∷ l) (suc i) d e h = get_d_any l i d e (le_of_suc-le-suc h)

pub part_at : (a n : ℕ) (w : List ℕ) (i : ℕ) → i < n → get_or w (a + i) 0 ≡ get_or (part a n w) i 0
unfolding part
part_at a n w i h = sym (get_or-take n (drop a w) i 0 h ∙ get_or-drop a w i 0)

take_past : (n : ℕ) (l : List ℕ) (i : ℕ) → n ≤ i → 0 ≡ get_or (take n l) i 0
take_past zero l i h = refl
take_past (suc n) [] i h = refl
take_past (suc n) (x ∷ l) zero h = absurd (not-suc-le-zero h)
take_past (suc n) (x ∷ l) (suc i) h = take_past n l i (le_of_suc-le-suc h)

pub part_past : (a n : ℕ) (w : List ℕ) (i : ℕ) → n ≤ i → 0 ≡ get_or (part a n w) i 0
unfolding part
part_past a n w = take_past n (drop a w)

pub part_length : (a n : ℕ) (w : List ℕ) → a + n ≤ length w → length (part a n w) ≡ n
unfolding part
part_length a n w h = simp (length-take, length-drop) (omega arith)

pub part_most : (a n : ℕ) (w : List ℕ) → length (part a n w) ≤ n
unfolding part
part_most a n w = simp length-take (omega arith)

-- a part of two lists in a row: the first itself, and one of the second
pub part_here : (xs ys : List ℕ) (n : ℕ) → length xs ≡ n → part 0 n (xs ++ ys) ≡ xs
unfolding part
part_here xs ys n e = take_at xs ys n e

pub part_there : (xs ys : List ℕ) (k a n : ℕ) → length xs ≡ k → part (k + a) n (xs ++ ys) ≡ part a n ys
unfolding part
part_there xs ys k a n e = ap (take n) (sym (drop-drop a k (xs ++ ys)) ∙ ap (drop a) (drop_at xs ys k e))

-- ---- n elements in the place of those from `at` on: each of them, and any other
module _ (l : List ℕ) (at n : ℕ) (m : List ℕ) (fits : at + n ≤ length l) (enough : n ≤ length m) where
  front : length (take at l) ≡ at
  front = length-take-le at l (omega arith)

  head : length (take at l ++ take n m) ≡ at + n
  head = length_paste_head l at m n (omega arith) enough

  pub pasted_at : (i : ℕ) → i < n → get_or (paste l at m n) (at + i) 0 ≡ get_or m i 0
  pasted_at i h =
      let e : at + i - length (take at l) ≡ i = omega (arith, front) in
      get_or-append (take at l ++ take n m) (drop (at + n) l) 0 (at + i) (omega (arith, head))
      ∙ get_or-append_right (take at l) (take n m) (at + i) 0 (omega (arith, front)) ∙ ap (λ (k : ℕ). get_or (take n m) k 0) e ∙ get_or-take n m i 0 h

  pub pasted_other : (j : ℕ) → ((i : ℕ) → i < n → j ≡ at + i → ⊥) → get_or (paste l at m n) j 0 ≡ get_or l j 0
  pasted_other j f = go (dec_lt j at) (dec_lt j (at + n))
    where
      go : Dec (j < at) → Dec (j < at + n) → get_or (paste l at m n) j 0 ≡ get_or l j 0
      go (yes h) b =
          get_or-append (take at l ++ take n m) (drop (at + n) l) 0 j (omega (arith, head)) ∙ get_or-append (take at l) (take n m) 0 j (omega (arith, front)) ∙ get_or-take at l j 0 h
      go (no h) (yes b) = absurd (f (j - at) (omega (arith, h, b)) (omega (arith, h)))
      go (no h) (no b) =
          let e : j - length (take at l ++ take n m) ≡ j - (at + n) = omega (arith, head) in
          let k : at + n + (j - (at + n)) ≡ j = omega (arith, b) in
          get_or-append_right (take at l ++ take n m) (drop (at + n) l) j 0 (omega (arith, head, b)) ∙ ap (λ (i : ℕ). get_or (drop (at + n) l) i 0) e ∙ get_or-drop (at + n) l (j - (at + n)) 0
          ∙ ap (λ (i : ℕ). get_or l i 0) k
