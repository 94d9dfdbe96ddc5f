-- Calls of five bytes, one after the other, as a list of fives.
use Rattle.std.proofs.Common.{◌≡◌, ℕ, zero, suc, ◌+◌, ◌*◌, ◌<◌, List, drop, get_or, refl, ap, ◌∙◌, arith}
use Rattle.std.specs.Simd.{first_chunks}
use Rattle.std.proofs.lemmas.List.{get_or-take, get_or-drop}
use Rattle.flow.specs.Records.{call_from}
use Rattle.test_calls.specs.Calls.{call_at}

-- byte j of five number i
five_at : (k : ℕ) (l : List ℕ) (i j : ℕ) (d : List ℕ) → i < k → j < 5 → get_or (get_or (first_chunks 5 k l) i d) j 0 ≡ get_or l (5 * i + j) 0
five_at zero l i j d h g = absurd (omega arith)
five_at (suc k) l zero j d h g = get_or-take 5 l j 0 g ∙ ap (λ (n : ℕ). get_or l n 0) (omega arith)
five_at (suc k) l (suc i) j d h g =
    five_at k (drop 5 l) i j d (omega arith) g ∙ get_or-drop 5 l (5 * i + j) 0 ∙ ap (λ (n : ℕ). get_or l n 0) (omega arith)

-- the call of five number i
pub call_of_five : (l : List ℕ) (k i : ℕ) (five d : List ℕ) → five ≡ get_or (first_chunks 5 k l) i d → i < k
    → call_from (get_or five 0 0) (get_or five 1 0) (get_or five 2 0) (get_or five 3 0) (get_or five 4 0) ≡ call_at l (5 * i)
call_of_five l k i five d e h =
    let at : (j : ℕ) → j < 5 → get_or five j 0 ≡ get_or l (5 * i + j) 0 = λ j g. ap (λ (v : List ℕ). get_or v j 0) e ∙ five_at k l i j d h g in
    let first : get_or five 0 0 ≡ get_or l (5 * i) 0 = at 0 (omega arith) ∙ ap (λ (n : ℕ). get_or l n 0) (omega arith) in
    rw (first, at 1 (omega arith), at 2 (omega arith), at 3 (omega arith), at 4 (omega arith)) refl
