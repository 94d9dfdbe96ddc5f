-- The record at the front reads the same without what follows it, and a log goes record by record.
use Prim.Native.Nat.{ℕ, zero, suc, ◌+◌, ◌*◌, ◌-◌, ◌≤◌, ◌<◌}
use native.Mathlib.Nat.{le_refl}
use native.Mathlib.Omega.{arith}
use mathlib.Core.Path.{◌≡◌, refl, sym, ap, ap₂, ◌∙◌}
use mathlib.Core.Bool.{Bool, true, false}
use mathlib.Core.List.{List, [], ◌∷◌}
use mathlib.Core.Option.{Option, none, some}
use lib.ListN.{length, take, drop, length-drop}
use lib.Seq.{take_all, take-length, drop-length, get_or-take, length-take-le, take-add, drop_at, take-take}
use borrow.Author.Tests.{ltb-false, le-ltb}
use Rattle.flow.specs.Lists.{first_that}
use Rattle.flow.specs.Box.{State}
use Rattle.flow.specs.Records.{byte_at, tag_of, stated_length, record_length, value_of, cut_short, known_tag, wrong_length, frame_tests, content_of, reading_by, reading, records_in, records_of}
use Rattle.flow.specs.Verdicts.{outcome_of, outcome, answer, next, answer_all, run_log}
use Rattle.flow.proofs.Bools.{choice, choices}
use Rattle.records.specs.Reading.{extent_of}
use Rattle.records.proofs.Frames.{framed}

-- ---- the length of the record at the front
pub extent_positive : (bytes : List ℕ) → 0 < length bytes → 1 ≤ extent_of bytes
unfolding extent_of record_length
extent_positive bytes h = choice (λ (e : ℕ). 1 ≤ e) (cut_short bytes) _ _ (λ x. h) (λ x. omega arith)

pub extent_le : (bytes : List ℕ) → extent_of bytes ≤ length bytes
unfolding extent_of cut_short
extent_le bytes = choice (λ (e : ℕ). e ≤ length bytes) (cut_short bytes) _ _ (λ x. le_refl (length bytes)) (λ x. ltb-false (length bytes) (record_length bytes) x)

-- the bytes from a place on, as the code lends them
tail_part : (at : ℕ) (log : List ℕ) → take (length log - at) (drop at log) ≡ drop at log
tail_part at log = take_all (length log - at) (drop at log) (let e : length (drop at log) ≡ length log - at = length-drop at log in omega arith)

-- the record at a place of a log, measured on these bytes, ends within the log
module _ (log : List ℕ) (at e : ℕ) (h : e ≡ extent_of (take (length log - at) (drop at log))) where
  pub tail_extent : e ≡ extent_of (drop at log)
  tail_extent = h ∙ ap extent_of (tail_part at log)

  pub tail_fits : at ≤ length log → at + e ≤ length log
  tail_fits l =
      let z : extent_of (drop at log) ≤ length (drop at log) = extent_le (drop at log) in
      let y : e ≡ extent_of (drop at log) = tail_extent in
      let d : length (drop at log) ≡ length log - at = length-drop at log in
      omega arith

-- ---- the record at the front reads the same without what follows it
-- a reading goes by the tag, the tests of the frame and the value
by_parts : (t b : List ℕ) → tag_of t ≡ tag_of b → cut_short t ≡ cut_short b → wrong_length t ≡ wrong_length b → value_of t ≡ value_of b → reading t ≡ reading b
unfolding reading reading_by frame_tests content_of
by_parts t b e f g h = ap (reading_by t) (framed t _ _ _ f (ap known_tag e) g) ∙ by_test (first_that (frame_tests b))
  where
    by_test : (o : Option ℕ) → reading_by t o ≡ reading_by b o
    by_test (some n) = refl
    by_test none = cc

module _ (bytes : List ℕ) (whole : cut_short bytes ≡ false) where
  front : List ℕ
  front = take (record_length bytes) bytes

  fits : record_length bytes ≤ length bytes
  unfolding cut_short
  fits = ltb-false (length bytes) (record_length bytes) whole

  header : (i : ℕ) → i < 3 → byte_at front i ≡ byte_at bytes i
  unfolding front byte_at record_length
  header i h = get_or-take (record_length bytes) bytes i 0 (omega arith)

  stated : stated_length front ≡ stated_length bytes
  unfolding stated_length
  stated = ap₂ (λ (x y : ℕ). 256 * x + y) (header 1 (omega arith)) (header 2 (omega arith))

  front_whole : cut_short front ≡ false
  unfolding front cut_short record_length
  front_whole = le-ltb (length front) (record_length front) (rw (stated, length-take-le (record_length bytes) bytes fits) (le_refl (record_length bytes)))

  front_value : value_of front ≡ value_of bytes
  unfolding front value_of record_length
  front_value =
      let n : ℕ = stated_length bytes in
      rw (stated, take-add 3 n bytes, drop_at (take 3 bytes) (take n (drop 3 bytes)) 3 (length-take-le 3 bytes (let h : 3 + n ≤ length bytes = fits in omega arith)), take-take n n (drop 3 bytes) (le_refl n))

  reading_front : reading front ≡ reading bytes
  unfolding tag_of wrong_length
  reading_front = by_parts front bytes (header 0 (omega arith)) (front_whole ∙ sym whole) (rw (stated, header 0 (omega arith))) front_value

pub reading_first : (bytes : List ℕ) → reading (take (extent_of bytes) bytes) ≡ reading bytes
unfolding extent_of front
reading_first bytes = choice (λ (e : ℕ). reading (take e bytes) ≡ reading bytes) (cut_short bytes) _ _ (λ x. ap reading (take-length bytes)) (reading_front bytes)

-- what the record at the front gets
pub outcome_first : (s : State) (bytes : List ℕ) → outcome s (take (extent_of bytes) bytes) ≡ outcome s bytes
unfolding outcome
outcome_first s bytes = ap (outcome_of s) (reading_first bytes)

-- ---- a log
-- what follows a whole record is shorter
shorter : (bytes : List ℕ) (n : ℕ) → length bytes ≤ suc n → length (drop (record_length bytes) bytes) ≤ n
unfolding record_length
shorter bytes n l = rw (length-drop (record_length bytes) bytes) (omega arith)

-- a log has no more records than bytes
enough : (n m : ℕ) (bytes : List ℕ) → length bytes ≤ n → length bytes ≤ m → records_in n bytes ≡ records_in m bytes
unfolding records_in
enough zero zero [] h k = refl
enough zero (suc m) [] h k = refl
enough (suc n) zero [] h k = refl
enough (suc n) (suc m) [] h k = refl
enough zero m (b ∷ bs) h k = absurd (let z : ⊥ = omega arith in z)
enough (suc n) zero (b ∷ bs) h k = absurd (let z : ⊥ = omega arith in z)
enough (suc n) (suc m) (b ∷ bs) h k =
    let bytes : List ℕ = b ∷ bs in
    choices (cut_short bytes) _ _ _ _ (λ e. refl)
    (λ e. ap (λ (rs : List (List ℕ)). take (record_length bytes) bytes ∷ rs) (enough n m (drop (record_length bytes) bytes) (shorter bytes n h) (shorter bytes m k)))

-- the records of a log: the one at the front, and those of what follows it
pub records_first : (bytes : List ℕ) → 0 < length bytes → records_of bytes ≡ take (extent_of bytes) bytes ∷ records_of (drop (extent_of bytes) bytes)
unfolding extent_of records_of records_in
records_first [] h = absurd (let z : ⊥ = omega arith in z)
records_first (b ∷ bs) h = go (cut_short bytes)
  where
    bytes : List ℕ
    bytes = b ∷ bs

    go : (x : Bool) → ◌≡◌ {A = List (List ℕ)} (elim x as (λ z. List (List ℕ)) [ true ↦ bytes ∷ [] | false ↦ take (record_length bytes) bytes ∷ records_in (length bs) (drop (record_length bytes) bytes) ])
        (let e = elim x as (λ z. ℕ) [ true ↦ length bytes | false ↦ record_length bytes ] in take e bytes ∷ records_of (drop e bytes))
    go true = rw (take-length (b ∷ bs), drop-length (b ∷ bs))
    go false = ap (λ (rs : List (List ℕ)). take (record_length bytes) bytes ∷ rs) (enough (length bs) _ (drop (record_length bytes) bytes) (shorter bytes (length bs) (le_refl _)) (le_refl _))

-- no record, no answer
pub log_empty : (s : State) → run_log s [] ≡ record { answers = []; state = s }
unfolding run_log records_of records_in answer_all
log_empty s = refl

-- the first record gets its answer, and the rest of the log meets the state after it
pub log_first : (s : State) (bytes : List ℕ) → 0 < length bytes
    → (let first = take (extent_of bytes) bytes in
    let rest = run_log (next s first) (drop (extent_of bytes) bytes) in
    run_log s bytes ≡ record { answers = answer s first ∷ rest.answers; state = rest.state })
unfolding run_log answer_all answer next
log_first s bytes h = ap (answer_all s) (records_first bytes h)
