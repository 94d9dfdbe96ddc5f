-- A log is the row of its records.
use Prim.Native.Nat.{ℕ, zero, suc, ◌+◌, ◌*◌, ◌≤◌, ◌<◌}
use native.Mathlib.Omega.{arith}
use mathlib.Core.Path.{◌≡◌, sym, ap₂, ◌∙◌}
use mathlib.Core.Bool.{true, false}
use mathlib.Core.List.{List, [], ◌∷◌}
use lib.ListN.{length, take, drop, take-append-drop, length-drop}
use lib.Seq.{get_or-take, length-take-le}
use borrow.Author.Tests.{ltb-true, ltb-false}
use Rattle.flow.specs.Records.{byte_at, stated_length, record_length, cut_short, records_in, records_of}
use Rattle.flow.specs.Consequences.{RowOf, nothing, cut, whole, LogIsRow}
use Rattle.flow.proofs.Bools.{choice}

-- the header of a record's own bytes says what the log's bytes say
taken_length : (bytes : List ℕ) (n : ℕ) → 3 ≤ n → record_length (take n bytes) ≡ record_length bytes
unfolding record_length stated_length byte_at
taken_length bytes n h = ap₂ (λ (x y : ℕ). 3 + (256 * x + y)) (get_or-take n bytes 1 0 (omega arith)) (get_or-take n bytes 2 0 (omega arith))

header : (bytes : List ℕ) → 3 ≤ record_length bytes
unfolding record_length
header bytes = omega arith

front_whole : (bytes : List ℕ) → cut_short bytes ≡ false → length (take (record_length bytes) bytes) ≡ record_length (take (record_length bytes) bytes)
unfolding cut_short
front_whole bytes e =
    let l : record_length bytes ≤ length bytes = ltb-false (length bytes) (record_length bytes) e in
    length-take-le (record_length bytes) bytes l ∙ sym (taken_length bytes (record_length bytes) (header bytes))

short : (bytes : List ℕ) → cut_short bytes ≡ true → length bytes < record_length bytes
unfolding cut_short
short bytes e = ltb-true (length bytes) (record_length bytes) e

shorter : (bytes : List ℕ) (n : ℕ) → length bytes ≤ suc n → length (drop (record_length bytes) bytes) ≤ n
shorter bytes n l = rw (length-drop (record_length bytes) bytes) (let h : 3 ≤ record_length bytes = header bytes in omega arith)

row : (n : ℕ) (bytes : List ℕ) → length bytes ≤ n → RowOf bytes (records_in n bytes)
unfolding records_in
row zero [] l = nothing
row zero (b ∷ bs) l = absurd (let z : ⊥ = omega arith in z)
row (suc n) [] l = nothing
row (suc n) (b ∷ bs) l =
    let bytes : List ℕ = b ∷ bs in
    let size : ℕ = record_length bytes in
    choice (RowOf bytes) (cut_short bytes) _ _
    (λ e. cut (short bytes e))
    (λ e. rw (take-append-drop size bytes) at (whole (front_whole bytes e) (row n (drop size bytes) (shorter bytes n l))))

pub log_is_row : LogIsRow
unfolding LogIsRow records_of
log_is_row log = row (length log) log (omega arith)
