-- What a record's bytes read as, once its frame is known: by its tag, field by field.
use Prim.Native.Nat.{ℕ, zero, suc, ◌+◌, ◌≤◌}
use native.Mathlib.Omega.{arith}
use mathlib.Core.Path.{◌≡◌, refl, sym, ap, ◌∙◌}
use mathlib.Core.Bool.{Bool, false, not}
use mathlib.Core.List.{List, [], ◌∷◌}
use mathlib.Core.Option.{none, some}
use lib.Dec.{eqb}
use lib.ListN.{get_or, length, take, drop}
use lib.Seq.{drop-cons}
use borrow.Author.Tests.{ltb-false, not-false, eqb-true}
use Rattle.flow.specs.Lists.{table_from, ◌⇒◌, first_that}
use Rattle.flow.specs.Box.{forbid, separate, confine}
use Rattle.flow.specs.Records.{byte_at, tag_of, call_tag, forbid_tag, separate_tag, confine_tag, stated_length, record_length, value_of, cut_short, known_tag, tag_length, wrong_length, call_from, call_in, condition_of, number_from, set_in, rule_with, rule_in, unreadable, a_call, a_rule, frame_tests, content_of, reading_by, reading}
use Rattle.records.specs.Reading.{header_tests}
use Rattle.flow.proofs.TableLaws.{AllNone, all_none, untrue}

-- the three tests, each by its value
pub framed : (bytes : List ℕ) (x y z : Bool) → cut_short bytes ≡ x → known_tag (tag_of bytes) ≡ y → wrong_length bytes ≡ z
    → first_that (frame_tests bytes) ≡ first_that ((x ⇒ 1) ∷ (not y ⇒ 2) ∷ (z ⇒ 3) ∷ [])
unfolding frame_tests
framed bytes x y z e f g = rw (e, f, g)

-- the two of tag and length, each by its value
pub measured : (tag stated wanted : ℕ) (y z : Bool) → known_tag tag ≡ y → wanted ≡ tag_length tag → eqb stated wanted ≡ z
    → first_that (header_tests tag stated) ≡ first_that ((not y ⇒ 2) ∷ (not z ⇒ 3) ∷ [])
measured tag stated wanted y z e f g = rw (e, ← f, g)

-- the tests of a record that isn't cut short
pub uncut : (bytes : List ℕ) (tag stated : ℕ) → cut_short bytes ≡ false → tag ≡ tag_of bytes → stated ≡ stated_length bytes
    → first_that (header_tests tag stated) ≡ first_that (frame_tests bytes)
unfolding frame_tests wrong_length first_that ◌⇒◌
uncut bytes tag stated e f g = rw (f, g, e)

-- n elements of a list, from k on
part : (n k : ℕ) (l : List ℕ) → k + n ≤ length l → take n (drop k l) ≡ table_from n k (byte_at l)
unfolding table_from byte_at
part zero k l h = refl
part (suc n) k l h = rw (drop-cons l k 0 (omega arith)) (ap (λ (t : List ℕ). get_or l k 0 ∷ t) (part n (suc k) l (omega arith)))

-- a refusal's number is read as that refusal
pub unread : (bytes : List ℕ) (n : ℕ) → some n ≡ first_that (frame_tests bytes) → unreadable n ≡ reading bytes
unfolding reading reading_by
unread bytes n e = rw (← e)

-- ---- a record that none of the three tests refuses
module _ (bytes : List ℕ) (whole : first_that (frame_tests bytes) ≡ none) where
  -- it isn't cut short, and its length is its tag's
  frame : (cut_short bytes ≡ false) × (wrong_length bytes ≡ false)
  unfolding frame_tests AllNone
  frame = let h = all_none (frame_tests bytes) whole in (untrue _ 1 h.0, untrue _ 3 h.1.1.0)

  -- its value is there
  pub fits : 3 + tag_length (tag_of bytes) ≤ length bytes
  unfolding wrong_length cut_short record_length
  fits =
      let stated : stated_length bytes ≡ tag_length (tag_of bytes) = eqb-true _ _ (not-false _ frame.1) in
      let there : 3 + stated_length bytes ≤ length bytes = ltb-false _ _ frame.0 in
      omega arith

  -- its value is the bytes after the header
  value : (n : ℕ) → n ≡ tag_length (tag_of bytes) → value_of bytes ≡ table_from n 3 (byte_at bytes)
  unfolding wrong_length value_of cut_short record_length
  value n e =
      let stated : stated_length bytes ≡ n = eqb-true _ _ (not-false _ frame.1) ∙ sym e in
      let fits : 3 + stated_length bytes ≤ length bytes = ltb-false _ _ frame.0 in
      rw stated (part n 3 bytes (omega arith))

  pub call_read_lem : tag_of bytes ≡ call_tag → reading bytes ≡ a_call (call_from (byte_at bytes 3) (byte_at bytes 4) (byte_at bytes 5) (byte_at bytes 6) (byte_at bytes 7))
  unfolding reading reading_by content_of call_in table_from tag_length byte_at
  call_read_lem e = rw (whole, content_of, e, value 5 (rw e))

  pub forbid_read : tag_of bytes ≡ forbid_tag
      → reading bytes ≡ a_rule (record { condition = forbid (byte_at bytes 3) (number_from 0 (table_from 8 4 (byte_at bytes))); action = byte_at bytes 12; substitute = byte_at bytes 13 })
  unfolding reading reading_by content_of rule_in condition_of set_in rule_with table_from tag_length byte_at
  forbid_read e = rw (whole, content_of, e, value 11 (rw e), e)

  pub separate_read : tag_of bytes ≡ separate_tag
      → reading bytes ≡ a_rule (record { condition = separate (byte_at bytes 3) (byte_at bytes 4); action = byte_at bytes 5; substitute = byte_at bytes 6 })
  unfolding reading reading_by content_of rule_in condition_of rule_with table_from tag_length byte_at
  separate_read e = rw (whole, content_of, e, value 4 (rw e), e)

  pub confine_read : tag_of bytes ≡ confine_tag
      → reading bytes ≡ a_rule (record { condition = confine (byte_at bytes 3) (number_from 0 (table_from 8 4 (byte_at bytes))); action = byte_at bytes 12; substitute = byte_at bytes 13 })
  unfolding reading reading_by content_of rule_in condition_of set_in rule_with table_from tag_length byte_at
  confine_read e = rw (whole, content_of, e, value 11 (rw e), e)
