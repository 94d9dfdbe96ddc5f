-- Document 01, The records: a record as bytes, the call or the rule in it, and a log as a row of records.
use Rattle.std.specs.Prelude.{ℕ, zero, suc, ◌+◌, ◌*◌, Bool, true, false, not, ◌||◌, List, [], ◌∷◌, ltb, eqb, get_or, length, take, drop}
use Rattle.std.proofs.Math.Option.{Option, none, some}
use Rattle.flow.specs.Lists.{Test, ◌⇒◌, first_that}
use Rattle.flow.specs.Box.{Condition, forbid, separate, confine, Rule}
use Rattle.flow.specs.Calls.{Kind, start, open_name, create, pipe, device, dup, close, read, write, truncate, map_read, map_both, unmap, unlink, rename, link, fork, exit, label, Call}

-- ---- one tag byte, a two-byte length (high byte first), the value. The record stands at the front of the bytes
unfoldable pub byte_at : List ℕ → ℕ → ℕ
byte_at bytes i = get_or bytes i 0

unfoldable pub tag_of : List ℕ → ℕ
tag_of bytes = byte_at bytes 0

-- the length that the header states
unfoldable pub stated_length : List ℕ → ℕ
stated_length bytes = 256 * byte_at bytes 1 + byte_at bytes 2

unfoldable pub record_length : List ℕ → ℕ
record_length bytes = 3 + stated_length bytes

unfoldable pub value_of : List ℕ → List ℕ
value_of bytes = take (stated_length bytes) (drop 3 bytes)

-- header or value runs past the end
unfoldable pub cut_short : List ℕ → Bool
cut_short bytes = ltb (length bytes) (record_length bytes)

abbrev pub call_tag : ℕ
call_tag = 0x10

abbrev pub forbid_tag : ℕ
forbid_tag = 0x11

abbrev pub separate_tag : ℕ
separate_tag = 0x12

abbrev pub confine_tag : ℕ
confine_tag = 0x13

-- 10 to 13 hex
unfoldable pub known_tag : ℕ → Bool
known_tag t = eqb t call_tag || eqb t forbid_tag || eqb t separate_tag || eqb t confine_tag

-- the length of a known tag's value
unfoldable pub tag_length : ℕ → ℕ
tag_length t = elim (eqb t call_tag) [ true ↦ 5 | false ↦ elim (eqb t separate_tag) [ true ↦ 4 | false ↦ 11 ] ]

-- not the tag's length
unfoldable pub wrong_length : List ℕ → Bool
wrong_length bytes = not (eqb (stated_length bytes) (tag_length (tag_of bytes)))

-- ---- a call: kind, process, a, b, c, a byte each
-- kinds by their number, from 0
unfoldable pub kinds : List (Option Kind)
kinds =
    none
    ∷ some start
    ∷ some open_name
    ∷ some create
    ∷ some pipe
    ∷ some device
    ∷ some dup
    ∷ some close
    ∷ some read
    ∷ some write
    ∷ some truncate
    ∷ some map_read
    ∷ some map_both
    ∷ some unmap
    ∷ some unlink
    ∷ some rename
    ∷ some link
    ∷ some fork
    ∷ some exit
    ∷ some label
    ∷ []

unfoldable pub kind_of : ℕ → Option Kind
kind_of n = get_or kinds n none

-- a call of this kind: process, a, b, c
unfoldable pub call_by : Option Kind → ℕ → ℕ → ℕ → ℕ → Option Call
call_by none p a b c = none
call_by (some k) p a b c = some (record { kind = k; process = p; a = a; b = b; c = c })

-- the call of five bytes, if its kind is known
unfoldable pub call_from : ℕ → ℕ → ℕ → ℕ → ℕ → Option Call
call_from kind p a b c = call_by (kind_of kind) p a b c

unfoldable pub call_in : List ℕ → Option Call
call_in v = call_from (byte_at v 0) (byte_at v 1) (byte_at v 2) (byte_at v 3) (byte_at v 4)

-- ---- a rule
-- the condition of a rule's tag, with its item and the container set; tag 12 hex has its second item in place of a set
unfoldable pub condition_of : ℕ → ℕ → ℕ → Condition
condition_of tag i x =
    elim (eqb tag forbid_tag) [
      | true ↦ forbid i x
      | false ↦ elim (eqb tag separate_tag) [ true ↦ separate i x | false ↦ confine i x ]
    ]

-- the number of these bytes, high byte first, where the bytes before them make n
unfoldable pub number_from : ℕ → List ℕ → ℕ
number_from n [] = n
number_from n (b ∷ bs) = number_from (256 * n + b) bs

-- item, eight bytes of a container set
unfoldable pub set_in : List ℕ → ℕ
set_in v = number_from 0 (take 8 (drop 1 v))

-- action and substitute stand at n
unfoldable pub rule_with : Condition → List ℕ → ℕ → Rule
rule_with condition v n = record { condition = condition; action = byte_at v n; substitute = byte_at v (suc n) }

-- the rule in a value with a rule's tag
unfoldable pub rule_in : ℕ → List ℕ → Rule
rule_in tag v =
    elim (eqb tag separate_tag) [
      | true ↦ rule_with (condition_of tag (byte_at v 0) (byte_at v 1)) v 2
      | false ↦ rule_with (condition_of tag (byte_at v 0) (set_in v)) v 9
    ]

-- ---- what stands at the front of the bytes
pub data Reading : Type 0 where
  unreadable : ℕ → Reading  -- refused with 1, 2 or 3
  a_call : Option Call → Reading  -- none where its kind is unknown
  a_rule : Rule → Reading

-- 1: header or value runs past the end. 2: unknown tag. 3: not the tag's length
unfoldable pub frame_tests : List ℕ → List Test
frame_tests bytes = (cut_short bytes ⇒ 1) ∷ (not (known_tag (tag_of bytes)) ⇒ 2) ∷ (wrong_length bytes ⇒ 3) ∷ []

-- by the tag
unfoldable pub content_of : List ℕ → Reading
content_of bytes = elim (eqb (tag_of bytes) call_tag) [ true ↦ a_call (call_in (value_of bytes)) | false ↦ a_rule (rule_in (tag_of bytes) (value_of bytes)) ]

unfoldable pub reading_by : List ℕ → Option ℕ → Reading
reading_by bytes (some n) = unreadable n
reading_by bytes none = content_of bytes

unfoldable pub reading : List ℕ → Reading
reading bytes = reading_by bytes (first_that (frame_tests bytes))

-- the call that was read
unfoldable pub call_read : Reading → Option Call
call_read (unreadable n) = none
call_read (a_call q) = q
call_read (a_rule r) = none

unfoldable pub call_of : List ℕ → Option Call
call_of bytes = call_read (reading bytes)

-- ---- a log: the records in it, each as its bytes, at most n. Only one that is cut short is the last: after any other refusal reading goes on
unfoldable pub records_in : ℕ → List ℕ → List (List ℕ)
records_in zero bytes = []
records_in (suc n) [] = []
records_in (suc n) (b ∷ bs) =
    let bytes = b ∷ bs in
    elim (cut_short bytes) [ true ↦ bytes ∷ [] | false ↦ take (record_length bytes) bytes ∷ records_in n (drop (record_length bytes) bytes) ]

-- a record is at least three bytes long
unfoldable pub records_of : List ℕ → List (List ℕ)
records_of log = records_in (length log) log
