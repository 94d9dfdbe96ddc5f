-- Document 01, What a record gets: the table of refusals. For each kind of record one list of tests, of which the first that holds decides
-- (02, Paper 2: the earliest place, not the lowest number). Paper 4: 16 by the named sort of mapping, and 17.
use Rattle.std.specs.Prelude.{ℕ, Bool, true, false, not, ◌&&◌, ◌||◌, List, [], ◌∷◌, ◌++◌, ltb, leb, eqb, length}
use Rattle.std.proofs.Math.Option.{Option, none, some}
use Rattle.flow.specs.Lists.{Test, ◌⇒◌, first_that}
use Rattle.flow.specs.Box.{container_count, device_count, process_count, item_count, name_count, descriptor_count, rule_count, is_device, is_file, is_target, mapping_limit, to_read, both_ways, Condition, forbid, separate, confine, Rule, Tables, State, is_live, mappings, descriptor, is_open, is_bound}
use Rattle.flow.specs.Links.{used}
use Rattle.flow.specs.Calls.{Kind, start, open_name, create, pipe, device, dup, close, read, write, truncate, map_read, map_both, unmap, unlink, rename, link, fork, exit, label, Call, is_kind, sort_of}
use Rattle.flow.specs.Rules.{broken}
use Rattle.flow.specs.Records.{Reading, unreadable, a_call, a_rule, frame_tests, content_of}

-- ---- 5: the ranges of the fields
pub data Range : Type 0 where
  a_process : Range
  a_name : Range
  a_descriptor : Range
  a_container : Range
  a_device : Range
  a_file : Range
  an_item : Range
  a_sort : Range  -- of mapping: 0 for reading, 1 both ways (02, Paper 4)
  unused : Range  -- a field that the kind doesn't use must be 0

unfoldable pub in_range : Range → ℕ → Bool
in_range a_process x = ltb x process_count
in_range a_name x = ltb x name_count
in_range a_descriptor x = ltb x descriptor_count
in_range a_container x = ltb x container_count
in_range a_device x = ltb x device_count
in_range a_file x = is_file x
in_range an_item x = ltb x item_count
in_range a_sort x = ltb x 2
in_range unused x = eqb x 0

-- of the process field and the fields a, b, c
pub record Ranges : Type 0 where
  pub process : Range
  pub a : Range
  pub b : Range
  pub c : Range

abbrev row : Range → Range → Range → Range → Ranges
row p a b c = record { process = p; a = a; b = b; c = c }

unfoldable pub ranges : Kind → Ranges
ranges start = row a_process unused unused unused
ranges open_name = row a_process a_name a_descriptor unused
ranges create = row a_process a_name a_descriptor a_file
ranges pipe = row a_process a_descriptor a_descriptor a_file
ranges device = row a_process a_descriptor a_device unused
ranges dup = row a_process a_descriptor a_descriptor unused
ranges close = row a_process a_descriptor unused unused
ranges read = row a_process a_descriptor unused unused
ranges write = row a_process a_descriptor unused unused
ranges truncate = row a_process a_descriptor unused unused
ranges map_read = row a_process a_descriptor unused unused
ranges map_both = row a_process a_descriptor unused unused
ranges unmap = row a_process a_container a_sort unused
ranges unlink = row a_process a_name unused unused
ranges rename = row a_process a_name a_name unused
ranges link = row a_process a_name a_name unused
ranges fork = row a_process a_process unused unused
ranges exit = row a_process unused unused unused
ranges label = row unused a_container an_item unused

unfoldable pub fields_fit : Ranges → Call → Bool
fields_fit r q = in_range r.process q.process && in_range r.a q.a && in_range r.b q.b && in_range r.c q.c

-- ---- 6 to 10, 14 to 16 in the place of 8, and 17 after 10: the tables before the call, process p, fields a, b, c
-- 6: the calling process isn't live (not for start, label)
unfoldable pub dead : Tables → Call → Bool
dead t q = not (is_kind start q || is_kind label q) && not (is_live t q.process)

module _ (t : Tables) (p a b c : ℕ) where
  -- 7: process to start or fork live, descriptor to open in use, name to create or link's b bound, new container in use
  unfoldable pub taken : Kind → Bool
  taken start = is_live t p
  taken open_name = is_open t p b
  taken create = is_bound t a || is_open t p b || used t c
  taken pipe = is_open t p a || is_open t p b || used t c
  taken device = is_open t p a
  taken dup = is_open t p b
  taken close = false
  taken read = false
  taken write = false
  taken truncate = false
  taken map_read = false
  taken map_both = false
  taken unmap = false
  taken unlink = false
  taken rename = false
  taken link = is_bound t b
  taken fork = is_live t a
  taken exit = false
  taken label = false

-- what a call must find
pub data Need : Type 0 where
  no_need : Need
  open_descriptor : Need  -- descriptor a
  bound_name : Need  -- name a
  a_mapping : Need  -- of container a, of the sort that field b names
  used_container : Need  -- container a

unfoldable pub need_of : Kind → Need
need_of start = no_need
need_of open_name = bound_name
need_of create = no_need
need_of pipe = no_need
need_of device = no_need
need_of dup = open_descriptor
need_of close = open_descriptor
need_of read = open_descriptor
need_of write = open_descriptor
need_of truncate = open_descriptor
need_of map_read = open_descriptor
need_of map_both = open_descriptor
need_of unmap = a_mapping
need_of unlink = bound_name
need_of rename = bound_name
need_of link = bound_name
need_of fork = no_need
need_of exit = no_need
need_of label = used_container

-- 02, Paper 2, all in the place of 8: 14 descriptor closed, 15 name unbound, 8 container to label not in use; Paper 4: 16 the named sort's
-- count is 0
unfoldable pub missing : Tables → ℕ → ℕ → ℕ → Need → Test
missing t p a b no_need = none
missing t p a b open_descriptor = not (is_open t p a) ⇒ 14
missing t p a b bound_name = not (is_bound t a) ⇒ 15
missing t p a b a_mapping = eqb (mappings t (sort_of b) p a) 0 ⇒ 16
missing t p a b used_container = not (used t a) ⇒ 8

-- 9: pipe's two descriptors equal
unfoldable pub same_descriptors : Call → Bool
same_descriptors q = is_kind pipe q && eqb q.a q.b

-- 10: truncate of a device
unfoldable pub no_file : Tables → Call → Bool
no_file t q = is_kind truncate q && is_device (descriptor t q.process q.a)

-- 17: the count that would rise is at 255, of the container that descriptor a leads to (02, Paper 4)
unfoldable pub full : Tables → Call → Bool
full t q =
    let c = descriptor t q.process q.a in
    (is_kind map_read q && leb mapping_limit (mappings t to_read q.process c)) || (is_kind map_both q && leb mapping_limit (mappings t both_ways q.process c))

-- ---- the tests of a call; 4 where its kind is unknown
unfoldable pub call_tests : Tables → Option Call → List Test
call_tests t none = some 4 ∷ []
call_tests t (some q) =
    (not (fields_fit (ranges q.kind) q) ⇒ 5)
    ∷ (dead t q ⇒ 6)
    ∷ (taken t q.process q.a q.b q.c q.kind ⇒ 7)
    ∷ missing t q.process q.a q.b (need_of q.kind)
    ∷ (same_descriptors q ⇒ 9)
    ∷ (no_file t q ⇒ 10)
    ∷ (full t q ⇒ 17)
    ∷ []

-- ---- the tests of a rule
unfoldable pub items_fit : Condition → Bool
items_fit (forbid i x) = ltb i item_count
items_fit (separate i j) = ltb i item_count && ltb j item_count
items_fit (confine i x) = ltb i item_count

-- under action 0 the substitute is 0, under action 1 it is 0 to 7 or 24 to 63
unfoldable pub substitute_fits : Rule → Bool
substitute_fits r = elim (eqb r.action 0) [ true ↦ eqb r.substitute 0 | false ↦ is_target r.substitute ]

unfoldable pub same_items : Condition → Bool
same_items (forbid i x) = false
same_items (separate i j) = eqb i j
same_items (confine i x) = false

-- those that go by its fields alone
unfoldable pub field_tests : Rule → List Test
field_tests r =
    (not (ltb r.action 2) ⇒ 4) ∷ (not (items_fit r.condition && substitute_fits r) ⇒ 5) ∷ (same_items r.condition ⇒ 9) ∷ []

-- 11 where 32 rules are held, 12 where the present state breaks it
unfoldable pub rule_tests : State → Rule → List Test
rule_tests s r = field_tests r ++ ((leb rule_count (length s.rules) ⇒ 11) ∷ (broken s r ⇒ 12) ∷ [])

-- ---- the tests of any record
unfoldable pub tests_of : State → Reading → List Test
tests_of s (unreadable n) = some n ∷ []
tests_of s (a_call q) = call_tests s.tables q
tests_of s (a_rule r) = rule_tests s r

unfoldable pub record_tests : State → List ℕ → List Test
record_tests s bytes = frame_tests bytes ++ tests_of s (content_of bytes)

unfoldable pub refusal : State → List ℕ → Option ℕ
refusal s bytes = first_that (record_tests s bytes)
