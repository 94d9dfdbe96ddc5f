-- Document 01, The records: the nineteen calls; map both by 02, Paper 3, mappings counted by Paper 4. A call changes the tables (live
-- processes, mappings, descriptors, names) and moves items.
use Rattle.std.specs.Prelude.{ℕ, suc, ◌-◌, Bool, true, false, not, ◌&&◌, List, ◌++◌, eqb, get_or, take, drop, replicate, set}
use Rattle.sets.specs.Sets.{only, without, ◌∪◌}
use Rattle.flow.specs.Lists.{table}
use Rattle.flow.specs.Box.{container_count, descriptor_count, container_of, slot, closed, Sort, to_read, both_ways, Tables, State, no_mappings, row_of, mappings, descriptor, name}
use Rattle.flow.specs.Links.{reach, given, given_from, is_fed, used}
use Rattle.flow.specs.MapBoth.{in_sequence}

pub data Kind : Type 0 where
  start : Kind
  open_name : Kind
  create : Kind
  pipe : Kind
  device : Kind
  dup : Kind
  close : Kind
  read : Kind
  write : Kind
  truncate : Kind
  map_read : Kind
  map_both : Kind
  unmap : Kind
  unlink : Kind
  rename : Kind
  link : Kind
  fork : Kind
  exit : Kind
  label : Kind

-- the number of a kind
unfoldable pub kind_number : Kind → ℕ
kind_number start = 1
kind_number open_name = 2
kind_number create = 3
kind_number pipe = 4
kind_number device = 5
kind_number dup = 6
kind_number close = 7
kind_number read = 8
kind_number write = 9
kind_number truncate = 10
kind_number map_read = 11
kind_number map_both = 12
kind_number unmap = 13
kind_number unlink = 14
kind_number rename = 15
kind_number link = 16
kind_number fork = 17
kind_number exit = 18
kind_number label = 19

-- the calling process and the fields a, b, c
pub record Call : Type 0 where
  pub kind : Kind
  pub process : ℕ
  pub a : ℕ
  pub b : ℕ
  pub c : ℕ

-- the call is of this kind
unfoldable pub is_kind : Kind → Call → Bool
is_kind k q = eqb (kind_number q.kind) (kind_number k)

-- ---- how items move
pub data Flow : Type 0 where
  still : Flow  -- no item moves
  gift : ℕ → ℕ → Flow  -- what the first container holds is given to the second
  arrival : ℕ → ℕ → Flow  -- the item, second, comes in from outside and is given to the container, first
  exchange : ℕ → ℕ → Flow  -- the second is given what the first holds, then the first what the second then holds
  copy : ℕ → ℕ → Flow  -- the second gets the first's items
  clear : ℕ → Flow  -- the container is emptied

-- ---- the tables with one part changed
unfoldable pub with_live : Tables → ℕ → Tables
with_live t x = record { live = x; reads = t.reads; boths = t.boths; descriptors = t.descriptors; names = t.names }

-- the row of a sort of mapping of process p
unfoldable pub with_row : Tables → Sort → ℕ → List ℕ → Tables
with_row t x p row =
    record {
      live = t.live;
      reads = elim x [ to_read ↦ set t.reads p row | both_ways ↦ t.reads ];
      boths = elim x [ to_read ↦ t.boths | both_ways ↦ set t.boths p row ];
      descriptors = t.descriptors;
      names = t.names;
    }

-- both rows of process p
unfoldable pub with_rows : Tables → ℕ → List ℕ → List ℕ → Tables
with_rows t p reads boths = with_row (with_row t to_read p reads) both_ways p boths

-- one mapping of container c more, and one less
unfoldable pub raised : Tables → Sort → ℕ → ℕ → Tables
raised t x p c = with_row t x p (set (row_of t x p) c (suc (mappings t x p c)))

unfoldable pub lowered : Tables → Sort → ℕ → ℕ → Tables
lowered t x p c = with_row t x p (set (row_of t x p) c (mappings t x p c - 1))

-- the sort that unmap's field b names: 0 for reading, 1 both ways
unfoldable pub sort_of : ℕ → Sort
sort_of b = elim (eqb b 0) [ true ↦ to_read | false ↦ both_ways ]

unfoldable pub with_descriptors : Tables → List ℕ → Tables
with_descriptors t x = record { live = t.live; reads = t.reads; boths = t.boths; descriptors = x; names = t.names }

unfoldable pub with_names : Tables → List ℕ → Tables
with_names t x = record { live = t.live; reads = t.reads; boths = t.boths; descriptors = t.descriptors; names = x }

-- the descriptors with the 32 of process p replaced by these
unfoldable pub put_block : List ℕ → ℕ → List ℕ → List ℕ
put_block l p block = take (slot p 0) l ++ block ++ drop (slot p descriptor_count) l

-- the 32 descriptors of process p
unfoldable pub block : List ℕ → ℕ → List ℕ
block l p = take descriptor_count (drop (slot p 0) l)

-- ---- the table of calls: process p, fields a, b, c
module _ (t : Tables) (p a b c : ℕ) where
  abbrev set_descriptor : ℕ → ℕ → Tables
  set_descriptor d e = with_descriptors t (set t.descriptors (slot p d) e)

  abbrev to : ℕ
  to = descriptor t p a

  -- Live processes, mappings, descriptors and names after the call. A closed descriptor ends no mapping. Each map call is one mapping more
  -- of its sort, and each unmap one less of the sort that it names; a fork copies the counts and an exit clears them (02, Paper 4).
  unfoldable pub tables_by : Kind → Tables
  tables_by start = with_live t (t.live ∪ only p)
  tables_by open_name = set_descriptor b (name t a)
  tables_by create = with_names (set_descriptor b c) (set t.names a c)
  tables_by pipe = with_descriptors t (set (set t.descriptors (slot p a) c) (slot p b) c)
  tables_by device = set_descriptor a b
  tables_by dup = set_descriptor b to
  tables_by close = set_descriptor a closed
  tables_by read = t
  tables_by write = t
  tables_by truncate = t
  tables_by map_read = raised t to_read p to
  tables_by map_both = raised t both_ways p to
  tables_by unmap = lowered t (sort_of b) p a
  tables_by unlink = with_names t (set t.names a closed)
  tables_by rename = with_names t (set (set t.names a closed) b (name t a))
  tables_by link = with_names t (set t.names b (name t a))
  tables_by fork =
      with_descriptors (with_live (with_rows t a (row_of t to_read p) (row_of t both_ways p)) (t.live ∪ only a)) (put_block t.descriptors a (block t.descriptors p))
  tables_by exit =
      with_descriptors (with_live (with_rows t p no_mappings no_mappings) (without t.live p)) (put_block t.descriptors p (replicate descriptor_count closed))
  tables_by label = t

  -- the items that move
  unfoldable pub flow_by : Kind → Flow
  flow_by start = clear (container_of p)
  flow_by open_name = still
  flow_by create = clear c
  flow_by pipe = clear c
  flow_by device = still
  flow_by dup = still
  flow_by close = still
  flow_by read = gift to (container_of p)
  flow_by write = gift (container_of p) to
  flow_by truncate = elim (is_fed t to) [ true ↦ still | false ↦ clear to ]
  flow_by map_read = gift to (container_of p)
  flow_by map_both = exchange to (container_of p)
  flow_by unmap = still
  flow_by unlink = still
  flow_by rename = still
  flow_by link = still
  flow_by fork = copy (container_of p) (container_of a)
  flow_by exit = clear (container_of p)
  flow_by label = arrival a b

-- ---- the change that a call makes: the tables after it, and how items move. It cannot touch rules, nor items but by its flow
pub record Change : Type 0 where
  pub tables : Tables
  pub flow : Flow

unfoldable pub change : Tables → Call → Change
change t q = record { tables = tables_by t q.process q.a q.b q.c q.kind; flow = flow_by t q.process q.a q.b q.c q.kind }

-- the items after they moved; reach goes by the links before the call
unfoldable pub moved : Tables → List ℕ → Flow → List ℕ
moved t items still = items
moved t items (gift g u) = given_from t items g u
moved t items (arrival u i) = given items (reach t u) (only i)
moved t items (exchange u v) = in_sequence t items u v
moved t items (copy u v) = table container_count (λ x. elim (eqb x v) [ true ↦ get_or items u 0 | false ↦ get_or items x 0 ])
moved t items (clear u) = table container_count (λ x. elim (eqb x u) [ true ↦ 0 | false ↦ get_or items x 0 ])

-- the use of container c ends: it was in use by the tables t before, and isn't by those after
unfoldable pub ended : Tables → Tables → ℕ → Bool
ended t after c = used t c && not (used after c)

-- the items after a change; what it ends the use of is emptied, in the same call
unfoldable pub items_after : Tables → List ℕ → Change → List ℕ
items_after t items x = table container_count (λ c. elim (ended t x.tables c) [ true ↦ 0 | false ↦ get_or (moved t items x.flow) c 0 ])

-- the state after a change
unfoldable pub after : State → Change → State
after s x = record { tables = x.tables; items = items_after s.tables s.items x; rules = s.rules }
