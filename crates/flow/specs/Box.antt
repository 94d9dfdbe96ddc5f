-- Document 01, The box: the numbers and their limits, the state, the fresh state, and looking things up in it. 02, Paper 4: mappings counted.
use Rattle.std.specs.Prelude.{ℕ, ◌+◌, ◌*◌, Bool, ◌&&◌, ◌||◌, List, [], ◌∷◌, ltb, leb, get_or, replicate}
use Rattle.sets.specs.Sets.{has, bit, ◌∪◌}

-- ---- the limits
abbrev pub container_count : ℕ
container_count = 64

-- containers 0 to 7 are devices: 0 the network, 1 the front panel, 2 the radio, 3 the service port, 4 to 7 spare
abbrev pub device_count : ℕ
device_count = 8

-- containers 8 to 23 are the processes 0 to 15
abbrev pub first_process : ℕ
first_process = 8

abbrev pub process_count : ℕ
process_count = 16

-- containers 24 to 63 are files and pipes
abbrev pub first_file : ℕ
first_file = 24

abbrev pub item_count : ℕ
item_count = 64

abbrev pub name_count : ℕ
name_count = 128

-- the descriptors of each process
abbrev pub descriptor_count : ℕ
descriptor_count = 32

-- mappings of each sort that a process may have of a container (02, Paper 4)
abbrev pub mapping_limit : ℕ
mapping_limit = 255

-- rules have the numbers 0 to 31 (01, The records)
abbrev pub rule_count : ℕ
rule_count = 32

-- the greatest length of a log that the program reads (01, Runs to check, B)
abbrev pub log_limit : ℕ
log_limit = 65536

-- ---- the kinds of container
unfoldable pub is_device : ℕ → Bool
is_device c = ltb c device_count

unfoldable pub is_process : ℕ → Bool
is_process c = leb first_process c && ltb c first_file

-- a file or a pipe
unfoldable pub is_file : ℕ → Bool
is_file c = leb first_file c && ltb c container_count

-- a device, a file or a pipe: what a descriptor, a name, a mapping or a diverted write leads to
unfoldable pub is_target : ℕ → Bool
is_target c = is_device c || is_file c

-- process p is container 8 + p
abbrev pub container_of : ℕ → ℕ
container_of p = first_process + p

-- ---- the sorts of mapping (02, Paper 4): for reading, and both ways
pub data Sort : Type 0 where
  to_read : Sort
  both_ways : Sort

-- ---- rules (01, The records): an item is a number, a set of containers too
pub data Condition : Type 0 where
  forbid : ℕ → ℕ → Condition  -- tag 11 hex: the item may be in no container of the set
  separate : ℕ → ℕ → Condition  -- tag 12 hex: no container may hold both items
  confine : ℕ → ℕ → Condition  -- tag 13 hex: the item may be in no container outside the set

-- action 0 inhibits, 1 diverts to the substitute
pub record Rule : Type 0 where
  pub condition : Condition
  pub action : ℕ
  pub substitute : ℕ

-- ---- the state
-- What calls set. live: the set of live processes. reads, boths: for each process a row of counts: how many mappings for reading, and both
-- ways, it has of each container (the alias map; 02, Paper 4). descriptors: 32 for each process; names: 128. An entry is the container that it
-- leads to (the naming maps).
pub record Tables : Type 0 where
  pub live : ℕ
  pub reads : List (List ℕ)
  pub boths : List (List ℕ)
  pub descriptors : List ℕ
  pub names : List ℕ

-- items: for each container the set of its items (the storage map). rules: those loaded, number 0 first.
pub record State : Type 0 where
  pub tables : Tables
  pub items : List ℕ
  pub rules : List Rule

-- the mark of a closed descriptor and of an unbound name
abbrev pub closed : ℕ
closed = 255

-- a row of no mappings
unfoldable pub no_mappings : List ℕ
no_mappings = replicate container_count 0

-- no live process and no mappings; every descriptor closed, every name unbound
unfoldable pub no_tables : Tables
no_tables =
    record {
      live = 0;
      reads = replicate process_count no_mappings;
      boths = replicate process_count no_mappings;
      descriptors = replicate (process_count * descriptor_count) closed;
      names = replicate name_count closed;
    }

-- and no items anywhere, no rules
unfoldable pub fresh : State
fresh = record { tables = no_tables; items = replicate container_count 0; rules = [] }

-- ---- looking things up
-- the items of container c
unfoldable pub items_of : State → ℕ → ℕ
items_of s c = get_or s.items c 0

-- container c holds item i
unfoldable pub holds : State → ℕ → ℕ → Bool
holds s c i = has (items_of s c) i

unfoldable pub is_live : Tables → ℕ → Bool
is_live t p = has t.live p

-- the row of a sort of mapping of process p
unfoldable pub row_of : Tables → Sort → ℕ → List ℕ
row_of t to_read p = get_or t.reads p []
row_of t both_ways p = get_or t.boths p []

-- how many mappings of a sort process p has of container c
unfoldable pub mappings : Tables → Sort → ℕ → ℕ → ℕ
mappings t x p c = get_or (row_of t x p) c 0

-- the containers whose count in a row is above 0
unfoldable pub mapped_in : List ℕ → ℕ
mapped_in [] = 0
mapped_in (n ∷ row) = bit (ltb 0 n) + 2 * mapped_in row

-- 02, Paper 4: the containers that feed process p, while either count is above 0, and those that it feeds, while the two-way count is
unfoldable pub feeders_of : Tables → ℕ → ℕ
feeders_of t p = mapped_in (row_of t to_read p) ∪ mapped_in (row_of t both_ways p)

unfoldable pub feeds : Tables → ℕ → ℕ
feeds t p = mapped_in (row_of t both_ways p)

-- the place of descriptor d of process p
abbrev pub slot : ℕ → ℕ → ℕ
slot p d = descriptor_count * p + d

-- where descriptor d of process p leads, and name n
unfoldable pub descriptor : Tables → ℕ → ℕ → ℕ
descriptor t p d = get_or t.descriptors (slot p d) closed

unfoldable pub name : Tables → ℕ → ℕ
name t n = get_or t.names n closed

-- an entry that leads to no device, file or pipe counts as closed or unbound
unfoldable pub is_open : Tables → ℕ → ℕ → Bool
is_open t p d = is_target (descriptor t p d)

unfoldable pub is_bound : Tables → ℕ → Bool
is_bound t n = is_target (name t n)
