-- How three lent arrays stand for the maps of document 01, The box: the storage map, the alias map (02, Paper 4) and the naming maps.
use Rattle.std.specs.Prelude.{ℕ, zero, suc, ◌+◌, ◌-◌, ◌*◌, ◌/◌, ◌%◌, ◌^◌, Bool, true, false, ◌≡◌, List, [], ◌∷◌, ltb, eqb, get_or, take, drop}
use Rattle.std.specs.Borrow.{Bor}
use denote.Triple.Both.{Both}
use Rattle.sets.specs.Sets.{has, only, ◌∪◌, ◌∩◌}
use Rattle.flow.specs.Lists.{table}
use Rattle.flow.specs.Box.{container_count, process_count, is_file, Tables}
use Rattle.flow.specs.Links.{given}
use Rattle.flow.specs.Calls.{Change, items_after}
use Rattle.flow.specs.Gained.{gained}
use Rattle.store.specs.declared.Plan.{Plan}

-- a state but for its rules
pub record Maps : Type 0 where
  pub tables : Tables
  pub items : List ℕ

abbrev pub with_tables : Maps → Tables → Maps
with_tables m t = record { tables = t; items = m.items }

abbrev pub with_items : Maps → List ℕ → Maps
with_items m l = record { tables = m.tables; items = l }

-- the maps after a change
abbrev pub changed : Maps → Change → Maps
changed m x = record { tables = x.tables; items = items_after m.tables m.items x }

-- ---- the layout
-- n elements from a on
unfoldable pub part : ℕ → ℕ → List ℕ → List ℕ
part a n l = take n (drop a l)

-- the items in the words
abbrev pub items_in : List ℕ → List ℕ
items_in words = part 1 container_count words

-- byte j of a word, and the word with that byte made n
unfoldable pub byte_of : ℕ → ℕ → ℕ
byte_of w j = w / 2 ^ (8 * j) % 256

unfoldable pub put_byte : ℕ → ℕ → ℕ → ℕ
put_byte w j n = (w / 2 ^ (8 * j) - byte_of w j + n) * 2 ^ (8 * j) + w % 2 ^ (8 * j)

-- a count by its byte: 0 where the pair is not mapped; else the byte, and where the count cannot be 0 at least 1
unfoldable pub count_by : Bool → Bool → ℕ → ℕ
count_by false y b = 0
count_by true true b = b
count_by true false b = elim (eqb b 0) [ true ↦ 1 | false ↦ b ]

-- the row of counts by two sets and the eight words from `at` on. Whatever is stored is a row
unfoldable pub row_in : ℕ → ℕ → List ℕ → ℕ → List ℕ
row_in x y words at = table container_count (λ c. count_by (has x c) (has y c) (byte_of (get_or words (at + c / 8) 0) (c % 8)))

-- the containers that process p maps at all, and a set of which those are mapped both ways
unfoldable pub maps_in : List ℕ → ℕ → ℕ
maps_in words p = get_or words (65 + p) 0

unfoldable pub ways_in : List ℕ → ℕ → ℕ
ways_in words p = get_or words (81 + p) 0

-- where the words of counts of process p begin, for reading and both ways
abbrev pub reads_at : ℕ → ℕ
reads_at p = 97 + 8 * p

abbrev pub boths_at : ℕ → ℕ
boths_at p = 225 + 8 * p

-- its rows: what it maps, but not both ways, it maps for reading at least once; what it maps both ways it need not map for reading
unfoldable pub read_row : List ℕ → ℕ → List ℕ
read_row words p = row_in (maps_in words p) (ways_in words p) words (reads_at p)

unfoldable pub both_row : List ℕ → ℕ → List ℕ
both_row words p = row_in (maps_in words p ∩ ways_in words p) 0 words (boths_at p)

-- the words: the set of live processes at 0, the items from 1 on, for each process the set mapped from 65 on and that mapped both ways from 81 on,
-- its counts for reading from 97 on and both ways from 225 on
unfoldable pub view : List ℕ → List ℕ → List ℕ → Maps
view words descriptors names =
    record {
      tables =
          record {
            live = get_or words 0 0;
            reads = table process_count (read_row words);
            boths = table process_count (both_row words);
            descriptors = descriptors;
            names = names;
          };
      items = items_in words;
    }

-- what the first n processes map both ways
unfoldable pub fed_up_to : List ℕ → ℕ → ℕ
fed_up_to words zero = 0
fed_up_to words (suc n) = fed_up_to words n ∪ (maps_in words n ∩ ways_in words n)

-- an array that is lent to a function by `&`: what it holds at the call (`x.entry.now`) and at the return (`x.exit.now`)
abbrev pub Lent : Type 0
Lent = Both (Bor (List ℕ)) (Bor (List ℕ))

-- the maps of the lent words, descriptors and names, at the call and at the return
abbrev pub maps_before : Lent → Lent → Lent → Maps
maps_before words descriptors names = view words.entry.now descriptors.entry.now names.entry.now

abbrev pub maps_after : Lent → Lent → Lent → Maps
maps_after words descriptors names = view words.exit.now descriptors.exit.now names.exit.now

-- ---- sets that the code works with
-- the items with those of every container of a set cleared
unfoldable pub cleared : List ℕ → ℕ → List ℕ
cleared items x = table container_count (λ c. elim (has x c) [ true ↦ 0 | false ↦ get_or items c 0 ])

-- the items once a plan is made
unfoldable pub items_by : List ℕ → Plan → List ℕ
items_by items plan = given (given (cleared items plan.empty) plan.to plan.given) plan.to2 plan.given2

-- what a plan gives, without what it empties
abbrev pub gifts : Plan → Plan
gifts p = record { empty = 0; given = p.given; to = p.to; given2 = p.given2; to2 = p.to2 }

-- container c is emptied and given the items x
abbrev pub replacing : ℕ → ℕ → Plan
replacing c x = record { empty = only c; given = x; to = only c; given2 = 0; to2 = 0 }

-- a plan is made of the items in the words, and nothing else changes; g is the set of the containers that gained (02, Paper 5)
pub record MakesItems (words : List ℕ) (plan : Plan) (after : List ℕ) (g : ℕ) : Type 0 where
  pub made : (d n : List ℕ) → (let m = view words d n in view after d n ≡ with_items m (items_by m.items plan))
  pub told : g ≡ gained (items_in words) (items_by (items_in words) plan)

-- all files and pipes: the numbers 24 to 63
abbrev pub files : ℕ
files = 0xFFFFFFFFFF000000

-- the set of e alone where e is a file or pipe, else the empty set
unfoldable pub file_set : ℕ → ℕ
file_set e = elim (is_file e) [ true ↦ only e | false ↦ 0 ]

-- the set of e alone where e is a container, else the empty set
unfoldable pub container_set : ℕ → ℕ
container_set e = elim (ltb e container_count) [ true ↦ only e | false ↦ 0 ]

-- the files and pipes that stand in a list of entries
unfoldable pub files_in : List ℕ → ℕ
files_in [] = 0
files_in (e ∷ l) = file_set e ∪ files_in l
