-- Mappings of one process of one container, as the words have them: two sets and two bytes (02, Paper 4).
use Rattle.std.specs.Prelude.{ℕ, ◌+◌, ◌/◌, ◌%◌, ◌<◌, ◌≡◌, false, ◌&&◌, List, get_or, set}
use Rattle.sets.specs.Sets.{has}
use Rattle.store.specs.declared.counts.Cells.{Cells}
use Rattle.store.specs.Maps.{byte_of, count_by, maps_in, ways_in, reads_at, boths_at}

-- the cells of process p and container c
unfoldable pub cells_in : List ℕ → ℕ → ℕ → Cells
cells_in words p c =
    record { maps = maps_in words p; ways = ways_in words p; reads = get_or words (reads_at p + c / 8) 0; boths = get_or words (boths_at p + c / 8) 0 }

-- the words with these in their place
unfoldable pub stored : List ℕ → ℕ → ℕ → Cells → List ℕ
stored words p c x = set (set (set (set words (65 + p) x.maps) (81 + p) x.ways) (reads_at p + c / 8) x.reads) (boths_at p + c / 8) x.boths

-- how many mappings they count: for reading, and both ways
unfoldable pub read_in : Cells → ℕ → ℕ
read_in x c = count_by (has x.maps c) (has x.ways c) (byte_of x.reads (c % 8))

unfoldable pub both_in : Cells → ℕ → ℕ
both_in x c = count_by (has x.maps c && has x.ways c) false (byte_of x.boths (c % 8))

-- y counts n and m of container c, and of every other what x counts
pub record Turned (x y : Cells) (c n m : ℕ) : Type 0 where
  pub maps : (d : ℕ) → d < 64 → (d ≡ c → ⊥) → has y.maps d ≡ has x.maps d
  pub ways : (d : ℕ) → d < 64 → (d ≡ c → ⊥) → has y.ways d ≡ has x.ways d
  pub reads : (j : ℕ) → (j ≡ c % 8 → ⊥) → byte_of y.reads j ≡ byte_of x.reads j
  pub boths : (j : ℕ) → (j ≡ c % 8 → ⊥) → byte_of y.boths j ≡ byte_of x.boths j
  pub read : read_in y c ≡ n
  pub both : both_in y c ≡ m
