-- A matrix of 64 x 64 bits: a list of 64 rows, each the set of the columns in which it has a 1.
use Rattle.std.specs.Prelude.{ℕ, List, get_or}
use Rattle.sets.specs.Sets.{has, those}
use Rattle.flow.specs.Lists.{table}

-- rows and columns exchanged: row i has member r exactly where row r has member i
unfoldable pub transposed : List ℕ → List ℕ
transposed rows = table 64 (λ i. those (λ r. has (get_or rows r 0) i))
