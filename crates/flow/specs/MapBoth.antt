-- 02, Paper 3, beside 01, The records: how items move in map both, between the container c and the process p that maps it. Everything cites
-- the sequence; that document 01's form gives the same answers and states is stated in AtOnce.
use Rattle.std.specs.Prelude.{ℕ, List, get_or}
use Rattle.flow.specs.Box.{Tables}
use Rattle.flow.specs.Links.{reach, given, given_from}

-- 02, Paper 3: the gift to the process, the gift to the container of what the process then holds, then the two links: each reach goes by the
-- links before the call
unfoldable pub in_sequence : Tables → List ℕ → ℕ → ℕ → List ℕ
in_sequence t items c p = given_from t (given_from t items c p) p c

-- 01, The records: as read and as write, both from the state before; then links both ways
unfoldable pub at_once : Tables → List ℕ → ℕ → ℕ → List ℕ
at_once t items c p = given (given_from t items c p) (reach t c) (get_or items p 0)
