-- Document 01, The records: what stands at a place of a log.
use Rattle.std.specs.Prelude.{ℕ, ◌+◌, true, false, List, leb, length, drop, Option, Some, None}
use Rattle.records.specs.Reading.{extent_of}

-- nothing past the end, else where the record there ends, whole or cut short
unfoldable pub record_at : List ℕ → ℕ → Option ℕ
record_at log at = elim (leb (length log) at) [ true ↦ None | false ↦ Some (at + extent_of (drop at log)) ]

-- the place after what stands there
unfoldable pub end_of : ℕ → Option ℕ → ℕ
end_of at (Some end) = end
end_of at None = at

abbrev pub end_after : List ℕ → ℕ → ℕ
end_after log at = end_of at (record_at log at)
