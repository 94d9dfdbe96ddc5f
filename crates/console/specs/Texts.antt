-- Text of a bounded length.
use Rattle.std.specs.Prelude.{ℕ, ◌+◌, List, ◌++◌, length, nat_le, if◌then◌else◌}

-- xs with ys after it, where both fit into n bytes; else xs as it is
abbrev pub appended : ℕ → List ℕ → List ℕ → List ℕ
appended n xs ys = if nat_le (length xs + length ys) n then xs ++ ys else xs
