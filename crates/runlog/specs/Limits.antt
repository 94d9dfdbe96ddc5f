-- How many records a log of 65,536 bytes can have.
use Rattle.std.specs.Prelude.{ℕ}

abbrev pub record_limit : ℕ
record_limit = 21846
