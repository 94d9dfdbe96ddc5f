-- The number of each refusal (01, What a record gets; 02, Papers 2 and 4), and what a result says of a list of tests.
use Rattle.std.specs.Prelude.{ℕ, Result, Ok, Err}
use Rattle.std.proofs.Math.Option.{Option, none, some}
use Rattle.terms.specs.declared.refusal.Refusal.{Refusal}
use Rattle.terms.specs.declared.refusal.Refusal.TheVariants.{CutShort, UnknownTag, WrongLength, UnknownKind, OutOfRange, DeadProcess, Taken, Missing, SameTwice, NoFile, RulesFull, BrokenAlready, SliceShort, DescriptorClosed, NameUnbound, NoLink, CountFull}

abbrev pub number : Refusal → ℕ
number CutShort = 1
number UnknownTag = 2
number WrongLength = 3
number UnknownKind = 4
number OutOfRange = 5
number DeadProcess = 6
number Taken = 7
number Missing = 8
number SameTwice = 9
number NoFile = 10
number RulesFull = 11
number BrokenAlready = 12
number SliceShort = 13
number DescriptorClosed = 14
number NameUnbound = 15
number NoLink = 16
number CountFull = 17

-- the number of the refusal, if there is one: what `first_that` says of a list of tests
abbrev pub refused : {A : Type 0} → Result A Refusal → Option ℕ
refused (Ok x) = none
refused (Err r) = some (number r)
