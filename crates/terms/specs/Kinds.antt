-- The kinds of document 01 (`Kind` of flow), as the code has them.
use Rattle.std.specs.Prelude.{ℕ, ◌≡◌, Result, MatchResult}
use Rattle.std.proofs.Math.Option.{Option, none, some}
use Rattle.flow.specs.Calls.{Kind, start, open_name, create, pipe, device, dup, close, read, write, truncate, map_read, map_both, unmap, unlink, rename, link, fork, exit, label}
use Rattle.flow.specs.Records.{kind_of}
use Rattle.terms.specs.declared.kind.Kind.{Kind as Named}
use Rattle.terms.specs.declared.kind.Kind.TheVariants.{Start, OpenName, Create, Pipe, Device, Dup, Close, Read, Write, Truncate, MapRead, MapBoth, Unmap, Unlink, Rename, Link, Fork, Exit, Label}
use Rattle.terms.specs.declared.refusal.Refusal.{Refusal}
use Rattle.terms.specs.declared.refusal.Refusal.TheVariants.{UnknownKind}

abbrev pub kind_in : Named → Kind
kind_in Start = start
kind_in OpenName = open_name
kind_in Create = create
kind_in Pipe = pipe
kind_in Device = device
kind_in Dup = dup
kind_in Close = close
kind_in Read = read
kind_in Write = write
kind_in Truncate = truncate
kind_in MapRead = map_read
kind_in MapBoth = map_both
kind_in Unmap = unmap
kind_in Unlink = unlink
kind_in Rename = rename
kind_in Link = link
kind_in Fork = fork
kind_in Exit = exit
kind_in Label = label

-- the result is the kind of this number, or it is no kind's
abbrev pub IsKindOf : ℕ → Result Named Refusal → Type 0
IsKindOf n r = MatchResult r (λ k. kind_of n ≡ some (kind_in k)) (λ e. (kind_of n ≡ none) × (e ≡ UnknownKind))
