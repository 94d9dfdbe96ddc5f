-- A call as five bytes, and one whose kind is known, as calls of document 01.
use Rattle.std.specs.Prelude.{ℕ, ◌≡◌, Result, MatchResult}
use Rattle.std.proofs.Math.Option.{Option, none, some}
use Rattle.flow.specs.Calls.{Call as Asked}
use Rattle.flow.specs.Records.{call_from}
use Rattle.terms.specs.declared.call.Call.{Call}
use Rattle.terms.specs.declared.call.KnownCall.{KnownCall}
use Rattle.terms.specs.declared.refusal.Refusal.{Refusal}
use Rattle.terms.specs.declared.refusal.Refusal.TheVariants.{UnknownKind}
use Rattle.terms.specs.Kinds.{kind_in}

-- the call of the five bytes, if its kind is known
abbrev pub call_in : Call → Option Asked
call_in q = call_from q.kind q.process q.a q.b q.c

abbrev pub asked : KnownCall → Asked
asked q = record { kind = kind_in q.kind; process = q.process; a = q.a; b = q.b; c = q.c }

-- the result is the call of these bytes, or their kind is not known
abbrev pub IsKnownOf : Call → Result KnownCall Refusal → Type 0
IsKnownOf q r = MatchResult r (λ k. call_in q ≡ some (asked k)) (λ e. (call_in q ≡ none) × (e ≡ UnknownKind))
