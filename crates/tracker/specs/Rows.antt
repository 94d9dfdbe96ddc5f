-- The rows of the table of refusals, and the tables after a call whose kind is known.
use Rattle.std.specs.Prelude.{Bool, true, false, ◌≡◌}
use Rattle.std.proofs.Math.Option.{none, some}
use Rattle.flow.specs.Lists.{Test, first_that}
use Rattle.flow.specs.Box.{Tables}
use Rattle.flow.specs.Calls.{Call, tables_by}
use Rattle.flow.specs.Refusals.{call_tests}
use Rattle.store.specs.Maps.{Maps}
use Rattle.terms.specs.declared.refusal.Refusal.{Refusal}
use Rattle.terms.specs.declared.kind.Kind.{Kind as Named}
use Rattle.terms.specs.declared.call.KnownCall.{KnownCall}
use Rattle.terms.specs.Kinds.{kind_in}
use Rattle.terms.specs.Refusals.{number}

-- the number of the refusal where the thing is not there
unfoldable pub refused_unless : Bool → Refusal → Test
refused_unless true r = none
refused_unless false r = some (number r)

-- the call, were it of this kind
abbrev pub asked_as : Named → KnownCall → Call
asked_as k q = record { kind = kind_in k; process = q.process; a = q.a; b = q.b; c = q.c }

-- the tables after the call
unfoldable pub tables_for : Tables → Call → Tables
tables_for t q = tables_by t q.process q.a q.b q.c q.kind

-- ---- no test holds of the call: it is not refused
pub record Passes (m : Maps) (q : Call) : Type 0 where
  pub none_holds : first_that (call_tests m.tables (some q)) ≡ none
