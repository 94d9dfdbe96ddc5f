-- What a call's answer says.
use Rattle.std.specs.Prelude.{ℕ, ◌≡◌, Result, Ok, Err}
use Rattle.std.proofs.Math.Option.{Option}
use Rattle.flow.specs.Calls.{Call}
use Rattle.terms.specs.declared.refusal.Refusal.{Refusal}
use Rattle.terms.specs.Refusals.{refused}
use Rattle.tracker.specs.declared.Tracker.{Tracker}
use Rattle.tracker.specs.declared.Called.{Called}
use Rattle.tracker.specs.View.{view}
use Rattle.tracker.specs.Worked.{done, worked}

-- the containers that gained; by a refused call, none
unfoldable pub gained_by : Result ℕ Refusal → ℕ
gained_by (Ok g) = g
gained_by (Err r) = 0

-- Of the call q on the tracker t: refusal, maps and what gained are those of the definitions, and a refused call gives back the tracker that
-- it met.
pub record AnswersCall (t : Tracker) (q : Option Call) (r : Called) : Type 0 where
  pub works : done (refused r.work) (view r.tracker) (gained_by r.work) ≡ worked (view t) q
  pub kept : (e : Refusal) → r.work ≡ Err e → r.tracker ≡ t
