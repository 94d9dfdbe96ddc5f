-- A log that the program reads has no more records than there is room for, and its answers stand at the front.
use Prim.Native.Nat.{ℕ, ◌+◌, ◌*◌, ◌≤◌}
use native.Mathlib.Omega.{arith}
use mathlib.Core.Path.{◌≡◌, ap, subst, ◌∙◌}
use mathlib.Core.Bool.{Bool, true}
use mathlib.Core.List.{List}
use lib.Dec.{leb}
use lib.ListN.{length, take}
use borrow.Author.Tests.{le-leb}
use Rattle.flow.specs.Box.{log_limit, State, fresh}
use Rattle.flow.specs.Records.{records_of}
use Rattle.flow.specs.Verdicts.{run_log}
use Rattle.flow.specs.Queries.{Reply as Answer, refuse, result}
use Rattle.flow.specs.Rules.{lowest_broken}
use Rattle.flow.proofs.Keeping.{fresh_kept}
use Rattle.std.specs.Prelude.{Ok, Err}
use Rattle.std.specs.Result.{result_unwrap_or}
use Rattle.tracker.specs.Replies.{Reply, reply_of}
use Rattle.decision.specs.declared.Monitor.{Monitor}
use Rattle.decision.specs.declared.RunResult.{RunResult}
use Rattle.decision.specs.View.{view}
use Rattle.decision.specs.Answers.{Sound}
use Rattle.decision.specs.Logs.{codes_of, room_for, AnswersLogBy, AnswersLog}
use Rattle.decision.proofs.LogLaws.{records_bound}
use Rattle.runlog.specs.Limits.{record_limit}

has_room : (log codes : List ℕ) → length log ≤ log_limit → record_limit ≤ length codes → leb (length (records_of log)) (length codes) ≡ true
has_room log codes h g =
    le-leb (length (records_of log)) (length codes) (let z : 3 * length (records_of log) ≤ length log + 2 = records_bound log in omega arith)

-- the codes of the answers stand at the front
pub front_codes : (m : Monitor) (log before : List ℕ) (r : RunResult) (codes : List ℕ) (n : ℕ) → view m ≡ fresh → AnswersLog m log before r codes → ((k : ℕ) → reply_of r.reply ≡ result k → n ≡ k)
    → length log ≤ log_limit → record_limit ≤ length before → take n codes ≡ codes_of (run_log fresh log).answers
unfolding AnswersLog AnswersLogBy room_for Sound
front_codes m log before r codes n e w f h g =
    let x : AnswersLogBy true m log before r codes = subst (λ (b : Bool). AnswersLogBy b m log before r codes) (has_room log before h g) w in
    let l : n ≡ length (records_of log) = f (length (records_of log)) x.0 in
    let z : Sound m = ap lowest_broken e ∙ fresh_kept.unbroken in
    ap (λ (k : ℕ). take k codes) l ∙ (x.3 z).0 ∙ ap (λ (u : State). codes_of (run_log u log).answers) e

-- ---- a reply's number
value_of : Answer → ℕ
value_of (refuse n) = n
value_of (result n) = n

pub reply_number : (reply : Reply) (k : ℕ) → reply_of reply ≡ result k → result_unwrap_or reply 0 ≡ k
unfolding reply_of value_of
reply_number (Ok n) k h = ap value_of h
reply_number (Err e) k h = absurd (let y : ◌≡◌ {A = ℕ} 0 1 = cc in let w : ⊥ = omega arith in w)
