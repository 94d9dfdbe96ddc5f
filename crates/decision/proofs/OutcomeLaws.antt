-- What every outcome says, whatever the state and the record (`outcome_fits`): it refuses with the number of a refusal, its other numbers are bytes, the change that it makes keeps the live
-- processes a set and the names as many, and a rule that it loads has room and diverts to a container. So the rules stay few (`after_ruled`). It goes by what was
-- read, by the first test that holds, and by the lowest broken rule.
use Prim.Native.Nat.{ℕ, suc, ◌+◌, ◌^◌, ◌≤◌, ◌<◌}
use native.Mathlib.Omega.{arith}
use mathlib.Core.Path.{◌≡◌, refl, ◌∙◌}
use mathlib.Core.Bool.{true}
use mathlib.Core.List.{List, [], ◌∷◌}
use mathlib.Core.Option.{Option, none, some}
use lib.Dec.{eqb}
use lib.ListN.{length, set, length-set, length-append}
use borrow.Author.Tests.{ltb-true}
use Rattle.sets.specs.Sets.{only, ◌∪◌}
use Rattle.sets.proofs.Members.{without_lt, only_lt, union_lt}
use Rattle.flow.specs.Lists.{first_that}
use Rattle.flow.specs.Box.{Rule, Tables, State, name, closed}
use Rattle.flow.specs.Calls.{Kind, start, open_name, create, pipe, device, dup, close, read, write, truncate, map_read, map_both, unmap, unlink, rename, link, fork, exit, label, Call, with_live, with_descriptors, with_names, with_row, with_rows, raised, lowered, tables_by, change, after}
use Rattle.flow.specs.Rules.{broken, Numbered, first_broken, lowest_broken}
use Rattle.flow.specs.Records.{tag_of, call_tag, value_of, rule_in, Reading, unreadable, a_call, a_rule, frame_tests, content_of, reading_by, reading}
use Rattle.flow.specs.Refusals.{in_range, ranges, fields_fit, field_tests, call_tests, rule_tests}
use Rattle.flow.specs.Kept.{well_formed}
use Rattle.flow.specs.Verdicts.{Outcome, refuses, loads, allows, inhibits, modifies, diversion, may_divert, breaks_none, stopped, verdict_by, verdict_at, verdict, outcome_of_call, outcome_of_rule, outcome_of, with_rule, state_after}
use Rattle.flow.proofs.Bools.{choice}
use Rattle.flow.proofs.TableLaws.{none_is}
use Rattle.flow.proofs.Accepted.{accepted, fits_process, fits_a}
use Rattle.flow.proofs.Outcomes.{accepted_rule}
use Rattle.flow.proofs.GainLaws.{gained_lt}
use Rattle.rules.proofs.LoadingLaws.{fit_substitute}
use Rattle.decision.specs.Logs.{InBytes}
use Rattle.decision.proofs.Refusals.{Named, refusal_by, number_lt, frame_named, call_named, rule_named}
use Rattle.decision.proofs.CodeLaws.{answer_is, NamedIn}
use Rattle.decision.proofs.ListLaws.{Every, every_more}
use Rattle.decision.proofs.Stored.{blank}

-- ---- the live processes and the names after a call
pub record Steady (s t : Tables) : Type 0 where
  pub live : s.live < 2 ^ 64 → t.live < 2 ^ 64
  pub names : length t.names ≡ length s.names

module _ (s : Tables) (p a b c : ℕ) where
  abbrev call : Kind → Call
  call kind = record { kind = kind; process = p; a = a; b = b; c = c }

  -- one more process lives
  added_lt : (n : ℕ) → n < 16 → s.live < 2 ^ 64 → (s.live ∪ only n) < 2 ^ 64
  added_lt n l h = union_lt s.live (only n) h (only_lt n (omega arith))

  -- the same processes live
  abbrev kept : {t : Tables} → t.live ≡ s.live → length t.names ≡ length s.names → Steady s t
  kept e f = record { live = λ h. rw e h; names = f }

  steady_after : (kind : Kind) → fields_fit (ranges kind) (call kind) ≡ true → Steady s (tables_by s p a b c kind)
  unfolding tables_by with_live with_descriptors with_names with_row with_rows raised lowered ranges in_range
  steady_after start h = record { live = added_lt p (ltb-true p 16 (fits_process (ranges start) (call start) h)); names = refl }
  steady_after open_name h = kept refl refl
  steady_after create h = kept refl (length-set s.names a c)
  steady_after pipe h = kept refl refl
  steady_after device h = kept refl refl
  steady_after dup h = kept refl refl
  steady_after close h = kept refl refl
  steady_after read h = kept refl refl
  steady_after write h = kept refl refl
  steady_after truncate h = kept refl refl
  steady_after map_read h = kept refl refl
  steady_after map_both h = kept refl refl
  steady_after unmap h = kept refl refl
  steady_after unlink h = kept refl (length-set s.names a closed)
  steady_after rename h = kept refl (length-set (set s.names a closed) b (name s a) ∙ length-set s.names a closed)
  steady_after link h = kept refl (length-set s.names b (name s a))
  steady_after fork h = record { live = added_lt a (ltb-true a 16 (fits_a (ranges fork) (call fork) h)); names = refl }
  steady_after exit h = record { live = λ l. without_lt s.live p; names = refl }
  steady_after label h = kept refl refl

-- the lowest broken rule, where it has a number below 256 and diverts to a container
SmallRule : Option Numbered → Type 0
SmallRule none = Unit {0}
SmallRule (some x) = (x.number < 256) × (x.rule.substitute < 64)

first_broken_lem : (t : State) (k : ℕ) (rs : List Rule) → k + length rs ≤ 256 → Every (λ r. r.substitute < 64) blank rs → SmallRule (first_broken t k rs)
unfolding first_broken SmallRule
first_broken_lem t k [] l h = tt
first_broken_lem t k (r ∷ rs) l h = choice SmallRule (broken t r) _ _ (λ e. (omega arith, h 0)) (λ e. first_broken_lem t (suc k) rs (omega arith) (λ i. h (suc i)))

-- ---- outcomes, where Q holds of the rule that is read
module _ (Q : Rule → Type 0) where
  -- the rules are few, divert to containers, and Q holds of them
  pub record Ruled (rs : List Rule) : Type 0 where
    pub counted : length rs ≤ 32
    pub diverted : Every (λ r. r.substitute < 64) blank rs
    pub each : Every Q blank rs

  unfoldable pub ReadingFits : Reading → Type 0
  ReadingFits (unreadable n) = Named n
  ReadingFits (a_call q) = Unit {0}
  ReadingFits (a_rule r) = Q r

  unfoldable pub OutcomeFits : State → Outcome → Type 0
  OutcomeFits s (refuses n) = Named n
  OutcomeFits s (loads n r) = (n < 32) × (length s.rules < 32) × (r.substitute < 64) × Q r
  OutcomeFits s (allows x g) = Steady s.tables x.tables × (g < 2 ^ 64)
  OutcomeFits s (inhibits n) = n < 256
  OutcomeFits s (modifies n c x g) = (n < 256) × (c < 64) × Steady s.tables x.tables × (g < 2 ^ 64)

  pub fits_bytes : (s : State) (o : Outcome) → OutcomeFits s o → InBytes (answer_is o)
  unfolding OutcomeFits answer_is InBytes
  fits_bytes s (refuses n) h = number_lt (refusal_by n)
  fits_bytes s (loads n r) h = omega (arith, h.0)
  fits_bytes s (allows x g) h = h.1
  fits_bytes s (inhibits n) h = h
  fits_bytes s (modifies n c x g) h = (h.0, omega (arith, h.1), h.3)

  pub fits_named : (s : State) (o : Outcome) → OutcomeFits s o → NamedIn o
  unfolding OutcomeFits NamedIn
  fits_named s (refuses n) h = h
  fits_named s (loads n r) h = tt
  fits_named s (allows x g) h = tt
  fits_named s (inhibits n) h = tt
  fits_named s (modifies n c x g) h = tt

  pub after_ruled : (s : State) (o : Outcome) → OutcomeFits s o → Ruled s.rules → Ruled (state_after s o).rules
  unfolding state_after OutcomeFits with_rule after
  after_ruled s (refuses n) f h = h
  after_ruled s (loads n r) f h =
      record {
        counted = let l : length s.rules < 32 = f.1 in rw (length-append s.rules (r ∷ [])) (omega arith);
        diverted = every_more (λ x. x.substitute < 64) blank s.rules r h.diverted f.2;
        each = every_more Q blank s.rules r h.each f.3;
      }
  after_ruled s (allows x g) f h = h
  after_ruled s (inhibits n) f h = h
  after_ruled s (modifies n c x g) f h = h

  pub reading_fits : (bytes : List ℕ) → Q (rule_in (tag_of bytes) (value_of bytes)) → ReadingFits (reading bytes)
  unfolding reading reading_by ReadingFits content_of
  reading_fits bytes h = go (first_that (frame_tests bytes)) refl
    where
      go : (o : Option ℕ) → first_that (frame_tests bytes) ≡ o → ReadingFits (reading_by bytes o)
      go none e = choice ReadingFits (eqb (tag_of bytes) call_tag) _ _ (λ x. tt) (λ x. h)
      go (some n) e = frame_named bytes n e

  module _ (s : State) (ruled : Ruled s.rules) where
    stopped_fits : (q : Call) (n : ℕ) (r : Rule) → n < 256 → r.substitute < 64 → OutcomeFits s (stopped s q n r)
    unfolding stopped OutcomeFits diversion
    stopped_fits q n r hn hr =
        choice (OutcomeFits s) (may_divert s q r) _ _
        (λ e. choice (OutcomeFits s) (breaks_none (after s (diversion s q r))) _ _ (λ f. (hn, hr, record { live = λ l. l; names = refl }, gained_lt s.items (after s (diversion s q r)).items)) (λ f. hn))
        (λ e. hn)

    verdict_fits : (q : Call) (t : State) (o : Option Numbered) → fields_fit (ranges q.kind) q ≡ true → SmallRule o → OutcomeFits s (verdict_by s q t o)
    unfolding verdict_by OutcomeFits change SmallRule
    verdict_fits q t none h l = (steady_after s.tables q.process q.a q.b q.c q.kind h, gained_lt s.items t.items)
    verdict_fits q t (some x) h l = stopped_fits q x.number x.rule l.0 l.1

    call_fits : (q : Option Call) (o : Option ℕ) → first_that (call_tests s.tables q) ≡ o → OutcomeFits s (outcome_of_call s q o)
    unfolding outcome_of_call verdict verdict_at OutcomeFits lowest_broken after call_tests first_that
    call_fits none none e = absurd (let z : ◌≡◌ {A = ℕ} 0 1 = cc in let y : ⊥ = omega arith in y)
    call_fits (some q) none e =
        let l : length s.rules ≤ 32 = ruled.counted in
        verdict_fits q _ _ (accepted s.tables q e).fits
        (first_broken_lem (after s (change s.tables q)) 0 s.rules (omega arith) ruled.diverted)
    call_fits none (some n) e = call_named s.tables none n e
    call_fits (some q) (some n) e = call_named s.tables (some q) n e

    rule_fits : (r : Rule) (o : Option ℕ) → first_that (rule_tests s r) ≡ o → Q r → OutcomeFits s (outcome_of_rule s r o)
    unfolding outcome_of_rule OutcomeFits well_formed
    rule_fits r none e f =
        let h = accepted_rule s r e in
        (h.2, h.2, fit_substitute r (none_is (first_that (field_tests r)) h.1), f)
    rule_fits r (some n) e f = rule_named s r n e

    pub outcome_fits : (y : Reading) → ReadingFits y → OutcomeFits s (outcome_of s y)
    unfolding outcome_of OutcomeFits ReadingFits
    outcome_fits (unreadable n) h = h
    outcome_fits (a_call q) h = call_fits q _ refl
    outcome_fits (a_rule r) h = rule_fits r _ refl h
