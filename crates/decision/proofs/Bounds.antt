-- The numbers in the states of a run fit the code's types. What no outcome leaves open is carried from state to state: items and live processes
-- are sets, and there are 128 names (`state_bounded`). Where the records are of bytes, so are the sets of the rules (`state_ruled`).
use Prim.Native.Nat.{ℕ, zero, suc, ◌+◌, ◌*◌, ◌^◌, ◌≤◌, ◌<◌}
use native.Mathlib.Omega.{arith}
use native.Mathlib.Nat.{pow-succ', pow-le-pow_right}
use mathlib.Core.Path.{◌≡◌, ◌∙◌}
use mathlib.Core.List.{List, [], ◌∷◌}
use mathlib.Core.Option.{Option}
use lib.Dec.{eqb}
use lib.ListN.{get_or, length, take, drop, length-take, length-replicate}
use lib.Pow.{pow_pos}
use Rattle.sets.specs.Sets.{has, only}
use Rattle.sets.proofs.Members.{only_lt, union_lt}
use Rattle.flow.specs.Box.{Condition, Rule, Tables, State, no_tables, fresh, items_of, closed}
use Rattle.flow.specs.Links.{given, reach}
use Rattle.flow.specs.MapBoth.{in_sequence}
use Rattle.flow.specs.Calls.{Call, Flow, still, gift, arrival, exchange, copy, clear, Change, moved, ended, items_after, after}
use Rattle.flow.specs.Records.{byte_at, tag_of, forbid_tag, separate_tag, stated_length, value_of, condition_of, number_from, set_in as set_read, rule_with, rule_in, reading, call_of}
use Rattle.flow.specs.Verdicts.{Outcome, refuses, loads, allows, inhibits, modifies, outcome, with_rule, state_after}
use Rattle.flow.specs.Contents.{Step, entry, memory, step_state, step_at, state_at}
use Rattle.flow.proofs.Bools.{choice}
use Rattle.flow.proofs.Moves.{Fit}
use Rattle.flow.proofs.Outcomes.{Made, Sound}
use Rattle.flow.proofs.Keeping.{Invariant, fresh_empty, sound, state_kept}
use Rattle.decision.specs.Chains.{Numbers, OfBytes}
use Rattle.decision.proofs.Stored.{parts_of, set_in}
use Rattle.decision.proofs.ListLaws.{Below, every_part, table_numbers}
use Rattle.decision.proofs.OutcomeLaws.{Steady, Ruled, OutcomeFits, reading_fits, outcome_fits, after_ruled}
use Rattle.decision.proofs.Telling.{Any, reading_any, kept_ruled}

abbrev Fits64 : ℕ → Type 0
Fits64 x = x < 2 ^ 64

-- ---- items
given_below : (l : List ℕ) (r x : ℕ) → x < 2 ^ 64 → Below (2 ^ 64) l → Numbers 64 (2 ^ 64) (given l r x)
unfolding given
given_below l r x hx hl = table_numbers 64 _ (pow_pos 64) (λ v. choice Fits64 (has r v) _ _ (λ e. union_lt (get_or l v 0) x (hl v) hx) (λ e. hl v))

moved_below : (t : Tables) (items : List ℕ) → Numbers 64 (2 ^ 64) items → (u : Tables) (f : Flow) → Fit t u f → Numbers 64 (2 ^ 64) (moved t items f)
unfolding moved in_sequence Fit
moved_below t items h w still fit = h
moved_below t items h w (gift g u) fit = given_below items (reach t u) _ (h.fits g) h.fits
moved_below t items h w (arrival u i) fit = given_below items (reach t u) (only i) (only_lt i fit.1) h.fits
moved_below t items h w (exchange u v) fit =
    let first = given_below items (reach t v) (get_or items u 0) (h.fits u) h.fits in given_below _ (reach t u) _ (first.fits v) first.fits
moved_below t items h w (copy u v) fit = table_numbers 64 _ (pow_pos 64) (λ x. choice Fits64 (eqb x v) _ _ (λ e. h.fits u) (λ e. h.fits x))
moved_below t items h w (clear u) fit = table_numbers 64 _ (pow_pos 64) (λ x. choice Fits64 (eqb x u) _ _ (λ e. pow_pos 64) (λ e. h.fits x))

-- ---- from state to state
pub record Bounded (s : State) : Type 0 where
  pub live : s.tables.live < 2 ^ 64
  pub items : Numbers 64 (2 ^ 64) s.items
  pub names : length s.tables.names ≡ 128

fresh_bounded : Bounded fresh
unfolding fresh no_tables items_of
fresh_bounded =
    record {
      live = pow_pos 64;
      items = record { size = length-replicate {A = ℕ} 64 0; fits = λ k. rw (fresh_empty k) (pow_pos 64) };
      names = length-replicate {A = ℕ} 128 closed;
    }

made_bounded : (s : State) (q : Option Call) (x : Change) → Bounded s → Made s q x → Steady s.tables x.tables → Bounded (after s x)
unfolding after items_after
made_bounded s q x b m t =
    record {
      live = t.live b.live;
      items =
          table_numbers 64 _ (pow_pos 64)
          (λ c. choice Fits64 (ended s.tables x.tables c) _ _ (λ e. pow_pos 64) (λ e. (moved_below s.tables s.items b.items x.tables x.flow m.fit).fits c));
      names = t.names ∙ b.names;
    }

outcome_bounded : (s : State) (q : Option Call) (o : Outcome) → Bounded s → Sound s q o → OutcomeFits Any s o → Bounded (state_after s o)
unfolding state_after Sound OutcomeFits with_rule
outcome_bounded s q (refuses n) b m f = b
outcome_bounded s q (loads n r) b m f = record { live = b.live; items = b.items; names = b.names }
outcome_bounded s q (allows x g) b m f = made_bounded s q x b m f.0
outcome_bounded s q (inhibits n) b m f = b
outcome_bounded s q (modifies n c x g) b m f = made_bounded s q x b m f.2

step_bounded : (s : State) (x : Step) → Invariant s → Bounded s → Bounded (step_state s x)
unfolding step_state outcome
step_bounded s (entry bytes) i b = outcome_bounded s (call_of bytes) _ b (sound s i bytes) (outcome_fits Any s (kept_ruled s i) (reading bytes) (reading_any bytes))
step_bounded s memory i b = b

pub state_bounded : (steps : List Step) (k : ℕ) → Bounded (state_at steps k)
unfolding state_at
state_bounded steps zero = fresh_bounded
state_bounded steps (suc k) = step_bounded (state_at steps k) (step_at steps k) (state_kept steps k) (state_bounded steps k)

-- ---- the sets of the rules, where the records are of bytes
-- the number of at most eight bytes, with those before them
number_lt : (bs : List ℕ) (n j : ℕ) → n < 256 ^ j → length bs + j ≤ 8 → Below 256 bs → number_from n bs < 2 ^ 64
unfolding number_from
number_lt [] n j h l k = let i : j ≤ 8 = omega arith in let p : 256 ^ j ≤ 256 ^ 8 = pow-le-pow_right {n = 256} (omega arith) i in omega arith
number_lt (b ∷ bs) n j h l k = number_lt bs (256 * n + b) (suc j) (rw (pow-succ' 256 j) (omega (arith, k 0))) (omega arith) (λ i. k (suc i))

abbrev SetFits : Rule → Type 0
SetFits r = set_in r < 2 ^ 64

condition_fits : (tag i x : ℕ) → x < 2 ^ 64 → (parts_of (condition_of tag i x)).2 < 2 ^ 64
unfolding condition_of parts_of
condition_fits tag i x h =
    choice (λ (c : Condition). (parts_of c).2 < 2 ^ 64) (eqb tag forbid_tag) _ _ (λ e. h) (λ e. choice (λ (c : Condition). (parts_of c).2 < 2 ^ 64) (eqb tag separate_tag) _ _ (λ f. h) (λ f. h))

rule_fits : (tag : ℕ) (v : List ℕ) → Below 256 v → SetFits (rule_in tag v)
unfolding rule_in rule_with byte_at set_read
rule_fits tag v h =
    choice SetFits (eqb tag separate_tag) _ _ (λ e. condition_fits tag _ _ (omega (arith, h 1)))
    (λ e. condition_fits tag _ _ (number_lt (take 8 (drop 1 v)) 0 0 (omega arith) (omega (arith, length-take 8 (drop 1 v))) (every_part (λ x. x < 256) 0 8 1 v (omega arith) h)))

step_ruled : (s : State) (x : Step) → OfBytes x → Ruled SetFits s.rules → Ruled SetFits (step_state s x).rules
unfolding step_state OfBytes outcome value_of
step_ruled s (entry bytes) f h =
    after_ruled SetFits s _ (outcome_fits SetFits s h (reading bytes)
    (reading_fits SetFits bytes (rule_fits (tag_of bytes) (value_of bytes) (every_part (λ x. x < 256) 0 (stated_length bytes) 3 bytes (omega arith) f)))) h
step_ruled s memory f h = h

pub state_ruled : (steps : List Step) → ((n : ℕ) → OfBytes (step_at steps n)) → (k : ℕ) → Ruled SetFits (state_at steps k).rules
unfolding state_at fresh parts_of
state_ruled steps h zero = record { counted = omega arith; diverted = λ k. omega arith; each = λ k. pow_pos 64 }
state_ruled steps h (suc k) = step_ruled (state_at steps k) (step_at steps k) (h k) (state_ruled steps h k)
