-- What is known of a record that was not refused.
use Prim.Native.Nat.{ℕ, suc, ◌<◌}
use native.Mathlib.Omega.{arith}
use mathlib.Core.Path.{◌≡◌, refl, ap}
use mathlib.Core.Logic.{inl}
use mathlib.Core.Bool.{Bool, true, false, ◌&&◌}
use mathlib.Core.List.{List, [], ◌∷◌}
use mathlib.Core.Option.{Option, none, some}
use lib.Dec.{eqb}
use lib.ListN.{length}
use borrow.Author.Tests.{ltb-true, leb-false, not-false, eqb-true}
use Rattle.flow.specs.Lists.{first_that, is_none}
use Rattle.flow.specs.Box.{container_of, is_target, Rule, Tables, State, descriptor}
use Rattle.flow.specs.Links.{is_fed, used}
use Rattle.flow.specs.Calls.{Kind, start, open_name, create, pipe, device, dup, close, read, write, truncate, map_read, map_both, unmap, unlink, rename, link, fork, exit, label, kind_number, Call, is_kind, Flow, still, arrival, clear, flow_by, Change, change, after}
use Rattle.flow.specs.Rules.{broken, Numbered, lowest_broken}
use Rattle.flow.specs.Records.{Reading, unreadable, a_call, a_rule, reading, call_read, call_of}
use Rattle.flow.specs.Refusals.{in_range, ranges, fields_fit, items_fit, substitute_fits, field_tests, call_tests, rule_tests}
use Rattle.flow.specs.Verdicts.{Outcome, refuses, loads, allows, inhibits, modifies, diversion, may_divert, breaks_none, stopped, verdict_by, verdict_at, verdict, outcome_of_call, outcome_of_rule, outcome_of, outcome}
use Rattle.flow.specs.Contents.{label_of}
use Rattle.flow.specs.Kept.{well_formed, all_well_formed}
use Rattle.flow.specs.Consequences.{LowestIn, this, past}
use Rattle.flow.proofs.Bools.{and_l, and_r, choice}
use Rattle.flow.proofs.TableLaws.{none_is, AllNone, all_none, first_of_none, untrue}
use Rattle.flow.proofs.KindLaws.{kind_is}
use Rattle.flow.proofs.Judging.{lowest_in}
use Rattle.flow.proofs.Rows.{target_lt}
use Rattle.flow.proofs.Moves.{Fit}
use Rattle.flow.proofs.After.{Linking}
use Rattle.flow.proofs.Accepted.{Accepted, accepted, fits_process, linking_after, fits_after}
use Rattle.flow.proofs.Entries.{Entries, entries_after}
use Rattle.flow.proofs.Blocks.{Quiet, quiet_after}

-- a change that a record makes
pub record Made (s : State) (q : Option Call) (x : Change) : Type 0 where
  pub fit : Fit s.tables x.tables x.flow
  pub linking : Linking x.tables
  pub entries : Entries x.tables
  pub quiet : Quiet x.tables
  pub unbroken : lowest_broken (after s x) ≡ none
  pub labelled : (u i : ℕ) → x.flow ≡ arrival u i → label_of q ≡ some i

unfoldable pub Sound : State → Option Call → Outcome → Type 0
Sound s q (refuses n) = Unit {0}
Sound s q (loads n r) = (broken s r ≡ false) × (well_formed r ≡ true) × (length s.rules < 32)
Sound s q (allows x g) = Made s q x
Sound s q (inhibits n) = Unit {0}
Sound s q (modifies n c x g) = Made s q x

-- only a label brings an item in
label_brings : (t : Tables) (p a b c : ℕ) (kind : Kind) (u i : ℕ) → flow_by t p a b c kind ≡ arrival u i → label_of (some (record { kind = kind; process = p; a = a; b = b; c = c })) ≡ some i
unfolding flow_by label_of is_kind kind_number
label_brings t p a b c start u i e = cc
label_brings t p a b c open_name u i e = cc
label_brings t p a b c create u i e = cc
label_brings t p a b c pipe u i e = cc
label_brings t p a b c device u i e = cc
label_brings t p a b c dup u i e = cc
label_brings t p a b c close u i e = cc
label_brings t p a b c read u i e = cc
label_brings t p a b c write u i e = cc
label_brings t p a b c truncate u i e = emptied (is_fed t (descriptor t p a)) e
  where
    emptied : (f : Bool) → ◌≡◌ {A = Flow} (elim f as (λ z. Flow) [ true ↦ still | false ↦ clear (descriptor t p a) ]) (arrival u i) → none ≡ some i
    emptied true q = cc
    emptied false q = cc
label_brings t p a b c map_read u i e = cc
label_brings t p a b c map_both u i e = cc
label_brings t p a b c unmap u i e = cc
label_brings t p a b c unlink u i e = cc
label_brings t p a b c rename u i e = cc
label_brings t p a b c link u i e = cc
label_brings t p a b c fork u i e = cc
label_brings t p a b c exit u i e = cc
label_brings t p a b c label u i e = cc

-- of a write
writer_lt : (q : Call) → is_kind write q ≡ true → fields_fit (ranges q.kind) q ≡ true → container_of q.process < 64
unfolding ranges in_range
writer_lt q e h =
    let f : in_range (ranges write).process q.process ≡ true = rw (kind_is write q e) at (fits_process (ranges q.kind) q h) in
    let l : q.process < 16 = ltb-true q.process 16 f in
    omega arith

-- the lowest broken rule is one of the list
broken_fits : (u : State) (n : ℕ) (rs : List Rule) (x : Numbered) → all_well_formed rs ≡ true → LowestIn u x n rs → well_formed x.rule ≡ true
unfolding all_well_formed
broken_fits u n [] x w l = elim l [ ]
broken_fits u n (r ∷ rs) x w (this b e) = rw e (and_l _ (all_well_formed rs) w)
broken_fits u n (r ∷ rs) x w (past b l) = broken_fits u (suc n) rs x (and_r (well_formed r) _ w) l

substitute_target : (r : Rule) → well_formed r ≡ true → eqb r.action 1 ≡ true → is_target r.substitute ≡ true
unfolding well_formed field_tests AllNone substitute_fits
substitute_target r w e =
    let h = all_none (field_tests r) (none_is (first_that (field_tests r)) w) in
    let f : substitute_fits r ≡ true = and_r (items_fit r.condition) _ (not-false (items_fit r.condition && substitute_fits r) (untrue _ 5 h.1.0)) in
    let q : r.action ≡ 1 = eqb-true r.action 1 e in
    rw q at f

-- what the tests say of a rule that is not refused
pub accepted_rule : (s : State) (r : Rule) → first_that (rule_tests s r) ≡ none → (broken s r ≡ false) × (well_formed r ≡ true) × (length s.rules < 32)
unfolding rule_tests field_tests AllNone well_formed is_none
accepted_rule s r e =
    let h = all_none (rule_tests s r) e in (
      untrue _ 12 h.1.1.1.1.0,
      ap is_none (first_of_none (field_tests r) (h.0, (h.1.0, (h.1.1.0, tt)))),
      leb-false 32 (length s.rules) (untrue _ 11 h.1.1.1.0),
    )

module _ (s : State) (k : Linking s.tables) (t : Entries s.tables) (u : Quiet s.tables) where
  change_made : (q : Call) → Accepted s.tables q → lowest_broken (after s (change s.tables q)) ≡ none → Made s (some q) (change s.tables q)
  unfolding change
  change_made q h e =
      record {
        fit = fits_after s.tables k q.process q.a q.b q.c q.kind h;
        linking = linking_after s.tables k q.process q.a q.b q.c q.kind h;
        entries = entries_after s.tables t q.process q.a q.b q.c q.kind h;
        quiet = quiet_after s.tables k u q.process q.a q.b q.c q.kind h;
        unbroken = e;
        labelled = label_brings s.tables q.process q.a q.b q.c q.kind;
      }

  -- a diverted write is a gift to the substitute
  diversion_made : (q : Call) (r : Rule) → Accepted s.tables q → well_formed r ≡ true → may_divert s q r ≡ true → lowest_broken (after s (diversion s q r)) ≡ none
      → Made s (some q) (diversion s q r)
  unfolding diversion may_divert Fit
  diversion_made q r h w e f =
      let d : (eqb r.action 1 && is_kind write q) ≡ true = and_l _ (used s.tables r.substitute) e in
      record {
        fit = (
          writer_lt q (and_r (eqb r.action 1) _ d) h.fits,
          target_lt r.substitute (substitute_target r w (and_l _ (is_kind write q) d)),
          and_r (eqb r.action 1 && is_kind write q) _ e,
          λ x y l. inl l,
        );
        linking = k;
        entries = t;
        quiet = u;
        unbroken = f;
        labelled = λ u i z. cc;
      }

  stopped_sound : (q : Call) (n : ℕ) (r : Rule) → Accepted s.tables q → well_formed r ≡ true → Sound s (some q) (stopped s q n r)
  unfolding stopped Sound breaks_none
  stopped_sound q n r h w =
      choice (Sound s (some q)) (may_divert s q r) _ _
      (λ e. choice (Sound s (some q)) (breaks_none (after s (diversion s q r))) _ _ (λ f. diversion_made q r h w e (none_is (lowest_broken (after s (diversion s q r))) f)) (λ f. tt))
      (λ e. tt)

  verdict_sound : (q : Call) (o : Option Numbered) → Accepted s.tables q → lowest_broken (after s (change s.tables q)) ≡ o → all_well_formed s.rules ≡ true → Sound s (some q) (verdict_by s q (after s (change s.tables q)) o)
  unfolding verdict_by Sound lowest_broken after
  verdict_sound q none h e w = change_made q h e
  verdict_sound q (some x) h e w =
      stopped_sound q x.number x.rule h (broken_fits (after s (change s.tables q)) 0 s.rules x w (lowest_in (after s (change s.tables q)) 0 _ x e))

  -- ---- a record
  call_sound : (q : Option Call) (o : Option ℕ) → first_that (call_tests s.tables q) ≡ o → all_well_formed s.rules ≡ true → Sound s q (outcome_of_call s q o)
  unfolding outcome_of_call verdict verdict_at Sound
  call_sound none none e w = tt
  call_sound (some q) none e w = verdict_sound q _ (accepted s.tables q e) refl w
  call_sound none (some n) e w = tt
  call_sound (some q) (some n) e w = tt

  rule_sound : (r : Rule) (o : Option ℕ) → first_that (rule_tests s r) ≡ o → Sound s none (outcome_of_rule s r o)
  unfolding outcome_of_rule Sound
  rule_sound r none e = accepted_rule s r e
  rule_sound r (some n) e = tt

  reading_sound : (x : Reading) → all_well_formed s.rules ≡ true → Sound s (call_read x) (outcome_of s x)
  unfolding call_read outcome_of Sound
  reading_sound (unreadable n) w = tt
  reading_sound (a_call q) w = call_sound q _ refl w
  reading_sound (a_rule r) w = rule_sound r _ refl

  pub outcome_sound : (bytes : List ℕ) → all_well_formed s.rules ≡ true → Sound s (call_of bytes) (outcome s bytes)
  unfolding outcome call_of
  outcome_sound bytes w = reading_sound (reading bytes) w
