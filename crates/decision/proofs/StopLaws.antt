-- A call that a rule stops: inhibited, or diverted to the substitute.
use Prim.Native.Nat.{ℕ, ◌+◌, ◌%◌, ◌<◌}
use native.Mathlib.Omega.{arith}
use native.Mathlib.Nat.{mod-eq_of_lt}
use mathlib.Core.Path.{◌≡◌, refl, sym, ap, ap₂, subst, ◌∙◌}
use mathlib.Core.Bool.{Bool, true, false}
use mathlib.Core.List.{List}
use lib.Dec.{eqb}
use lib.ListN.{get_or, length}
use borrow.Author.Tests.{ne_eqb}
use Rattle.std.specs.Prelude.{Option as Maybe, None, Some, is_some}
use Rattle.flow.specs.Box.{container_of, Rule}
use Rattle.flow.specs.Links.{reach, used}
use Rattle.flow.specs.Calls.{kind_number, write, Call, is_kind, after}
use Rattle.flow.specs.Verdicts.{modifies, gained_from, diversion}
use Rattle.flow.specs.Gained.{gained}
use Rattle.terms.specs.declared.kind.Kind.{Kind as Named}
use Rattle.terms.specs.declared.kind.Kind.TheVariants.{Start, OpenName, Create, Pipe, Device, Dup, Close, Read, Write, Truncate, MapRead, MapBoth, Unmap, Unlink, Rename, Link, Fork, Exit, Label}
use Rattle.terms.specs.declared.call.KnownCall.{KnownCall}
use Rattle.terms.specs.Kinds.{kind_in}
use Rattle.terms.specs.Calls.{asked}
use Rattle.store.specs.declared.Plan.{Plan}
use Rattle.store.specs.Maps.{Maps, with_items, items_in, view as maps_of, items_by, gifts, MakesItems}
use Rattle.tracker.specs.Plans.{giving}
use Rattle.tracker.specs.Worked.{Foreseen}
use Rattle.rules.specs.Stored.{rule_at, action_at, substitute_at}
use Rattle.rules.specs.Judging.{Judged}
use Rattle.decision.specs.declared.Monitor.{Monitor}
use Rattle.decision.specs.declared.Answer.TheVariants.{Inhibit, Modify}
use Rattle.decision.specs.View.{maps, view}
use Rattle.decision.specs.Answers.{AnswersStopped}
use Rattle.decision.proofs.AnswerLaws.{inhibited_as, modified_as}
use Rattle.decision.proofs.VerdictLaws.{judged_none, judged_some, no_divert, no_write, not_used, diverted, diversion_broken, gift_items, exactly}

-- whether a call is a write, by its kind
pub writes : (q : KnownCall) → q.kind ≡ Write → is_kind write (asked q) ≡ true
unfolding is_kind kind_number
writes q e = ap (λ (k : Named). eqb (kind_number (kind_in k)) 9) e

pub no_writes : (q : KnownCall) → (q.kind ≡ Write → ⊥) → is_kind write (asked q) ≡ false
unfolding is_kind kind_number
no_writes q n = go q.kind n
  where
    go : (k : Named) → (k ≡ Write → ⊥) → eqb (kind_number (kind_in k)) 9 ≡ false
    go Start n = refl
    go OpenName n = refl
    go Create n = refl
    go Pipe n = refl
    go Device n = refl
    go Dup n = refl
    go Close n = refl
    go Read n = refl
    go Write n = absurd (n refl)
    go Truncate n = refl
    go MapRead n = refl
    go MapBoth n = refl
    go Unmap n = refl
    go Unlink n = refl
    go Rename n = refl
    go Link n = refl
    go Fork n = refl
    go Exit n = refl
    go Label n = refl

-- the monitor with these words
abbrev pub with_words : Monitor → List ℕ → Monitor
with_words m w = record { tracker = record { words = w; descriptors = m.tracker.descriptors; names = m.tracker.names }; rules = m.rules }

module _ (m : Monitor) (q : Call) (k : ℕ) where
  abbrev rule : Rule
  rule = rule_at m.rules.sets m.rules.fields k

  abbrev Inhibits : Type 0
  Inhibits = AnswersStopped m q k (record { answer = Inhibit k; monitor = m })

  pub stop_no_divert : (n : ℕ) → n ≡ action_at m.rules.fields k → (n ≡ 1 → ⊥) → Inhibits
  stop_no_divert n f h = inhibited_as m q k (λ z. no_divert m q k (ap (λ (x : ℕ). eqb x 1) (sym f) ∙ ne_eqb n 1 h))

  pub stop_no_write : is_kind write q ≡ false → Inhibits
  stop_no_write h = inhibited_as m q k (λ z. no_write m q k h)

  -- the substitute is below 64, as the code has it
  module _ (c : ℕ) (g : c ≡ substitute_at m.rules.fields k) where
    pub stop_not_used : (y : Bool) → y ≡ used (maps m).tables c → y ≡ false → Inhibits
    stop_not_used y u h = inhibited_as m q k (λ z. not_used m q k (ap (used (maps m).tables) (sym g) ∙ sym u ∙ h))

    module _ (n : ℕ) (f : n ≡ action_at m.rules.fields k) (acts : n ≡ 1) (writes : is_kind write q ≡ true) (y : Bool) (u : y ≡ used (maps m).tables c) (in_use : y ≡ true) (long : length m.tracker.words ≡ 353)
        (x : ℕ) (ix : x ≡ get_or (items_in m.tracker.words) (8 + q.process) 0) (r : ℕ) (ir : r ≡ reach (maps m).tables (c % 64)) (plan : Plan) (ip : plan ≡ giving x r) where
      small : c < 64
      unfolding substitute_at
      small = rw g (omega arith)

      to_small : c % 64 ≡ rule.substitute
      to_small = mod-eq_of_lt small ∙ g

      plan_is : plan ≡ giving (get_or (items_in m.tracker.words) (container_of q.process) 0) (reach (maps m).tables rule.substitute)
      plan_is = ip ∙ ap₂ giving ix (ir ∙ ap (reach (maps m).tables) to_small)

      items_are : (after (view m) (diversion (view m) q rule)).items ≡ items_by (items_in m.tracker.words) plan
      items_are = gift_items m q k long ∙ ap (items_by (items_in m.tracker.words)) (sym plan_is)

      sees : Foreseen (items_in m.tracker.words) (after (view m) (diversion (view m) q rule)).items plan
      sees = exactly (items_in m.tracker.words) _ plan items_are

      same_rules : (after (view m) (diversion (view m) q rule)).rules ≡ (view m).rules
      unfolding after
      same_rules = refl

      diverts : eqb rule.action 1 ≡ true
      diverts = ap (λ (x : ℕ). eqb x 1) (sym f ∙ acts)

      used_one : used (maps m).tables rule.substitute ≡ true
      used_one = ap (used (maps m).tables) (sym g) ∙ sym u ∙ in_use

      pub stop_broken : (j : Maybe ℕ) → Judged (items_in m.tracker.words) plan m.rules.sets m.rules.fields j → is_some j ≡ true → Inhibits
      stop_broken (Some j) js h = inhibited_as m q k (λ z. diversion_broken m q k diverts writes used_one _ (judged_some m plan _ same_rules sees j js z))
      stop_broken None js h = absurd (let z : ◌≡◌ {A = ℕ} 0 1 = cc in let y : ⊥ = omega arith in y)

      -- the monitor after the write to the substitute
      moved : (w : List ℕ) → maps_of w m.tracker.descriptors m.tracker.names ≡ with_items (maps m) (items_by (maps m).items plan) → view (with_words m w) ≡ after (view m) (diversion (view m) q rule)
      unfolding view after diversion maps_of
      moved w v = ap (λ (s : Maps). record { tables = s.tables; items = s.items; rules = (view m).rules }) (v ∙ ap (with_items (maps m)) (sym items_are))

      -- those that gain by the plan gain by the write
      gained_are : (i : ℕ) → i ≡ gained (items_in m.tracker.words) (items_by (items_in m.tracker.words) plan) → i ≡ gained_from (view m) (after (view m) (diversion (view m) q rule))
      unfolding view maps_of
      gained_are i d = d ∙ ap (gained (items_in m.tracker.words)) (sym items_are)

      pub stop_diverts : (j : Maybe ℕ) → Judged (items_in m.tracker.words) plan m.rules.sets m.rules.fields j → is_some j ≡ false → (w : List ℕ) (i : ℕ) → MakesItems m.tracker.words (gifts plan) w i
          → AnswersStopped m q k (record { answer = Modify k c i; monitor = with_words m w })
      stop_diverts None js h w i u =
          let v : MakesItems m.tracker.words plan w i = subst (λ (x : Plan). MakesItems m.tracker.words x w i) (ap gifts ip ∙ sym ip) u in
          subst (λ (to : ℕ). AnswersStopped m q k (record { answer = Modify k to i; monitor = with_words m w })) (sym g)
          (modified_as m q k _ rule.substitute (diversion (view m) q rule) i
          (λ z. diverted m q k diverts writes used_one (judged_none m plan _ same_rules sees js z) ∙ ap (modifies k rule.substitute (diversion (view m) q rule)) (sym (gained_are i v.told)))
          (moved w (v.made m.tracker.descriptors m.tracker.names)) (judged_none m plan _ same_rules sees js))
      stop_diverts (Some j) js h w i u = absurd (let z : ◌≡◌ {A = ℕ} 0 1 = cc in let y : ⊥ = omega arith in y)
