-- Exactness: contents as sets of items, a gift as union. The contents then are the items recorded, moment by moment.
use Prim.Native.Nat.{ℕ, zero, suc, ◌<◌}
use native.Mathlib.Omega.{arith}
use mathlib.Core.Path.{◌≡◌, refl, sym, ap, ap₂, ◌∙◌}
use mathlib.Core.Bool.{Bool, true, false}
use mathlib.Core.List.{List}
use mathlib.Core.Option.{Option, none, some}
use lib.Dec.{ltb, eqb}
use lib.ListN.{get_or}
use borrow.Author.Tests.{ltb-true, eqb-true, eqb-false, ne_eqb}
use Rattle.sets.specs.Sets.{has, only, ◌∪◌}
use Rattle.sets.proofs.Members.{none_has, only_has, union_has}
use Rattle.flow.specs.Box.{Tables, State, items_of}
use Rattle.flow.specs.Links.{reach, given}
use Rattle.flow.specs.MapBoth.{at_once}
use Rattle.flow.specs.Calls.{Call, Flow, still, gift, arrival, exchange, copy, clear, Change, moved, ended, after}
use Rattle.flow.specs.Records.{call_of}
use Rattle.flow.specs.Verdicts.{Outcome, refuses, loads, allows, inhibits, modifies, outcome, with_rule, state_after}
use Rattle.flow.specs.Queries.{Reply, refuse, result, items_query}
use Rattle.flow.specs.Contents.{Step, entry, memory, Machine, flowed, changed, contents_after, step_contents, step_state, step_at, state_at, run_at, label_of, item_labelled}
use Rattle.flow.specs.Exact.{DifferOnlyAt, Exact}
use Rattle.flow.proofs.Bools.{or_false_i, no_both, choice, choices, chosen_r}
use Rattle.flow.proofs.Moves.{moved_in, Fit, given_at, source, source_copy, source_other, copy_at, clear_at}
use Rattle.flow.proofs.MapBoth.{as_at_once}
use Rattle.flow.proofs.After.{after_items}
use Rattle.flow.proofs.Outcomes.{Made, Sound}
use Rattle.flow.proofs.Keeping.{Invariant, fed_bound, fresh_empty, sound, state_kept}
use Rattle.flow.proofs.TwoRuns.{run_tracker}

-- contents are the items collected
unfoldable pub collecting : Machine ℕ
collecting =
    record {
      empty = 0;
      gift = λ v old n g. old ∪ g;
      both_gifts = λ v old n a b. old ∪ a ∪ b;
      fork = λ v old n p. p;
      memory = λ v old n l. old;
    }

-- a label brings its item in, or nothing where the item is left out
unfoldable pub brought : (ℕ → Bool) → Option ℕ → ℕ
brought out none = 0
brought out (some j) = elim (out j) [ true ↦ 0 | false ↦ only j ]

abbrev every : ℕ → Bool
every j = false

-- ---- every label brings its item in: the contents are the items recorded
abbrev Mirrors : State → (ℕ → ℕ) → Type 0
Mirrors s κ = (v : ℕ) → v < 64 → κ v ≡ items_of s v

module _ (s : State) (k : Invariant s) (κ : ℕ → ℕ) (mirrors : Mirrors s κ) (n x : ℕ) where
  both : (ra rb : Bool) (v a b : ℕ) → κ v ≡ items_of s v → κ a ≡ items_of s a → κ b ≡ items_of s b
      → ◌≡◌ {A = ℕ}
      (elim rb as (λ z. ℕ) [
        | true ↦ elim ra as (λ z. ℕ) [ true ↦ κ v ∪ κ a ∪ κ b | false ↦ κ v ∪ κ a ]
        | false ↦ elim ra as (λ z. ℕ) [ true ↦ κ v ∪ κ b | false ↦ κ v ]
      ])
      (elim ra as (λ z. ℕ) [
        | true ↦ elim rb as (λ z. ℕ) [ true ↦ items_of s v ∪ items_of s a | false ↦ items_of s v ] ∪ items_of s b
        | false ↦ elim rb as (λ z. ℕ) [ true ↦ items_of s v ∪ items_of s a | false ↦ items_of s v ]
      ])
  both true true v a b e f g = rw (e, f, g) refl
  both true false v a b e f g = rw (e, g) refl
  both false true v a b e f g = rw (e, f) refl
  both false false v a b e f g = e

  mirror_exchange : (t : Tables) (a b v : ℕ) → Fit s.tables t (exchange a b) → v < 64 → flowed collecting n x s.tables (exchange a b) κ v ≡ get_or (moved_in s (exchange a b)) v 0
  unfolding flowed collecting moved at_once Fit items_of
  mirror_exchange t a b v fit hv =
      both (has (reach s.tables a) v) (has (reach s.tables b) v) v a b (mirrors v hv) (mirrors a fit.0) (mirrors b fit.1)
      ∙ sym (ap (λ (l : List ℕ). get_or l v 0) (as_at_once s.tables (fed_bound s k.linking) s.items k.along a b fit.0 fit.1)
      ∙ given_at (given s.items (reach s.tables b) (items_of s a)) (reach s.tables a) (items_of s b) v hv
      ∙ ap (λ (y : ℕ). elim (has (reach s.tables a) v) as (λ z. ℕ) [ true ↦ y ∪ items_of s b | false ↦ y ]) (given_at s.items (reach s.tables b) (items_of s a) v hv))

  mirror_flow : (t : Tables) (f : Flow) → Fit s.tables t f → ((u i : ℕ) → f ≡ arrival u i → x ≡ only i) → (v : ℕ) → v < 64 → flowed collecting n x s.tables f κ v ≡ get_or (moved_in s f) v 0
  unfolding flowed collecting moved Fit items_of
  mirror_flow t still fit e v hv = mirrors v hv
  mirror_flow t (gift g u) fit e v hv =
      choices (has (reach s.tables u) v) _ _ _ _ (λ l. ap₂ ◌∪◌ (mirrors v hv) (mirrors g fit.0)) (λ l. mirrors v hv) ∙ sym (given_at s.items _ _ v hv)
  mirror_flow t (arrival u i) fit e v hv =
      choices (has (reach s.tables u) v) _ _ _ _ (λ l. ap₂ ◌∪◌ (mirrors v hv) (e u i refl)) (λ l. mirrors v hv) ∙ sym (given_at s.items _ _ v hv)
  mirror_flow t (exchange a b) fit e v hv = mirror_exchange t a b v fit hv
  mirror_flow t (copy a b) fit e v hv =
      choice (λ z. z ≡ items_of s (source a b v)) (eqb v b) (κ a) (κ v)
      (λ l. mirrors a fit.0 ∙ ap (items_of s) (sym (source_copy a b v (eqb-true v b l))))
      (λ l. mirrors v hv ∙ ap (items_of s) (sym (source_other a b v (eqb-false v b l))))
      ∙ sym (copy_at s a b v hv)
  mirror_flow t (clear u) fit e v hv = choices (eqb v u) _ _ _ _ (λ l. refl) (λ l. mirrors v hv) ∙ sym (clear_at s u v hv)

  mirror_change : (q : Option Call) (y : Change) → Made s q y → ((i : ℕ) → label_of q ≡ some i → x ≡ only i) → Mirrors (after s y) (changed collecting n x s.tables y κ)
  unfolding changed collecting
  mirror_change q y m e v hv =
      choices (ended s.tables y.tables v) _ _ _ _ (λ l. refl) (λ l. mirror_flow y.tables y.flow m.fit (λ u i z. e i (m.labelled u i z)) v hv)
      ∙ sym (after_items s y v hv)

  mirror_outcome : (q : Option Call) (o : Outcome) → Sound s q o → ((i : ℕ) → label_of q ≡ some i → x ≡ only i) → Mirrors (state_after s o) (contents_after collecting n x s o κ)
  unfolding state_after contents_after Sound with_rule items_of
  mirror_outcome q (refuses j) h e = mirrors
  mirror_outcome q (loads j r) h e = mirrors
  mirror_outcome q (allows y g) h e = mirror_change q y h e
  mirror_outcome q (inhibits j) h e = mirrors
  mirror_outcome q (modifies j c y g) h e = mirror_change q y h e

  mirror_step : (y : Step) → ((i : ℕ) → item_labelled y ≡ some i → x ≡ only i) → Mirrors (step_state s y) (step_contents collecting n x s y κ)
  unfolding step_state step_contents item_labelled collecting
  mirror_step (entry bytes) e = mirror_outcome (call_of bytes) (outcome s bytes) (sound s k bytes) e
  mirror_step memory e = mirrors

-- the inputs, where labels of the items of `out` bring nothing
abbrev inputs : (ℕ → Bool) → List Step → ℕ → ℕ
inputs out steps n = brought out (item_labelled (step_at steps n))

brings : (o : Option ℕ) (i : ℕ) → o ≡ some i → brought every o ≡ only i
unfolding brought
brings o i e = rw e refl

pub mirror : (steps : List Step) (k : ℕ) → Mirrors (state_at steps k) (run_at collecting (inputs every steps) steps k).contents
unfolding run_at state_at collecting
mirror steps zero = λ v hv. sym (fresh_empty v)
mirror steps (suc k) =
    rw (run_tracker collecting (inputs every steps) steps k)
    (mirror_step (state_at steps k) (state_kept steps k) (run_at collecting (inputs every steps) steps k).contents (mirror steps k) k (inputs every steps k) (step_at steps k)
    (λ i e. brings (item_labelled (step_at steps k)) i e))

-- ---- labels of item i bring nothing: no contents have it
module _ (i : ℕ) where
  abbrev Lack : (ℕ → ℕ) → Type 0
  Lack κ = (v : ℕ) → has (κ v) i ≡ false

  lack_union : (x y : ℕ) → has x i ≡ false → has y i ≡ false → has (x ∪ y) i ≡ false
  lack_union x y h k = union_has x y i ∙ or_false_i (has x i) (has y i) h k

  module _ (s : State) (κ : ℕ → ℕ) (lack : Lack κ) (n x : ℕ) (none_in : has x i ≡ false) where
    lack_flow : (f : Flow) → Lack (flowed collecting n x s.tables f κ)
    unfolding flowed collecting
    lack_flow still v = lack v
    lack_flow (gift g u) v = choice (λ z. has z i ≡ false) (has (reach s.tables u) v) _ _ (λ l. lack_union _ _ (lack v) (lack g)) (λ l. lack v)
    lack_flow (arrival u j) v = choice (λ z. has z i ≡ false) (has (reach s.tables u) v) _ _ (λ l. lack_union _ _ (lack v) none_in) (λ l. lack v)
    lack_flow (exchange a b) v =
        choice (λ z. has z i ≡ false) (has (reach s.tables b) v) _ _
        (λ l. choice (λ z. has z i ≡ false) (has (reach s.tables a) v) _ _ (λ m. lack_union _ _ (lack_union _ _ (lack v) (lack a)) (lack b)) (λ m. lack_union _ _ (lack v) (lack a)))
        (λ l. choice (λ z. has z i ≡ false) (has (reach s.tables a) v) _ _ (λ m. lack_union _ _ (lack v) (lack b)) (λ m. lack v))
    lack_flow (copy a b) v = choice (λ z. has z i ≡ false) (eqb v b) _ _ (λ l. lack a) (λ l. lack v)
    lack_flow (clear u) v = choice (λ z. has z i ≡ false) (eqb v u) _ _ (λ l. none_has i) (λ l. lack v)

    lack_change : (y : Change) → Lack (changed collecting n x s.tables y κ)
    unfolding changed collecting
    lack_change y v = choice (λ z. has z i ≡ false) (ended s.tables y.tables v) _ _ (λ l. none_has i) (λ l. lack_flow y.flow v)

    lack_outcome : (o : Outcome) → Lack (contents_after collecting n x s o κ)
    unfolding contents_after
    lack_outcome (refuses j) = lack
    lack_outcome (loads j r) = lack
    lack_outcome (allows y g) = lack_change y
    lack_outcome (inhibits j) = lack
    lack_outcome (modifies j c y g) = lack_change y

    lack_step : (y : Step) → Lack (step_contents collecting n x s y κ)
    unfolding step_contents collecting
    lack_step (entry bytes) = lack_outcome (outcome s bytes)
    lack_step memory = lack

  left_out : (o : Option ℕ) → has (brought (eqb i) o) i ≡ false
  unfolding brought
  left_out none = none_has i
  left_out (some j) =
      choice (λ z. has z i ≡ false) (eqb i j) 0 (only j) (λ e. none_has i) (λ e. only_has j i ∙ ne_eqb j i (λ q. eqb-false i j e (sym q)))

  pub lacks : (steps : List Step) (k : ℕ) → Lack (run_at collecting (inputs (eqb i) steps) steps k).contents
  unfolding run_at collecting
  lacks steps zero = λ v. none_has i
  lacks steps (suc k) = lack_step _ _ (lacks steps k) k _ (left_out (item_labelled (step_at steps k))) (step_at steps k)

  -- the two inputs differ at labels of item i only
  differs : (o : Option ℕ) → (o ≡ some i → ⊥) → brought every o ≡ brought (eqb i) o
  unfolding brought
  differs none n = refl
  differs (some j) n = sym (chosen_r (eqb i j) 0 (only j) (ne_eqb i j (λ e. n (ap some (sym e)))))

-- ---- the theorem
answered : (s : State) (c x : ℕ) → items_query s c ≡ result x → (c < 64) × (items_of s c ≡ x)
unfolding items_query
answered s c x = go (ltb c 64) refl
  where
    go : (b : Bool) → ltb c 64 ≡ b → ◌≡◌ {A = Reply} (elim b as (λ z. Reply) [ true ↦ result (items_of s c) | false ↦ refuse 5 ]) (result x) → (c < 64) × (items_of s c ≡ x)
    go true e h = (ltb-true c 64 e, cc)
    go false e h = absurd (let z : ◌≡◌ {A = ℕ} 0 1 = cc in let y : ⊥ = omega arith in y)

pub exact : Exact
unfolding Exact DifferOnlyAt collecting
exact steps k l c i x e h =
    let a = answered (state_at steps k) c x e in
    record {
      machine = collecting;
      from_zero = refl;
      in₁ = inputs every steps;
      in₂ = inputs (eqb i) steps;
      only_labels = λ n d. differs i (item_labelled (step_at steps n)) d;
      differ = λ q. no_both h (ap (λ (z : ℕ). has z i) (sym a.1 ∙ sym (mirror steps k c a.0) ∙ q) ∙ lacks i steps k c);
    }
