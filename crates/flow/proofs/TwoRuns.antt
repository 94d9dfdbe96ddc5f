-- Demand 3, proved over the definitions.
use Prim.Native.Nat.{ℕ, zero, suc, ◌≤◌, ◌<◌}
use native.Mathlib.Omega.{arith}
use native.Mathlib.Decide.{ℕ_discrete}
use mathlib.Core.Path.{◌≡◌, refl, sym, ap, ap₂, ◌∙◌}
use mathlib.Core.Logic.{◌⊎◌, ⊎_elim}
use mathlib.Core.Bool.{Bool, true, false, not, ◌&&◌, ◌||◌}
use mathlib.Core.List.{List, [], ◌∷◌, ◌++◌}
use mathlib.Core.Option.{Option, none, some}
use lib.Dec.{ltb, eqb}
use borrow.Author.Tests.{eqb-true, eqb-false, eq-eqb, lt-ltb}
use Rattle.sets.specs.Sets.{has}
use Rattle.sets.proofs.Members.{none_has}
use Rattle.flow.specs.Box.{Condition, forbid, separate, confine, Rule, Tables, State, items_of, holds}
use Rattle.flow.specs.Links.{linked, reach, used}
use Rattle.flow.specs.Calls.{Call, Flow, still, gift, arrival, exchange, copy, clear, Change, moved, ended, after}
use Rattle.flow.specs.Rules.{breaks, broken, first_broken, lowest_broken, forbids}
use Rattle.flow.specs.Records.{call_of}
use Rattle.flow.specs.Verdicts.{Outcome, refuses, loads, allows, inhibits, modifies, outcome, with_rule, state_after}
use Rattle.flow.specs.Queries.{result, items_query}
use Rattle.flow.specs.Contents.{Step, entry, memory, Feeder, Machine, flowed, changed, contents_after, linked_to, step_contents, step_state, step_at, state_at, run_at, label_of, item_labelled}
use Rattle.flow.specs.TwoRuns.{RecordedWithout, Forbidden, first, later, RulesForbid, Agree, Demand3}
use Rattle.flow.proofs.Bools.{and_l, and_r, or_false_l, or_false_r, and_false_l, and_false_r, by, no_both, choices, chosen_l}
use Rattle.flow.proofs.TableLaws.{none_of}
use Rattle.flow.proofs.Judging.{first_whole}
use Rattle.flow.proofs.Moves.{in_list, moved_in, Fit, source, source_copy, source_other, gift_holds, arrival_holds, exchange_holds, copy_holds, clear_holds}
use Rattle.flow.proofs.After.{after_in_use, unmoved}
use Rattle.flow.proofs.Outcomes.{Made, Sound}
use Rattle.flow.proofs.Keeping.{Invariant, sound, state_kept}

-- ---- the tracker of a run doesn't depend on the contents
pub run_tracker : {W : Type 0} (m : Machine W) (inputs : ℕ → W) (steps : List Step) (k : ℕ) → (run_at m inputs steps k).tracker ≡ state_at steps k
unfolding run_at state_at
run_tracker m inputs steps zero = refl
run_tracker m inputs steps (suc k) = ap (λ (s : State). step_state s (step_at steps k)) (run_tracker m inputs steps k)

-- ---- a clean container, by what it holds
abbrev pub Free : (ℕ → Bool) → (ℕ → Bool) → Type 0
Free chosen held = (i : ℕ) → i < 64 → chosen i ≡ true → held i ≡ false

pub query_answers : (s : State) (c : ℕ) → c < 64 → items_query s c ≡ result (items_of s c)
unfolding items_query
query_answers s c h = chosen_l (ltb c 64) _ _ (lt-ltb c 64 h)

clean_free : (chosen : ℕ → Bool) (s : State) (c : ℕ) → c < 64 → RecordedWithout chosen s c → Free chosen (holds s c)
unfolding RecordedWithout holds
clean_free chosen s c h k = k (items_of s c) (query_answers s c h)

-- ---- one step
module _ (W : Type 0) (M : Machine W) (chosen : ℕ → Bool) where
  -- clean containers have equal contents
  abbrev Same : State → (ℕ → W) → (ℕ → W) → Type 0
  Same s κ₁ κ₂ = (c : ℕ) → c < 64 → Free chosen (holds s c) → κ₁ c ≡ κ₂ c

  module _ (s : State) (k : Invariant s) (κ₁ κ₂ : ℕ → W) (same : Same s κ₁ κ₂) (n : ℕ) (x₁ x₂ : W) where
    -- a clean receiver was clean, and so was a giver that it is reached from
    module _ (v : ℕ) (reached : Bool) (x y held : ℕ → Bool) (e : (i : ℕ) → held i ≡ (x i || (reached && y i))) (f : Free chosen held) where
      free_self : Free chosen x
      free_self i h c = or_false_l (x i) _ (sym (e i) ∙ f i h c)

      free_giver : reached ≡ true → Free chosen y
      free_giver r i h c = and_false_r reached (y i) r (or_false_r (x i) _ (sym (e i) ∙ f i h c))

    gift_same : (g v : ℕ) → g < 64 → v < 64 → Free chosen (holds s v) → Free chosen (holds s g) → M.gift v (κ₁ v) n (κ₁ g) ≡ M.gift v (κ₂ v) n (κ₂ g)
    gift_same g v hg hv fv fg = ap₂ (λ (y z : W). M.gift v y n z) (same v hv fv) (same g hg fg)

    flow_gift : (t : Tables) (g u v : ℕ) → Fit s.tables t (gift g u) → v < 64 → Free chosen (in_list (moved_in s (gift g u)) v)
        → flowed M n x₁ s.tables (gift g u) κ₁ v ≡ flowed M n x₂ s.tables (gift g u) κ₂ v
    unfolding flowed Fit
    flow_gift t g u v fit hv f =
        let r : Bool = has (reach s.tables u) v in
        let container_of : Free chosen (holds s v) = free_self v r (holds s v) (holds s g) _ (λ i. gift_holds s g u v i hv) f in
        choices r _ _ _ _ (λ l. gift_same g v fit.0 hv container_of (free_giver v r (holds s v) (holds s g) _ (λ i. gift_holds s g u v i hv) f l)) (λ l. same v hv container_of)

    flow_arrival : (t : Tables) (u j v : ℕ) → Fit s.tables t (arrival u j) → (chosen j ≡ false → x₁ ≡ x₂) → v < 64 → Free chosen (in_list (moved_in s (arrival u j)) v)
        → flowed M n x₁ s.tables (arrival u j) κ₁ v ≡ flowed M n x₂ s.tables (arrival u j) κ₂ v
    unfolding flowed Fit
    flow_arrival t u j v fit equal hv f =
        let r : Bool = has (reach s.tables u) v in
        let container_of : Free chosen (holds s v) = free_self v r (holds s v) (eqb j) _ (λ i. arrival_holds s u j v i hv) f in
        let item : r ≡ true → Free chosen (eqb j) = free_giver v r (holds s v) (eqb j) _ (λ i. arrival_holds s u j v i hv) f in
        choices r _ _ _ _
        (λ l. ap₂ (λ (y z : W). M.gift v y n z) (same v hv container_of) (by (chosen j) (λ c. no_both (eq-eqb j j refl) (item l j fit.1 c)) equal))
        (λ l. same v hv container_of)

    flow_exchange : (t : Tables) (a b v : ℕ) → Fit s.tables t (exchange a b) → v < 64 → Free chosen (in_list (moved_in s (exchange a b)) v)
        → flowed M n x₁ s.tables (exchange a b) κ₁ v ≡ flowed M n x₂ s.tables (exchange a b) κ₂ v
    unfolding flowed Fit
    flow_exchange t a b v fit hv f =
        let ra : Bool = has (reach s.tables a) v in
        let rb : Bool = has (reach s.tables b) v in
        let mid : ℕ → Bool = λ i. holds s v i || (rb && holds s a i) in
        let then : ℕ → Bool = λ i. holds s b i || holds s a i in
        let one : Free chosen mid = free_self v ra mid then _ (λ i. exchange_holds s a b v i fit.1 hv) f in
        let from-b : ra ≡ true → Free chosen (holds s b) =
        λ m. free_self b true (holds s b) (holds s a) then (λ i. refl) (free_giver v ra mid then _ (λ i. exchange_holds s a b v i fit.1 hv) f m) in
        let container_of : Free chosen (holds s v) = free_self v rb (holds s v) (holds s a) mid (λ i. refl) one in
        let from-a : rb ≡ true → Free chosen (holds s a) = free_giver v rb (holds s v) (holds s a) mid (λ i. refl) one in
        choices rb _ _ _ _
        (λ l. choices ra _ _ _ _
        (λ m. ap₂ (λ (g : W → W) (z : W). g z) (ap₂ (λ (y z : W). M.both_gifts v y n z) (same v hv container_of) (same a fit.0 (from-a l))) (same b fit.1 (from-b m)))
        (λ m. gift_same a v fit.0 hv container_of (from-a l)))
        (λ l. choices ra _ _ _ _ (λ m. gift_same b v fit.1 hv container_of (from-b m)) (λ m. same v hv container_of))

    flow_copy : (t : Tables) (a b v : ℕ) → Fit s.tables t (copy a b) → v < 64 → Free chosen (in_list (moved_in s (copy a b)) v)
        → flowed M n x₁ s.tables (copy a b) κ₁ v ≡ flowed M n x₂ s.tables (copy a b) κ₂ v
    unfolding flowed Fit holds
    flow_copy t a b v fit hv f =
        let from : (w : ℕ) → source a b v ≡ w → Free chosen (holds s w) = λ w e i h c. ap (λ (z : ℕ). holds s z i) (sym e) ∙ sym (copy_holds s a b v i hv) ∙ f i h c in
        let unheld : eqb v b ≡ true → Free chosen (holds s v) =
        λ e i h c. ap (λ (z : ℕ). has z i) (k.bare v hv (ap (used s.tables) (eqb-true v b e) ∙ fit.2)) ∙ none_has i in
        choices (eqb v b) _ _ _ _
        (λ e. ap₂ (λ (y z : W). M.fork v y n z) (same v hv (unheld e)) (same a fit.0 (from a (source_copy a b v (eqb-true v b e)))))
        (λ e. same v hv (from v (source_other a b v (eqb-false v b e))))

    flow_clear : (u v : ℕ) → v < 64 → Free chosen (in_list (moved_in s (clear u)) v) → flowed M n x₁ s.tables (clear u) κ₁ v ≡ flowed M n x₂ s.tables (clear u) κ₂ v
    unfolding flowed
    flow_clear u v hv f =
        choices (eqb v u) _ _ _ _ (λ e. refl) (λ e. same v hv (λ i h c. and_false_r (not (eqb v u)) _ (ap not e) (sym (clear_holds s u v i hv) ∙ f i h c)))

    flow_same : (t : Tables) (f : Flow) → Fit s.tables t f → ((u i : ℕ) → f ≡ arrival u i → chosen i ≡ false → x₁ ≡ x₂) → (v : ℕ) → v < 64
        → Free chosen (in_list (moved_in s f) v) → flowed M n x₁ s.tables f κ₁ v ≡ flowed M n x₂ s.tables f κ₂ v
    unfolding flowed moved holds items_of
    flow_same t still fit equal v hv f = same v hv f
    flow_same t (gift g u) fit equal v hv f = flow_gift t g u v fit hv f
    flow_same t (arrival u j) fit equal v hv f = flow_arrival t u j v fit (equal u j refl) hv f
    flow_same t (exchange a b) fit equal v hv f = flow_exchange t a b v fit hv f
    flow_same t (copy a b) fit equal v hv f = flow_copy t a b v fit hv f
    flow_same t (clear u) fit equal v hv f = flow_clear u v hv f

    -- clean afterwards, and its use not ended: clean before anything was emptied
    free_moved : (q : Option Call) (x : Change) → Made s q x → (v : ℕ) → v < 64 → ended s.tables x.tables v ≡ false
        → Free chosen (holds (after s x) v) → Free chosen (in_list (moved_in s x.flow) v)
    unfolding ended holds
    free_moved q x m v hv e f i h c =
        by (used x.tables v)
        (λ l. ap (λ (z : ℕ). has z i) (sym (after_in_use s x v hv l)) ∙ f i h c)
        (λ l. ap (λ (z : ℕ). has z i) (unmoved s x.tables k.linking k.bare x.flow m.fit v hv (and_false_l (used s.tables v) _ (ap not l) e) l) ∙ none_has i)

    changed_same : (q : Option Call) (x : Change) → Made s q x → ((i : ℕ) → label_of q ≡ some i → chosen i ≡ false → x₁ ≡ x₂)
        → Same (after s x) (changed M n x₁ s.tables x κ₁) (changed M n x₂ s.tables x κ₂)
    unfolding changed
    changed_same q x m equal v hv f =
        choices (ended s.tables x.tables v) _ _ _ _ (λ e. refl)
        (λ e. flow_same x.tables x.flow m.fit (λ u i z. equal i (m.labelled u i z)) v hv (free_moved q x m v hv e f))

    record_same : (q : Option Call) (o : Outcome) → Sound s q o → ((i : ℕ) → label_of q ≡ some i → chosen i ≡ false → x₁ ≡ x₂)
        → Same (state_after s o) (contents_after M n x₁ s o κ₁) (contents_after M n x₂ s o κ₂)
    unfolding state_after contents_after Sound with_rule holds items_of
    record_same q (refuses j) h equal = same
    record_same q (loads j r) h equal = same
    record_same q (allows x g) h equal = changed_same q x h equal
    record_same q (inhibits j) h equal = same
    record_same q (modifies j c x g) h equal = changed_same q x h equal

    -- what links to a clean container is clean
    seen_same : (v : ℕ) → v < 64 → Free chosen (holds s v) → (u : ℕ) → u ≤ 64 → linked_to M s κ₁ v u ≡ linked_to M s κ₂ v u
    unfolding linked_to holds items_of
    seen_same v hv f zero l = refl
    seen_same v hv f (suc u) l =
        let rest : linked_to M s κ₁ v u ≡ linked_to M s κ₂ v u = seen_same v hv f u (omega arith) in
        choices (linked s.tables u v) _ _ _ _
        (λ e. ap₂ (λ (y : W) (ys : List (Feeder W)). record { container = u; contents = y } ∷ ys)
        (same u (omega arith) (λ i h c. by (holds s u i) (λ a. no_both (k.along u v i (omega arith) hv e a) (f i h c)) (λ a. a))) rest)
        (λ e. rest)

    step_same : (x : Step) → ((i : ℕ) → item_labelled x ≡ some i → chosen i ≡ false → x₁ ≡ x₂)
        → Same (step_state s x) (step_contents M n x₁ s x κ₁) (step_contents M n x₂ s x κ₂)
    unfolding step_state step_contents item_labelled
    step_same (entry bytes) equal = record_same (call_of bytes) (outcome s bytes) (sound s k bytes) equal
    step_same memory equal = λ v hv f. ap₂ (λ (y : W) (ys : List (Feeder W)). M.memory v y n ys) (same v hv f) (seen_same v hv f 64 (omega arith))

-- ---- every moment
module _ (W : Type 0) (M : Machine W) (chosen : ℕ → Bool) (steps : List Step) (in₁ in₂ : ℕ → W) (agree : Agree chosen steps in₁ in₂) where
  pub all_same : (k : ℕ) → Same W M chosen (state_at steps k) (run_at M in₁ steps k).contents (run_at M in₂ steps k).contents
  unfolding run_at state_at Agree
  all_same zero = λ c h f. refl
  all_same (suc k) =
      rw (run_tracker M in₁ steps k, run_tracker M in₂ steps k)
      (step_same W M chosen (state_at steps k) (state_kept steps k) (run_at M in₁ steps k).contents (run_at M in₂ steps k).contents (all_same k) k (in₁ k) (in₂ k) (step_at steps k) (agree k))

-- ---- forbidden containers
forbidden_more : (c i : ℕ) {rs : List Rule} (ts : List Rule) → Forbidden c i rs → Forbidden c i (rs ++ ts)
forbidden_more c i ts (first h) = first h
forbidden_more c i ts (later h) = later (forbidden_more c i ts h)

-- no rule is lost
outcome_forbids : (s : State) (q : Option Call) (o : Outcome) (c i : ℕ) → Sound s q o → Forbidden c i s.rules → Forbidden c i (state_after s o).rules
unfolding state_after Sound with_rule after
outcome_forbids s q (refuses n) c i h f = f
outcome_forbids s q (loads n r) c i h f = forbidden_more c i (r ∷ []) f
outcome_forbids s q (allows x g) c i h f = f
outcome_forbids s q (inhibits n) c i h f = f
outcome_forbids s q (modifies n d x g) c i h f = f

step_forbids : (s : State) (x : Step) (c i : ℕ) → Invariant s → Forbidden c i s.rules → Forbidden c i (step_state s x).rules
unfolding step_state
step_forbids s (entry bytes) c i k f = outcome_forbids s (call_of bytes) (outcome s bytes) c i (sound s k bytes) f
step_forbids s memory c i k f = f

pub forbidden_later : (steps : List Step) (c i j k : ℕ) → j ≤ k → Forbidden c i (state_at steps j).rules → Forbidden c i (state_at steps k).rules
unfolding state_at
forbidden_later steps c i j zero l f = let e : j ≡ 0 = omega arith in rw e at f
forbidden_later steps c i j (suc k) l f = go (ℕ_discrete j (suc k)) (λ m. forbidden_later steps c i j k m f)
  where
    go : Dec (j ≡ suc k) → (j ≤ k → Forbidden c i (state_at steps k).rules) → Forbidden c i (state_at steps (suc k)).rules
    go (yes e) g = rw e at f
    go (no e) g = step_forbids (state_at steps k) (step_at steps k) c i (state_kept steps k) (g (omega arith))

barred_later : (chosen : ℕ → Bool) (steps : List Step) (c j k : ℕ) → j ≤ k → RulesForbid chosen (state_at steps j) c → RulesForbid chosen (state_at steps k) c
unfolding RulesForbid
barred_later chosen steps c j k l b i h m = forbidden_later steps c i j k l (b i h m)

unbroken_forbids : (s : State) (d : Condition) (c i : ℕ) → breaks s d c ≡ false → forbids d c i ≡ true → holds s c i ≡ false
unfolding breaks forbids
unbroken_forbids s (forbid j x) c i e f =
    rw (eqb-true i j (and_l _ (has x c) f)) (and_false_l (holds s c j) _ (and_r (eqb i j) _ f) e)
unbroken_forbids s (separate j k) c i e f = no_both f refl
unbroken_forbids s (confine j x) c i e f =
    rw (eqb-true i j (and_l _ (not (has x c)) f)) (and_false_l (holds s c j) _ (and_r (eqb i j) _ f) e)

forbidden_free : (s : State) (c i : ℕ) → c < 64 → {rs : List Rule} (n : ℕ) → first_broken s n rs ≡ none → Forbidden c i rs → holds s c i ≡ false
unfolding broken
forbidden_free s c i h n e (first {r} {rs} f) = unbroken_forbids s r.condition c i (none_of _ (breaks s r.condition) c (first_whole s n r rs e).0 h) f
forbidden_free s c i h n e (later {r} {rs} f) = forbidden_free s c i h (suc n) (first_whole s n r rs e).1 f

barred_free : (chosen : ℕ → Bool) (s : State) (c : ℕ) → Invariant s → c < 64 → RulesForbid chosen s c → Free chosen (holds s c)
unfolding RulesForbid lowest_broken
barred_free chosen s c k h b i hi m = forbidden_free s c i h 0 k.unbroken (b i hi m)

-- ---- the two runs
either_tracker : (P : State → Type 0) (s s₁ s₂ : State) → s₁ ≡ s → s₂ ≡ s → P s₁ ⊎ P s₂ → P s
either_tracker P s s₁ s₂ e₁ e₂ = ⊎_elim (λ h. rw e₁ at h) (λ h. rw e₂ at h)

pub demand3 : Demand3
unfolding Demand3
demand3 W m chosen steps in₁ in₂ agree k l c hc =
    let same = all_same W m chosen steps in₁ in₂ agree k c hc in (
      λ h. same (clean_free chosen (state_at steps k) c hc
          (either_tracker (λ s. RecordedWithout chosen s c) (state_at steps k) _ _ (run_tracker m in₁ steps k) (run_tracker m in₂ steps k) h)),
      λ j lj h. same (barred_free chosen (state_at steps k) c (state_kept steps k) hc
          (barred_later chosen steps c j k lj
          (either_tracker (λ s. RulesForbid chosen s c) (state_at steps j) _ _ (run_tracker m in₁ steps j) (run_tracker m in₂ steps j) h))),
    )
