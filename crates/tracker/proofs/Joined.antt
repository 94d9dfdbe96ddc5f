-- The parts of a call together: refusals, tables, items and what is released make the maps that the definitions say.
use Prim.Native.Nat.{ℕ, ◌+◌, ◌%◌, ◌<◌}
use native.Mathlib.Omega.{arith}
use mathlib.Core.Path.{◌≡◌, refl, sym, ap, ap₂, ◌∙◌}
use mathlib.Core.Bool.{Bool, true, false, not, ◌&&◌, ◌||◌, and_comm, true≢false}
use mathlib.Core.List.{List}
use mathlib.Core.Option.{Option, none, some}
use lib.Dec.{eqb}
use lib.Bits.{or_zero_l}
use lib.ListN.{length, get_or}
use lib.Seq.{ext_get_or}
use borrow.Author.Tests.{ltb-true, eqb-true, eq-eqb, ne_eqb}
use Rattle.sets.specs.Sets.{has, only, ◌∪◌, ◌∩◌}
use Rattle.sets.proofs.Members.{those_has, none_has, only_has, union_has, without_has, eqb_sym}
use Rattle.flow.specs.Lists.{first_that}
use Rattle.flow.specs.Box.{container_of, Tables, descriptor}
use Rattle.flow.specs.Links.{reach, given, given_from, is_fed, used}
use Rattle.flow.specs.MapBoth.{in_sequence}
use Rattle.flow.specs.Calls.{Kind, start, open_name, create, pipe, device, dup, close, read, write, truncate, map_read, map_both, unmap, unlink, rename, link, fork, exit, label, Call, Flow, still, gift, arrival, exchange, copy, clear, Change, with_live, with_row, with_rows, with_descriptors, tables_by, flow_by, change, moved, ended, items_after}
use Rattle.flow.specs.Refusals.{ranges, in_range, call_tests}
use Rattle.flow.specs.Gained.{has_more, gained}
use Rattle.flow.proofs.GainLaws.{more_some, some_more, gained_at, gained_lt, gained_is, gained_none}
use Rattle.flow.proofs.Bools.{or_elim, or_r, or_false_l, or_false_r, by, no_both, choice, chosen_l, chosen_r, same}
use Rattle.flow.proofs.TableLaws.{table_at, table_length, is_table}
use Rattle.flow.proofs.Moves.{given_at}
use Rattle.flow.proofs.Rows.{now_live}
use Rattle.flow.proofs.Use.{used_process}
use Rattle.flow.proofs.Mapping.{Sized}
use Rattle.flow.proofs.Accepted.{Accepted, accepted, fits_a}
use Rattle.store.specs.declared.Plan.{Plan}
use Rattle.store.specs.Maps.{Maps, with_tables, with_items, view, cleared, files, items_in, items_by, gifts, replacing, MakesItems}
use Rattle.store.proofs.Words.{by_length}
use Rattle.store.proofs.Worklist.{cleared_none}
use Rattle.tracker.specs.Rows.{tables_for, Passes}
use Rattle.tracker.specs.Plans.{nothing, plan_of, plan_by, plan_for, gives_by, free_set, emptied_by, emptied_for, giving, held_by, lost_by, lost_for, gone_of}
use Rattle.tracker.specs.Worked.{given as given_by, finished, done, maps_by, worked, Makes, Foreseen}
use Rattle.tracker.proofs.Facts.{fit_process}
use Rattle.tracker.proofs.Finding.{gone_none, gone_held}
use Rattle.tracker.proofs.Ending.{Ends, ends}

-- ---- a flow is its plan
-- y, with x where the test holds; nothing where it holds, else y
abbrev plus : Bool → ℕ → ℕ → ℕ
plus b x y = elim b [ true ↦ y ∪ x | false ↦ y ]

abbrev unless : Bool → ℕ → ℕ
unless b y = elim b [ true ↦ 0 | false ↦ y ]

pub by_container : (l : List ℕ) (p : Plan) (v : ℕ) → v < 64
    → get_or (items_by l p) v 0 ≡ plus (has p.to2 v) p.given2 (plus (has p.to v) p.given (unless (has p.empty v) (get_or l v 0)))
unfolding items_by cleared
by_container l p v h =
    given_at _ p.to2 p.given2 v h
    ∙ ap (plus (has p.to2 v) p.given2) (given_at _ p.to p.given v h ∙ ap (plus (has p.to v) p.given) (table_at 64 _ v 0 h))

module _ (m : Maps) (long : length m.items ≡ 64) where
  abbrev items : List ℕ
  items = m.items

  -- what a flow clears
  emptied_of : Flow → ℕ
  emptied_of still = 0
  emptied_of (gift g u) = 0
  emptied_of (arrival u i) = 0
  emptied_of (exchange a b) = 0
  emptied_of (copy a b) = 0
  emptied_of (clear u) = only u

  as_gifts : (v : ℕ) → v < 64 → (f : Flow)
      → unless (has (emptied_of f) v) (plus (has (plan_of m f).to2 v) (plan_of m f).given2 (plus (has (plan_of m f).to v) (plan_of m f).given (unless (has (plan_of m f).empty v) (get_or items v 0)))) ≡ get_or (moved m.tables items f) v 0
  unfolding emptied_of plan_of moved in_sequence ◌∪◌
  as_gifts v h still = rw (none_has v)
  as_gifts v h (gift g u) = rw (none_has v) (sym (given_at items (reach m.tables u) (get_or items g 0) v h))
  as_gifts v h (arrival u i) = rw (none_has v) (sym (given_at items (reach m.tables u) (only i) v h))
  as_gifts v h (exchange a b) =
      rw (none_has v)
      (sym (given_at _ (reach m.tables a) _ v h ∙ ap (plus (has (reach m.tables a) v) (get_or (given_from m.tables items a b) b 0)) (given_at items (reach m.tables b) (get_or items a 0) v h)))
  as_gifts v h (copy a b) = rw (none_has v, only_has b v, eqb_sym b v) (go (eqb v b) ∙ sym (table_at 64 (λ x. elim (eqb x b) as (λ z. ℕ) [ true ↦ get_or items a 0 | false ↦ get_or items x 0 ]) v 0 h))
    where
      go : (d : Bool) → plus d (get_or items a 0) (unless d (get_or items v 0)) ≡ elim d as (λ z. ℕ) [ true ↦ get_or items a 0 | false ↦ get_or items v 0 ]
      go true = or_zero_l _
      go false = refl
  as_gifts v h (clear u) = rw (none_has v, only_has u v, eqb_sym u v) (sym (table_at 64 (λ x. elim (eqb x u) as (λ z. ℕ) [ true ↦ 0 | false ↦ get_or items x 0 ]) v 0 h))

  moved_length : (f : Flow) → length (moved m.tables items f) ≡ 64
  unfolding moved in_sequence given
  moved_length still = long
  moved_length (gift g u) = table_length 64 _
  moved_length (arrival u i) = table_length 64 _
  moved_length (exchange a b) = table_length 64 _
  moved_length (copy a b) = table_length 64 _
  moved_length (clear u) = table_length 64 _

  moved_made : (f : Flow) → cleared (items_by items (plan_of m f)) (emptied_of f) ≡ moved m.tables items f
  unfolding cleared
  moved_made f = sym (is_table 64 _ _ (moved_length f) (λ v h. sym (ap (unless (has (emptied_of f) v)) (by_container items (plan_of m f) v h) ∙ as_gifts v h f)))

  -- nothing given is nothing changed
  pub unmoved : items_by items nothing ≡ items
  unfolding ◌∪◌
  unmoved = ext_get_or 0 _ _ (by_length _ _ ∙ sym long) (λ v l. let h : v < 64 = omega (arith, by_length items nothing) in by_container items nothing v h ∙ rw (none_has v) refl)

-- a truncation's flow goes by a test
plan_is : (m : Maps) (p a b c : ℕ) (k : Kind) → plan_by m p a b c k ≡ plan_of m (flow_by m.tables p a b c k)
unfolding plan_by plan_of flow_by
plan_is m p a b c start = refl
plan_is m p a b c open_name = refl
plan_is m p a b c create = refl
plan_is m p a b c pipe = refl
plan_is m p a b c device = refl
plan_is m p a b c dup = refl
plan_is m p a b c close = refl
plan_is m p a b c read = refl
plan_is m p a b c write = refl
plan_is m p a b c truncate = sym (choice (λ (f : Flow). plan_of m f ≡ nothing) (is_fed m.tables (descriptor m.tables p a)) still (clear (descriptor m.tables p a)) (λ e. refl) (λ e. refl))
plan_is m p a b c map_read = refl
plan_is m p a b c map_both = refl
plan_is m p a b c unmap = refl
plan_is m p a b c unlink = refl
plan_is m p a b c rename = refl
plan_is m p a b c link = refl
plan_is m p a b c fork = refl
plan_is m p a b c exit = refl
plan_is m p a b c label = refl

-- a kind that does not give has no plan
quiet_by : (m : Maps) (p a b c : ℕ) (k : Kind) → gives_by k ≡ false → plan_by m p a b c k ≡ nothing
unfolding gives_by plan_by plan_of flow_by
quiet_by m p a b c start h = refl
quiet_by m p a b c open_name h = refl
quiet_by m p a b c create h = refl
quiet_by m p a b c pipe h = refl
quiet_by m p a b c device h = refl
quiet_by m p a b c dup h = refl
quiet_by m p a b c close h = refl
quiet_by m p a b c read h = absurd (true≢false h)
quiet_by m p a b c write h = absurd (true≢false h)
quiet_by m p a b c truncate h = refl
quiet_by m p a b c map_read h = absurd (true≢false h)
quiet_by m p a b c map_both h = absurd (true≢false h)
quiet_by m p a b c unmap h = refl
quiet_by m p a b c unlink h = refl
quiet_by m p a b c rename h = refl
quiet_by m p a b c link h = refl
quiet_by m p a b c fork h = absurd (true≢false h)
quiet_by m p a b c exit h = refl
quiet_by m p a b c label h = absurd (true≢false h)

pub quiet : (m : Maps) (q : Call) → gives_by q.kind ≡ false → plan_for m q ≡ nothing
unfolding plan_for
quiet m q h = quiet_by m q.process q.a q.b q.c q.kind h

-- and leaves the maps as they are
pub quiet_given : (m : Maps) → length m.items ≡ 64 → (q : Call) → gives_by q.kind ≡ false → m ≡ given_by m q
unfolding given_by
quiet_given m long q h = ap (with_items m) (sym (ap (items_by m.items) (quiet m q h) ∙ unmoved m long))

-- a call that passes still does while the tables are the same, so once its gifts are made
pub passes_on : {m after : Maps} (q : Call) → Passes m q → after.tables ≡ m.tables → Passes after q
passes_on q h e = record { none_holds = ap (λ (t : Tables). first_that (call_tests t (some q))) e ∙ h.none_holds }

pub still_passes : {m after : Maps} (q : Call) → Passes m q → after ≡ given_by m q → Passes after q
unfolding given_by
still_passes q h e = passes_on q h (ap (λ (m : Maps). m.tables) e)

-- ---- a call that can give: its plan is made
-- no plan but a fork's empties anything
empties_none : (m : Maps) (p a b c : ℕ) (k : Kind) → (k ≡ fork → ⊥) → (plan_by m p a b c k).empty ≡ 0
unfolding plan_by plan_of flow_by
empties_none m p a b c start n = refl
empties_none m p a b c open_name n = refl
empties_none m p a b c create n = refl
empties_none m p a b c pipe n = refl
empties_none m p a b c device n = refl
empties_none m p a b c dup n = refl
empties_none m p a b c close n = refl
empties_none m p a b c read n = refl
empties_none m p a b c write n = refl
empties_none m p a b c truncate n = refl
empties_none m p a b c map_read n = refl
empties_none m p a b c map_both n = refl
empties_none m p a b c unmap n = refl
empties_none m p a b c unlink n = refl
empties_none m p a b c rename n = refl
empties_none m p a b c link n = refl
empties_none m p a b c fork n = absurd (n refl)
empties_none m p a b c exit n = refl
empties_none m p a b c label n = refl

pub gifts_alone : (m : Maps) (q : Call) → (q.kind ≡ fork → ⊥) → gifts (plan_for m q) ≡ plan_for m q
unfolding plan_for
gifts_alone m q n =
    let p : Plan = plan_for m q in
    ap (λ (e : ℕ). record { empty = e; given = p.given; to = p.to; given2 = p.given2; to2 = p.to2 }) (sym (empties_none m q.process q.a q.b q.c q.kind n))

pub both_no_fork : (k : Kind) → k ≡ map_both → k ≡ fork → ⊥
both_no_fork k e f = let z : map_both ≡ fork = sym e ∙ f in cc

-- that of a fork replaces what the child holds
pub copies : (m : Maps) (q : Call) → q.kind ≡ fork → (8 + q.a) % 64 ≡ container_of q.a → (x : ℕ) → x ≡ (plan_for m q).given
    → replacing ((8 + q.a) % 64) x ≡ plan_for m q
unfolding plan_for plan_by plan_of flow_by
copies m q k c x e = rw (c, e, k) refl

-- the items are made by the gifts of a plan that empties nothing, or by what it replaces
pub makes_plan : (w d n x : List ℕ) (p plan : Plan) (g : ℕ) → p ≡ plan → MakesItems w p x g → Makes (view w d n) plan (view x d n) g
unfolding view
makes_plan w d n x p plan g e h =
    record {
      made = h.made d n ∙ ap (λ (y : Plan). with_items (view w d n) (items_by (view w d n).items y)) e;
      told = h.told ∙ ap (λ (y : Plan). gained (items_in w) (items_by (items_in w) y)) e;
    }

-- the maps once it is made, and those that gained
pub gives_by_lem : (m after : Maps) (q : Call) (plan : Plan) (g : ℕ) → plan ≡ plan_for m q → Makes m plan after g
    → (after ≡ given_by m q) × (g ≡ gained m.items (given_by m q).items)
unfolding given_by
gives_by_lem m after q plan g e h =
    (h.made ∙ ap (λ (p : Plan). with_items m (items_by m.items p)) e, h.told ∙ ap (λ (p : Plan). gained m.items (items_by m.items p)) e)

-- ---- what is released
lost_ended : (m : Maps) (x : Change) (lost : ℕ) → Ends m.tables x.tables lost
    → items_after m.tables m.items x ≡ cleared (moved m.tables m.items x.flow) (gone_of x.tables lost)
unfolding items_after ended cleared gone_of
lost_ended m x lost e =
    sym (is_table 64 _ _ (table_length 64 _)
    (λ c l. table_at 64 _ c 0 l ∙ ap (λ (b : Bool). elim b as (λ z. ℕ) [ true ↦ 0 | false ↦ get_or (moved m.tables m.items x.flow) c 0 ]) (those_has _ c l ∙ same c l)))
  where
    same : (c : ℕ) → c < 64 → (has lost c && not (used x.tables c)) ≡ (used m.tables c && not (used x.tables c))
    same c l =
        by (has lost c)
        (λ h. rw (h, e.before c l h) refl)
        (λ h. by (used m.tables c) (λ u. rw (h, u, e.kept c l h u) refl) (λ u. rw (h, u) refl))

-- where no use can end, nothing is gone
none_gone : (t : Tables) (v : ℕ) → v < 64 → has (gone_of t 0) v ≡ false
unfolding gone_of
none_gone t v h = those_has _ v h ∙ ap (λ (b : Bool). b && not (used t v)) (none_has v)

-- where nothing is emptied, all stays
kept : (l : List ℕ) → length l ≡ 64 → cleared l 0 ≡ l
unfolding cleared
kept l e = sym (is_table 64 _ l e (λ c h. sym (chosen_r (has 0 c) 0 _ (none_has c))))

-- less what is dropped is no more
unless_less : (b : Bool) (x i : ℕ) → has (unless b x) i ≡ true → has x i ≡ true
unless_less true x i h = no_both h (none_has i)
unless_less false x i h = h

-- what is gone need not be emptied
dropped : (l : List ℕ) (x u : ℕ) → has x u ≡ true → cleared (cleared l 0) x ≡ cleared (cleared l (only u)) x
unfolding cleared
dropped l x u g = is_table 64 _ _ (table_length 64 _) (λ v h. table_at 64 _ v 0 h ∙ ap (unless (has x v)) (table_at 64 _ v 0 h) ∙ same v ∙ ap (unless (has x v)) (sym (table_at 64 _ v 0 h)))
  where
    same : (v : ℕ) → unless (has x v) (unless (has 0 v) (get_or l v 0)) ≡ unless (has x v) (unless (has (only u) v) (get_or l v 0))
    same v =
        rw (none_has v, only_has u v)
        (by (has x v) (λ e. rw e refl) (λ e. ap (unless (has x v)) (sym (chosen_r (eqb u v) 0 (get_or l v 0) (ne_eqb u v (λ d. no_both (ap (has x) (sym d) ∙ g) e))))))

-- ---- a call that is not refused
module _ (m : Maps) (long : length m.items ≡ 64) (sized : Sized m.tables) (ln : length m.tables.names ≡ 128) (q : Call) where
  -- the same call of another kind
  abbrev as_kind : Kind → Call
  as_kind k = record { kind = k; process = q.process; a = q.a; b = q.b; c = q.c }

  abbrev tables_of : Kind → Tables
  tables_of k = tables_by m.tables q.process q.a q.b q.c k

  abbrev planned : Kind → Plan
  planned k = plan_by m q.process q.a q.b q.c k

  abbrev gone : Kind → ℕ
  gone k = gone_of (tables_of k) (lost_by m.tables q.process q.a q.b q.c k)

  abbrev emptied : Kind → ℕ
  emptied k = emptied_by m.tables q.process q.a q.b q.c k

  -- the process that exits is gone
  exit_gone : q.process < 16 → has (gone exit) (container_of q.process) ≡ true
  unfolding gone_of lost_by tables_by with_live with_rows with_row with_descriptors
  exit_gone l =
      let own = container_of q.process in
      let dead : used (tables_of exit) own ≡ false = used_process (tables_of exit) q.process l ∙ without_has m.tables.live q.process q.process (omega arith) ∙ rw (eq-eqb q.process q.process refl) (and_comm (has m.tables.live q.process) false) in
      those_has _ own (omega arith)
      ∙ rw (dead, union_has (held_by m.tables q.process) (only own) own, only_has own own, eq-eqb own own refl) (ap (λ (b : Bool). b && true) (or_r (has (held_by m.tables q.process) own) true refl))

  -- what the flow clears is emptied, or gone
  drops : (k : Kind) → q.process < 16 → (l : List ℕ) → cleared (cleared l (emptied k)) (gone k) ≡ cleared (cleared l (emptied_of m long (flow_by m.tables q.process q.a q.b q.c k))) (gone k)
  unfolding emptied_by emptied_of flow_by free_set
  drops start h l = refl
  drops open_name h l = refl
  drops create h l = refl
  drops pipe h l = refl
  drops device h l = refl
  drops dup h l = refl
  drops close h l = refl
  drops read h l = refl
  drops write h l = refl
  drops map_read h l = refl
  drops map_both h l = refl
  drops unmap h l = refl
  drops unlink h l = refl
  drops rename h l = refl
  drops link h l = refl
  drops fork h l = refl
  drops label h l = refl
  drops truncate h l = ap (λ (x : ℕ). cleared (cleared l x) (gone truncate)) (sym (choice (λ (f : Flow). emptied_of m long f ≡ free_set m.tables (descriptor m.tables q.process q.a)) (is_fed m.tables (descriptor m.tables q.process q.a)) still (clear (descriptor m.tables q.process q.a)) (λ e. sym (chosen_l _ 0 _ e)) (λ e. sym (chosen_r _ 0 _ e))))
  drops exit h l = dropped l (gone exit) (container_of q.process) (exit_gone h)

  -- the items moved, then what is no longer in use emptied
  made : (k : Kind) → Accepted m.tables (as_kind k) → cleared (cleared (items_by m.items (planned k)) (emptied k)) (gone k) ≡ items_after m.tables m.items (change m.tables (as_kind k))
  unfolding change
  made k h =
      let p : q.process < 16 = fit_process (as_kind k) h.fits in
      drops k p (items_by m.items (planned k))
      ∙ ap (λ (l : List ℕ). cleared l (gone k)) (ap (λ (x : Plan). cleared (items_by m.items x) (emptied_of m long (flow_by m.tables q.process q.a q.b q.c k))) (plan_is m q.process q.a q.b q.c k) ∙ moved_made m long (flow_by m.tables q.process q.a q.b q.c k))
      ∙ sym (lost_ended m (change m.tables (as_kind k)) _ (ends m.tables sized ln q.process q.a q.b q.c p k h))

  -- gifts and the rest together are the call
  pub finished_call : first_that (call_tests m.tables (some q)) ≡ none → finished (given_by m q) q ≡ maps_by m (some q) none
  unfolding given_by finished maps_by tables_for plan_for emptied_for lost_for change
  finished_call e = ap (λ (l : List ℕ). record { tables = tables_of q.kind; items = l }) (made q.kind (accepted m.tables q e))

  -- ---- what the plan foresees
  -- where nothing is given, nobody receives
  nobody : (v : ℕ) {P : Type 0} → has (0 ∪ 0) v ≡ true → P
  nobody v h = no_both h (union_has 0 0 v ∙ ap (λ (b : Bool). b || b) (none_has v))

  fork_stays : q.a < 16 → (v : ℕ) → v < 64 → has (only (container_of q.a) ∪ 0) v ≡ true → has (gone_of (tables_of fork) (held_by m.tables q.a)) v ≡ false
  unfolding gone_of tables_by with_live with_rows with_row with_descriptors
  fork_stays l v h r =
      let e : eqb (container_of q.a) v ≡ true = sym (only_has (container_of q.a) v) ∙ or_elim (has (only (container_of q.a)) v) (has 0 v) (λ z. z) (λ z. no_both z (none_has v)) (sym (union_has (only (container_of q.a)) 0 v) ∙ r) in
      let u : used (tables_of fork) v ≡ true = rw (← (eqb-true (container_of q.a) v e)) (used_process (tables_of fork) q.a l ∙ now_live m.tables.live q.a) in
      those_has _ v h ∙ rw u (and_comm (has (held_by m.tables q.a) v) false)

  stays : (k : Kind) → Accepted m.tables (as_kind k) → (v : ℕ) → v < 64 → has ((planned k).to ∪ (planned k).to2) v ≡ true → (has (gone k) v ≡ false) × (has (emptied k) v ≡ false)
  unfolding plan_by plan_of flow_by lost_by emptied_by ranges in_range
  stays start h v l r = nobody v r
  stays open_name h v l r = nobody v r
  stays create h v l r = nobody v r
  stays pipe h v l r = nobody v r
  stays device h v l r = nobody v r
  stays dup h v l r = nobody v r
  stays close h v l r = nobody v r
  stays read h v l r = (none_gone _ v l, none_has v)
  stays write h v l r = (none_gone _ v l, none_has v)
  stays truncate h v l r = nobody v r
  stays map_read h v l r = (none_gone _ v l, none_has v)
  stays map_both h v l r = (none_gone _ v l, none_has v)
  stays unmap h v l r = nobody v r
  stays unlink h v l r = nobody v r
  stays rename h v l r = nobody v r
  stays link h v l r = nobody v r
  stays fork h v l r = (fork_stays (ltb-true q.a 16 (fits_a (ranges fork) (as_kind fork) h.fits)) v l r, none_has v)
  stays exit h v l r = nobody v r
  stays label h v l r = (none_gone _ v l, none_has v)

  foreseen_by : (k : Kind) → Accepted m.tables (as_kind k) → Foreseen m.items (items_after m.tables m.items (change m.tables (as_kind k))) (planned k)
  unfolding cleared
  foreseen_by k h =
      let y : ℕ → ℕ = λ v. get_or (items_by m.items (planned k)) v 0 in
      let at : (v : ℕ) → v < 64 → get_or (items_after m.tables m.items (change m.tables (as_kind k))) v 0 ≡ unless (has (gone k) v) (unless (has (emptied k) v) (y v)) =
      λ v l. ap (λ (x : List ℕ). get_or x v 0) (sym (made k h)) ∙ table_at 64 _ v 0 l ∙ ap (unless (has (gone k) v)) (table_at 64 _ v 0 l) in
      record {
        less = λ v i l e. unless_less (has (emptied k) v) (y v) i (unless_less (has (gone k) v) _ i (ap (λ (x : ℕ). has x i) (sym (at v l)) ∙ e));
        same = λ v l r. let s = stays k h v l r in at v l ∙ chosen_r (has (gone k) v) 0 _ s.0 ∙ chosen_r (has (emptied k) v) 0 _ s.1;
      }

  -- of a call that is not refused
  pub foreseen : first_that (call_tests m.tables (some q)) ≡ none → Foreseen m.items (items_after m.tables m.items (change m.tables q)) (plan_for m q)
  unfolding plan_for
  foreseen e = foreseen_by q.kind (accepted m.tables q e)

-- a gift alone, where the tables stay, is its plan (01, What a record gets: a diverted write)
pub gift_made : (m : Maps) → length m.items ≡ 64 → (g u : ℕ)
    → items_after m.tables m.items (record { tables = m.tables; flow = gift g u }) ≡ items_by m.items (giving (get_or m.items g 0) (reach m.tables u))
unfolding plan_of cleared emptied_of
gift_made m long g u =
    lost_ended m (record { tables = m.tables; flow = gift g u }) 0 (record { before = λ v hv h. no_both h (none_has v); kept = λ v hv h z. z })
    ∙ sym (is_table 64 _ (moved m.tables m.items (gift g u)) (moved_length m long (gift g u)) (λ c h. sym (chosen_r (has (gone_of m.tables 0) c) 0 _ (none_gone m.tables c h))))
    ∙ sym (moved_made m long (gift g u)) ∙ kept (items_by m.items (plan_of m (gift g u))) (by_length _ _)

-- ---- what `work` answers
pub refused : (m : Maps) (q : Option Call) (n : ℕ) → some n ≡ first_that (call_tests m.tables q) → done (some n) m 0 ≡ worked m q
unfolding worked maps_by
refused m q n e = rw (← e, gained_none m.items m.items (λ c i l h. h)) refl

pub worked_out : (m w : Maps) (q : Option Call) (g : ℕ) → first_that (call_tests m.tables q) ≡ none → w ≡ maps_by m q none → g ≡ gained m.items (maps_by m q none).items
    → done none w g ≡ worked m q
unfolding worked
worked_out m w q g e h f = rw e (ap₂ (done none) h f)

-- ---- what gains by a call gains by its plan (02, Paper 5)
module _ (items after : List ℕ) (p : Plan) (f : Foreseen items after p) where
  -- what the plan does not give to holds no more than before
  not_given : (v i : ℕ) → v < 64 → has (p.to ∪ p.to2) v ≡ false → has (get_or (items_by items p) v 0) i ≡ true → has (get_or items v 0) i ≡ true
  not_given v i h n e =
      let k : (has p.to v || has p.to2 v) ≡ false = sym (union_has p.to p.to2 v) ∙ n in
      unless_less (has p.empty v) (get_or items v 0) i
      (ap (λ (x : ℕ). has x i) (sym (by_container items p v h ∙ chosen_r (has p.to2 v) _ _ (or_false_r (has p.to v) _ k) ∙ chosen_r (has p.to v) _ _ (or_false_l (has p.to v) _ k))) ∙ e)

  pub foreseen_gained : gained items (items_by items p) ≡ gained items after
  foreseen_gained =
      gained_is items after (gained items (items_by items p)) (gained_lt items (items_by items p))
      (λ v h. gained_at items (items_by items p) v h ∙ same _ _
      (λ e. by (has (p.to ∪ p.to2) v) (λ z. ap (has_more (get_or items v 0)) (f.same v h z) ∙ e)
      (λ z. let g = some_more _ _ e in no_both (not_given v g.0 h z g.1) g.2))
      (λ e. let g = some_more _ _ e in more_some _ _ g.0 (f.less v g.0 h g.1) g.2))

module _ (m : Maps) (long : length m.items ≡ 64) (sized : Sized m.tables) (ln : length m.tables.names ≡ 128) (q : Call) (e : first_that (call_tests m.tables (some q)) ≡ none) where
  pub gained_call : gained m.items (given_by m q).items ≡ gained m.items (maps_by m (some q) none).items
  unfolding given_by maps_by
  gained_call = foreseen_gained m.items _ _ (foreseen m long sized ln q e)

  -- where nothing is given
  pub gained_quiet : gives_by q.kind ≡ false → 0 ≡ gained m.items (maps_by m (some q) none).items
  gained_quiet n = sym (gained_none m.items m.items (λ c i l h. h)) ∙ ap (λ (w : Maps). gained m.items w.items) (quiet_given m long q n) ∙ gained_call

-- ---- the rest of a call that can give
gives_empties : (t : Tables) (p a b c : ℕ) (k : Kind) → gives_by k ≡ true → emptied_by t p a b c k ≡ 0
unfolding gives_by emptied_by
gives_empties t p a b c start h = no_both h refl
gives_empties t p a b c open_name h = refl
gives_empties t p a b c create h = no_both h refl
gives_empties t p a b c pipe h = no_both h refl
gives_empties t p a b c device h = refl
gives_empties t p a b c dup h = refl
gives_empties t p a b c close h = refl
gives_empties t p a b c read h = refl
gives_empties t p a b c write h = refl
gives_empties t p a b c truncate h = no_both h refl
gives_empties t p a b c map_read h = refl
gives_empties t p a b c map_both h = refl
gives_empties t p a b c unmap h = refl
gives_empties t p a b c unlink h = refl
gives_empties t p a b c rename h = refl
gives_empties t p a b c link h = refl
gives_empties t p a b c fork h = refl
gives_empties t p a b c exit h = refl
gives_empties t p a b c label h = refl

-- the maps w after the tables are changed and the set x of those that are not in use is emptied
pub finished_given : (m w : Maps) → length m.items ≡ 64 → (q : Call) → gives_by q.kind ≡ true → (x : ℕ)
    → (let t = tables_for m.tables q in gone_of t x ≡ gone_of t (lost_for m.tables q) → w ≡ record { tables = t; items = cleared m.items (gone_of t x) } → w ≡ finished m q)
unfolding finished emptied_for
finished_given m w long q h x e f =
    let t : Tables = tables_for m.tables q in
    let none : m.items ≡ cleared m.items (emptied_for m.tables q) = cleared_none m.items long ∙ ap (cleared m.items) (sym (gives_empties m.tables q.process q.a q.b q.c q.kind h)) in
    f ∙ ap (λ (l : List ℕ). record { tables = t; items = l }) (ap₂ cleared none e)

pub finished_fork : (m w : Maps) → length m.items ≡ 64 → (q : Call) → q.kind ≡ fork → (held : ℕ) → held ≡ held_by m.tables q.a
    → (let f = with_tables m (tables_by m.tables q.process q.a 0 0 fork) in w ≡ with_items f (cleared f.items (gone_of f.tables (held ∩ files))) → w ≡ finished m q)
unfolding tables_for tables_by lost_for lost_by gives_by
finished_fork m w long q k held e f =
    finished_given m w long q (rw k refl) (held ∩ files) (rw (k, e) (gone_held m.tables _ q.a)) (rw k f)

lost_none : (t : Tables) (p a b c : ℕ) (k : Kind) → gives_by k ≡ true → (k ≡ fork → ⊥) → lost_by t p a b c k ≡ 0
unfolding gives_by lost_by
lost_none t p a b c start h n = refl
lost_none t p a b c open_name h n = refl
lost_none t p a b c create h n = refl
lost_none t p a b c pipe h n = refl
lost_none t p a b c device h n = refl
lost_none t p a b c dup h n = refl
lost_none t p a b c close h n = no_both h refl
lost_none t p a b c read h n = refl
lost_none t p a b c write h n = refl
lost_none t p a b c truncate h n = refl
lost_none t p a b c map_read h n = refl
lost_none t p a b c map_both h n = refl
lost_none t p a b c unmap h n = no_both h refl
lost_none t p a b c unlink h n = no_both h refl
lost_none t p a b c rename h n = no_both h refl
lost_none t p a b c link h n = refl
lost_none t p a b c fork h n = absurd (n refl)
lost_none t p a b c exit h n = no_both h refl
lost_none t p a b c label h n = refl

pub finished_raised : (m w : Maps) → length m.items ≡ 64 → (q : Call) → gives_by q.kind ≡ true → (q.kind ≡ fork → ⊥)
    → w ≡ with_tables m (tables_for m.tables q) → w ≡ finished m q
unfolding lost_for
finished_raised m w long q h n e =
    let t : Tables = tables_for m.tables q in
    finished_given m w long q h 0 (ap (gone_of t) (sym (lost_none m.tables q.process q.a q.b q.c q.kind h n)))
    (e ∙ ap (λ (l : List ℕ). record { tables = t; items = l }) (cleared_none m.items long ∙ ap (cleared m.items) (sym (gone_none t))))
