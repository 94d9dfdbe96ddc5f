-- What a call gets from the tracker: a refusal, or the maps after its change. No rule is judged here.
use Rattle.std.specs.Prelude.{ℕ, ◌<◌, ◌≡◌, true, List, get_or}
use Rattle.std.proofs.Math.Option.{Option, none, some}
use Rattle.sets.specs.Sets.{has, ◌∪◌}
use Rattle.flow.specs.Lists.{first_that}
use Rattle.flow.specs.Box.{container_count, Sort, to_read, both_ways}
use Rattle.flow.specs.Calls.{Kind, Call, map_read, map_both, change}
use Rattle.flow.specs.Refusals.{call_tests}
use Rattle.flow.specs.Gained.{gained}
use Rattle.store.specs.declared.Plan.{Plan}
use Rattle.store.specs.Maps.{Maps, with_items, changed, cleared, items_by}
use Rattle.tracker.specs.Rows.{tables_for}
use Rattle.tracker.specs.Plans.{plan_for, emptied_for, lost_for, gone_of}

-- ---- the two parts of a call's change
-- the maps once its gifts are made
unfoldable pub given : Maps → Call → Maps
given m q = with_items m (items_by m.items (plan_for m q))

-- the maps once the tables are changed, and what the call empties and what it ends the use of is emptied
unfoldable pub finished : Maps → Call → Maps
finished m q =
    let t = tables_for m.tables q in
    record { tables = t; items = cleared (cleared m.items (emptied_for m.tables q)) (gone_of t (lost_for m.tables q)) }

-- the kind of call that maps so
abbrev pub mapping : Sort → Kind
mapping to_read = map_read
mapping both_ways = map_both

-- ---- the whole call
-- with the containers that gained (02, Paper 5)
pub record Worked : Type 0 where
  pub refusal : Option ℕ
  pub maps : Maps
  pub gained : ℕ

unfoldable pub maps_by : Maps → Option Call → Option ℕ → Maps
maps_by m q (some n) = m
maps_by m none none = m
maps_by m (some q) none = changed m (change m.tables q)

abbrev pub done : Option ℕ → Maps → ℕ → Worked
done refusal m g = record { refusal = refusal; maps = m; gained = g }

-- the tests of document 01's table decide; a call that none holds of makes its change
unfoldable pub worked : Maps → Option Call → Worked
worked m q =
    let refusal = first_that (call_tests m.tables q) in
    let after = maps_by m q refusal in
    done refusal after (gained m.items after.items)

-- a plan is made, and g is the set of the containers that gained
pub record Makes (m : Maps) (plan : Plan) (after : Maps) (g : ℕ) : Type 0 where
  pub made : after ≡ with_items m (items_by m.items plan)
  pub told : g ≡ gained m.items (items_by m.items plan)

-- what a call gives is made, then the rest of its change: the maps after it, and the containers that gained
pub record Gives (m : Maps) (q : Call) (after : Maps) (g : ℕ) : Type 0 where
  pub made : after ≡ finished (given m q) q
  pub told : g ≡ gained m.items (given m q).items

-- What a plan says of the items after a call, `after`: nothing is held there but by the plan, and what the plan gives to has what the plan says.
pub record Foreseen (items after : List ℕ) (plan : Plan) : Type 0 where
  pub less : (v i : ℕ) → v < container_count → has (get_or after v 0) i ≡ true → has (get_or (items_by items plan) v 0) i ≡ true
  pub same : (v : ℕ) → v < container_count → has (plan.to ∪ plan.to2) v ≡ true → get_or after v 0 ≡ get_or (items_by items plan) v 0
