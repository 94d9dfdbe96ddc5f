-- `map` is the row of a map read, or of a map both.
use Prim.Native.Nat.{ℕ, ◌<◌}
use mathlib.Core.Path.{◌≡◌, refl, ap, ◌∙◌}
use mathlib.Core.List.{List, []}
use lib.ListN.{get_or}
use Rattle.flow.specs.Box.{Sort, to_read, both_ways, Tables, closed, slot, descriptor, mappings}
use Rattle.flow.specs.Calls.{Call, map_read, map_both, raised, tables_by}
use Rattle.flow.specs.Refusals.{need_of}
use Rattle.store.specs.Maps.{with_tables, view}
use Rattle.store.specs.Sorts.{sort_in}
use Rattle.tracker.specs.Rows.{tables_for, Passes}
use Rattle.tracker.specs.Worked.{mapping}
use Rattle.tracker.proofs.Facts.{process_lt, leads_to, room_read, room_both}
use Rattle.tracker.proofs.tables.map.Goals as goal

room : (w d n : List ℕ) (q : Call) → Passes (view w d n) q → (x : Sort) → q.kind ≡ mapping x
    → (let to = get_or d (slot q.process q.a) closed in (to < 64) × (mappings (view w [] []).tables x q.process to < 255))
unfolding view need_of
room w d n q h to_read e = (leads_to h map_read e refl, room_read w d n q h e)
room w d n q h both_ways e = (leads_to h map_both e refl, room_both w d n q h e)

as_mapped : (t : Tables) (q : Call) (x : Sort) → q.kind ≡ mapping x → raised t x q.process (descriptor t q.process q.a) ≡ tables_for t q
unfolding tables_for tables_by
as_mapped t q to_read e = rw e refl
as_mapped t q both_ways e = rw e refl

pub raise-requires : goal.raise-requires
raise-requires c =
    let t = c.args.t.now in
    let r = room t.words t.descriptors t.names _ c.requires.0 (sort_in c.args.sort) c.requires.1 in
    (process_lt c.requires.0, rw c.descriptor-to.ensures r.0, rw c.descriptor-to.ensures r.1)

pub returns : goal.returns
unfolding view descriptor
returns c =
    let t = c.args.t.now in
    let m = view t.words t.descriptors t.names in
    c.raise.ensures t.descriptors t.names
    ∙ rw c.descriptor-to.ensures (ap (with_tables m) (as_mapped m.tables _ (sort_in c.args.sort) c.requires.1))
