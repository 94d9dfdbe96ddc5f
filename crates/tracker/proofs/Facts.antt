-- What a call that is not refused says of its numbers.
use Prim.Native.Nat.{ℕ, ◌+◌, ◌<◌, ◌%◌}
use native.Mathlib.Omega.{arith}
use native.Mathlib.Nat.{mod-eq_of_lt}
use mathlib.Core.Path.{◌≡◌, refl, sym, ap, ◌∙◌}
use mathlib.Core.Logic.{◌⊎◌, inl, inr, ⊎_elim}
use mathlib.Core.Bool.{true, false}
use mathlib.Core.List.{List, []}
use lib.Dec.{leb}
use lib.ListN.{get_or}
use borrow.Author.Tests.{ltb-true, leb-false, eqb-true, eqb-false, not-false}
use Rattle.flow.specs.Box.{closed, slot, container_of, is_file, Sort, to_read, both_ways, row_of, mappings, descriptor, is_open}
use Rattle.flow.specs.Calls.{Kind, start, open_name, create, pipe, device, dup, close, read, write, truncate, map_read, map_both, unmap, unlink, rename, link, fork, exit, label, Call, kind_number, is_kind, sort_of}
use Rattle.flow.specs.Refusals.{a_process, a_descriptor, a_name, a_container, a_file, an_item, a_sort, unused, ranges, fields_fit, in_range, open_descriptor, need_of, missing, full}
use Rattle.flow.proofs.Bools.{and_r, or_false_l}
use Rattle.flow.proofs.TableLaws.{untrue}
use Rattle.flow.proofs.Rows.{target_lt}
use Rattle.flow.proofs.Accepted.{Accepted, accepted, fits_process, fits_a, fits_b, fits_c}
use Rattle.store.specs.Maps.{Maps, view}
use Rattle.tracker.specs.Rows.{Passes}

pub below64 : {x : ℕ} → x < 64 → x % 64 ≡ x
below64 h = mod-eq_of_lt h

pub below16 : {x : ℕ} → x < 16 → x % 64 ≡ x
below16 h = mod-eq_of_lt (omega arith)

-- ---- the process field
-- a label does not use it, and every other kind's is a process
process_range : (k : Kind) → ((ranges k).process ≡ a_process) ⊎ ((ranges k).process ≡ unused)
unfolding ranges
process_range start = inl refl
process_range open_name = inl refl
process_range create = inl refl
process_range pipe = inl refl
process_range device = inl refl
process_range dup = inl refl
process_range close = inl refl
process_range read = inl refl
process_range write = inl refl
process_range truncate = inl refl
process_range map_read = inl refl
process_range map_both = inl refl
process_range unmap = inl refl
process_range unlink = inl refl
process_range rename = inl refl
process_range link = inl refl
process_range fork = inl refl
process_range exit = inl refl
process_range label = inr refl

pub fit_process : (q : Call) → fields_fit (ranges q.kind) q ≡ true → q.process < 16
unfolding in_range
fit_process q h =
    let f = fits_process (ranges q.kind) q h in
    ⊎_elim (λ e. ltb-true _ _ (rw e at f)) (λ e. let z : q.process ≡ 0 = eqb-true _ _ (rw e at f) in omega arith) (process_range q.kind)

-- counts go by the words alone
same_count : (w d n : List ℕ) (x : Sort) (p c : ℕ) → mappings (view w d n).tables x p c ≡ mappings (view w [] []).tables x p c
unfolding view mappings row_of
same_count w d n to_read p c = refl
same_count w d n both_ways p c = refl

-- ---- a call that is not refused
module _ {m : Maps} {q : Call} (h : Passes m q) where
  pub accepts : Accepted m.tables q
  accepts = accepted m.tables q h.none_holds

  pub process_lt : q.process < 16
  process_lt = fit_process q accepts.fits

  pub process_itself : (8 + q.process) % 64 ≡ container_of q.process
  process_itself = mod-eq_of_lt (omega (arith, process_lt))

  -- a call of kind k: its fields, and where its descriptor leads
  module _ (k : Kind) (e : q.kind ≡ k) where
    fits : fields_fit (ranges k) q ≡ true
    fits = ap (λ (j : Kind). fields_fit (ranges j) q) (sym e) ∙ accepts.fits

    pub container_a : (ranges k).a ≡ a_container → q.a < 64
    unfolding in_range
    container_a r = ltb-true _ _ (rw r at (fits_a (ranges k) q fits))

    pub process_a : (ranges k).a ≡ a_process → q.a < 16
    unfolding in_range
    process_a r = ltb-true _ _ (rw r at (fits_a (ranges k) q fits))

    pub own_a : (ranges k).a ≡ a_process → (8 + q.a) % 64 ≡ container_of q.a
    own_a r = mod-eq_of_lt (omega (arith, process_a r))

    -- the slot of its descriptor is in the table
    pub slot_a : (ranges k).a ≡ a_descriptor → slot q.process q.a % 512 ≡ slot q.process q.a
    unfolding in_range
    slot_a r = let l : q.a < 32 = ltb-true _ _ (rw r at (fits_a (ranges k) q fits)) in mod-eq_of_lt (omega (arith, process_lt))

    pub name_a : (ranges k).a ≡ a_name → q.a % 128 ≡ q.a
    unfolding in_range
    name_a r = mod-eq_of_lt (ltb-true _ _ (rw r at (fits_a (ranges k) q fits)))

    pub name_b : (ranges k).b ≡ a_name → q.b % 128 ≡ q.b
    unfolding in_range
    name_b r = mod-eq_of_lt (ltb-true _ _ (rw r at (fits_b (ranges k) q fits)))

    pub item_b : (ranges k).b ≡ an_item → q.b < 64
    unfolding in_range
    item_b r = ltb-true _ _ (rw r at (fits_b (ranges k) q fits))

    pub file_c : (ranges k).c ≡ a_file → q.c < 64
    unfolding in_range is_file
    file_c r = ltb-true q.c 64 (and_r (leb 24 q.c) _ (rw r at (fits_c (ranges k) q fits)))

    pub sort_b : (ranges k).b ≡ a_sort → q.b < 2
    unfolding in_range
    sort_b r = ltb-true _ _ (rw r at (fits_b (ranges k) q fits))

  pub leads_to : (k : Kind) → q.kind ≡ k → need_of k ≡ open_descriptor → get_or m.tables.descriptors (slot q.process q.a) closed < 64
  unfolding missing is_open descriptor
  leads_to k e n = target_lt _ (not-false _ (untrue _ 14 (ap (missing m.tables q.process q.a q.b) (sym (ap need_of e ∙ n)) ∙ accepts.there)))

-- the mappings that a call changes: one that rises is below 255, one that falls above 0
module _ (words descriptors names : List ℕ) (q : Call) (h : Passes (view words descriptors names) q) where
  abbrev count : Sort → ℕ → ℕ
  count x c = mappings (view words [] []).tables x q.process c

  pub room_read : q.kind ≡ map_read → count to_read (get_or descriptors (slot q.process q.a) closed) < 255
  unfolding full is_kind kind_number descriptor view mappings row_of
  room_read e = let l : count to_read (get_or descriptors (slot q.process q.a) closed) < 255 = leb-false 255 _ (or_false_l _ false (rw e at (accepts h).room)) in l

  pub room_both : q.kind ≡ map_both → count both_ways (get_or descriptors (slot q.process q.a) closed) < 255
  unfolding full is_kind kind_number descriptor view mappings row_of
  room_both e = let l : count both_ways (get_or descriptors (slot q.process q.a) closed) < 255 = leb-false 255 _ (rw e at (accepts h).room) in l

  pub some_mapping : q.kind ≡ unmap → 0 < count (sort_of q.b) q.a
  unfolding missing need_of
  some_mapping e =
      let n : count (sort_of q.b) q.a ≡ 0 → ⊥ = λ z. eqb-false _ 0 (untrue _ 16 (rw e at (accepts h).there)) (same_count words descriptors names (sort_of q.b) q.process q.a ∙ z) in
      omega (arith, n)
