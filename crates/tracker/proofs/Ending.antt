-- Which containers a call that is not refused can end the use of.
use Prim.Native.Nat.{ℕ, ◌-◌, ◌≤◌, ◌<◌}
use native.Mathlib.Omega.{arith}
use native.Mathlib.Decide.{ℕ_discrete}
use mathlib.Core.Path.{◌≡◌, refl, sym, ap, ◌∙◌}
use mathlib.Core.Bool.{true, false, ◌&&◌, ◌||◌}
use mathlib.Core.List.{List}
use lib.Dec.{eqb}
use lib.ListN.{get_or, length, set, replicate, length-set}
use borrow.Author.Tests.{ltb-true, eqb-true, eqb-false, eq-eqb, not-false}
use Rattle.sets.specs.Sets.{has, only, without, ◌∪◌, ◌∩◌}
use Rattle.sets.proofs.Members.{union_has, inter_has, only_has, none_has}
use Rattle.flow.specs.Lists.{is_in}
use Rattle.flow.specs.Box.{is_device, is_file, container_of, is_target, closed, slot, descriptor_count, Sort, to_read, both_ways, Tables, no_mappings, row_of, mapped_in, feeders_of, feeds, descriptor, name, is_live, is_open, is_bound}
use Rattle.flow.specs.Links.{mapped, used}
use Rattle.flow.specs.Calls.{Kind, start, open_name, create, pipe, device, dup, close, read, write, truncate, map_read, map_both, unmap, unlink, rename, link, fork, exit, label, Call, is_kind, kind_number, with_live, with_descriptors, with_names, with_row, with_rows, raised, lowered, sort_of, put_block, block, tables_by}
use Rattle.flow.specs.Refusals.{ranges, in_range, dead, taken, need_of, missing}
use Rattle.flow.proofs.Bools.{or_elim, or_l, or_r, and_l, and_r, and_i, or_false_l, or_false_r, and_false_l, by, no_both}
use Rattle.flow.proofs.TableLaws.{some_of_lem, some_at, is_in_lem, set_cases, untrue}
use Rattle.flow.proofs.Reach.{process_range}
use Rattle.flow.proofs.Rows.{target_lt, more_live, still_live}
use Rattle.flow.proofs.Use.{used_target, used_open, used_mapped, used_process, used_kept}
use Rattle.flow.proofs.Mapping.{Sized, raised_other, lowered_other, rows_other, raised_kept, lowered_kept, counted_mapped}
use Rattle.flow.proofs.Accepted.{Accepted, fits_a, fits_b}
use Rattle.store.specs.Maps.{files, file_set, files_in}
use Rattle.tracker.specs.Plans.{held_by, lost_by}
use Rattle.store.proofs.Files.{file_set_has, files_in_has, files_in_file, files_has}
use Rattle.tracker.proofs.Uses.{is_in_set, is_in_stored, block_in, put_kept}

file_leads : (c : ℕ) → is_file c ≡ true → is_target c ≡ true
unfolding is_target
file_leads c h = or_r (is_device c) _ h

-- an entry that leads nowhere is no file
not_file : (e c : ℕ) → is_target e ≡ false → is_file c ≡ true → e ≡ c → ⊥
not_file e c h f q = no_both (file_leads c f) (ap is_target (sym q) ∙ h)

-- the one file of an entry's set
one_file : (e v : ℕ) → has (file_set e) v ≡ true → (is_file v ≡ true) × (v ≡ e)
one_file e v h = let w : (is_file v && eqb v e) ≡ true = sym (file_set_has e v) ∙ h in (and_l _ (eqb v e) w, eqb-true v e (and_r (is_file v) _ w))

other_file : (e v : ℕ) → is_file v ≡ true → has (file_set e) v ≡ false → e ≡ v → ⊥
other_file e v f h q = no_both (file_set_has e v ∙ and_i (is_file v) (eqb v e) f (eq-eqb v e (sym q))) h

-- every use that ends is of a container of the set lost, and of these all were in use
pub record Ends (s t : Tables) (lost : ℕ) : Type 0 where
  pub before : (v : ℕ) → v < 64 → has lost v ≡ true → used s v ≡ true
  pub kept : (v : ℕ) → v < 64 → has lost v ≡ false → used s v ≡ true → used t v ≡ true

-- mappings as they were
mapped_as : (s t : Tables) (c : ℕ) → t.reads ≡ s.reads → t.boths ≡ s.boths → mapped s c ≡ true → mapped t c ≡ true
unfolding mapped feeders_of feeds row_of
mapped_as s t c e f h = rw (e, f) h

module _ (s : Tables) (sized : Sized s) (ln : length s.names ≡ 128) where
  same_mapped : (t : Tables) (c : ℕ) → t.reads ≡ s.reads → t.boths ≡ s.boths → mapped s c ≡ true → mapped t c ≡ true
  same_mapped = mapped_as s

  -- the rows of process q changed: what it maps it maps still
  mapped_kept : (t : Tables) (q v : ℕ) → ((y : Sort) (r : ℕ) → (r ≡ q → ⊥) → row_of t y r ≡ row_of s y r)
      → ((y : Sort) → has (mapped_in (row_of s y q)) v ≡ true → has (mapped_in (row_of t y q)) v ≡ true) → mapped s v ≡ true → mapped t v ≡ true
  unfolding mapped feeders_of feeds
  mapped_kept t q v apart f m =
      let w = some_at 16 (λ r. has (feeders_of s r) v || has (feeds s r) v) m in
      some_of_lem 16 (λ r. has (feeders_of t r) v || has (feeds t r) v) w.0 w.1 (at w.0 w.2 (ℕ_discrete w.0 q))
    where
      at : (r : ℕ) → (has (mapped_in (row_of s to_read r) ∪ mapped_in (row_of s both_ways r)) v || has (mapped_in (row_of s both_ways r)) v) ≡ true → Dec (r ≡ q)
          → (has (mapped_in (row_of t to_read r) ∪ mapped_in (row_of t both_ways r)) v || has (mapped_in (row_of t both_ways r)) v) ≡ true
      at r h (no e) = rw (apart to_read r e, apart both_ways r e) h
      at r h (yes e) =
          rw e
          (or_elim (has (mapped_in (row_of s to_read q) ∪ mapped_in (row_of s both_ways q)) v) (has (mapped_in (row_of s both_ways q)) v)
          (λ z. or_l _ _ (or_elim (has (mapped_in (row_of s to_read q)) v) (has (mapped_in (row_of s both_ways q)) v)
          (λ y. union_has _ (mapped_in (row_of t both_ways q)) v ∙ or_l _ _ (f to_read y)) (λ y. union_has (mapped_in (row_of t to_read q)) _ v ∙ or_r (has (mapped_in (row_of t to_read q)) v) _ (f both_ways y))
          (sym (union_has (mapped_in (row_of s to_read q)) (mapped_in (row_of s both_ways q)) v) ∙ z)))
          (λ z. or_r (has (mapped_in (row_of t to_read q) ∪ mapped_in (row_of t both_ways q)) v) _ (f both_ways z)) (rw e at h))

  nothing : (t : Tables) → ((v : ℕ) → v < 64 → used s v ≡ true → used t v ≡ true) → Ends s t 0
  nothing t f = record { before = λ v hv h. no_both h (none_has v); kept = λ v hv h. f v hv }

  live_ends : (p : ℕ) → Ends s (with_live s (s.live ∪ only p)) 0
  unfolding with_live
  live_ends p = nothing _ (λ v hv. used_kept s _ v hv (λ q m. more_live s.live p (v - 8) m) (λ q m. m) (λ q m. m) (λ q. same_mapped _ v refl refl))

  -- an entry set over one that leads nowhere
  over : (l : List ℕ) (i e : ℕ) → is_target (get_or l i closed) ≡ false → (v : ℕ) → is_file v ≡ true → is_in v l ≡ true → is_in v (set l i e) ≡ true
  over l i e h v f = is_in_set l i e v (λ q. absurd (not_file _ v h f q))

  open_ends : (i e : ℕ) → is_target (get_or s.descriptors i closed) ≡ false → Ends s (with_descriptors s (set s.descriptors i e)) 0
  unfolding with_descriptors
  open_ends i e h = nothing _ (λ v hv. used_kept s _ v hv (λ q m. m) (λ q m. m) (λ q. over _ i e h v q) (λ q. same_mapped _ v refl refl))

  name_ends : (i e : ℕ) → is_target (get_or s.names i closed) ≡ false → Ends s (with_names s (set s.names i e)) 0
  unfolding with_names
  name_ends i e h = nothing _ (λ v hv. used_kept s _ v hv (λ q m. m) (λ q. over _ i e h v q) (λ q m. m) (λ q. same_mapped _ v refl refl))

  create_ends : (i e j : ℕ) → is_target (get_or s.descriptors i closed) ≡ false → is_target (get_or s.names j closed) ≡ false
      → Ends s (with_names (with_descriptors s (set s.descriptors i e)) (set s.names j e)) 0
  unfolding with_names with_descriptors
  create_ends i e j h g = nothing _ (λ v hv. used_kept s _ v hv (λ q m. m) (λ q. over _ j e g v q) (λ q. over _ i e h v q) (λ q. same_mapped _ v refl refl))

  pipe_ends : (i j e : ℕ) → is_target (get_or s.descriptors i closed) ≡ false → is_target (get_or s.descriptors j closed) ≡ false
      → Ends s (with_descriptors s (set (set s.descriptors i e) j e)) 0
  unfolding with_descriptors
  pipe_ends i j e h g = nothing _ (λ v hv. used_kept s _ v hv (λ q m. m) (λ q m. m) (λ q m. second v q (over _ i e h v q m)) (λ q. same_mapped _ v refl refl))
    where
      second : (v : ℕ) → is_file v ≡ true → is_in v (set s.descriptors i e) ≡ true → is_in v (set (set s.descriptors i e) j e) ≡ true
      second v z m =
          is_in_set (set s.descriptors i e) j e v
          (λ q. set_cases s.descriptors i e j closed (λ w. w ≡ v → v ≡ e) (λ w. sym w) (λ w. absurd (not_file _ v g z w)) q) m

  -- ---- mappings
  raised_ends : (x : Sort) (p c : ℕ) → p < 16 → Ends s (raised s x p c) 0
  unfolding raised with_row
  raised_ends x p c hp =
      nothing _ (λ v hv. used_kept s _ v hv (λ q m. m) (λ q m. m) (λ q m. m) (λ q. mapped_kept (raised s x p c) p v (λ y. raised_other s x y p c) (λ y. raised_kept s sized p hp x y c v)))

  unmap_ends : (x : Sort) (p a : ℕ) → p < 16 → (has (feeders_of s p) a || has (feeds s p) a) ≡ true → Ends s (lowered s x p a) (file_set a)
  unfolding lowered with_row
  unmap_ends x p a hp k =
      record {
        before = λ v hv h. let w = one_file a v h in rw w.1 (used_mapped s p a hp (rw w.1 at (file_leads v w.0)) k);
        kept = λ v hv h. used_kept s _ v hv (λ z m. m) (λ z m. m) (λ z m. m)
            (λ z. mapped_kept (lowered s x p a) p v (λ y. lowered_other s x y p a) (λ y. lowered_kept s sized p hp x y a v (λ q. other_file a v z h (sym q))));
      }

  -- ---- a descriptor or a name less
  close_ends : (p a : ℕ) → Ends s (with_descriptors s (set s.descriptors (slot p a) closed)) (file_set (descriptor s p a))
  unfolding with_descriptors descriptor
  close_ends p a =
      record {
        before = λ v hv h. let w = one_file (descriptor s p a) v h in rw w.1 (used_open s p a (rw w.1 at (file_leads v w.0)));
        kept = λ v hv h. used_kept s _ v hv (λ z m. m) (λ z m. m) (λ z. is_in_set s.descriptors (slot p a) closed v (λ q. absurd (other_file (descriptor s p a) v z h q))) (λ z. same_mapped _ v refl refl);
      }

  -- what a name leads to, if it is a file, is in use
  name_used : (n v : ℕ) → has (file_set (name s n)) v ≡ true → used s v ≡ true
  unfolding name
  name_used n v h =
      let w = one_file (name s n) v h in
      let l : is_target v ≡ true = file_leads v w.0 in
      let i : is_in v s.names ≡ true = ap (λ (x : ℕ). is_in x s.names) w.1 ∙ is_in_lem s.names n closed (λ q. let k : v < 64 = target_lt v l in let z : ⊥ = omega (arith, w.1, q) in z) in
      used_target s v l (λ m. or_l _ (mapped s v) (or_l _ (is_in v s.descriptors) i))

  unlink_ends : (a : ℕ) → Ends s (with_names s (set s.names a closed)) (file_set (name s a))
  unfolding with_names name
  unlink_ends a =
      record {
        before = λ v hv. name_used a v;
        kept = λ v hv h. used_kept s _ v hv (λ z m. m) (λ z. is_in_set s.names a closed v (λ q. absurd (other_file (name s a) v z h q))) (λ z m. m) (λ z. same_mapped _ v refl refl);
      }

  not_closed : (v : ℕ) → is_file v ≡ true → closed ≡ v → ⊥
  not_closed v f q = let k : v < 64 = target_lt v (file_leads v f) in let z : ⊥ = omega arith in z

  -- a name that takes another's place: what the first led to is still named, and what neither led to
  renamed : (a b : ℕ) → b < 128 → (v : ℕ) → is_file v ≡ true → has (file_set (name s b)) v ≡ false → is_in v s.names ≡ true → is_in v (set (set s.names a closed) b (name s a)) ≡ true
  unfolding name
  renamed a b hb v f h m =
      by (eqb (name s a) v)
      (λ e. rw (eqb-true (name s a) v e) (is_in_stored (set s.names a closed) b v (let l : length (set s.names a closed) ≡ 128 = length-set s.names a closed ∙ ln in omega arith)))
      (λ e. is_in_set (set s.names a closed) b (name s a) v
      (λ q. set_cases s.names a closed b closed (λ w. w ≡ v → v ≡ name s a) (λ w. absurd (not_closed v f w)) (λ w. absurd (other_file (name s b) v f h w)) q)
      (is_in_set s.names a closed v (λ q. absurd (eqb-false (name s a) v e q)) m))

  rename_ends : (a b : ℕ) → b < 128 → Ends s (with_names s (set (set s.names a closed) b (name s a))) (file_set (name s b))
  unfolding with_names
  rename_ends a b hb =
      record {
        before = λ v hv. name_used b v;
        kept = λ v hv h. used_kept s _ v hv (λ z m. m) (λ z. renamed a b hb v z h) (λ z m. m) (λ z. same_mapped _ v refl refl);
      }

  -- ---- a whole process less
  held_used : (q v : ℕ) → q < 16 → v < 64 → has (held_by s q) v ≡ true → used s v ≡ true
  unfolding held_by
  held_used q v hq hv h =
      or_elim (has (files_in (block s.descriptors q)) v) (has (feeders_of s q ∩ files) v)
      (λ e. let f : is_file v ≡ true = files_in_file (block s.descriptors q) v e in
      used_target s v (file_leads v f) (λ m. or_l _ (mapped s v) (or_r (is_in v s.names) _ (block_in s.descriptors q v (sym (files_in_has (block s.descriptors q) v f) ∙ e)))))
      (λ e. let w : (has (feeders_of s q) v && has files v) ≡ true = sym (inter_has (feeders_of s q) files v) ∙ e in
      used_mapped s q v hq (file_leads v (sym (files_has v hv) ∙ and_r (has (feeders_of s q) v) _ w)) (or_l (has (feeders_of s q) v) (has (feeds s q) v) (and_l _ (has files v) w)))
      (sym (union_has (files_in (block s.descriptors q)) (feeders_of s q ∩ files) v) ∙ h)

  -- a file that q does not hold stands in none of its descriptors and in neither of its rows
  module _ (q v : ℕ) (hv : v < 64) (f : is_file v ≡ true) (h : has (held_by s q) v ≡ false) where
    no_part : (has (files_in (block s.descriptors q)) v || has (feeders_of s q ∩ files) v) ≡ false
    unfolding held_by
    no_part = sym (union_has (files_in (block s.descriptors q)) (feeders_of s q ∩ files) v) ∙ h

    no_descriptor : is_in v (block s.descriptors q) ≡ false
    no_descriptor = sym (files_in_has (block s.descriptors q) v f) ∙ or_false_l _ (has (feeders_of s q ∩ files) v) no_part

    no_feeder : has (feeders_of s q) v ≡ false
    no_feeder =
        and_false_l (has (feeders_of s q) v) (has files v) (files_has v hv ∙ f)
        (sym (inter_has (feeders_of s q) files v) ∙ or_false_r (has (files_in (block s.descriptors q)) v) _ no_part)

    no_mapping : (y : Sort) {P : Type 0} → has (mapped_in (row_of s y q)) v ≡ true → P
    unfolding feeders_of
    no_mapping to_read e = no_both (union_has _ (mapped_in (row_of s both_ways q)) v ∙ or_l _ _ e) no_feeder
    no_mapping both_ways e = no_both (union_has (mapped_in (row_of s to_read q)) _ v ∙ or_r (has (mapped_in (row_of s to_read q)) v) _ e) no_feeder

  exit_ends : (p : ℕ) → p < 16 → has s.live p ≡ true
      → Ends s (with_descriptors (with_live (with_rows s p no_mappings no_mappings) (without s.live p)) (put_block s.descriptors p (replicate descriptor_count closed))) (held_by s p ∪ only (container_of p))
  unfolding with_rows with_row with_live with_descriptors
  exit_ends p hp k =
      record {
        before = λ v hv h. or_elim (has (held_by s p) v) (has (only (container_of p)) v) (held_used p v hp hv) (λ e. rw (← (eqb-true (container_of p) v (sym (only_has (container_of p) v) ∙ e))) (used_process s p hp ∙ k)) (sym (union_has (held_by s p) (only (container_of p)) v) ∙ h);
        kept = λ v hv h. let g : (has (held_by s p) v || has (only (container_of p)) v) ≡ false = sym (union_has (held_by s p) (only (container_of p)) v) ∙ h in
            let g₀ : has (held_by s p) v ≡ false = or_false_l _ (has (only (container_of p)) v) g in
            let g₁ : eqb (container_of p) v ≡ false = sym (only_has (container_of p) v) ∙ or_false_r (has (held_by s p) v) _ g in
            used_kept s _ v hv
            (λ z. let r = process_range v z in let r₀ : 8 ≤ v = r.0 in let r₁ : v < 24 = r.1 in still_live s.live p (v - 8) (omega arith) (λ q. eqb-false (container_of p) v g₁ (omega arith)))
            (λ z m. m)
            (λ z. put_kept s.descriptors p (replicate descriptor_count closed) v (no_descriptor p v hv z g₀))
            (λ z m. mapped_as (with_rows s p no_mappings no_mappings) _ v refl refl (mapped_kept (with_rows s p no_mappings no_mappings) p v (λ y r. rows_other s y p r _ _) (λ y. no_mapping p v hv z g₀ y) m));
      }

  fork_ends : (p a : ℕ) → a < 16
      → Ends s (with_descriptors (with_live (with_rows s a (row_of s to_read p) (row_of s both_ways p)) (s.live ∪ only a)) (put_block s.descriptors a (block s.descriptors p))) (held_by s a)
  unfolding with_rows with_row with_live with_descriptors
  fork_ends p a ha =
      record {
        before = λ v hv. held_used a v ha hv;
        kept = λ v hv h. used_kept s _ v hv
            (λ z. more_live s.live a (v - 8))
            (λ z m. m)
            (λ z. put_kept s.descriptors a (block s.descriptors p) v (no_descriptor a v hv z h))
            (λ z m. let t = with_rows s a (row_of s to_read p) (row_of s both_ways p) in mapped_as t _ v refl refl (mapped_kept t a v (λ y r. rows_other s y a r _ _) (λ y. no_mapping a v hv z h y) m));
      }

  -- ---- by kind
  module _ (p a b c : ℕ) (hp : p < 16) where
    abbrev call : Kind → Call
    call kind = record { kind = kind; process = p; a = a; b = b; c = c }

    pub ends : (k : Kind) → Accepted s (call k) → Ends s (tables_by s p a b c k) (lost_by s p a b c k)
    unfolding tables_by lost_by taken need_of missing is_open is_bound is_live descriptor name ranges in_range dead is_kind kind_number
    ends start h = live_ends p
    ends open_name h = open_ends (slot p b) (name s a) h.free
    ends create h =
        let g = or_false_l (is_bound s a || is_open s p b) (used s c) h.free in
        create_ends (slot p b) c a (or_false_r (is_bound s a) (is_open s p b) g) (or_false_l (is_bound s a) (is_open s p b) g)
    ends pipe h =
        let g = or_false_l (is_open s p a || is_open s p b) (used s c) h.free in
        pipe_ends (slot p a) (slot p b) c (or_false_l (is_open s p a) (is_open s p b) g) (or_false_r (is_open s p a) (is_open s p b) g)
    ends device h = open_ends (slot p a) b h.free
    ends dup h = open_ends (slot p b) (descriptor s p a) h.free
    ends close h = close_ends p a
    ends read h = nothing s (λ v hv u. u)
    ends write h = nothing s (λ v hv u. u)
    ends truncate h = nothing s (λ v hv u. u)
    ends map_read h = raised_ends to_read p _ hp
    ends map_both h = raised_ends both_ways p _ hp
    ends unmap h = unmap_ends (sort_of b) p a hp (counted_mapped s (sort_of b) p a (eqb-false _ 0 (untrue _ 16 h.there)))
    ends unlink h = unlink_ends a
    ends rename h = rename_ends a b (ltb-true b 128 (fits_b (ranges rename) (call rename) h.fits))
    ends link h = name_ends b (name s a) h.free
    ends fork h = fork_ends p a (ltb-true a 16 (fits_a (ranges fork) (call fork) h.fits))
    ends exit h = exit_ends p hp (not-false (has s.live p) h.lives)
    ends label h = nothing s (λ v hv u. u)
