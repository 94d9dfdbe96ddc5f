-- A call that is not refused: what it makes of the mappings and the tables, and that its flow fits.
use Prim.Native.Nat.{ℕ, ◌<◌}
use native.Mathlib.Omega.{arith}
use mathlib.Core.Path.{◌≡◌, refl, sym, ap, ◌∙◌}
use mathlib.Core.Logic.{◌⊎◌, inl, inr}
use mathlib.Core.Bool.{Bool, true, false, not, ◌&&◌, ◌||◌}
use mathlib.Core.List.{List}
use mathlib.Core.Option.{none, some}
use lib.Dec.{ltb}
use lib.ListN.{set}
use borrow.Author.Tests.{ltb-true, leb-false, not-false}
use Rattle.sets.specs.Sets.{has, only, without, ◌∪◌}
use Rattle.flow.specs.Lists.{first_that}
use Rattle.flow.specs.Box.{container_of, is_target, Sort, to_read, both_ways, Tables, no_mappings, row_of, mappings, feeders_of, feeds, descriptor, is_live, is_open, is_bound}
use Rattle.flow.specs.Links.{linked, used, is_fed}
use Rattle.flow.specs.Calls.{Kind, start, open_name, create, pipe, device, dup, close, read, write, truncate, map_read, map_both, unmap, unlink, rename, link, fork, exit, label, kind_number, Call, is_kind, Flow, still, clear, with_live, with_descriptors, with_names, with_row, with_rows, raised, lowered, sort_of, tables_by, flow_by}
use Rattle.flow.specs.Refusals.{in_range, Ranges, ranges, fields_fit, dead, taken, open_descriptor, need_of, missing, full, call_tests}
use Rattle.flow.proofs.Bools.{and_l, and_r, or_false_l, or_false_r, by, no_both}
use Rattle.flow.proofs.TableLaws.{none_of, AllNone, all_none, untrue}
use Rattle.flow.proofs.Reach.{link_cases, link_in, link_out}
use Rattle.flow.proofs.Counts.{none_length, counts_none, counts_live}
use Rattle.flow.proofs.Rows.{target_lt, target_not, Row, Rows, rows_set, rows_more, more_live, now_live, still_live}
use Rattle.flow.proofs.Use.{used_process, used_open, feeder_row, fed_row, linked_used}
use Rattle.flow.proofs.Moves.{Fit, source, source_copy, source_other}
use Rattle.flow.proofs.After.{Linking}
use Rattle.flow.proofs.Mapping.{raised_other, lowered_other, rows_other, counts_of, wide_of, linking_raised, linking_lowered, in_raised, out_raised, in_lowered, out_lowered, in_none, out_none, child_in, child_out, relinked, link_kept}

-- what the tests say of a call that is not refused
pub record Accepted (s : Tables) (q : Call) : Type 0 where
  pub fits : fields_fit (ranges q.kind) q ≡ true
  pub lives : dead s q ≡ false
  pub free : taken s q.process q.a q.b q.c q.kind ≡ false
  pub there : missing s q.process q.a q.b (need_of q.kind) ≡ none
  pub room : full s q ≡ false

pub accepted : (s : Tables) (q : Call) → first_that (call_tests s (some q)) ≡ none → Accepted s q
unfolding call_tests AllNone
accepted s q e =
    let h = all_none (call_tests s (some q)) e in
    record { fits = not-false (fields_fit (ranges q.kind) q) (untrue _ 5 h.0); lives = untrue _ 6 h.1.0; free = untrue _ 7 h.1.1.0; there = h.1.1.1.0; room = untrue _ 17 h.1.1.1.1.1.1.0 }

module _ (r : Ranges) (q : Call) (h : fields_fit r q ≡ true) where
  pub fits_process : in_range r.process q.process ≡ true
  unfolding fields_fit
  fits_process = and_l _ (in_range r.a q.a) (and_l _ (in_range r.b q.b) (and_l _ (in_range r.c q.c) h))

  pub fits_a : in_range r.a q.a ≡ true
  unfolding fields_fit
  fits_a = and_r (in_range r.process q.process) _ (and_l _ (in_range r.b q.b) (and_l _ (in_range r.c q.c) h))

  pub fits_b : in_range r.b q.b ≡ true
  unfolding fields_fit
  fits_b = and_r (in_range r.process q.process && in_range r.a q.a) _ (and_l _ (in_range r.c q.c) h)

  pub fits_c : in_range r.c q.c ≡ true
  unfolding fields_fit
  fits_c = and_r (in_range r.process q.process && in_range r.a q.a && in_range r.b q.b) _ h

module _ (s : Tables) (k : Linking s) (p a b c : ℕ) where
  abbrev call : Kind → Call
  call kind = record { kind = kind; process = p; a = a; b = b; c = c }

  abbrev to : ℕ
  to = descriptor s p a

  abbrev row_in : (q : ℕ) → Row s.live q (feeders_of s q)
  row_in = feeder_row s k.reads k.boths

  abbrev row_out : (q : ℕ) → Row s.live q (feeds s q)
  row_out = fed_row s k.reads k.boths

  pub process_lt : (kind : Kind) → in_range (ranges kind).process p ≡ ltb p 16 → Accepted s (call kind) → p < 16
  process_lt kind e h = ltb-true p 16 (sym e ∙ fits_process (ranges kind) (call kind) h.fits)

  pub opened : (kind : Kind) → need_of kind ≡ open_descriptor → Accepted s (call kind) → is_target to ≡ true
  unfolding missing is_open
  opened kind e h = not-false (is_target to) (untrue _ 14 (ap (missing s p a b) (sym e) ∙ h.there))

  pub alive : (kind : Kind) → dead s (call kind) ≡ not (is_live s p) → Accepted s (call kind) → has s.live p ≡ true
  unfolding is_live
  alive kind e h = not-false (has s.live p) (sym e ∙ h.lives)

  -- the count that would rise is below 255
  room_read : Accepted s (call map_read) → mappings s to_read p to < 255
  unfolding full is_kind kind_number
  room_read h = let l : mappings s to_read p to < 255 = leb-false 255 _ (or_false_l _ false h.room) in l

  room_both : Accepted s (call map_both) → mappings s both_ways p to < 255
  unfolding full is_kind kind_number
  room_both h = let l : mappings s both_ways p to < 255 = leb-false 255 _ h.room in l

  -- ---- the mappings after each call
  pub linking_fork : a < 16 → p < 16 → Linking (tables_by s p a b c fork)
  unfolding tables_by with_live with_descriptors with_rows with_row
  linking_fork l hp = record { reads = one to_read s.reads k.reads; boths = one both_ways s.boths k.boths }
    where
      one : (x : Sort) (rows : List (List ℕ)) → Rows s.live rows → Rows (s.live ∪ only a) (set rows a (row_of s x p))
      one x rows r =
          rows_set s.live _ rows a _ l (λ q m n g. more_live s.live a q g) (wide_of s k p hp x)
          (counts_live s.live _ p a _ (λ g. now_live s.live a) (counts_of s k p x)) r

  linking_exit : p < 16 → Linking (tables_by s p a b c exit)
  unfolding tables_by with_live with_descriptors with_rows with_row
  linking_exit l = record { reads = one s.reads k.reads; boths = one s.boths k.boths }
    where
      one : (rows : List (List ℕ)) → Rows s.live rows → Rows (without s.live p) (set rows p no_mappings)
      one rows r = rows_set s.live _ rows p no_mappings l (still_live s.live p) none_length (counts_none _ p) r

  pub linking_after : (kind : Kind) → Accepted s (call kind) → Linking (tables_by s p a b c kind)
  unfolding tables_by with_live with_descriptors with_names ranges in_range need_of missing dead is_kind kind_number
  linking_after start h = record { reads = rows_more s.live _ s.reads (more_live s.live p) k.reads; boths = rows_more s.live _ s.boths (more_live s.live p) k.boths }
  linking_after open_name h = record { reads = k.reads; boths = k.boths }
  linking_after create h = record { reads = k.reads; boths = k.boths }
  linking_after pipe h = record { reads = k.reads; boths = k.boths }
  linking_after device h = record { reads = k.reads; boths = k.boths }
  linking_after dup h = record { reads = k.reads; boths = k.boths }
  linking_after close h = record { reads = k.reads; boths = k.boths }
  linking_after read h = k
  linking_after write h = k
  linking_after truncate h = k
  linking_after map_read h = linking_raised s k p (process_lt map_read refl h) to_read to (opened map_read refl h) (alive map_read refl h) (room_read h)
  linking_after map_both h = linking_raised s k p (process_lt map_both refl h) both_ways to (opened map_both refl h) (alive map_both refl h) (room_both h)
  linking_after unmap h = linking_lowered s k p (process_lt unmap refl h) (sort_of b) a
  linking_after unlink h = record { reads = k.reads; boths = k.boths }
  linking_after rename h = record { reads = k.reads; boths = k.boths }
  linking_after link h = record { reads = k.reads; boths = k.boths }
  linking_after fork h = linking_fork (ltb-true a 16 (fits_a (ranges fork) (call fork) h.fits)) (process_lt fork refl h)
  linking_after exit h = linking_exit (process_lt exit refl h)
  linking_after label h = k

  -- ---- the flow of each call fits
  no_link_into : (v : ℕ) → used s v ≡ false → (x : ℕ) → linked s x v ≡ false
  no_link_into v e x = by (linked s x v) (λ l. no_both (linked_used s k.reads k.boths x v l).1 e) (λ l. l)

  unfed : is_target to ≡ true → is_fed s to ≡ false → (x : ℕ) → linked s x to ≡ false
  unfolding is_fed
  unfed l e x =
      by (linked s x to)
      (λ m. link_cases s x to
      (λ q hq d h. absurd (target_not to l (omega arith) (omega arith)))
      (λ q hq d h. no_both h (none_of 16 _ q e hq)) m)
      (λ m. m)

  fit_truncate : is_target to ≡ true → (f : Bool) → is_fed s to ≡ f → Fit s s (elim f as (λ z. Flow) [ true ↦ still | false ↦ clear to ])
  unfolding Fit
  fit_truncate l true e = λ x y m. m
  fit_truncate l false e = (λ x y m. m, unfed l e)

  fit_map_read : p < 16 → (x y : ℕ) → linked (raised s to_read p to) x y ≡ true → (linked s x y ≡ true) ⊎ ((x ≡ to) × (y ≡ container_of p))
  unfolding feeds row_of with_row raised
  fit_map_read hp x y l =
      link_kept s (raised s to_read p to) p (λ z. raised_other s to_read z p to) x y inl
      (λ e h. in_raised s k p hp to_read to x (λ g. inl (rw e (link_in s p hp x g))) (λ g. inr (g, e)) h)
      (λ e h. inl (rw e (link_out s p hp y h))) l

  fit_map_both : p < 16 → (x y : ℕ) → linked (raised s both_ways p to) x y ≡ true
      → (linked s x y ≡ true) ⊎ (((x ≡ to) × (y ≡ container_of p)) ⊎ ((x ≡ container_of p) × (y ≡ to)))
  fit_map_both hp x y l =
      link_kept s (raised s both_ways p to) p (λ z. raised_other s both_ways z p to) x y inl
      (λ e h. in_raised s k p hp both_ways to x (λ g. inl (rw e (link_in s p hp x g))) (λ g. inr (inl (g, e))) h)
      (λ e h. out_raised s k p hp to y (λ g. inl (rw e (link_out s p hp y g))) (λ g. inr (inr (e, g))) h) l

  fit_unmap : p < 16 → (x y : ℕ) → linked (lowered s (sort_of b) p a) x y ≡ true → linked s x y ≡ true
  fit_unmap hp x y l =
      link_kept s (lowered s (sort_of b) p a) p (λ z. lowered_other s (sort_of b) z p a) x y (λ e. e)
      (λ e h. rw e (link_in s p hp x (in_lowered s k p hp (sort_of b) a x h)))
      (λ e h. rw e (link_out s p hp y (out_lowered s k p hp (sort_of b) a y h))) l

  own_not : (v : ℕ) → is_target v ≡ true → (q : ℕ) → q < 16 → v ≡ container_of q → ⊥
  own_not v l q hq e = target_not v l (omega arith) (omega arith)

  -- a link of the child is one of the parent
  fit_fork : p < 16 → a < 16 → (x y : ℕ) → linked (with_rows s a (row_of s to_read p) (row_of s both_ways p)) x y ≡ true → linked s (source (container_of p) (container_of a) x) (source (container_of p) (container_of a) y) ≡ true
  fit_fork hp ha x y l =
      relinked s (with_rows s a (row_of s to_read p) (row_of s both_ways p)) a (λ z q. rows_other s z a q _ _) x y
      (λ q hq d e h. rw (source_other (container_of p) (container_of a) x (own_not x ((row_in q).maps x h) a ha), source_other (container_of p) (container_of a) y (λ g. d (omega arith)), e) (link_in s q hq x h))
      (λ e h. rw (source_other (container_of p) (container_of a) x (own_not x ((row_in p).maps x (rw (child_in s k p a hp ha) at h)) a ha), source_copy (container_of p) (container_of a) y e) (link_in s p hp x (rw (child_in s k p a hp ha) at h)))
      (λ q hq d e h. rw (source_other (container_of p) (container_of a) y (own_not y ((row_out q).maps y h) a ha), source_other (container_of p) (container_of a) x (λ g. d (omega arith)), e) (link_out s q hq y h))
      (λ e h. rw (source_other (container_of p) (container_of a) y (own_not y ((row_out p).maps y (rw (child_out s k p a hp ha) at h)) a ha), source_copy (container_of p) (container_of a) x e) (link_out s p hp y (rw (child_out s k p a hp ha) at h)))
      l

  fit_exit : p < 16 → (x y : ℕ) → linked (with_rows s p no_mappings no_mappings) x y ≡ true → linked s x y ≡ true
  fit_exit hp x y l =
      link_kept s (with_rows s p no_mappings no_mappings) p (λ z q. rows_other s z p q _ _) x y (λ e. e) (λ e h. in_none s k p hp x h) (λ e h. out_none s k p hp y h) l

  unlinked_exit : p < 16 → (x : ℕ) → linked (with_rows s p no_mappings no_mappings) x (container_of p) ≡ false
  unlinked_exit hp x =
      by (linked (with_rows s p no_mappings no_mappings) x (container_of p))
      (relinked s (with_rows s p no_mappings no_mappings) p (λ z q. rows_other s z p q _ _) x (container_of p)
      (λ q hq d e h. absurd (d (omega arith)))
      (λ e h. in_none s k p hp x h)
      (λ q hq d e h. absurd (own_not (container_of p) ((row_out q).maps (container_of p) h) p hp refl))
      (λ e h. out_none s k p hp (container_of p) h))
      (λ e. e)

  pub fits_after : (kind : Kind) → Accepted s (call kind) → Fit s (tables_by s p a b c kind) (flow_by s p a b c kind)
  unfolding tables_by flow_by Fit with_live with_descriptors with_names linked feeders_of feeds row_of ranges in_range need_of missing taken dead is_kind kind_number is_live
  fits_after start h = (λ x y l. l, no_link_into (container_of p) (used_process s p (process_lt start refl h) ∙ h.free))
  fits_after open_name h = λ x y l. l
  fits_after create h = (λ x y l. l, no_link_into c (or_false_r (is_bound s a || is_open s p b) (used s c) h.free))
  fits_after pipe h = (λ x y l. l, no_link_into c (or_false_r (is_open s p a || is_open s p b) (used s c) h.free))
  fits_after device h = λ x y l. l
  fits_after dup h = λ x y l. l
  fits_after close h = λ x y l. l
  fits_after read h = let hp = process_lt read refl h in (target_lt to (opened read refl h), omega arith, used_process s p hp ∙ alive read refl h, λ x y l. inl l)
  fits_after write h = let l = opened write refl h in let hp = process_lt write refl h in (omega arith, target_lt to l, used_open s p a l, λ x y m. inl m)
  fits_after truncate h = fit_truncate (opened truncate refl h) (is_fed s to) refl
  fits_after map_read h =
      let hp = process_lt map_read refl h in
      (target_lt to (opened map_read refl h), omega arith, used_process s p hp ∙ alive map_read refl h, fit_map_read hp)
  fits_after map_both h =
      let hp = process_lt map_both refl h in
      let l = opened map_both refl h in
      (target_lt to l, omega arith, used_open s p a l, used_process s p hp ∙ alive map_both refl h, fit_map_both hp)
  fits_after unmap h = fit_unmap (process_lt unmap refl h)
  fits_after unlink h = λ x y l. l
  fits_after rename h = λ x y l. l
  fits_after link h = λ x y l. l
  fits_after fork h =
      let hp = process_lt fork refl h in
      let ha = ltb-true a 16 (fits_a (ranges fork) (call fork) h.fits) in
      (omega arith, omega arith, used_process s a ha ∙ h.free, used_process (tables_by s p a b c fork) a ha ∙ now_live s.live a, fit_fork hp ha)
  fits_after exit h = let hp = process_lt exit refl h in (fit_exit hp, unlinked_exit hp)
  fits_after label h =
      (ltb-true a 64 (fits_a (ranges label) (call label) h.fits), ltb-true b 64 (fits_b (ranges label) (call label) h.fits), not-false (used s a) (untrue _ 8 h.there), λ x y l. l)
