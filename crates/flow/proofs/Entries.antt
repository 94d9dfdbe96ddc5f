-- Descriptors lead to devices, files and pipes, and names to files and pipes.
use Prim.Native.Nat.{ℕ, zero, suc}
use mathlib.Core.Path.{◌≡◌, refl}
use mathlib.Core.Logic.{◌⊎◌, inl, inr}
use mathlib.Core.Bool.{Bool, true}
use mathlib.Core.List.{List, [], ◌∷◌, ◌++◌}
use lib.Dec.{ltb}
use lib.ListN.{get_or, take, drop, replicate, set}
use borrow.Author.Tests.{not-false}
use Rattle.flow.specs.Box.{is_device, is_file, is_target, closed, slot, descriptor_count, Tables, descriptor, name, is_open, is_bound}
use Rattle.flow.specs.Calls.{Kind, start, open_name, create, pipe, device, dup, close, read, write, truncate, map_read, map_both, unmap, unlink, rename, link, fork, exit, label, Call, with_live, with_descriptors, with_names, with_row, with_rows, raised, lowered, put_block, block, tables_by}
use Rattle.flow.specs.Refusals.{in_range, ranges, need_of, missing}
use Rattle.flow.proofs.Bools.{or_l, or_r}
use Rattle.flow.proofs.TableLaws.{untrue}
use Rattle.flow.proofs.Accepted.{Accepted, fits_b, fits_c}

-- every element of the list is closed, or P holds of it
unfoldable pub Each : (ℕ → Bool) → List ℕ → Type 0
Each P [] = Unit {0}
Each P (e ∷ l) = ((e ≡ closed) ⊎ (P e ≡ true)) × Each P l

module _ (P : ℕ → Bool) where
  each_set : (l : List ℕ) (i e : ℕ) → (e ≡ closed) ⊎ (P e ≡ true) → Each P l → Each P (set l i e)
  unfolding Each
  each_set [] i e h k = tt
  each_set (x ∷ l) zero e h k = (h, k.1)
  each_set (x ∷ l) (suc i) e h k = (k.0, each_set l i e h k.1)

  each_take : (n : ℕ) (l : List ℕ) → Each P l → Each P (take n l)
  unfolding Each
  each_take zero [] k = tt
  each_take zero (x ∷ l) k = tt
  each_take (suc n) [] k = tt
  each_take (suc n) (x ∷ l) k = (k.0, each_take n l k.1)

  each_drop : (n : ℕ) (l : List ℕ) → Each P l → Each P (drop n l)
  unfolding Each
  each_drop zero [] k = tt
  each_drop zero (x ∷ l) k = k
  each_drop (suc n) [] k = tt
  each_drop (suc n) (x ∷ l) k = each_drop n l k.1

  each_append : (l m : List ℕ) → Each P l → Each P m → Each P (l ++ m)
  unfolding Each
  each_append [] m k h = h
  each_append (x ∷ l) m k h = (k.0, each_append l m k.1 h)

  pub each_closed : (n : ℕ) → Each P (replicate n closed)
  unfolding Each
  each_closed zero = tt
  each_closed (suc n) = (inl refl, each_closed n)

  pub each_at : (l : List ℕ) (k : ℕ) → Each P l → (get_or l k closed ≡ closed) ⊎ (P (get_or l k closed) ≡ true)
  unfolding Each
  each_at [] k h = inl refl
  each_at (x ∷ l) zero h = h.0
  each_at (x ∷ l) (suc k) h = each_at l k h.1

  each_block : (l m : List ℕ) (p : ℕ) → Each P l → Each P m → Each P (put_block l p m)
  unfolding put_block
  each_block l m p k h = each_append _ _ (each_append _ _ (each_take (slot p 0) l k) h) (each_drop (slot p descriptor_count) l k)

  each_of : (l : List ℕ) (p : ℕ) → Each P l → Each P (block l p)
  unfolding block
  each_of l p k = each_take descriptor_count _ (each_drop (slot p 0) l k)

pub record Entries (s : Tables) : Type 0 where
  pub described : Each is_target s.descriptors
  pub named : Each is_file s.names

file_leads : (e : ℕ) → is_file e ≡ true → is_target e ≡ true
unfolding is_target
file_leads e h = or_r (is_device e) _ h

device_leads : (e : ℕ) → ltb e 8 ≡ true → is_target e ≡ true
unfolding is_target is_device
device_leads e h = or_l _ (is_file e) h

module _ (s : Tables) (t : Entries s) (p a b c : ℕ) where
  abbrev call : Kind → Call
  call kind = record { kind = kind; process = p; a = a; b = b; c = c }

  name_entry : (name s a ≡ closed) ⊎ (is_file (name s a) ≡ true)
  unfolding name
  name_entry = each_at is_file s.names a t.named

  pub entries_after : (kind : Kind) → Accepted s (call kind) → Entries (tables_by s p a b c kind)
  unfolding tables_by with_live with_descriptors with_names with_row with_rows raised lowered ranges in_range need_of missing is_open is_bound
  entries_after start h = record { described = t.described; named = t.named }
  entries_after open_name h = record { described = each_set is_target _ _ _ (inr (not-false (is_target (name s a)) (untrue _ 15 h.there))) t.described; named = t.named }
  entries_after create h =
      let f = fits_c (ranges create) (call create) h.fits in
      record { described = each_set is_target _ _ c (inr (file_leads c f)) t.described; named = each_set is_file _ _ c (inr f) t.named }
  entries_after pipe h =
      let f : (c ≡ closed) ⊎ (is_target c ≡ true) = inr (file_leads c (fits_c (ranges pipe) (call pipe) h.fits)) in
      record { described = each_set is_target _ _ c f (each_set is_target _ _ c f t.described); named = t.named }
  entries_after device h =
      record { described = each_set is_target _ _ b (inr (device_leads b (fits_b (ranges device) (call device) h.fits))) t.described; named = t.named }
  entries_after dup h = record { described = each_set is_target _ _ _ (inr (not-false (is_target (descriptor s p a)) (untrue _ 14 h.there))) t.described; named = t.named }
  entries_after close h = record { described = each_set is_target _ _ closed (inl refl) t.described; named = t.named }
  entries_after read h = t
  entries_after write h = t
  entries_after truncate h = t
  entries_after map_read h = record { described = t.described; named = t.named }
  entries_after map_both h = record { described = t.described; named = t.named }
  entries_after unmap h = record { described = t.described; named = t.named }
  entries_after unlink h = record { described = t.described; named = each_set is_file _ _ closed (inl refl) t.named }
  entries_after rename h = record { described = t.described; named = each_set is_file _ _ _ name_entry (each_set is_file _ _ closed (inl refl) t.named) }
  entries_after link h = record { described = t.described; named = each_set is_file _ _ _ name_entry t.named }
  entries_after fork h = record { described = each_block is_target _ _ a t.described (each_of is_target _ p t.described); named = t.named }
  entries_after exit h = record { described = each_block is_target _ _ p t.described (each_closed is_target 32); named = t.named }
  entries_after label h = t
