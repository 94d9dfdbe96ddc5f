-- The descriptors of each process: where a block is put, and that a dead process has none open.
use Prim.Native.Nat.{ℕ, ◌+◌, ◌-◌, ◌<◌}
use native.Mathlib.Omega.{arith}
use native.Mathlib.Decide.{ℕ_discrete, dec_lt}
use mathlib.Core.Path.{◌≡◌, refl, ap, ◌∙◌}
use mathlib.Core.Bool.{true, false, not}
use mathlib.Core.List.{List, ◌++◌}
use lib.ListN.{get_or, length, take, drop, replicate, set, length-append, length-drop, length-set, length-replicate, get_or-replicate, get_or-append}
use lib.Seq.{get_or-take, get_or-drop, get_or-append-add, get_or-set_other, length-take-le}
use borrow.Author.Tests.{ltb-true}
use Rattle.sets.specs.Sets.{has, without}
use Rattle.flow.specs.Box.{closed, slot, descriptor_count, Tables, is_live}
use Rattle.flow.specs.Calls.{Kind, start, open_name, create, pipe, device, dup, close, read, write, truncate, map_read, map_both, unmap, unlink, rename, link, fork, exit, label, kind_number, Call, is_kind, with_live, with_descriptors, with_names, with_row, with_rows, raised, lowered, put_block, block, tables_by}
use Rattle.flow.specs.Refusals.{ranges, in_range, dead}
use Rattle.flow.proofs.Bools.{by, no_both}
use Rattle.flow.proofs.Rows.{more_live, still_live, now_live}
use Rattle.flow.proofs.After.{Linking}
use Rattle.flow.proofs.Accepted.{Accepted, fits_a, fits_b, process_lt, alive}

module _ (l m : List ℕ) (p : ℕ) (ll : length l ≡ 512) (lm : length m ≡ 32) (hp : p < 16) where
  front : length (take (slot p 0) l) ≡ slot p 0
  front = length-take-le (slot p 0) l (omega arith)

  front_two : length (take (slot p 0) l ++ m) ≡ slot p 32
  front_two = length-append (take (slot p 0) l) m ∙ (let e : length (take (slot p 0) l) ≡ slot p 0 = front in omega arith)

  pub put_length : length (put_block l p m) ≡ 512
  unfolding put_block
  put_length =
      length-append (take (slot p 0) l ++ m) (drop (slot p descriptor_count) l)
      ∙ (let e : length (take (slot p 0) l ++ m) ≡ slot p 32 = front_two in
      let f : length (drop (slot p descriptor_count) l) ≡ length l - slot p 32 = length-drop (slot p 32) l in
      omega arith)

  pub put_same : (d : ℕ) → d < 32 → get_or (put_block l p m) (slot p d) closed ≡ get_or m d closed
  unfolding put_block
  put_same d h =
      let e : length (take (slot p 0) l) ≡ slot p 0 = front in
      let q : slot p d ≡ length (take (slot p 0) l) + d = omega arith in
      get_or-append (take (slot p 0) l ++ m) _ closed (slot p d) (let f : length (take (slot p 0) l ++ m) ≡ slot p 32 = front_two in omega arith)
      ∙ ap (λ (k : ℕ). get_or (take (slot p 0) l ++ m) k closed) q ∙ get_or-append-add (take (slot p 0) l) m d closed

  pub put_other : (q d : ℕ) → d < 32 → (q ≡ p → ⊥) → get_or (put_block l p m) (slot q d) closed ≡ get_or l (slot q d) closed
  unfolding put_block
  put_other q d h n = go (dec_lt q p)
    where
      go : Dec (q < p) → get_or (take (slot p 0) l ++ m ++ drop (slot p descriptor_count) l) (slot q d) closed ≡ get_or l (slot q d) closed
      go (yes b) =
          let e : length (take (slot p 0) l) ≡ slot p 0 = front in
          let f : length (take (slot p 0) l ++ m) ≡ slot p 32 = front_two in
          get_or-append (take (slot p 0) l ++ m) _ closed (slot q d) (omega arith)
          ∙ get_or-append (take (slot p 0) l) m closed (slot q d) (omega arith) ∙ get_or-take (slot p 0) l (slot q d) closed (omega arith)
      go (no b) =
          let f : length (take (slot p 0) l ++ m) ≡ slot p 32 = front_two in
          let k : ℕ = slot q d - slot p 32 in
          let i : slot q d ≡ length (take (slot p 0) l ++ m) + k = omega arith in
          let j : slot p 32 + k ≡ slot q d = omega arith in
          ap (λ (x : ℕ). get_or (take (slot p 0) l ++ m ++ drop (slot p descriptor_count) l) x closed) i
          ∙ get_or-append-add (take (slot p 0) l ++ m) _ k closed ∙ get_or-drop (slot p 32) l k closed ∙ ap (λ (x : ℕ). get_or l x closed) j

pub block_length : (l : List ℕ) (p : ℕ) → length l ≡ 512 → p < 16 → length (block l p) ≡ 32
unfolding block
block_length l p e h = length-take-le 32 (drop (slot p 0) l) (let f : length (drop (slot p 0) l) ≡ length l - slot p 0 = length-drop (slot p 0) l in omega arith)

pub block_at : (l : List ℕ) (p d : ℕ) → d < 32 → get_or (block l p) d closed ≡ get_or l (slot p d) closed
unfolding block
block_at l p d h = get_or-take 32 (drop (slot p 0) l) d closed h ∙ get_or-drop (slot p 0) l d closed ∙ ap (λ (x : ℕ). get_or l x closed) (omega arith)

-- ---- a dead process has no open descriptor
pub record Quiet (s : Tables) : Type 0 where
  pub size : length s.descriptors ≡ 512
  pub dead : (p d : ℕ) → p < 16 → d < 32 → has s.live p ≡ false → get_or s.descriptors (slot p d) closed ≡ closed

module _ (s : Tables) (k : Linking s) (t : Quiet s) (p a b c : ℕ) where
  abbrev call : Kind → Call
  call kind = record { kind = kind; process = p; a = a; b = b; c = c }

  -- one descriptor of a live process set
  quiet_set : (l : List ℕ) (d e : ℕ) → d < 32 → has s.live p ≡ true → Quiet (with_descriptors s l) → Quiet (with_descriptors s (set l (slot p d) e))
  unfolding with_descriptors
  quiet_set l d e hd v u =
      record {
        size = length-set l (slot p d) e ∙ u.size;
        dead = λ q f hq hf h. get_or-set_other l (slot p d) (slot q f) e closed (λ z. let y : q ≡ p = omega arith in no_both (rw (← y) at v) h) ∙ u.dead q f hq hf h;
      }

  quiet_same : (u : Tables) → u.live ≡ s.live → u.descriptors ≡ s.descriptors → Quiet u
  quiet_same u e f = record { size = rw f t.size; dead = λ q d hq hd h. rw f (t.dead q d hq hd (rw e at h)) }

  live_set : (kind : Kind) (d e : ℕ) → d < 32 → dead s (call kind) ≡ not (is_live s p) → Accepted s (call kind) → Quiet (with_descriptors s (set s.descriptors (slot p d) e))
  unfolding with_descriptors
  live_set kind d e hd q h = quiet_set s.descriptors d e hd (alive s k p a b c kind q h) (record { size = t.size; dead = t.dead })

  quiet_start : Quiet (tables_by s p a b c start)
  unfolding tables_by with_live
  quiet_start = record { size = t.size; dead = λ q d hq hd h. t.dead q d hq hd (by (has s.live q) (λ v. no_both (more_live s.live p q v) h) (λ v. v)) }

  quiet_fork : a < 16 → p < 16 → Quiet (tables_by s p a b c fork)
  unfolding tables_by with_live with_descriptors with_row with_rows raised lowered
  quiet_fork ha hp =
      record {
        size = put_length s.descriptors _ a t.size (block_length s.descriptors p t.size hp) ha;
        dead = λ q d hq hd h.
            put_other s.descriptors _ a t.size (block_length s.descriptors p t.size hp) ha q d hd (λ e. no_both (now_live s.live a) (rw e at h))
            ∙ t.dead q d hq hd (by (has s.live q) (λ v. no_both (more_live s.live a q v) h) (λ v. v));
      }

  quiet_exit : p < 16 → Quiet (tables_by s p a b c exit)
  unfolding tables_by with_live with_descriptors with_row with_rows raised lowered
  quiet_exit hp =
      record {
        size = put_length s.descriptors _ p t.size (length-replicate {A = ℕ} 32 closed) hp;
        dead = λ q d hq hd h. ended q d hq hd h (ℕ_discrete q p);
      }
    where
      ended : (q d : ℕ) → q < 16 → d < 32 → has (without s.live p) q ≡ false → Dec (q ≡ p) → get_or (put_block s.descriptors p (replicate descriptor_count closed)) (slot q d) closed ≡ closed
      ended q d hq hd h (yes e) = rw e (put_same s.descriptors _ p t.size (length-replicate {A = ℕ} 32 closed) hp d hd ∙ get_or-replicate 32 d closed closed hd)
      ended q d hq hd h (no n) =
          put_other s.descriptors _ p t.size (length-replicate {A = ℕ} 32 closed) hp q d hd n
          ∙ t.dead q d hq hd (by (has s.live q) (λ v. no_both (still_live s.live p q hq n v) h) (λ v. v))

  pub quiet_after : (kind : Kind) → Accepted s (call kind) → Quiet (tables_by s p a b c kind)
  unfolding tables_by with_names with_descriptors with_row with_rows raised lowered ranges in_range dead is_kind kind_number
  quiet_after start h = quiet_start
  quiet_after open_name h = live_set open_name b _ (ltb-true b 32 (fits_b (ranges open_name) (call open_name) h.fits)) refl h
  quiet_after create h = let u = live_set create b c (ltb-true b 32 (fits_b (ranges create) (call create) h.fits)) refl h in record { size = u.size; dead = u.dead }
  quiet_after pipe h =
      quiet_set (set s.descriptors (slot p a) c) b c (ltb-true b 32 (fits_b (ranges pipe) (call pipe) h.fits)) (alive s k p a b c pipe refl h)
      (live_set pipe a c (ltb-true a 32 (fits_a (ranges pipe) (call pipe) h.fits)) refl h)
  quiet_after device h = live_set device a b (ltb-true a 32 (fits_a (ranges device) (call device) h.fits)) refl h
  quiet_after dup h = live_set dup b _ (ltb-true b 32 (fits_b (ranges dup) (call dup) h.fits)) refl h
  quiet_after close h = live_set close a closed (ltb-true a 32 (fits_a (ranges close) (call close) h.fits)) refl h
  quiet_after read h = t
  quiet_after write h = t
  quiet_after truncate h = t
  quiet_after map_read h = quiet_same _ refl refl
  quiet_after map_both h = quiet_same _ refl refl
  quiet_after unmap h = quiet_same _ refl refl
  quiet_after unlink h = quiet_same _ refl refl
  quiet_after rename h = quiet_same _ refl refl
  quiet_after link h = quiet_same _ refl refl
  quiet_after fork h = quiet_fork (ltb-true a 16 (fits_a (ranges fork) (call fork) h.fits)) (process_lt s k p a b c fork refl h)
  quiet_after exit h = quiet_exit (process_lt s k p a b c exit refl h)
  quiet_after label h = t
