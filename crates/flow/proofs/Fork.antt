-- A forked child has the parent's items, descriptors, counts of mappings and links, in each direction.
use Prim.Native.Nat.{ℕ, ◌<◌}
use native.Mathlib.Omega.{arith}
use mathlib.Core.Path.{◌≡◌, refl, sym, ap, ◌∙◌}
use mathlib.Core.Bool.{true}
use mathlib.Core.List.{List}
use lib.ListN.{get_or}
use Rattle.sets.specs.Sets.{has}
use Rattle.flow.specs.Box.{container_of, Tables, State, items_of, Sort, to_read, both_ways, row_of, mappings, feeders_of, feeds, descriptor}
use Rattle.flow.specs.Links.{linked, used}
use Rattle.flow.specs.Calls.{fork, Call, change, with_live, with_descriptors, tables_by, flow_by, after}
use Rattle.flow.specs.Contents.{state_at}
use Rattle.flow.specs.Consequences.{ForkCopies}
use Rattle.flow.proofs.Bools.{by, no_both}
use Rattle.flow.proofs.Reach.{link_cases, link_in, link_out}
use Rattle.flow.proofs.Rows.{target_not, now_live}
use Rattle.flow.proofs.Mapping.{child_row, child_in, child_out}
use Rattle.flow.proofs.Use.{used_process, feeder_row, fed_row}
use Rattle.flow.proofs.Moves.{source_copy, copy_at}
use Rattle.flow.proofs.After.{Linking, after_in_use}
use Rattle.flow.proofs.Accepted.{linking_fork}
use Rattle.flow.proofs.Blocks.{put_same, block_length, block_at}
use Rattle.flow.proofs.Keeping.{state_kept}

-- what links to a process is in its row, and what it links to
module _ (s : Tables) (k : Linking s) (p : ℕ) (hp : p < 16) where
  into_process : (u : ℕ) → linked s u (container_of p) ≡ has (feeders_of s p) u
  into_process u =
      by (has (feeders_of s p) u) (λ e. link_in s p hp u e ∙ sym e)
      (λ e. by (linked s u (container_of p))
      (link_cases s u (container_of p)
      (λ q hq d h. let z : q ≡ p = omega arith in no_both (rw z at h) e)
      (λ q hq d h. absurd (target_not (container_of p) ((fed_row s k.reads k.boths q).maps (container_of p) h) (omega arith) (omega arith))))
      (λ f. f ∙ sym e))

  out_of_process : (v : ℕ) → linked s (container_of p) v ≡ has (feeds s p) v
  out_of_process v =
      by (has (feeds s p) v) (λ e. link_out s p hp v e ∙ sym e)
      (λ e. by (linked s (container_of p) v)
      (link_cases s (container_of p) v
      (λ q hq d h. absurd (target_not (container_of p) ((feeder_row s k.reads k.boths q).maps (container_of p) h) (omega arith) (omega arith)))
      (λ q hq d h. let z : q ≡ p = omega arith in no_both (rw z at h) e))
      (λ f. f ∙ sym e))

module _ (s : Tables) (k : Linking s) (p a : ℕ) (hp : p < 16) (ha : a < 16) where
  abbrev child : Tables
  child = tables_by s p a 0 0 fork

  child_feeders : feeders_of child a ≡ feeders_of s p
  unfolding tables_by with_live with_descriptors row_of feeders_of
  child_feeders = child_in s k p a hp ha

  child_fed : feeds child a ≡ feeds s p
  unfolding tables_by with_live with_descriptors row_of feeds
  child_fed = child_out s k p a hp ha

  child_counts : (x : Sort) (c : ℕ) → mappings child x a c ≡ mappings s x p c
  unfolding tables_by with_live with_descriptors row_of mappings
  child_counts to_read c = ap (λ (row : List ℕ). get_or row c 0) (child_row s k p a hp ha to_read)
  child_counts both_ways c = ap (λ (row : List ℕ). get_or row c 0) (child_row s k p a hp ha both_ways)

  child_linking : Linking child
  child_linking = linking_fork s k p a 0 0 ha hp

  child_used : used child (container_of a) ≡ true
  unfolding tables_by with_live with_descriptors
  child_used = used_process child a ha ∙ now_live s.live a

pub fork_copies : ForkCopies
unfolding ForkCopies change flow_by tables_by with_live with_descriptors after descriptor
fork_copies steps n p a hp ha e =
    let s : State = state_at steps n in
    let k : Linking s.tables = (state_kept steps n).linking in
    let q : Call = record { kind = fork; process = p; a = a; b = 0; c = 0 } in (
      after_in_use s (change s.tables q) (container_of a) (omega arith) (child_used s.tables k p a hp ha)
          ∙ copy_at s (container_of p) (container_of a) (container_of a) (omega arith) ∙ ap (items_of s) (source_copy (container_of p) (container_of a) (container_of a) refl),
      λ d hd. put_same s.tables.descriptors _ a (state_kept steps n).quiet.size (block_length s.tables.descriptors p (state_kept steps n).quiet.size hp) ha d hd ∙ block_at s.tables.descriptors p d hd,
      child_counts s.tables k p a hp ha,
      λ u. into_process (child s.tables k p a hp ha) (child_linking s.tables k p a hp ha) a ha u
          ∙ ap (λ (x : ℕ). has x u) (child_feeders s.tables k p a hp ha) ∙ sym (into_process s.tables k p hp u),
      λ v. out_of_process (child s.tables k p a hp ha) (child_linking s.tables k p a hp ha) a ha v
          ∙ ap (λ (x : ℕ). has x v) (child_fed s.tables k p a hp ha) ∙ sym (out_of_process s.tables k p hp v),
    )
