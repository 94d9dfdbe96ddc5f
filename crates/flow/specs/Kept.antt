-- What every record keeps, from the fresh state on.
use Rattle.std.specs.Prelude.{ℕ, ◌≤◌, ◌<◌, ◌≡◌, ◌⊎◌, ◌↔◌, Bool, true, false, ◌&&◌, List, [], ◌∷◌, get_or, length}
use Rattle.std.proofs.Math.Option.{none}
use Rattle.sets.specs.Sets.{has}
use Rattle.flow.specs.Lists.{first_that, is_none}
use Rattle.flow.specs.Box.{container_count, process_count, descriptor_count, rule_count, is_process, is_file, is_target, closed, Sort, Rule, State, items_of, holds, is_live, mappings, descriptor}
use Rattle.flow.specs.Links.{linked, used, Reaches, reach}
use Rattle.flow.specs.Rules.{lowest_broken}
use Rattle.flow.specs.Refusals.{field_tests}
use Rattle.flow.specs.Contents.{Step, state_at}

-- refusals 4, 5 and 9 don't apply to the rule
unfoldable pub well_formed : Rule → Bool
well_formed r = is_none (first_that (field_tests r))

unfoldable pub all_well_formed : List Rule → Bool
all_well_formed [] = true
all_well_formed (r ∷ rs) = well_formed r && all_well_formed rs

pub record Kept (s : State) : Type 0 where
  -- where u links to v, v holds what u holds
  pub along : (u v i : ℕ) → u < container_count → v < container_count → linked s.tables u v ≡ true → holds s u i ≡ true → holds s v i ≡ true
  -- what is not in use holds nothing
  pub bare : (c : ℕ) → c < container_count → used s.tables c ≡ false → items_of s c ≡ 0
  -- no loaded rule is broken
  pub unbroken : lowest_broken s ≡ none
  -- refusals 4, 5 and 9 apply to none of them, and there are at most 32
  pub loadable : all_well_formed s.rules ≡ true
  pub counted : length s.rules ≤ rule_count
  -- everything that is linked is in use, so a linked process is live
  pub live : (u v : ℕ) → linked s.tables u v ≡ true → (used s.tables u ≡ true) × (used s.tables v ≡ true)
  -- a link joins a process and a device, a file or a pipe
  pub joined : (u v : ℕ) → linked s.tables u v ≡ true → ((is_target u ≡ true) × (is_process v ≡ true)) ⊎ ((is_process u ≡ true) × (is_target v ≡ true))
  -- each count of mappings is at most 255, and where it is above 0 the process is live and maps a device, a file or a pipe (02, Paper 4)
  pub limited : (x : Sort) (p c : ℕ) → mappings s.tables x p c ≤ 255
  pub mapping : (x : Sort) (p c : ℕ) → 0 < mappings s.tables x p c → (is_live s.tables p ≡ true) × (is_target c ≡ true)
  -- a descriptor is closed or leads to a device, a file or a pipe, a name is unbound or leads to a file or pipe
  pub described : (k : ℕ) → (get_or s.tables.descriptors k closed ≡ closed) ⊎ (is_target (get_or s.tables.descriptors k closed) ≡ true)
  pub named : (k : ℕ) → (get_or s.tables.names k closed ≡ closed) ⊎ (is_file (get_or s.tables.names k closed) ≡ true)
  -- a dead process has no open descriptor
  pub dead : (p d : ℕ) → p < process_count → d < descriptor_count → is_live s.tables p ≡ false → descriptor s.tables p d ≡ closed
  -- the reach is what links lead to
  pub reached : (u v : ℕ) → u < container_count → has (reach s.tables u) v ≡ true ↔ Reaches s.tables u v

unfoldable pub EveryRecordKeeps : Type 0
EveryRecordKeeps = (steps : List Step) (k : ℕ) → Kept (state_at steps k)
