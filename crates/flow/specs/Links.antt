-- Document 01, The box: links, reach, gifts and use.
use Rattle.std.specs.Prelude.{ℕ, zero, suc, ◌-◌, ◌≡◌, Bool, true, false, not, ◌&&◌, ◌||◌, List, eqb, get_or}
use Rattle.sets.specs.Sets.{has, only, ◌∪◌, ◌∩◌}
use Rattle.flow.specs.Lists.{table, some_below, is_in}
use Rattle.flow.specs.Box.{container_count, first_process, process_count, is_device, is_process, container_of, Tables, is_live, feeders_of, feeds}

-- a link from u to v: v is fed whenever u is. Links join a process and a container that it maps, by its counts (02, Paper 4)
unfoldable pub linked : Tables → ℕ → ℕ → Bool
linked t u v = (is_process v && has (feeders_of t (v - first_process)) u) || (is_process u && has (feeds t (u - first_process)) v)

-- links lead from u to v, over any number of steps
pub data Reaches (t : Tables) (u : ℕ) : ℕ → Type 0 where
  here : Reaches t u u
  onward : {v w : ℕ} → Reaches t u v → linked t v w ≡ true → Reaches t u w

-- ---- the reach of u as a set: u and everything that links lead to from it (l* in document 000)
-- two sets have a common member
unfoldable pub meets : ℕ → ℕ → Bool
meets x y = not (eqb (x ∩ y) 0)

-- the set x; if process p is in it or is fed from it, with p and all that p feeds
unfoldable pub through : Tables → ℕ → ℕ → ℕ
through t x p = elim (has x (container_of p) || meets x (feeders_of t p)) [ true ↦ x ∪ (only (container_of p) ∪ feeds t p) | false ↦ x ]

-- so through each of the first n processes
unfoldable pub through_each : Tables → ℕ → ℕ → ℕ
through_each t zero x = x
through_each t (suc n) x = through t (through_each t n x) n

-- links are followed until that adds nothing, n times at most
unfoldable pub closure : Tables → ℕ → ℕ → ℕ
closure t zero x = x
closure t (suc n) x =
    let y = through_each t process_count x in
    elim (eqb y x) [ true ↦ x | false ↦ closure t n y ]

-- each time but the last adds at least one of the 64 containers
unfoldable pub reach : Tables → ℕ → ℕ
reach t u = closure t container_count (only u)

-- ---- to give a set of items x to u is to add it to everything in u's reach, the set r
unfoldable pub given : List ℕ → ℕ → ℕ → List ℕ
given items r x = table container_count (λ v. let y = get_or items v 0 in elim (has r v) [ true ↦ y ∪ x | false ↦ y ])

-- what container g holds is given to u
abbrev pub given_from : Tables → List ℕ → ℕ → ℕ → List ℕ
given_from t items g u = given items (reach t u) (get_or items g 0)

-- ---- use
-- a link leads into the file, pipe or device c
unfoldable pub is_fed : Tables → ℕ → Bool
is_fed t c = some_below process_count (λ p. has (feeds t p) c)

-- a link leads to or from c, which is no process
unfoldable pub mapped : Tables → ℕ → Bool
mapped t c = some_below process_count (λ p. has (feeders_of t p) c || has (feeds t p) c)

-- devices are always in use, processes while live, files and pipes while a name, a descriptor or a link leads to or from them.
-- (A number above 63 is no container: what this says of it decides nothing.)
unfoldable pub used : Tables → ℕ → Bool
used t c =
    elim (is_device c) [
      | true ↦ true
      | false ↦ elim (is_process c) [
        | true ↦ is_live t (c - first_process)
        | false ↦ is_in c t.names || is_in c t.descriptors || mapped t c
      ]
    ]
