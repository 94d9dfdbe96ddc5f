-- What a call makes of the items: what it gives, as a plan, what it empties, and what it may end the use of.
use Rattle.std.specs.Prelude.{ℕ, Bool, true, false, not, ◌&&◌, ◌≡◌, Option, None, Some, get_or}
use Rattle.std.proofs.Math.Option.{Option as Maybe, none, some}
use Rattle.sets.specs.Sets.{has, only, those, ◌∪◌, ◌∩◌}
use Rattle.flow.specs.Box.{container_of, Tables, feeders_of, descriptor, name}
use Rattle.flow.specs.Links.{reach, given_from, is_fed, used}
use Rattle.flow.specs.Calls.{Kind, Call, start, open_name, create, pipe, device, dup, close, read, write, truncate, map_read, map_both, unmap, unlink, rename, link, fork, exit, label, Flow, still, gift, arrival, exchange, copy, clear, block, flow_by}
use Rattle.store.specs.declared.Plan.{Plan}
use Rattle.store.specs.declared.numbers.Container.{Container}
use Rattle.store.specs.Maps.{Maps, files, file_set, container_set, files_in}
use Rattle.tracker.specs.declared.release.Lost.{Lost}

-- ---- plans
abbrev pub plan : ℕ → ℕ → ℕ → ℕ → ℕ → Plan
plan e x r y t = record { empty = e; given = x; to = r; given2 = y; to2 = t }

abbrev pub nothing : Plan
nothing = plan 0 0 0 0 0

abbrev pub giving : ℕ → ℕ → Plan
giving x r = plan 0 x r 0 0

-- what a flow gives; the second gift of an exchange is of what its giver then holds; a copy empties its receiver first
unfoldable pub plan_of : Maps → Flow → Plan
plan_of m still = nothing
plan_of m (gift g u) = giving (get_or m.items g 0) (reach m.tables u)
plan_of m (arrival u i) = giving (only i) (reach m.tables u)
plan_of m (exchange a b) = plan 0 (get_or m.items a 0) (reach m.tables b) (get_or (given_from m.tables m.items a b) b 0) (reach m.tables a)
plan_of m (copy a b) = plan (only b) (get_or m.items a 0) (only b) 0 0
plan_of m (clear u) = nothing

-- a truncation's flow goes by a test, and gives nothing either way
unfoldable pub plan_by : Maps → ℕ → ℕ → ℕ → ℕ → Kind → Plan
plan_by m p a b c start = plan_of m (flow_by m.tables p a b c start)
plan_by m p a b c open_name = plan_of m (flow_by m.tables p a b c open_name)
plan_by m p a b c create = plan_of m (flow_by m.tables p a b c create)
plan_by m p a b c pipe = plan_of m (flow_by m.tables p a b c pipe)
plan_by m p a b c device = plan_of m (flow_by m.tables p a b c device)
plan_by m p a b c dup = plan_of m (flow_by m.tables p a b c dup)
plan_by m p a b c close = plan_of m (flow_by m.tables p a b c close)
plan_by m p a b c read = plan_of m (flow_by m.tables p a b c read)
plan_by m p a b c write = plan_of m (flow_by m.tables p a b c write)
plan_by m p a b c truncate = nothing
plan_by m p a b c map_read = plan_of m (flow_by m.tables p a b c map_read)
plan_by m p a b c map_both = plan_of m (flow_by m.tables p a b c map_both)
plan_by m p a b c unmap = plan_of m (flow_by m.tables p a b c unmap)
plan_by m p a b c unlink = plan_of m (flow_by m.tables p a b c unlink)
plan_by m p a b c rename = plan_of m (flow_by m.tables p a b c rename)
plan_by m p a b c link = plan_of m (flow_by m.tables p a b c link)
plan_by m p a b c fork = plan_of m (flow_by m.tables p a b c fork)
plan_by m p a b c exit = plan_of m (flow_by m.tables p a b c exit)
plan_by m p a b c label = plan_of m (flow_by m.tables p a b c label)

unfoldable pub plan_for : Maps → Call → Plan
plan_for m q = plan_by m q.process q.a q.b q.c q.kind

-- the kinds that can give something
unfoldable pub gives_by : Kind → Bool
gives_by start = false
gives_by open_name = false
gives_by create = false
gives_by pipe = false
gives_by device = false
gives_by dup = false
gives_by close = false
gives_by read = true
gives_by write = true
gives_by truncate = false
gives_by map_read = true
gives_by map_both = true
gives_by unmap = false
gives_by unlink = false
gives_by rename = false
gives_by link = false
gives_by fork = true
gives_by exit = false
gives_by label = true

-- the same of a number's kind, if it has one
unfoldable pub gives_at : Maybe Kind → Bool
gives_at none = false
gives_at (some k) = gives_by k

-- calls that give once: neither a map both, which gives twice, nor a fork, which gives to a container that it empties
abbrev pub GivesOnce : Call → Type 0
GivesOnce q = (gives_by q.kind ≡ true) × (q.kind ≡ map_both → ⊥) × (q.kind ≡ fork → ⊥)

-- ---- what is emptied
-- the set of c where no link leads into c
unfoldable pub free_set : Tables → ℕ → ℕ
free_set t c = elim (is_fed t c) [ true ↦ 0 | false ↦ only c ]

-- the set of a container, if there is one
unfoldable pub set_of : Option Container → ℕ
set_of None = 0
set_of (Some c) = container_set c.0

-- the containers that a call empties; a fork's child is emptied by its plan, and the process of an exit is among those whose use it ends
unfoldable pub emptied_by : Tables → ℕ → ℕ → ℕ → ℕ → Kind → ℕ
emptied_by t p a b c start = only (container_of p)
emptied_by t p a b c open_name = 0
emptied_by t p a b c create = only c
emptied_by t p a b c pipe = only c
emptied_by t p a b c device = 0
emptied_by t p a b c dup = 0
emptied_by t p a b c close = 0
emptied_by t p a b c read = 0
emptied_by t p a b c write = 0
emptied_by t p a b c truncate = free_set t (descriptor t p a)
emptied_by t p a b c map_read = 0
emptied_by t p a b c map_both = 0
emptied_by t p a b c unmap = 0
emptied_by t p a b c unlink = 0
emptied_by t p a b c rename = 0
emptied_by t p a b c link = 0
emptied_by t p a b c fork = 0
emptied_by t p a b c exit = 0
emptied_by t p a b c label = 0

unfoldable pub emptied_for : Tables → Call → ℕ
emptied_for t q = emptied_by t q.process q.a q.b q.c q.kind

-- ---- uses that may end
-- the files and pipes that process q leads to or maps
unfoldable pub held_by : Tables → ℕ → ℕ
held_by t q = files_in (block t.descriptors q) ∪ (feeders_of t q ∩ files)

-- the containers that a call may end the use of
unfoldable pub lost_by : Tables → ℕ → ℕ → ℕ → ℕ → Kind → ℕ
lost_by t p a b c start = 0
lost_by t p a b c open_name = 0
lost_by t p a b c create = 0
lost_by t p a b c pipe = 0
lost_by t p a b c device = 0
lost_by t p a b c dup = 0
lost_by t p a b c close = file_set (descriptor t p a)
lost_by t p a b c read = 0
lost_by t p a b c write = 0
lost_by t p a b c truncate = 0
lost_by t p a b c map_read = 0
lost_by t p a b c map_both = 0
lost_by t p a b c unmap = file_set a
lost_by t p a b c unlink = file_set (name t a)
lost_by t p a b c rename = file_set (name t b)
lost_by t p a b c link = 0
lost_by t p a b c fork = held_by t a
lost_by t p a b c exit = held_by t p ∪ only (container_of p)
lost_by t p a b c label = 0

unfoldable pub lost_for : Tables → Call → ℕ
lost_for t q = lost_by t q.process q.a q.b q.c q.kind

-- the set that a Lost stands for
abbrev pub lost_set : Lost → ℕ
lost_set lost = (file_set lost.entry ∪ file_set lost.unmapped) ∪ lost.held

-- of the set lost, those that are not in use
unfoldable pub gone_of : Tables → ℕ → ℕ
gone_of t lost = those (λ c. has lost c && not (used t c))
