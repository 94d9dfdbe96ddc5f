-- A name renamed to itself (01, The records): nothing changes, in every state.
use Prim.Native.Nat.{ℕ, zero, suc}
use mathlib.Core.Path.{◌≡◌, refl, sym, ap}
use mathlib.Core.Bool.{Bool, true, false, not, ◌&&◌}
use mathlib.Core.List.{List, [], ◌∷◌}
use lib.ListN.{length, get_or, set}
use Rattle.flow.specs.Box.{closed, name, Tables, State}
use Rattle.flow.specs.Links.{used}
use Rattle.flow.specs.Calls.{rename, with_names, tables_by, flow_by, change, moved, ended, items_after, after}
use Rattle.flow.proofs.TableLaws.{is_table}

-- an entry that is replaced, and put back
put_back : (l : List ℕ) (i a : ℕ) → set (set l i a) i (get_or l i closed) ≡ l
put_back [] i a = refl
put_back (x ∷ l) zero a = refl
put_back (x ∷ l) (suc i) a = ap (λ (r : List ℕ). x ∷ r) (put_back l i a)

same_tables : (t : Tables) (p a c : ℕ) → tables_by t p a a c rename ≡ t
unfolding tables_by with_names name
same_tables t p a c = ap (with_names t) (put_back t.names a closed)

-- no use ends from tables to the same tables
none_ended : (t : Tables) (c : ℕ) → ended t t c ≡ false
unfolding ended
none_ended t c = go (used t c)
  where
    go : (b : Bool) → (b && not b) ≡ false
    go true = refl
    go false = refl

kept_items : (t : Tables) (items : List ℕ) → length items ≡ 64 → items_after t items (record { tables = t; flow = flow_by t 0 0 0 0 rename }) ≡ items
unfolding items_after flow_by moved
kept_items t items e = sym (is_table 64 _ items e (λ i h. rw (none_ended t i) refl))

abbrev holding : State → List ℕ → State
holding s l = record { tables = s.tables; items = l; rules = s.rules }

pub renamed_itself : (s : State) (p a c : ℕ) → length s.items ≡ 64 → after s (change s.tables (record { kind = rename; process = p; a = a; b = a; c = c })) ≡ s
unfolding after change flow_by
renamed_itself s p a c e = rw (same_tables s.tables p a c) (ap (holding s) (kept_items s.tables s.items e))
