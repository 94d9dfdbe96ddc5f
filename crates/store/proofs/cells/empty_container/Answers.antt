-- `empty_container` empties one container, if it is one.
use Prim.Native.Nat.{ℕ}
use native.Mathlib.Nat.{mod-eq_of_lt, mod-lt}
use mathlib.Core.Path.{sym, ap, ◌∙◌}
use Rattle.sets.specs.Sets.{only}
use Rattle.store.specs.Maps.{view, with_items, cleared}
use Rattle.store.proofs.Files.{container_set_low, container_set_past}
use Rattle.store.proofs.Words.{none_cleared, item_cleared}
use borrow.Author.Rules.{rules}
use Rattle.store.proofs.cells.empty_container.Goals as goal

pub returns-then-e-lt-CONTAINERS : goal.returns-then-e-lt-CONTAINERS
returns-then-e-lt-CONTAINERS c =
    let w = c.args.words.now in
    let e = c.args.e in
    λ d n. item_cleared _ _ d n c.told-words _ (mod-lt e (search rules)) c.empty_at.ensures
    ∙ ap (λ (x : ℕ). with_items (view w d n) (cleared (view w d n).items x)) (ap only (mod-eq_of_lt c.if-e-lt-CONTAINERS.true) ∙ sym (container_set_low _ c.if-e-lt-CONTAINERS.true))

pub returns-else-e-lt-CONTAINERS : goal.returns-else-e-lt-CONTAINERS
returns-else-e-lt-CONTAINERS c =
    let w = c.args.words.now in
    λ d n. none_cleared w d n c.told-words ∙ ap (λ (x : ℕ). with_items (view w d n) (cleared (view w d n).items x)) (sym (container_set_past _ c.if-e-lt-CONTAINERS.false))
