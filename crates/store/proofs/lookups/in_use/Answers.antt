-- `in_use` is the test of document 01, by the kinds of container.
use Rattle.std.proofs.Common.{ℕ, ◌≡◌, ◌<◌, ◌^◌, true, false, sym, ap, ◌∙◌, refl}
use borrow.Author.Tests.{lt-ltb}
use Rattle.sets.specs.Sets.{has}
use Rattle.flow.specs.Box.{Tables, is_device}
use Rattle.flow.specs.Lists.{is_in}
use Rattle.flow.proofs.Bools.{no_both}
use Rattle.flow.proofs.Use.{used_device, used_number, used_held}
use Rattle.store.specs.Maps.{view}
use Rattle.store.proofs.Use.{mapped_is}
use Rattle.store.proofs.lookups.in_use.Goals as goal
use Rattle.store.proofs.lookups.in_use.Goals.{then-stands, else-stands}

pub returns-then-c-lt-DEVICES : goal.returns-then-c-lt-DEVICES
unfolding is_device view
returns-then-c-lt-DEVICES c = sym (used_device _ _ (lt-ltb _ 8 c.if-c-lt-DEVICES.true))

pub returns-then-c-lt-FIRST_FILE : goal.returns-then-c-lt-FIRST_FILE
unfolding is_device view
returns-then-c-lt-FIRST_FILE c = c.is_live.ensures ∙ sym (used_number _ _ c.if-c-lt-DEVICES.false c.if-c-lt-FIRST_FILE.true)

pub returns-then-stands-2 : goal.returns-then-stands-2
unfolding view
returns-then-stands-2 c =
    let q = c.args in
    let t : Tables = (view q.words.now q.descriptors.now q.names.now).tables in
    elim c.if-stands.branch [
      | then-stands w ↦ c.if-stands-2.true ∙ sym (used_held t _ c.if-c-lt-FIRST_FILE.false ∙ rw (← w.if-stands.ensures) refl)
      | else-stands w ↦
          let d : is_in q.c.0 q.descriptors.now ≡ true = sym w.stands-else-stands.ensures ∙ sym w.value-is ∙ c.if-stands-2.true in
          c.if-stands-2.true ∙ sym (used_held t _ c.if-c-lt-FIRST_FILE.false ∙ rw (← w.if-stands.ensures, d) refl)
    ]

pub returns-else-stands-2 : goal.returns-else-stands-2
unfolding view
returns-else-stands-2 c =
    let q = c.args in
    let t : Tables = (view q.words.now q.descriptors.now q.names.now).tables in
    let fits : c.mapped.result < 2 ^ 64 = c.mapped.type_inv in
    elim c.if-stands.branch [
      | then-stands w ↦ no_both (w.value-is ∙ w.if-stands.true) c.if-stands-2.false
      | else-stands w ↦
          let d : is_in q.c.0 q.descriptors.now ≡ false = sym w.stands-else-stands.ensures ∙ sym w.value-is ∙ c.if-stands-2.false in
          c.holds.ensures ∙ ap (λ (x : ℕ). has x q.c.0) c.mapped.ensures
          ∙ mapped_is q.words.now q.descriptors.now q.names.now c.told-words q.c.0 (rw c.mapped.ensures at fits)
          ∙ sym (used_held t _ c.if-c-lt-FIRST_FILE.false ∙ rw (← w.if-stands.ensures, d) refl)
    ]
