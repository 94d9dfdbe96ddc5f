-- `release_held` empties what is not in use, where there is anything.
use Prim.Native.Nat.{ℕ}
use mathlib.Core.Path.{◌≡◌, sym, ap, ◌∙◌}
use lib.ListN.{length}
use Rattle.store.specs.Maps.{with_items, cleared}
use Rattle.store.proofs.Words.{none_cleared}
use Rattle.tracker.specs.Plans.{gone_of}
use Rattle.tracker.specs.View.{view}
use Rattle.tracker.proofs.Finding.{gone_none}
use borrow.Author.Rules.{rules}
use Rattle.tracker.proofs.release.release_held.Goals as goal

pub returns-then-held-ne0 : goal.returns-then-held-ne0
unfolding gone_of
returns-then-held-ne0 c =
    let t = c.args.t.now in
    let m = view t in
    c.empty_set.ensures t.descriptors t.names ∙ ap (λ (x : ℕ). with_items m (cleared m.items x)) c.unused_of-gone.ensures

pub returns-else-held-ne0 : goal.returns-else-held-ne0
returns-else-held-ne0 c =
    let t = c.args.t.now in
    let m = view t in
    let l : length t.words ≡ 353 = search rules in
    none_cleared t.words t.descriptors t.names l
    ∙ ap (λ (x : ℕ). with_items m (cleared m.items x)) (sym (ap (gone_of m.tables) c.if-held-ne0.false ∙ gone_none m.tables))
