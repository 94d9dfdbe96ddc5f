-- `replace_items` lends the items alone.
use native.Mathlib.Omega.{arith}
use mathlib.Core.Path.{ap, ◌∙◌}
use Prim.Native.Nat.{◌%◌}
use Rattle.flow.specs.Gained.{gained}
use Rattle.store.specs.Maps.{part}
use Rattle.store.proofs.Parts.{part_length}
use Rattle.store.proofs.Words.{items_made}
use Rattle.store.proofs.Gains.{replaced}
use Rattle.store.proofs.cells.replace_items.Goals as goal

pub returns : goal.returns
unfolding part
returns c =
    let w = c.args.words.now in
    let e = replaced (part 1 64 w) (c.args.c.0 % 64) c.args.x (part_length 1 64 w (omega (arith, c.told-words))) (omega arith) in
    record {
      made = λ d n. items_made _ _ d n c.told-words _ (c.replace_at.ensures.0 ∙ e);
      told = c.replace_at.ensures.1 ∙ ap (gained (part 1 64 w)) e;
    }
