-- `copy_block` puts a block in the place of another.
use Rattle.std.proofs.Common.{refl, ◌∙◌}
use Rattle.store.proofs.BlockLaws.{copied_block}
use Rattle.store.proofs.blocks.copy_block.Goals as goal

pub returns : goal.returns
returns c = c.copy_within.ensures.after ∙ copied_block _ _ _ _ _ refl refl
