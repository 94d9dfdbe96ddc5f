-- `close_block` puts 32 closed descriptors in the place of a block.
use Rattle.std.proofs.Common.{◌%◌, refl, ap, ◌∙◌, arith, rules}
use Rattle.flow.specs.Calls.{put_block}
use Rattle.store.proofs.BlockLaws.{placed_block, middle_closed}
use Rattle.store.proofs.blocks.close_block.Goals as goal

pub returns : goal.returns
returns c =
    let l = c.args.descriptors.now in
    let p = c.args.p.0 % 16 in
    placed_block l _ _ _ p refl (omega arith) ∙ ap (put_block l p) (c.fill.ensures.after (λ y h. h) ∙ middle_closed l _ _ p refl (omega arith) c.told-descriptors (search rules))
