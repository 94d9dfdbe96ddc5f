-- `block_files` goes through a part of the descriptors.
use Rattle.std.proofs.Common.{arith, sym, ap}
use Rattle.sets.specs.Sets.{◌∪◌}
use Rattle.store.specs.Maps.{files_in}
use Rattle.store.proofs.Files.{block_files_lem}
use Rattle.store.proofs.Words.{block_past}
use Rattle.store.proofs.blocks.block_files.Goals as goal

pub returns-then-p-ge-PROCESSES : goal.returns-then-p-ge-PROCESSES
unfolding files_in
returns-then-p-ge-PROCESSES c = ap files_in (sym (block_past _ _ (omega (arith, c.told-descriptors))))

pub returns : goal.returns
unfolding ◌∪◌
returns c = rw (c.files_in.ensures, c.files_in-2.ensures) (block_files_lem _ _)
