-- `remove_pair` meets its contract. Assumes nothing.
use Rattle.block_shifts.proofs.Shifting.{lowered}
use Rattle.block_shifts.proofs.remove_pair.Goals as goal

pub returns : goal.returns
returns c = lowered _ _ _ c.requires.tidy _ _ _ c.requires.i_lt_n c.copy_within.ensures.after c.none.ensures c.put.ensures
