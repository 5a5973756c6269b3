-- `insert_pair` meets its contract. Assumes nothing.
use Rattle.block_shifts.proofs.Shifting.{raised}
use Rattle.block_shifts.proofs.insert_pair.Goals as goal

pub returns : goal.returns
returns c = raised _ _ _ c.requires.tidy _ _ _ c.requires.i_le_n c.requires.n_bound c.copy_within.ensures.after c.put.ensures
