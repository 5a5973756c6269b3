-- `overlaps_at` meets its contract: whether the range fits. Assumes nothing.
use Rattle.block_edits.proofs.PutAnswers.{at-none}
use Rattle.block_edits.proofs.overlaps_at.Goals as goal

pub returns : goal.returns
returns c = at-none _ _ c.args.range c.requires.sorted c.requires.base_lt_limit _ c.requires.first_reach _ c.fit_at.ensures _ c.is_none.ensures
