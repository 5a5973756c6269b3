-- `join::fit_at` meets its contract. Assumes nothing.
use Rattle.block_edits.proofs.Fitting.{at-touching, at-apart}
use Rattle.block_edits.proofs.join.fit_at.Goals as goal

pub returns-then-eq : goal.returns-then-eq
returns-then-eq c = search at-touching

pub returns : goal.returns
returns c = search at-apart
