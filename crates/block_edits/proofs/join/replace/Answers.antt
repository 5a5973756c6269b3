-- `join::replace` meets its contract. Assumes nothing.
use Rattle.block_edits.proofs.Replacing.{replace-one, replace-two}
use Rattle.block_edits.proofs.join.replace.Goals as goal

pub returns-then-joins-eq1 : goal.returns-then-joins-eq1
returns-then-joins-eq1 c = search replace-one

pub returns : goal.returns
returns c = search replace-two
