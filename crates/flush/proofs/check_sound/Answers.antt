-- `check_sound` meets its contract: the look at the block land, and the difference before its damage. Assumes nothing.
use Rattle.flush.proofs.Ways.{sound-block, sound-damaged, sound-good}
use Rattle.flush.proofs.check_sound.Goals as goal

pub returns-in-Ok : goal.returns-in-Ok
returns-in-Ok c = sound-good c.args.list _ _ _ c.look.ensures _ c.in-Ok.is _ c.if_same.ensures

pub returns-in-SetUp : goal.returns-in-SetUp
returns-in-SetUp c = sound-block c.args.list _ _ _ c.look.ensures _ c.in-Err.is c.in-SetUp.is

pub returns-in_default : goal.returns-in_default
returns-in_default c = sound-damaged c.args.list _ _ _ c.look.ensures _ c.in-Err.is c.in_default.not-SetUp _ c.if_same-in_default.ensures
