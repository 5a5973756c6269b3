-- `check` meets its contract: the first check that fails. Assumes nothing.
use Rattle.flush.proofs.Ways.{check-list, check-damaged, check_sound}
use Rattle.flush.proofs.check.Goals as goal

pub returns-in-Ok : goal.returns-in-Ok
returns-in-Ok c = check_sound _ _ _ _ _ c.look.ensures _ c.in-Ok.is _ c.check_sound.ensures

pub returns-in-SetUp : goal.returns-in-SetUp
returns-in-SetUp c =
    let x = c.args in
    check-list _ _ x.block x.nodes.now _ c.look.ensures _ c.in-Err.is c.in-SetUp.is

pub returns-in_default : goal.returns-in_default
returns-in_default c = check-damaged _ _ _ _ _ c.look.ensures _ c.in-Err.is c.in_default.not-SetUp _ c.check_damaged.ensures
