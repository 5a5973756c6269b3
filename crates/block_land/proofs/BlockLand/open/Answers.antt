-- `BlockLand::open` meets its contract: 5, or the pair words set to 0. Assumes nothing.
use Rattle.block_land.proofs.Ways.{open-good, open-bad, new-zero}
use Rattle.block_land.proofs.BlockLand.open.Goals as goal

pub returns-in-Err : goal.returns-in-Err
returns-in-Err c =
    open-bad _ _ _ _ _ c.new_land-land.ensures _ c.set_up.ensures _ c.in-Err.is _
    (new-zero _ _ c.new-zero.ensures c.new.ensures _ c.new_land-none.ensures) _ c.number-answer.ensures

pub returns : goal.returns
returns c =
    open-good _ _ _ _ _ c.new_land-land.ensures _ c.set_up.ensures c.in_default.is _
    c.clear.ensures
