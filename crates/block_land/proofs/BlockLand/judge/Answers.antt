-- `BlockLand::judge` meets its contract: low water, then the table. Assumes nothing.
use Rattle.std.proofs.lemmas.Result.{err_from_is_err_and}
use Rattle.block_land.proofs.Ways.{judge-ready, judge-low, judge-table}
use Rattle.block_land.proofs.BlockLand.judge.Goals as goal

pub returns-in_err-check : goal.returns-in_err-check
returns-in_err-check c =
    let p = err_from_is_err_and c.from_residual.result c.from_residual.ensures.1 in
    rw (p.1, p.2) (search (judge-low, c.in_err-check.was))

pub sound-requires : goal.sound-requires
sound-requires c = search judge-ready

pub returns : goal.returns
returns c = search (judge-table, c.in_ok-check.was)
