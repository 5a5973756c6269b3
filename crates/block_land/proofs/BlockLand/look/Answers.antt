-- `BlockLand::look` meets its contract: the set-up, low water, then the one scan. Assumes nothing.
use Rattle.std.proofs.lemmas.Result.{err_from_is_err_and}
use Rattle.model.proofs.lands.Ways.{look-bad, look-low}
use Rattle.block_land.proofs.Land.{block_land}
use Rattle.block_land.proofs.Ways.{good-ready, look-surveyed}
use Rattle.block_land.proofs.BlockLand.look.Goals as goal

pub returns-in_err-set_up : goal.returns-in_err-set_up
returns-in_err-set_up c =
    let p = err_from_is_err_and c.from_residual.result c.from_residual.ensures.1 in
    rw (p.1, p.2) (search (look-bad block_land, c.in_err-set_up.was))

pub returns-in_err-check : goal.returns-in_err-check
returns-in_err-check c =
    let p = err_from_is_err_and c.from_residual-in_err-check.result c.from_residual-in_err-check.ensures.1 in
    rw (p.1, p.2) (search (look-low block_land, c.in_ok-set_up.was, c.in_err-check.was))

pub survey-requires : goal.survey-requires
survey-requires c = search (good-ready, c.in_ok-set_up.was)

pub returns : goal.returns
returns c = search (look-surveyed, c.in_ok-set_up.was, c.in_ok-check.was)
