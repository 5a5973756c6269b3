-- `ListLand::look` meets its contract: the set-up, low water, then the one walk. Assumes nothing.
use mathlib.Core.Path.{sym, ◌∙◌}
use Rattle.std.proofs.lemmas.Result.{err_from_is_err_and}
use Rattle.model.proofs.lands.Ways.{good-align, good-positive, look-bad, look-low}
use Rattle.list_land.proofs.Land.{list_land}
use Rattle.list_land.proofs.Ways.{good-ready, look-surveyed}
use Rattle.list_land.proofs.ListLand.look.Goals as goal

pub returns-in_err-set_up : goal.returns-in_err-set_up
returns-in_err-set_up c =
    let p = err_from_is_err_and c.from_residual.result c.from_residual.ensures.1 in
    rw (p.1, p.2) (search (look-bad list_land, c.in_err-set_up.was))

pub returns-in_err-check : goal.returns-in_err-check
returns-in_err-check c =
    let p = err_from_is_err_and c.from_residual-in_err-check.result c.from_residual-in_err-check.ensures.1 in
    rw (p.1, p.2) (search (look-low list_land, c.in_ok-set_up.was, c.in_err-check.was))

pub walk_arena-arena-requires : goal.walk_arena-arena-requires
walk_arena-arena-requires c = search (good-align list_land, c.in_ok-set_up.was)

pub aim_of-requires : goal.aim_of-requires
aim_of-requires c = search (good-positive list_land, c.in_ok-set_up.was)

pub survey-requires : goal.survey-requires
survey-requires c = search (good-ready, c.in_ok-set_up.was)

pub returns-in_err-spot : goal.returns-in_err-spot
returns-in_err-spot c =
    let p = err_from_is_err_and c.from_residual-in_err-spot.result c.from_residual-in_err-spot.ensures.1 in
    rw (p.1, p.2)
    (sym c.in_err-spot.was
    ∙ look-surveyed _ _ _ _ c.set_up.ensures c.in_ok-set_up.was _ c.walk_arena-arena.ensures _ c.check.ensures
    c.in_ok-check.was _ c.aim_of.ensures _ c.chain.ensures _ c.survey.ensures)

pub returns : goal.returns
returns c =
    sym c.in_ok-spot.was
    ∙ look-surveyed _ _ _ _ c.set_up.ensures c.in_ok-set_up.was _ c.walk_arena-arena.ensures _ c.check.ensures
    c.in_ok-check.was _ c.aim_of.ensures _ c.chain.ensures _ c.survey.ensures
