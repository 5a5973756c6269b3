-- `Pair::check` meets its contract: the first check that fails. Assumes nothing.
use Rattle.std.proofs.lemmas.Result.{err_from_is_err_and}
use Rattle.units.proofs.Cases.{set-up-true, sound-true}
use Rattle.pair.proofs.Checking.{check_up, check-low, check-align, check-arena, check-positive, check-words, check-table, check-rising, check-walk, check-good}
use Rattle.pair.proofs.Pair.check.Goals as goal

pub returns-in_err-set_up : goal.returns-in_err-set_up
returns-in_err-set_up c =
    let p = err_from_is_err_and c.from_residual.result c.from_residual.ensures.1 in
    rw (p.1, p.2) (check_up _ _ _ c.args.aim _ _ c.set_up.ensures c.in_err-set_up.was)

pub sound-requires : goal.sound-requires
sound-requires c =
    let a = c.args in
    check-arena a.self _ _ a.aim (set-up-true _ _ c.set_up.ensures c.in_ok-set_up.was) _ c.arena-arena.ensures

pub returns-in_err-sound : goal.returns-in_err-sound
returns-in_err-sound c =
    let a = c.args in
    let p = err_from_is_err_and c.from_residual-in_err-sound.result c.from_residual-in_err-sound.ensures.1 in
    rw (p.1, p.2)
    (check-table a.self _ _ a.aim (set-up-true _ _ c.set_up.ensures c.in_ok-set_up.was) _ c.arena-arena.ensures _ c.sound.ensures _ c.in_err-sound.was)

pub divided-arena-requires : goal.divided-arena-requires
divided-arena-requires c =
    let a = c.args in
    check-align a.self _ _ a.aim (set-up-true _ _ c.set_up.ensures c.in_ok-set_up.was) _ c.arena-arena.ensures

pub aim_of-aim-requires : goal.aim_of-aim-requires
aim_of-aim-requires c =
    let a = c.args in
    check-positive a.self _ _ a.aim (set-up-true _ _ c.set_up.ensures c.in_ok-set_up.was) _ c.arena-arena.ensures _ c.divided-arena.ensures

pub survey-requires-clause-ready : goal.survey-requires-clause-ready
survey-requires-clause-ready c =
    check-words c.args.self _ _ c.args.aim (set-up-true _ _ c.set_up.ensures c.in_ok-set_up.was) _ c.arena-arena.ensures _ c.divided-arena.ensures

pub survey-requires-clause-rising : goal.survey-requires-clause-rising
survey-requires-clause-rising c =
    check-rising c.args.self _ _ c.args.aim (set-up-true _ _ c.set_up.ensures c.in_ok-set_up.was) _ c.arena-arena.ensures _ c.sound.ensures c.in_ok-sound.was

pub returns-in_err-spot : goal.returns-in_err-spot
returns-in_err-spot c =
    let a = c.args in
    let p = err_from_is_err_and c.from_residual-in_err-spot.result c.from_residual-in_err-spot.ensures.1 in
    rw (p.1, p.2)
    (check-walk a.self _ _ a.aim (set-up-true _ _ c.set_up.ensures c.in_ok-set_up.was) _ c.arena-arena.ensures _ c.sound.ensures c.in_ok-sound.was
    _ c.divided-arena.ensures _ c.aim_of-aim.ensures _ c.chain.ensures _ c.survey.ensures _ c.in_err-spot.was)

pub returns-in_err-low_waters : goal.returns-in_err-low_waters
returns-in_err-low_waters c =
    let a = c.args in
    let p = err_from_is_err_and c.from_residual-in_err-low_waters.result c.from_residual-in_err-low_waters.ensures.1 in
    rw (p.1, p.2)
    (check-low a.self _ _ a.aim (set-up-true _ _ c.set_up.ensures c.in_ok-set_up.was) _ c.low_waters.ensures _ c.in_err-low_waters.was)

pub entry-requires : goal.entry-requires
entry-requires c =
    let a = c.args in
    check-rising a.self _ _ a.aim (set-up-true _ _ c.set_up.ensures c.in_ok-set_up.was) _ c.arena-arena.ensures _ c.sound.ensures c.in_ok-sound.was

pub returns : goal.returns
returns c =
    let a = c.args in
    check-good a.self _ _ a.aim (set-up-true _ _ c.set_up.ensures c.in_ok-set_up.was) _ c.arena-arena.ensures _ c.sound.ensures c.in_ok-sound.was
    _ c.divided-arena.ensures _ c.aim_of-aim.ensures _ c.chain.ensures _ c.survey.ensures
    (sound-true _ _ c.low_waters.ensures c.in_ok-low_waters.was) _ c.in_ok-spot.was _ c.entry.ensures
