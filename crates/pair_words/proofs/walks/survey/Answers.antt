-- `survey` meets its contract: what was sought, and the walk on from there. Assumes nothing.
use Rattle.std.proofs.lemmas.Result.{err_from_is_err_and}
use Rattle.pair_words.proofs.Judging.{surveys}
use Rattle.pair_words.proofs.walks.survey.Goals as goal

pub returns-in_err-spot : goal.returns-in_err-spot
returns-in_err-spot c =
    let p = err_from_is_err_and c.from_residual.result c.from_residual.ensures.1 in
    rw (p.1, p.2) (search (surveys, c.in_err-spot.was))

pub returns-in_err-sound_on : goal.returns-in_err-sound_on
returns-in_err-sound_on c =
    let p = err_from_is_err_and c.from_residual-in_err-sound_on.result c.from_residual-in_err-sound_on.ensures.1 in
    rw (p.1, p.2) (search (surveys, c.in_ok-spot.was, c.in_err-sound_on.was))

pub returns : goal.returns
returns c = search (surveys, c.in_ok-spot.was, c.in_ok-sound_on.was)
