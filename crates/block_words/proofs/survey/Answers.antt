-- `survey` meets its contract: the table is judged, then what is kept of it is read. Assumes nothing.
use Rattle.std.proofs.lemmas.Result.{err_from_is_err_and}
use Rattle.block_words.proofs.Surveying.{surveys}
use Rattle.block_words.proofs.survey.Goals as goal

pub returns-in_err-sound : goal.returns-in_err-sound
returns-in_err-sound c =
    let p = err_from_is_err_and c.from_residual.result c.from_residual.ensures.1 in
    rw (p.1, p.2) (search (surveys, c.in_err-sound.was))

pub entry-requires : goal.entry-requires
entry-requires c = search (surveys, c.in_ok-sound.was)

pub returns : goal.returns
returns c = search (surveys, c.in_ok-sound.was)
