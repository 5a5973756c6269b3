-- `sound` meets its contract: the zeros behind the pairs, then the pairs. Assumes nothing.
use Rattle.std.proofs.lemmas.Result.{err_from_is_err_and}
use Rattle.block_words.proofs.Surveying.{sounds}
use Rattle.block_words.proofs.sound.Goals as goal

pub returns-in_err-tidy : goal.returns-in_err-tidy
returns-in_err-tidy c =
    let p = err_from_is_err_and c.from_residual.result c.from_residual.ensures.1 in
    rw (p.1, p.2) (search (sounds, c.in_err-tidy.was))

pub returns : goal.returns
returns c = search (sounds, c.in_ok-tidy.was)
