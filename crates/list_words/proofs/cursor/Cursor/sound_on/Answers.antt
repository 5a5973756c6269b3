-- `Cursor::sound_on` meets its contract: at each turn what was met, with the walk from there, is the whole walk. Assumes nothing.
use Rattle.std.proofs.lemmas.Result.{err_from_is_err_and}
use Rattle.list_words.proofs.Going.{goes}
use Rattle.list_words.proofs.cursor.Cursor.sound_on.Goals as goal

pub returns-in_err-limit : goal.returns-in_err-limit
returns-in_err-limit c =
    let p = err_from_is_err_and c.from_residual.result c.from_residual.ensures.1 in
    rw (p.1, p.2) (search (goes, c.in_err-limit.was))

pub on-cur-requires : goal.on-cur-requires
on-cur-requires c = search (goes, c.in_ok-limit.was)

pub loop-arena-smaller : goal.loop-arena-smaller
loop-arena-smaller c = search (goes, c.in_ok-limit.was)

pub loop-arena-preserved : goal.loop-arena-preserved
loop-arena-preserved c = search (goes, c.in_ok-limit.was)

pub returns : goal.returns
returns c = search goes
