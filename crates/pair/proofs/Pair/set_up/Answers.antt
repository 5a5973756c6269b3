-- `Pair::set_up` meets its contract. Assumes nothing.
use Rattle.std.proofs.lemmas.Result.{err_from_is_err_and}
use Rattle.pair.proofs.Checking.{ups}
use Rattle.pair.proofs.Pair.set_up.Goals as goal

pub returns-in_err-same_arena : goal.returns-in_err-same_arena
returns-in_err-same_arena c =
    let p = err_from_is_err_and c.from_residual.result c.from_residual.ensures.1 in
    rw (p.1, p.2) (search (ups, c.in_err-same_arena.was))

pub returns-in_err-set_up : goal.returns-in_err-set_up
returns-in_err-set_up c =
    let p = err_from_is_err_and c.from_residual-in_err-set_up.result c.from_residual-in_err-set_up.ensures.1 in
    rw (p.1, p.2) (search (ups, c.in_ok-same_arena.was, c.in_err-set_up.was))

pub returns : goal.returns
returns c = search (ups, c.in_ok-same_arena.was, c.in_ok-set_up.was)
