-- `Arena::check` meets its contract: each way out is a case of the rule. Assumes nothing.
use Rattle.std.proofs.lemmas.Result.{err_from_is_err_and}
use Rattle.units.proofs.Ways.{arena-ways}
use Rattle.units.proofs.rules.Arena.check.Goals as goal

pub returns-in_err-check : goal.returns-in_err-check
returns-in_err-check c =
    let p = err_from_is_err_and c.from_residual.result c.from_residual.ensures.1 in
    rw (p.1, p.2) (search (arena-ways, c.in_err-check.was))

pub returns-then-base-eq0 : goal.returns-then-base-eq0
returns-then-base-eq0 c = search (arena-ways, c.in_ok-check.was)

pub multiple_of-requires : goal.multiple_of-requires
multiple_of-requires c = search (arena-ways, c.in_ok-check.was)

pub returns-then-not-multiple_of : goal.returns-then-not-multiple_of
returns-then-not-multiple_of c = search (arena-ways, c.in_ok-check.was)

pub returns-then-not-multiple_of-2 : goal.returns-then-not-multiple_of-2
returns-then-not-multiple_of-2 c = search (arena-ways, c.in_ok-check.was)

pub returns-then-limit-base : goal.returns-then-limit-base
returns-then-limit-base c = search (arena-ways, c.in_ok-check.was)

pub returns-then-limit-gt1099511627776 : goal.returns-then-limit-gt1099511627776
returns-then-limit-gt1099511627776 c = search (arena-ways, c.in_ok-check.was)

pub returns : goal.returns
returns c = search (arena-ways, c.in_ok-check.was)
