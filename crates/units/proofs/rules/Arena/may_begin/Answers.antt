-- `Arena::may_begin` meets its contract: where a range of a list may begin. Assumes nothing.
use Rattle.units.proofs.Alignments.{align-positive}
use Rattle.units.proofs.Ways.{begin-ways}
use Rattle.units.proofs.rules.Arena.may_begin.Goals as goal

pub returns-then-x-low : goal.returns-then-x-low
returns-then-x-low c = search begin-ways

pub returns-then-self-x : goal.returns-then-self-x
returns-then-self-x c = search begin-ways

pub returns-then-x-ne0 : goal.returns-then-x-ne0
returns-then-x-ne0 c = search begin-ways

pub nonzero_rem-result : goal.nonzero_rem-result
nonzero_rem-result c = search align-positive

pub returns : goal.returns
returns c = search begin-ways
