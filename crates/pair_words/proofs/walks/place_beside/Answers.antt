-- `place_beside` meets its contract: at each turn the place from here on is that from the first on. Assumes nothing.
use Rattle.pair_words.proofs.Besides.{placings}
use Rattle.pair_words.proofs.walks.place_beside.Goals as goal

pub returns-then-le : goal.returns-then-le
returns-then-le c = search placings

pub returns-then-lt : goal.returns-then-lt
returns-then-lt c = search placings

pub loop-i-preserved : goal.loop-i-preserved
loop-i-preserved c = search placings
