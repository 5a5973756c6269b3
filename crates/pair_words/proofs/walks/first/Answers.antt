-- `first` meets its contract: each aim has its goal. Assumes nothing.
use Rattle.pair_words.proofs.Seeking.{first-nothing, first_reach, first-from, first-find}
use Rattle.pair_words.proofs.walks.first.Goals as goal

pub returns-in-Nothing : goal.returns-in-Nothing
returns-in-Nothing c = search first-nothing

pub returns-in-Reach : goal.returns-in-Reach
returns-in-Reach c = search first_reach

pub returns-in-From : goal.returns-in-From
returns-in-From c = search first-from

pub returns-in-Find : goal.returns-in-Find
returns-in-Find c = search first-find
