-- `ListLand::set_up` meets its contract. Assumes nothing.
use Rattle.model.proofs.lands.Ways.{set-up-bad, set-up-order, set-up-lent}
use Rattle.list_land.proofs.Land.{list_land}
use Rattle.list_land.proofs.Ways.{lent-good, lent-bad}
use Rattle.list_land.proofs.ListLand.set_up.Goals as goal

pub returns-in_default : goal.returns-in_default
returns-in_default c = search (set-up-bad list_land, c.in_default.not-Ok tt)

pub word_from-requires : goal.word_from-requires
word_from-requires c = search (set-up-order list_land)

pub returns-then-word_from-words : goal.returns-then-word_from-words
returns-then-word_from-words c = search (set-up-lent list_land, lent-good)

pub returns-else-word_from-words : goal.returns-else-word_from-words
returns-else-word_from-words c = search (set-up-lent list_land, lent-bad)
