-- The twelve cases hold, by computation. Assumes nothing.
use mathlib.Core.Path.{refl}
use Rattle.units.specs.LowWater.{sound_low}
use Rattle.units.specs.Rules.{good_align, arena_check, range_check, largest_check, size_check}
use Rattle.units.specs.Words.{may_begin, may_end}
use Rattle.list_words.specs.Words.{range_at, walk_for, walk_from, sound_walk}
use Rattle.list_land.specs.Layout as list-layout
use Rattle.list_land.specs.Calls as list
use Rattle.block_words.specs.Words.{sound_table}
use Rattle.block_land.specs.Layout as block-layout
use Rattle.block_land.specs.Calls as block
use Rattle.sessions.specs.Sessions.{twelve, AllHold}

pub twelve-hold : AllHold twelve
unfolding good_align arena_check range_check largest_check size_check may_begin may_end range_at walk_for walk_from sound_walk sound_table sound_low
    list-layout.set_up list-layout.sound list-layout.read_of list.does list.opened_of
    block-layout.set_up block-layout.sound block-layout.read_of block.does block.opened_of block.opened_words
twelve-hold = (
  ((refl, (refl, (refl, (refl, (refl, (refl, (refl, (refl, tt)))))))), refl),
  (((refl, (refl, (refl, tt))), refl), (((refl, tt), refl), (((refl, tt), refl), tt))),
)
