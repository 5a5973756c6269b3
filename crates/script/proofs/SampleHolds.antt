-- Document 01's sample, byte for byte, by computation. Assumes nothing.
use mathlib.Core.Path.{refl}
use Rattle.units.specs.LowWater.{sound_low}
use Rattle.units.specs.Rules.{good_align, arena_check, range_check, largest_check, size_check}
use Rattle.units.specs.Words.{may_begin, may_end}
use Rattle.list_words.specs.Words.{range_at, walk_for, walk_from, sound_walk}
use Rattle.list_land.specs.Layout as land
use Rattle.list_land.specs.Calls as calls
use Rattle.texts.specs.Decimal.{decimal, line}
use Rattle.script.specs.Sample.{Sample}

pub sample-holds : Sample
unfolding good_align arena_check range_check largest_check size_check may_begin may_end range_at walk_for walk_from sound_walk sound_low
    land.set_up land.sound land.read_of calls.does calls.opened_of decimal line
sample-holds = refl
