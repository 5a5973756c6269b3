-- What a find of the block land with its mode as a number equals. Assumes nothing.
use Rattle.std.specs.Prelude.{ℕ, List}
use Rattle.units.specs.declared.Which.{Which}
use Rattle.block_land.specs.Calls.{LandDone, found}
use Rattle.block_land.specs.Layout.{set_up, sound}
use Rattle.block_land.specs.declared.BlockLand.{BlockLand}
use Rattle.capi.specs.Modes.{given_mode, unknown_mode, with_mode}

-- With a number that is no mode, 5, 6 or 4, and the handle and the words as they were.
abbrev pub found_by : BlockLand → List ℕ → Which → ℕ → ℕ → LandDone
found_by h ws w n m = with_mode (found h ws w n) (unknown_mode (set_up h ws) (sound h ws)) h ws (given_mode m)
