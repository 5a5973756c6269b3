-- What a find of the pair with its mode as a number equals. Assumes nothing.
use Rattle.std.specs.Prelude.{ℕ, List}
use Rattle.units.specs.declared.Which.{Which}
use Rattle.pair_model.specs.Pairs.{both}
use Rattle.pair.specs.Calls.{lands, PairDone, found, set_up, sound}
use Rattle.pair.specs.declared.Pair.{Pair}
use Rattle.capi.specs.Modes.{given_mode, unknown_mode, with_mode}

-- With a number that is no mode, 5, 6 or 4, and the handles and both memories as they were.
abbrev pub found_by : Pair → List ℕ → List ℕ → Which → ℕ → ℕ → PairDone
found_by p ws vs w n m = with_mode (found p ws vs w n) (unknown_mode (set_up p ws vs) (sound p ws vs)) (lands p) (both ws vs) (given_mode m)
