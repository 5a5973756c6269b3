-- Contracts of the inner functions of the checks of a flush. Assumes nothing.
use Rattle.std.specs.Prelude.{ℕ, cond, List, Result, Ok, Err}
use Rattle.list_land.specs.declared.ListLand.{ListLand}
use Rattle.block_land.specs.Layout as block
use Rattle.block_land.specs.declared.BlockLand.{BlockLand}
use Rattle.flush.specs.Flush.{same_arena}
use Rattle.flush.specs.declared.FlushError.{FlushError}

-- A check that comes behind the difference of the two lands.
abbrev pub if_same : ListLand → BlockLand → Result (Unit {0}) FlushError → Result (Unit {0}) FlushError
if_same h k x = cond (same_arena h k) x (Err FlushError.Differ)

-- The checks behind the set-up of a list that is not sound, and of one that is.
abbrev pub behind_damaged : ListLand → BlockLand → List ℕ → Result (Unit {0}) FlushError
behind_damaged h k vs = cond (block.set_up k vs) (if_same h k (Err FlushError.ListDamaged)) (Err FlushError.BlockSetUp)

abbrev pub behind_sound : ListLand → BlockLand → List ℕ → Result (Unit {0}) FlushError
behind_sound h k vs = cond (block.set_up k vs) (if_same h k (cond (block.sound k vs) (Ok tt) (Err FlushError.BlockDamaged))) (Err FlushError.BlockSetUp)
