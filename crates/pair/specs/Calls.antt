-- What the calls of a pair equal (K4). Assumes nothing.
use Rattle.std.specs.Prelude.{ℕ, Bool, not, ◌&&◌, List}
use Rattle.units.specs.declared.Mode.{Mode}
use Rattle.units.specs.declared.Range.{Range}
use Rattle.units.specs.declared.Which.{Which}
use Rattle.model.specs.Calls.{Outcome}
use Rattle.model.specs.Layouts.{Done}
use Rattle.model.specs.Marks.{struct}
use Rattle.list_land.specs.Layout as list
use Rattle.list_land.specs.declared.ListLand.{ListLand}
use Rattle.block_land.specs.Layout as block
use Rattle.block_land.specs.declared.BlockLand.{BlockLand}
use Rattle.pair_model.specs.Pairs.{Both, both, PairCall, insert, delete, find}
use Rattle.flush.specs.Flush.{same_arena}
use Rattle.pair_model.specs.PairLayouts.{meet, pair_call}
use Rattle.pair.specs.declared.Pair.{Pair}
use Rattle.pair.specs.declared.Changed.{Changed}
use Rattle.pair.specs.declared.Found.{Found}

-- The handles of a pair, and the arena's words with the node words.
abbrev pub lands : Pair → Both ListLand BlockLand
lands p = both p.list p.block

abbrev pub pair_of : Both ListLand BlockLand → Pair
pair_of h = record { list = h.list; block = h.block }

abbrev pub PairDone : Type 0
PairDone = Done Outcome (Both ListLand BlockLand) (Both (List ℕ) (List ℕ))

-- A call of the pair of the two layouts.
abbrev pub called : PairCall → Pair → List ℕ → List ℕ → PairDone
called c p ws vs = pair_call list.layout block.layout c (lands p) (both ws vs)

-- Insert and delete of a range, a find: the outcome, the next handles and the words of both memories.
unfoldable pub inserted : Pair → List ℕ → List ℕ → Range → PairDone
inserted p ws vs y = called (insert y.base.0 y.limit.0) p ws vs

unfoldable pub deleted : Pair → List ℕ → List ℕ → Range → PairDone
deleted p ws vs y = called (delete y.base.0 y.limit.0) p ws vs

unfoldable pub found : Pair → List ℕ → List ℕ → Which → ℕ → Mode → PairDone
found p ws vs w n mode = called (find w n mode) p ws vs

-- What a call hands back of them.
abbrev pub changed : PairDone → Changed
changed d = record { pair = pair_of d.handle; answer = d.out.answer; range = struct d.out.found }

abbrev pub found_of : PairDone → Found
found_of d = record { pair = pair_of d.handle; answer = d.out.answer; range = struct d.out.found; old = struct d.out.old }

-- 5: the set-up of a land is bad, or their arenas differ. 6: a land is not sound, or a byte is in both.
abbrev pub set_up : Pair → List ℕ → List ℕ → Bool
set_up p ws vs = list.set_up p.list ws && (block.set_up p.block vs && same_arena p.list p.block)

abbrev pub sound : Pair → List ℕ → List ℕ → Bool
sound p ws vs =
    list.sound p.list ws && (block.sound p.block vs && not (meet (list.walk_of p.list ws).met (block.table_of p.block vs)))
