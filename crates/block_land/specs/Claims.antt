-- What is claimed of the block land: that every call is right, demand 3 of document 01, finds and node space, and low water. Assumes nothing.
use Rattle.std.specs.Prelude.{ℕ, List, ◌≡◌}
use Rattle.std.proofs.Math.Option.{some}
use Rattle.units.specs.LowWater.{unset}
use Rattle.model.specs.Marks.{none_marked}
use Rattle.model.specs.Answers.{LandRight}
use Rattle.model.specs.Demand.{ClaimsFrom}
use Rattle.model.specs.LowWater.{LowOverClosings}
use Rattle.model.specs.NodeSpace.{LandFindsNoMore, HistoriesAs01}
use Rattle.block_words.specs.Words.{capacity}
use Rattle.block_land.specs.Layout.{set_up, sound, table_of, layout}
use Rattle.block_land.specs.Calls.{opened_of, opened_words}

abbrev pub BlockRight : Type 0
BlockRight = LandRight layout set_up sound table_of

-- From the handle of an accepted opening, node words as the opening left them, nothing marked and no low water, with the capacity.
abbrev pub BlockDemand3 : Type 0
BlockDemand3 =
    (b l a : ℕ) (ws : List ℕ) → (opened_of b l a ws).answer ≡ 0 →
    ClaimsFrom layout (opened_of b l a ws).land (opened_words b l a ws)
    (record { base = b; limit = l; align = a; room = some (capacity ws) }) none_marked unset

-- K11: no find leaves more ranges than it met, over every handle, all node words, every size and every mode; and every history is
-- what document 01's own ledger says, which has a 3 on finds.
abbrev pub BlockFindsNoMore : Type 0
BlockFindsNoMore = LandFindsNoMore layout

abbrev pub BlockAs01 : Type 0
BlockAs01 = HistoriesAs01 layout

-- Low water over accepted calls of any kind, one after the other: the land's own, flushes, those of a pair.
abbrev pub BlockLow : Type 0
BlockLow = LowOverClosings layout
