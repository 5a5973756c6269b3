-- Demand 3 of a pair (K4), from two newly opened lands. Assumes nothing.
use Rattle.std.specs.Prelude.{ℕ, ◌+◌, ◌*◌, Bool, true, ◌||◌, List, [], ◌≡◌, length, get_or}
use Rattle.std.proofs.Math.Option.{some}
use Rattle.units.specs.LowWater.{unset}
use Rattle.units.specs.declared.low_water.LowWater.{LowWater}
use Rattle.model.specs.Marks.{marks_of}
use Rattle.model.specs.Calls.{Arena, Outcome}
use Rattle.model.specs.Layouts.{Layout, with_host}
use Rattle.model.specs.Histories.{Seen, History}
use Rattle.model.specs.Lands.{ranges_in, Shown, land_answers}
use Rattle.list_land.specs.Layout as list
use Rattle.list_land.specs.Calls as list-calls
use Rattle.list_land.specs.declared.ListLand.{ListLand}
use Rattle.block_words.specs.Words.{capacity}
use Rattle.block_land.specs.Layout as block
use Rattle.block_land.specs.Calls as block-calls
use Rattle.block_land.specs.declared.BlockLand.{BlockLand}
use Rattle.pair_model.specs.Pairs.{Both, both, PairCall, Sets}
use Rattle.pair_model.specs.PairLayouts.{pair_rules, pair_layout}
use Rattle.pair_model.specs.PairDemand.{PairClaims}

-- From the handles of accepted openings of both lands on one arena, arena words of any value, node words as the opening left them and
-- nothing marked and no low water, over every list of calls, whatever the host writes between them: every answer and range is the
-- reference model's; 3, 5 and 6 are never answered; no byte is free in both lands; a byte is free in either exactly if the last accepted
-- call that touched it put it in; the free bytes are those put in less those taken out; a find answers 2 exactly if neither land has
-- an isolated range that long; and each land's low water is the least of its free bytes after the accepted calls that count.
abbrev pub Demand3For : Layout Arena (Both ListLand BlockLand) (Both (List ℕ) (List ℕ)) Sets (Both LowWater LowWater) (Both Shown Shown) → Type 0
Demand3For R =
    (b l a : ℕ) (ws vs : List ℕ) → (list-calls.opened_of b l a ws).answer ≡ 0 → (block-calls.opened_of b l a vs).answer ≡ 0 →
    (cs : List PairCall) (os : List (Seen Outcome (Both Shown Shown))) →
    History land_answers pair_rules R
    (both (list-calls.opened_of b l a ws).land (block-calls.opened_of b l a vs).land) (both ws (block-calls.opened_words b l a vs)) cs os →
    PairClaims (record { base = b; limit = l; align = a; room = some (capacity vs) }) (both [] []) (both unset unset) cs os

-- Here the host must leave, of the arena's words, those of the list's present descriptors, and of node space every pair word; it may
-- write every other word, also one that is free in the block land.
abbrev pub OpenedDemand3 : Type 0
OpenedDemand3 = Demand3For (pair_layout list.layout block.layout)

-- The word number i of the arena is free in either land: its first byte is in a range of one of them.
abbrev pub free_word : Both ListLand BlockLand → Both (List ℕ) (List ℕ) → ℕ → Bool
free_word h w i =
    marks_of (ranges_in (list.read_of h.list w.list)) (list.base h.list + 8 * i)
    || marks_of (ranges_in (block.read_of h.block w.block)) (list.base h.list + 8 * i)

-- The request's own host writes words that are free in neither land: every word that is free in either stays the same, and so does
-- every pair word of node space.
pub record FreeKept (h : Both ListLand BlockLand) (w w' : Both (List ℕ) (List ℕ)) : Type 0 where
  pub number : length w'.list ≡ length w.list
  pub arena : (i : ℕ) → free_word h w i ≡ true → get_or w'.list i 0 ≡ get_or w.list i 0
  pub nodes : block.SamePairs w.block w'.block

abbrev pub OwnDemand3 : Type 0
OwnDemand3 = Demand3For (with_host (pair_layout list.layout block.layout) FreeKept)
