-- Contracts of the inner functions that every call of a pair uses. Assumes nothing.
use Rattle.std.specs.Prelude.{ℕ, Bool, true, cond, ◌&&◌, List, ◌≡◌, Result, Ok, Err}
use Rattle.units.specs.LowWater.{sound_low}
use Rattle.units.specs.Rules.{refusal_number}
use Rattle.units.specs.Words.{range_of}
use Rattle.units.specs.declared.Range.{Range}
use Rattle.units.specs.declared.aims.Aim.{Aim}
use Rattle.units.specs.declared.refusals.Refusal.{Refusal}
use Rattle.model.specs.Calls.{good_range_in}
use Rattle.list_words.specs.inner.Surveys.{kept_of}
use Rattle.list_words.specs.declared.Spot.{Spot}
use Rattle.list_land.specs.Layout as list
use Rattle.list_land.specs.inner.Parts as list-parts
use Rattle.block_words.specs.inner.Surveys.{entry_of}
use Rattle.block_words.specs.declared.Entry.{Entry}
use Rattle.block_land.specs.Layout as block
use Rattle.pair.specs.Calls.{set_up, sound}
use Rattle.pair.specs.declared.Changed.{Changed}
use Rattle.pair.specs.declared.Found.{Found}
use Rattle.pair.specs.declared.Pair.{Pair}

-- What a call looks for, by the arena of both lands.
abbrev pub aim_in : Pair → Aim → Aim
aim_in p aim = list-parts.aim_in p.list aim

-- The marks and low waters of both handles may be those of sound lands.
abbrev pub sound_lows : Pair → Bool
sound_lows p = sound_low p.list.water p.list.bytes.0 && sound_low p.block.water p.block.bytes.0

module _ (p : Pair) (ws vs : List ℕ) where
  -- 5, then 6, then what the aim keeps of both.
  unfoldable pub check_of : Aim → Result (Spot × Entry) Refusal
  check_of aim =
      cond (set_up p ws vs)
      (cond (sound p ws vs) (Ok (kept_of (aim_in p aim) (list.walk_of p.list ws).met, entry_of (aim_in p aim) (block.table_of p.block vs))) (Err Refusal.Damaged))
      (Err Refusal.SetUp)

-- 01's number of each case: 5, 6, or 0.
abbrev pub check_number : Result (Spot × Entry) Refusal → ℕ
check_number (Ok k) = 0
check_number (Err r) = refusal_number r

-- Both lands are sound and apart, and these are what an aim keeps of them.
pub record Checked (p : Pair) (ws vs : List ℕ) (aim : Aim) (s : Spot) (e : Entry) : Type 0 where
  pub good : set_up p ws vs ≡ true
  pub whole : sound p ws vs ≡ true
  pub spot : s ≡ kept_of aim (list.walk_of p.list ws).met
  pub entry : e ≡ entry_of aim (block.table_of p.block vs)

-- A request that keeps the range rule, to a pair that was checked.
pub record Ranged (p : Pair) (ws vs : List ℕ) (aim : Aim) (y : Range) (s : Spot) (e : Entry) : Type 0 where
  pub checked : Checked p ws vs aim s e
  pub good : good_range_in (block.arena_of p.block vs) y.base.0 y.limit.0 ≡ true

-- A refusal: the handles given and ranges (0, 0).
abbrev pub refused_by : Pair → ℕ → Changed
refused_by p n = record { pair = p; answer = n; range = range_of 0 0 }

abbrev pub found_none : Pair → ℕ → Found
found_none p n = record { pair = p; answer = n; range = range_of 0 0; old = range_of 0 0 }
