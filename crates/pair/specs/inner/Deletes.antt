-- Contracts of the inner functions of a pair's delete. Assumes nothing.
use Rattle.std.specs.Prelude.{ℕ, Bool, true, false, not, ◌&&◌, List, ◌≡◌, eqb, leb, length}
use Rattle.units.specs.declared.Range as units
use Rattle.model.specs.inner.Lists.{holds}
use Rattle.list_words.specs.declared.Spot.{Spot}
use Rattle.list_land.specs.Layout as list
use Rattle.list_land.specs.inner.Parts.{reach_limit}
use Rattle.block_words.specs.Words.{capacity}
use Rattle.block_words.specs.declared.Entry.{Entry}
use Rattle.block_land.specs.Layout as block
use Rattle.pair.specs.inner.Editing.{table_less}
use Rattle.pair.specs.inner.Parts.{Ranged}
use Rattle.pair.specs.declared.Pair.{Pair}

-- There is a range, and it begins at or below the request.
abbrev pub begins : units.Range → units.Range → Bool
begins y r = not (eqb r.base.0 0) && leb r.base.0 y.base.0

module _ (p : Pair) (ws vs : List ℕ) (y : units.Range) (s : Spot) (e : Entry) where
  -- A good request to a pair that was checked.
  abbrev pub Asked : Type 0
  Asked = Ranged p ws vs (reach_limit y) y s e

  -- The list does not hold it.
  pub record Unlisted : Type 0 where
    pub asked : Asked
    pub unlisted : holds y.base.0 y.limit.0 (list.walk_of p.list ws).met ≡ false

  -- The table holds it, and has no room for what would be left.
  pub record Spilling : Type 0 where
    pub asked : Unlisted
    pub held : holds y.base.0 y.limit.0 (block.table_of p.block vs) ≡ true
    pub full : leb (length (table_less p.block vs y)) (capacity vs) ≡ false

-- Neither holds it.
pub record Nowhere (p : Pair) (ws vs : List ℕ) (y : units.Range) : Type 0 where
  pub spot : Spot
  pub entry : Entry
  pub asked : Unlisted p ws vs y spot entry
  pub none : holds y.base.0 y.limit.0 (block.table_of p.block vs) ≡ false
