-- Contracts of the edits of one land of a pair. Assumes nothing.
use Rattle.std.specs.Prelude.{ℕ, true, List, ◌≡◌}
use Rattle.units.specs.declared.Range as units
use Rattle.model.specs.Marks.{Range}
use Rattle.model.specs.inner.Lists.{holds, insert_in, delete_from}
use Rattle.list_words.specs.declared.Chain.{Chain}
use Rattle.list_words.specs.declared.Spot.{Spot}
use Rattle.list_edits.specs.inner.Chains as chains
use Rattle.list_land.specs.Layout as list
use Rattle.list_land.specs.inner.Parts.{arena_in, chain_in}
use Rattle.list_land.specs.Layout.{closed_with}
use Rattle.list_land.specs.declared.ListLand.{ListLand}
use Rattle.block_edits.specs.inner.Places.{Holding, AtEnd}
use Rattle.block_land.specs.Layout as block
use Rattle.block_land.specs.inner.Parts.{Readable}
use Rattle.block_land.specs.declared.BlockLand.{BlockLand}

-- The list's ranges without a range and with it, and the table's without it.
abbrev pub list_less : ListLand → List ℕ → units.Range → List Range
list_less h ws y = delete_from y.base.0 y.limit.0 (list.walk_of h ws).met

abbrev pub list_more : ListLand → List ℕ → units.Range → List Range
list_more h ws y = insert_in y.base.0 y.limit.0 (list.walk_of h ws).met

abbrev pub table_less : BlockLand → List ℕ → units.Range → List Range
table_less k vs y = delete_from y.base.0 y.limit.0 (block.table_of k vs)

-- The list with a chain.
abbrev pub chained : ListLand → Chain → ListLand
chained h c = closed_with h c.head c.ranges c.bytes

-- The range at a spot of a sound list holds a part.
abbrev pub TakingListed : ListLand → List ℕ → units.Range → Spot → Type 0
TakingListed h ws y s = chains.Holding (arena_in h) ws (chain_in h) s y

-- Pair i of a sound table holds a part that reaches an end of it.
pub record TakingTabled (k : BlockLand) (vs : List ℕ) (i : ℕ) (y : units.Range) : Type 0 where
  pub readable : Readable k vs
  pub at_pair : Holding vs k.ranges i y
  pub held : holds y.base.0 y.limit.0 (block.table_of k vs) ≡ true
  pub at_end : AtEnd vs i y
