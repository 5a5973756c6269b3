-- What the inner functions of insert give. Assumes nothing.
use Rattle.std.specs.Prelude.{ℕ, ◌≤◌, ◌<◌, Bool, true, false, cond, List, ◌≡◌, leb, length}
use Rattle.std.specs.Prelude.{Ok}
use Rattle.units.specs.declared.Range as units
use Rattle.model.specs.Marks.{Range, struct, total}
use Rattle.model.specs.Calls.{good_range_in}
use Rattle.model.specs.Flushing.{Flush}
use Rattle.model.specs.inner.Lists.{overlaps, holder, insert_in}
use Rattle.list_words.specs.Laying.{lay}
use Rattle.list_words.specs.declared.Spot.{Spot}
use Rattle.list_edits.specs.inner.Chains.{chain_of}
use Rattle.list_land.specs.Layout as list
use Rattle.list_land.specs.inner.Parts as list-parts
use Rattle.list_land.specs.inner.Parts.{reach_base}
use Rattle.block_words.specs.inner.Surveys as places
use Rattle.block_words.specs.Words.{capacity, fill}
use Rattle.block_words.specs.declared.Entry.{Entry}
use Rattle.block_land.specs.Layout as block
use Rattle.flush.specs.Flush.{check_of, moves}
use Rattle.pair_model.specs.Pairs.{both, any_free}
use Rattle.pair_words.specs.inner.Lefts.{Left}
use Rattle.pair.specs.inner.Editing.{list_more, chained}
use Rattle.pair.specs.inner.Parts.{Ranged}
use Rattle.pair.specs.declared.Pair.{Pair}
use Rattle.pair.specs.declared.insert.Counts.{Counts}
use Rattle.pair.specs.declared.insert.Entered.{Entered}

-- The counts of the ranges of a list and of a table, and the handles of a pair closed by counts.
abbrev pub counts_of : List Range → List Range → Counts
counts_of rs qs = record { chain = chain_of rs; ranges = length qs; bytes = record { 0 = total qs } }

abbrev pub closed_by : Pair → Counts → Pair
closed_by p c = record { list = chained p.list c.chain; block = block.closed_with p.block c.ranges c.bytes }

module _ (p : Pair) (ws vs : List ℕ) where
  -- The flush of the list's ranges into the table; the counts and the node words after it.
  abbrev pub flush_of : Flush
  flush_of = moves p.list ws p.block vs

  abbrev pub flushed_counts : Counts
  flushed_counts = counts_of flush_of.left flush_of.into

  abbrev pub flushed_nodes : List ℕ
  flushed_nodes = fill flush_of.into vs

module _ (p : Pair) (ws : List ℕ) (y : units.Range) where
  -- The list with the range in it, and its words.
  abbrev pub enter_list : Entered
  enter_list = record {
    counts = record { chain = chain_of (list_more p.list ws y); ranges = p.block.ranges; bytes = p.block.bytes };
    range = struct (holder y.base.0 y.limit.0 (list_more p.list ws y));
  }

  abbrev pub enter_words : List ℕ
  enter_words = lay (list.base p.list) (list_more p.list ws y) ws

  -- A sound list that has no byte of the range, and a spot of a list of which it is the rest.
  pub record Roomless (s : Spot) : Type 0 where
    pub good : list.set_up p.list ws ≡ true
    pub whole : list.sound p.list ws ≡ true
    pub asked : good_range_in (list.arena_of p.list) y.base.0 y.limit.0 ≡ true
    pub disjoint : overlaps y.base.0 y.limit.0 (list.walk_of p.list ws).met ≡ false
    pub left : Left (list-parts.arena_in p.list) ws p.list.head y.base s

module _ (p : Pair) (vs : List ℕ) (y : units.Range) where
  -- The ranges of the block land with the range in it, and whether it has room for them.
  abbrev pub blocked : List Range
  blocked = insert_in y.base.0 y.limit.0 (block.table_of p.block vs)

  abbrev pub roomy : Bool
  roomy = leb (length blocked) (capacity vs)

  abbrev pub enter_block : Entered
  enter_block = record {
    counts = record { chain = list-parts.chain_in p.list; ranges = length blocked; bytes = record { 0 = total blocked } };
    range = struct (holder y.base.0 y.limit.0 blocked);
  }

  abbrev pub entered_nodes : List ℕ
  entered_nodes = cond roomy (fill blocked vs) vs

module _ (p : Pair) (ws vs : List ℕ) (y : units.Range) where
  -- Into the block land where it has room, else into the list.
  abbrev pub entered : Entered
  entered = cond (roomy p vs y) (enter_block p vs y) (enter_list p ws y)

  abbrev pub entered_words : List ℕ
  entered_words = cond (roomy p vs y) ws (enter_words p ws y)

  -- Both lands are sound and have no byte of the range, which is not empty.
  pub record Open (s : Spot) : Type 0 where
    pub in_list : Roomless p ws y s
    pub good : block.set_up p.block vs ≡ true
    pub whole : block.sound p.block vs ≡ true
    pub proper : y.base.0 < y.limit.0
    pub upto : y.limit.0 ≤ 1099511627776
    pub disjoint : overlaps y.base.0 y.limit.0 (block.table_of p.block vs) ≡ false

  -- Some byte of the range is free in either land.
  abbrev pub taken_in : Bool
  taken_in = any_free y.base.0 y.limit.0 (both (list.walk_of p.list ws).met (block.table_of p.block vs))

module _ (p : Pair) (ws vs : List ℕ) (y : units.Range) (s : Spot) where
  -- A request that keeps the rules, to a pair that was checked.
  abbrev pub Wanted : Entry → Type 0
  Wanted e = Ranged p ws vs (reach_base y) y s e

  -- No byte of it is free.
  pub record Bare (e : Entry) : Type 0 where
    pub wanted : Wanted e
    pub none : taken_in p ws vs y ≡ false

-- The checks of a flush are good, and an entry of the table is the first range that reaches the base of a request.
pub record Preparable (p : Pair) (ws vs : List ℕ) (y : units.Range) (e : Entry) : Type 0 where
  pub good : check_of p.list ws p.block vs ≡ Ok tt
  pub place : places.FirstReach vs p.block.ranges y.base.0 e.number
