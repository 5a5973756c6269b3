-- A place written: contracts of inner functions. Assumes nothing.
use Rattle.std.specs.Prelude.{ℕ, ◌+◌, ◌-◌, ◌≤◌, ◌<◌}
use Rattle.units.specs.Words.{range_of}
use Rattle.units.specs.declared.Range.{Range}
use Rattle.list_words.specs.declared.Chain.{Chain}
use Rattle.list_edits.specs.declared.Edit.{Edit}
use Rattle.list_edits.specs.declared.Join.{Join}
use Rattle.list_edits.specs.declared.ChainJoined.{ChainJoined}
use Rattle.list_edits.specs.inner.Edits.{EditRoom, store_head}

-- The edit of a place.
abbrev pub join_edit : Join → Edit
join_edit j = record { prev = j.prev; low = j.fresh; high = range_of j.fresh.limit.0 j.fresh.limit.0; next = j.next }

pub record Putting (b m : ℕ) (c : Chain) (y : Range) (j : Join) : Type 0 where
  pub room : EditRoom b m (join_edit j)
  pub order : y.base.0 ≤ y.limit.0
  pub count : c.ranges < 18446744073709551615
  pub joins : j.joins ≤ c.ranges + 1
  pub bytes : c.bytes.0 + (y.limit.0 - y.base.0) < 18446744073709551616

abbrev pub join_done : Chain → Range → Join → ChainJoined
join_done c y j = record {
  chain = record {
    head = store_head c.head (join_edit j);
    ranges = c.ranges + 1 - j.joins;
    bytes = record { 0 = c.bytes.0 + (y.limit.0 - y.base.0) };
  };
  range = j.fresh;
}
