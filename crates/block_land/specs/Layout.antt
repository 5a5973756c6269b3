-- How a block handle and node space stand for a list of ranges. Assumes nothing.
use Rattle.std.specs.Prelude.{ℕ, ◌*◌, ◌<◌, Bool, ◌&&◌, List, ◌≡◌, leb, length, get_or}
use Rattle.std.proofs.Math.Option.{some}
use Rattle.units.specs.LowWater.{noted, sound_low}
use Rattle.units.specs.Rules.{arena_check, good_arena}
use Rattle.units.specs.declared.Size.{Size}
use Rattle.model.specs.Marks.{Range, total}
use Rattle.model.specs.Calls.{Arena}
use Rattle.model.specs.Layouts.{Reading, reading}
use Rattle.model.specs.Lands.{LandLayout}
use Rattle.block_words.specs.Words.{capacity, pairs, sound_table, fill}
use Rattle.block_land.specs.declared.BlockLand.{BlockLand}

abbrev pub base : BlockLand → ℕ
base h = h.base.0

abbrev pub limit : BlockLand → ℕ
limit h = h.limit.0

abbrev pub align : BlockLand → ℕ
align h = h.align.0

-- The set of a block land has at most as many ranges as the capacity of its node space.
abbrev pub arena_of : BlockLand → List ℕ → Arena
arena_of h ws = record { base = base h; limit = limit h; align = align h; room = some (capacity ws) }

-- Node space is lent as at most 2,097,152 words.
abbrev pub lent : List ℕ → Bool
lent ws = leb (length ws) 2097152

-- The fixed handle fields keep the arena rules, and node space is not too long.
unfoldable pub set_up : BlockLand → List ℕ → Bool
set_up h ws = good_arena (arena_check (base h) (limit h) (align h)) && lent ws

-- The table and both counts, and the mark and low water.
unfoldable pub sound : BlockLand → List ℕ → Bool
sound h ws = sound_table (base h) (limit h) (align h) ws h.ranges h.bytes.0 && sound_low h.water h.bytes.0

-- The ranges of the table.
abbrev pub table_of : BlockLand → List ℕ → List Range
table_of h ws = pairs ws h.ranges

-- 5, 6, or the ranges of the table.
unfoldable pub read_of : BlockLand → List ℕ → Reading (List Range)
read_of h ws = reading (set_up h ws) (sound h ws) (table_of h ws)

-- The handle with other counts, of which the free bytes are noted.
abbrev pub closed_with : BlockLand → ℕ → Size → BlockLand
closed_with h n s = record { base = h.base; limit = h.limit; align = h.align; ranges = n; bytes = s; water = noted h.water s.0 }

-- The handle after an accepted call: the number of ranges and of free bytes.
abbrev pub closed : BlockLand → List Range → BlockLand
closed h rs = closed_with h (length rs) (record { 0 = total rs })

-- The same pair words. An odd last word may differ.
abbrev pub SamePairs : List ℕ → List ℕ → Type 0
SamePairs ws ws' = (length ws' ≡ length ws) × ((i : ℕ) → i < 2 * capacity ws → get_or ws' i 0 ≡ get_or ws i 0)

-- Between calls the host writes no pair word.
abbrev pub layout : LandLayout BlockLand
layout = record {
  arena = arena_of;
  read = read_of;
  noted = λ h. h.water;
  show = λ h ws. record { reads = read_of h ws; count = h.ranges; bytes = h.bytes.0; mark = h.water.filled; low = h.water.low.0 };
  close = closed;
  words = λ h ws rs. fill rs ws;
  host = λ h ws ws'. SamePairs ws ws';
}
