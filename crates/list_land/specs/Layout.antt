-- How a list handle and the arena's words stand for a list of ranges. Assumes nothing.
use Rattle.std.specs.Prelude.{ℕ, Bool, true, ◌&&◌, List, ◌≡◌, eqb, length, get_or}
use Rattle.std.proofs.Math.Option.{none}
use Rattle.units.specs.LowWater.{noted, sound_low}
use Rattle.units.specs.Rules.{arena_check, good_arena}
use Rattle.units.specs.Words.{word_number, addr}
use Rattle.units.specs.declared.Addr.{Addr}
use Rattle.units.specs.declared.Size.{Size}
use Rattle.model.specs.Marks.{Range, total}
use Rattle.model.specs.Calls.{Arena}
use Rattle.model.specs.Layouts.{Reading, reading}
use Rattle.model.specs.Lands.{ranges_in, LandLayout}
use Rattle.list_words.specs.Words.{Walk, walk_from, sound_walk}
use Rattle.list_words.specs.Laying.{head_of, lay, described}
use Rattle.list_land.specs.declared.ListLand.{ListLand}

abbrev pub base : ListLand → ℕ
base h = h.base.0

abbrev pub limit : ListLand → ℕ
limit h = h.limit.0

abbrev pub align : ListLand → ℕ
align h = h.align.0

-- The arena of a list land has no capacity.
abbrev pub arena_of : ListLand → Arena
arena_of h = record { base = base h; limit = limit h; align = align h; room = none }

-- The fixed handle fields keep the arena rules, and the arena is lent as exactly (limit - base) / 8 words.
unfoldable pub set_up : ListLand → List ℕ → Bool
set_up h ws = good_arena (arena_check (base h) (limit h) (align h)) && eqb (word_number (base h) (limit h)) (length ws)

-- The walk from head.
abbrev pub walk_of : ListLand → List ℕ → Walk
walk_of h ws = walk_from (base h) (limit h) (align h) ws (base h) h.head.0

-- The walk and both counts, and the mark and low water.
unfoldable pub sound : ListLand → List ℕ → Bool
sound h ws = sound_walk (walk_of h ws) h.ranges h.bytes.0 && sound_low h.water h.bytes.0

-- 5, 6, or the ranges met.
unfoldable pub read_of : ListLand → List ℕ → Reading (List Range)
read_of h ws = reading (set_up h ws) (sound h ws) (walk_of h ws).met

-- The handle with another head and other counts, of which the free bytes are noted.
abbrev pub closed_with : ListLand → Addr → ℕ → Size → ListLand
closed_with h head n s = record {
  base = h.base;
  limit = h.limit;
  align = h.align;
  head = head;
  ranges = n;
  bytes = s;
  water = noted h.water s.0;
}

-- The handle after an accepted call: head is the base of the first range, or 0; the number of ranges and of free bytes.
abbrev pub closed : ListLand → List Range → ListLand
closed h rs = closed_with h (addr (head_of rs)) (length rs) (record { 0 = total rs })

-- Between calls the host may write every word but those of the present descriptors.
abbrev pub layout : LandLayout ListLand
layout = record {
  arena = λ h ws. arena_of h;
  read = read_of;
  noted = λ h. h.water;
  show = λ h ws. record { reads = read_of h ws; count = h.ranges; bytes = h.bytes.0; mark = h.water.filled; low = h.water.low.0 };
  close = closed;
  words = λ h ws rs. lay (base h) rs ws;
  host = λ h ws ws'.
      (length ws' ≡ length ws)
      × ((i : ℕ) → described (base h) (ranges_in (read_of h ws)) i ≡ true → get_or ws' i 0 ≡ get_or ws i 0);
}
