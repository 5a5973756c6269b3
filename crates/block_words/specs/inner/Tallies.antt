-- The pairs of a table by number, and what a sweep over them tallies: contracts of inner functions. Assumes nothing.
use Rattle.std.specs.Prelude.{◌≡◌, ℕ, ◌+◌, ◌-◌, ◌*◌, ◌%◌, Bool, not, ◌&&◌, List, [], ◌∷◌, drop, ◌==◌, bit_and, bit_or, nat_le, slice_index, Ok}
use Rattle.units.specs.Rules.{multiple, arena_check}
use Rattle.units.specs.Words.{range_of}
use Rattle.units.specs.declared.Range.{Range}
use Rattle.units.specs.declared.Size.{Size}
use Rattle.units.specs.declared.rules.Arena.{Arena}
use Rattle.model.specs.Marks as marks
use Rattle.model.specs.Marks.{total}
use Rattle.block_words.specs.Words.{pairs, canonical}
use Rattle.block_words.specs.declared.sweep.Sweep.{Sweep}

-- Range number i of the table, as a struct; and the ranges of a table of n from number i on.
abbrev pub pair_at : List ℕ → ℕ → Range
pair_at ws i = range_of (slice_index ws (2 * i)) (slice_index ws (2 * i + 1))

abbrev pub behind : List ℕ → ℕ → ℕ → List marks.Range
behind ws n i = pairs (drop (2 * i) ws) (n - i)

-- The arena is good.
abbrev pub Ready : Arena → Type 0
Ready a = arena_check a.base.0 a.limit.0 a.align.0 ≡ Ok tt

-- x - y, modulo 2^64; and whether a word has its top bit.
abbrev pub below : ℕ → ℕ → ℕ
below x y = (x + (18446744073709551616 - y)) % 18446744073709551616

abbrev pub top : ℕ → Bool
top x = nat_le 9223372036854775808 x

-- Before the first pair, as if one had ended right below the arena.
abbrev pub start_of : Arena → Sweep
start_of a = record { past = a.base.0 - 1; rising = 18446744073709551615; bits = 0; bytes = 0 }

-- A sweep one pair further on, by the pair's words; and over ranges.
abbrev pub swept_by : Sweep → ℕ → ℕ → Sweep
swept_by s b l = record {
  past = l;
  rising = bit_and s.rising (bit_and (below s.past b) (below b l));
  bits = bit_or s.bits (bit_or b l);
  bytes = below s.bytes (below b l);
}

abbrev pub swept : Sweep → List marks.Range → Sweep
swept s [] = s
swept s (r ∷ rs) = swept (swept_by s r.base r.limit) rs

-- Whether the pairs met are good: no word has its top bit, the words ascend, the last ends inside the arena, all words are aligned,
-- and the bytes are those of the handle.
abbrev pub verdict_of : Arena → Size → Sweep → Bool
verdict_of a bytes s =
    not (top s.bits)
    && (top s.rising && (nat_le s.past a.limit.0 && (multiple a.align.0 s.bits && bytes.0 == s.bytes)))

-- The first n pairs are good ranges with so many bytes.
abbrev pub sound_pairs : Arena → List ℕ → ℕ → Size → Bool
sound_pairs a ws n bytes = canonical a.base.0 a.limit.0 a.align.0 (pairs ws n) && bytes.0 == total (pairs ws n)
