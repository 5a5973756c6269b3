-- The mark and low water of a handle (request K10). Assumes nothing.
use Rattle.std.specs.Prelude.{ℕ, Bool, cond, ◌&&◌, leb, ltb, eqb}
use Rattle.units.specs.declared.low_water.LowWater.{LowWater}

abbrev pub low_water : ℕ → ℕ → LowWater
low_water mark low = record { filled = mark; low = record { 0 = low } }

-- An opening's, and a refused one's: the mark is not set, and low water is 0.
abbrev pub unset : LowWater
unset = low_water 0 0

-- The mark after an accepted call that leaves n free bytes: set if any accepted call has yet left the land non-empty.
abbrev pub mark_after : ℕ → ℕ → ℕ
mark_after mark n = cond (eqb mark 0) (cond (eqb n 0) 0 1) 1

-- Low water after it: the least of what it was and n; n where the mark was not set.
abbrev pub low_after : ℕ → ℕ → ℕ → ℕ
low_after mark low n = cond (eqb mark 0) n (cond (ltb n low) n low)

abbrev pub noted : LowWater → ℕ → LowWater
noted q n = low_water (mark_after q.filled n) (low_after q.filled q.low.0 n)

-- Of a sound handle with n free bytes. 6 if low water exceeds the free bytes, or the mark is unset and either is not 0; the mark is 0 or 1.
unfoldable pub sound_low : LowWater → ℕ → Bool
sound_low q n = leb q.low.0 n && cond (eqb q.filled 0) (eqb q.low.0 0 && eqb n 0) (eqb q.filled 1)
