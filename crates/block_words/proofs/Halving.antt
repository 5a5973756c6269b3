-- The place of an address in a table whose ranges ascend, by halving: what holds at each turn of the loop of `spot`, and its way
-- out. Assumes nothing.
use Rattle.std.proofs.Common.{◌≡◌, ℕ, ◌+◌, ◌*◌, ◌/◌, ◌<◌, ◌≤◌, List, get_or, subst, arith}
use Rattle.units.specs.declared.Range.{Range}
use Rattle.model.proofs.Splits.{limits-rise}
use Rattle.block_words.specs.Words.{pairs}
use Rattle.block_words.specs.inner.Tallies.{pair_at}
use Rattle.block_words.specs.inner.Surveys.{Ordered, FirstReach}
use Rattle.block_words.proofs.Pairs.{length_pairs, get-limit}

rise : (ws : List ℕ) (n j k : ℕ) → Ordered ws n → j ≤ k → k < n → get_or ws (2 * j + 1) 0 ≤ get_or ws (2 * k + 1) 0
rise ws n j k s m p =
    rw (← get-limit ws n j (omega arith) s.fits, ← get-limit ws n k p s.fits)
    (limits-rise s.low s.high (pairs ws n) j k s.apart m (rw (length_pairs ws n s.fits) p))

-- the place of x is from lo up to hi
pub record Halving (ws : List ℕ) (n x lo hi : ℕ) : Type 0 where
  pub ordered : Ordered ws n
  pub order : lo ≤ hi
  pub top : hi ≤ n
  pub below : (j : ℕ) → j < lo → get_or ws (2 * j + 1) 0 < x
  pub reach : hi < n → x ≤ get_or ws (2 * hi + 1) 0

pub halve-start : (ws : List ℕ) (n x : ℕ) → Ordered ws n → Halving ws n x 0 n
halve-start ws n x s =
    record { ordered = s; order = omega arith; top = omega arith; below = λ j k. absurd (omega arith); reach = λ k. absurd (omega arith) }

module _ (ws : List ℕ) (n x lo hi : ℕ) (s : Halving ws n x lo hi) where
  abbrev mid : ℕ
  mid = (lo + hi) / 2

  go-up : lo < hi → get_or ws (2 * mid + 1) 0 < x → Halving ws n x (mid + 1) hi
  go-up k f =
      let top = s.top in
      record {
        ordered = s.ordered;
        order = omega arith;
        top = top;
        below = λ j g. let r = rise ws n j mid s.ordered (omega arith) (omega arith) in omega arith;
        reach = s.reach;
      }

  go-down : lo < hi → x ≤ get_or ws (2 * mid + 1) 0 → Halving ws n x lo mid
  go-down k f =
      let top = s.top in
      record { ordered = s.ordered; order = omega arith; top = omega arith; below = s.below; reach = λ g. f }

  -- the pair in the middle, and whether it ends below x
  module _ (k : lo < hi) (p : Range) (ep : p ≡ pair_at ws mid) where
    pub halve-up : p.limit.0 < x → Halving ws n x (mid + 1) hi
    halve-up t = go-up k (rw ep at t)

    pub halve-down : x ≤ p.limit.0 → Halving ws n x lo mid
    halve-down t = go-down k (rw ep at t)

  pub halve-done : hi ≤ lo → FirstReach ws n x lo
  halve-done k =
      let order = s.order in
      let top = s.top in
      let e : hi ≡ lo = omega arith in
      record { upto = omega arith; below = s.below; reach = subst (λ (z : ℕ). z < n → x ≤ get_or ws (2 * z + 1) 0) e s.reach }
