-- A pair of a filled table written, and a table of n pairs parted at one. Assumes nothing.
use Prim.Native.Nat.{ℕ, suc, ◌+◌, ◌-◌, ◌<◌}
use mathlib.Core.List.{List, [], ◌∷◌, ◌++◌}
use mathlib.Core.Path.{◌≡◌, sym, ◌∙◌}
use native.Mathlib.Omega.{arith}
use lib.ListN.{length, get_or, take, drop, length-append, length-drop}
use lib.Seq.{length-take-le, split_at}
use Rattle.units.specs.declared.Range as units
use Rattle.model.specs.Marks.{Range, rng}
use Rattle.model.specs.inner.Lists.{plain}
use Rattle.block_words.specs.Words.{capacity, pairs, fill}
use Rattle.block_words.proofs.Pairs.{length_pairs}
use Rattle.block_words.proofs.Filling.{fill-pairs}
use Rattle.block_words.proofs.Writing.{write-fill}
use Rattle.block_shifts.specs.inner.Shifts.{with_pair, Tidy, spliced}

-- pair k of a filled table written
pub written : (ps : List Range) (q : Range) (qs : List Range) (ws u : List ℕ) (k : ℕ) (r : units.Range) → length ps ≡ k → k < capacity ws →
    u ≡ fill (ps ++ q ∷ qs) ws → with_pair u k r ≡ fill (ps ++ plain r ∷ qs) ws
unfolding with_pair
written ps q qs ws u k r e f d = rw (d, ← e) (write-fill ps q (plain r) qs ws (omega arith))

-- IN A TABLE OF n PAIRS
module _ (ws : List ℕ) (n : ℕ) (t : Tidy ws n) where
  abbrev rs : List Range
  rs = pairs ws n

  pub long : length rs ≡ n
  long = length_pairs ws n t.fits

  whole : (x : List Range) → x ≡ rs → ws ≡ fill x ws
  whole x e = rw e (sym (fill-pairs ws n t.fits t.clean))

  module _ (i : ℕ) (f : i < n) where
    pub front : length (take i rs) ≡ i
    front = let l = long in length-take-le i rs (omega arith)

    pub less : length (spliced rs i 1 []) ≡ n - 1
    less = let l = long in let d = length-drop (i + 1) rs in let p = front in length-append (take i rs) (drop (i + 1) rs) ∙ omega arith

    -- in the place of pair i
    pub parted : ws ≡ fill (take i rs ++ get_or rs i (rng 0 0) ∷ drop (i + 1) rs) ws
    parted =
        let l = long in
        let s : i + 1 ≡ suc i = omega arith in
        rw s (whole (take i rs ++ get_or rs i (rng 0 0) ∷ drop (suc i) rs) (sym (split_at rs i (rng 0 0) (omega arith))))
