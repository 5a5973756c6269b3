-- A part that reaches an end of its pair taken out: what is left below it, or above it, or nothing. Assumes nothing.
use Prim.Native.Nat.{ℕ, ◌+◌, ◌-◌, ◌*◌, ◌≤◌, ◌<◌}
use mathlib.Core.Bool.{true, false}
use mathlib.Core.List.{List, []}
use mathlib.Core.Logic.{⊎_elim}
use mathlib.Core.Path.{◌≡◌, refl, ap, ◌∙◌}
use native.Mathlib.Omega.{arith}
use lib.Dec.{ltb}
use lib.ListN.{length, get_or}
use borrow.Author.Tests.{ltb-true, ltb-false, le-ltb, lt-ltb}
use Rattle.units.specs.Words.{range_of}
use Rattle.units.specs.declared.Range as units
use Rattle.units.proofs.Tests.{by}
use Rattle.block_words.specs.Words.{pairs, fill}
use Rattle.block_words.specs.inner.Tallies.{pair_at}
use Rattle.block_shifts.specs.inner.Shifts.{with_pair, Tidy, spliced}
use Rattle.block_edits.specs.inner.Edits.{remaining}
use Rattle.block_edits.specs.inner.Places.{Holding, AtEnd, left_of, Leaving}
use Rattle.block_edits.proofs.CutAnswers.{cut_left}
use Rattle.block_edits.proofs.Replacing.{leave_low, leave-high, leave-nothing}

module _ (ws : List ℕ) (n : ℕ) (y : units.Range) (i : ℕ) (h : Holding ws n i y) where
  tidy : Tidy ws n
  tidy = record { fits = h.sorted.fits; clean = h.sorted.clean }

  module _ (d : AtEnd ws i y) (here : units.Range) (e : here ≡ pair_at ws i) where
    abbrev low : units.Range
    low = range_of here.base.0 y.base.0

    abbrev high : units.Range
    high = range_of y.limit.0 here.limit.0

    -- the part is out, and there are c ranges
    abbrev Out : ℕ → List ℕ → Type 0
    Out c v = (c ≡ length (remaining ws n y)) × (v ≡ fill (remaining ws n y) ws)

    -- what is left is below it or above it, not both
    one_side : ltb here.base.0 y.base.0 ≡ true → ltb y.limit.0 here.limit.0 ≡ false
    one_side t =
        let p = ltb-true here.base.0 y.base.0 t in
        let b : here.base.0 ≡ get_or ws (2 * i) 0 = ap (λ (r : units.Range). r.base.0) e in
        let l : here.limit.0 ≡ get_or ws (2 * i + 1) 0 = ap (λ (r : units.Range). r.limit.0) e in
        ⊎_elim (λ z. absurd (omega arith)) (λ z. le-ltb y.limit.0 here.limit.0 (omega arith)) d

    leaving : Leaving ws n i low high
    leaving =
        let f = h.sorted.fits in
        record {
          inside = h.inside;
          room = by (ltb here.base.0 y.base.0)
              (λ t. rw (t, one_side t) (omega arith))
              (λ t. by (ltb y.limit.0 here.limit.0) (λ u. rw (t, u) (omega arith)) (λ u. rw (t, u) (omega arith)));
        }

    pub left_below : here.base.0 < y.base.0 → (r : units.Range) → r ≡ range_of here.base.0 y.base.0 → (v : List ℕ) → v ≡ with_pair ws i r → Out n v
    left_below a r er v ev =
        let p = lt-ltb here.base.0 y.base.0 a in
        let q = one_side p in
        let w = leave_low ws n tidy i low high leaving v a (ltb-false y.limit.0 here.limit.0 q) (ev ∙ ap (with_pair ws i) er) in
        let o = cut_left ws n y i h here e (left_of here y n) refl v w in
        let c : n - 1 + 1 + 0 ≡ length (remaining ws n y) = rw (p, q) at o.0 in
        let k = h.inside in
        (omega arith, o.1)

    module _ (a : y.base.0 ≤ here.base.0) where
      pub left-above : y.limit.0 < here.limit.0 → (r : units.Range) → r ≡ range_of y.limit.0 here.limit.0 → (v : List ℕ) → v ≡ with_pair ws i r → Out n v
      left-above b r er v ev =
          let w = leave-high ws n tidy i low high leaving v a b (ev ∙ ap (with_pair ws i) er) in
          let o = cut_left ws n y i h here e (left_of here y n) refl v w in
          let c : n - 1 + 0 + 1 ≡ length (remaining ws n y) = rw (le-ltb here.base.0 y.base.0 a, lt-ltb y.limit.0 here.limit.0 b) at o.0 in
          let k = h.inside in
          (omega arith, o.1)

      pub left-nothing : here.limit.0 ≤ y.limit.0 → (v : List ℕ) → v ≡ fill (spliced (pairs ws n) i 1 []) ws → Out (n - 1) v
      left-nothing b v ev =
          let w = leave-nothing ws n tidy i low high leaving v a b ev in
          let o = cut_left ws n y i h here e (left_of here y n) refl v w in
          let c : n - 1 + 0 + 0 ≡ length (remaining ws n y) = rw (le-ltb here.base.0 y.base.0 a, le-ltb y.limit.0 here.limit.0 b) at o.0 in
          (omega arith, o.1)
