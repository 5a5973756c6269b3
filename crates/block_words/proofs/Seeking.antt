-- The entries of a good table that are read at a place: the ways out of `entry_at`, `reached`, `above` and `entry`. Assumes nothing.
use Rattle.std.proofs.Common.{◌≡◌, ℕ, zero, suc, ◌+◌, ◌*◌, ◌/◌, ◌<◌, ◌≤◌, ltb, List, [], ◌∷◌, length, get_or, sym, refl, ap, ◌∙◌, arith, ltb-true, le-leb}
use borrow.Author.Tests.{lt-leb}
use Rattle.units.specs.inner.Aims.{none_range}
use Rattle.units.specs.declared.Addr.{Addr}
use Rattle.units.specs.declared.Range.{Range}
use Rattle.units.specs.declared.Size.{Size}
use Rattle.units.specs.declared.Which.{Which}
use Rattle.units.specs.declared.aims.Aim.{Aim}
use Rattle.units.proofs.Tests.{by, tests}
use Rattle.model.specs.Marks as marks
use Rattle.model.specs.Marks.{rng}
use Rattle.model.specs.inner.Lists.{Apart}
use Rattle.block_words.specs.Words.{pairs}
use Rattle.block_words.specs.inner.Tallies.{pair_at}
use Rattle.block_words.specs.inner.Surveys.{entry, entry_at, entry_of, Rising, FirstReach}
use Rattle.block_words.specs.declared.Entry.{Entry}
use Rattle.block_words.proofs.Pairs.{length_pairs, get-pair}
use Rattle.block_words.proofs.Staying.{at-inside, at_end, kept_at}

-- range number i of n, or none
module _ (ws : List ℕ) (n i : ℕ) (r : Range) where
  pub entry-inside : i < n → r ≡ pair_at ws i → entry i r ≡ entry_at ws n i
  entry-inside h e = ap (entry i) e ∙ sym (at-inside ws n i h)

  pub entry-none : n ≤ i → r ≡ none_range → entry n r ≡ entry_at ws n i
  entry-none h e = ap (entry n) e ∙ sym (at_end ws n i h)

pub ruleset entries = (entry-inside, entry-none)

-- a range of a sorted list: it is not empty, and begins above those before it
range-order : (lo hi : ℕ) (rs : List marks.Range) (k : ℕ) → Apart lo hi rs → k < length rs →
    (lo ≤ (get_or rs k (rng 0 0)).base) × ((get_or rs k (rng 0 0)).base < (get_or rs k (rng 0 0)).limit)
range-order lo hi [] k a h = absurd (omega arith)
range-order lo hi (r ∷ rs) zero a h = (a.0, a.1)
range-order lo hi (r ∷ rs) (suc k) a h = let p = range-order (suc r.limit) hi rs k a.3 (omega arith) in (omega arith, p.1)

range-above : (lo hi : ℕ) (rs : List marks.Range) (k : ℕ) → Apart lo hi rs → k + 1 < length rs →
    (get_or rs k (rng 0 0)).limit < (get_or rs (k + 1) (rng 0 0)).base
range-above lo hi [] k a h = absurd (omega arith)
range-above lo hi (r ∷ []) k a h = absurd (omega arith)
range-above lo hi (r ∷ q ∷ rs) zero a h = a.3.0
range-above lo hi (r ∷ q ∷ rs) (suc k) a h =
    let e : suc k + 1 ≡ suc (k + 1) = omega arith in
    rw e (range-above (suc r.limit) hi (q ∷ rs) k a.3 (omega arith))

module _ (ws : List ℕ) (n : ℕ) (s : Rising ws n) where
  pub rising_inside : (i : ℕ) → i < n → i < length ws / 2
  rising_inside i k = omega (arith, s.fits)

  module _ (i : ℕ) (k : i < n) where
    pub pair-order : get_or ws (2 * i) 0 < get_or ws (2 * i + 1) 0
    pair-order =
        let l = length_pairs ws n s.fits in
        let o = (range-order s.low s.high (pairs ws n) i s.apart (omega arith)).1 in
        rw (get-pair ws n i k s.fits) at o

    pub pair-above : 0 < get_or ws (2 * i) 0
    pair-above =
        let l = length_pairs ws n s.fits in
        let z = s.above in
        let o = (range-order s.low s.high (pairs ws n) i s.apart (omega arith)).0 in
        let p : s.low ≤ get_or ws (2 * i) 0 = rw (get-pair ws n i k s.fits) at o in
        omega arith

    pub rising-order : (r : Range) → r ≡ pair_at ws i → r.base.0 ≤ r.limit.0
    rising-order r e = let o = pair-order in rw e (omega arith)

  pub next-above : (i : ℕ) → i + 1 < n → get_or ws (2 * i + 1) 0 < get_or ws (2 * (i + 1)) 0
  next-above i k =
      let l = length_pairs ws n s.fits in
      let o = range-above s.low s.high (pairs ws n) i s.apart (omega arith) in
      rw (get-pair ws n i (omega arith) s.fits, get-pair ws n (i + 1) k s.fits) at o

  -- no range is kept for no aim
  pub nothing-kept : (q : Entry) → q ≡ entry_at ws n n → q ≡ entry_of Aim.Nothing (pairs ws n)
  nothing-kept q e = e ∙ kept_at ws n s Aim.Nothing refl n (λ j h k. refl) (λ h. absurd (omega arith))

  -- at the first range that reaches an address
  module _ (x : Addr) (k : ℕ) (p : FirstReach ws n x.0 k) where
    pub reach-kept : (q : Entry) → q ≡ entry_at ws n k → q ≡ entry_of (Aim.Reach x) (pairs ws n)
    reach-kept q e =
        e ∙ kept_at ws n s (Aim.Reach x) refl k
        (λ j h m. lt-leb x.0 (get_or ws (2 * j + 1) 0) (p.below j h))
        (λ h. le-leb x.0 (get_or ws (2 * k + 1) 0) (p.reach h))

    below-it : (j : ℕ) → j < k → j < n → get_or ws (2 * j) 0 < x.0
    below-it j h m = let o = pair-order j m in let b = p.below j h in omega arith

    module _ (e : Entry) (ee : e ≡ entry_at ws n k) where
      here-base : k < n → e.here.base.0 ≡ get_or ws (2 * k) 0
      here-base h = ap (λ (y : Entry). y.here.base.0) (ee ∙ at-inside ws n k h)

      pub from-here : x.0 ≤ e.here.base.0 → e ≡ entry_of (Aim.From x) (pairs ws n)
      from-here f =
          ee ∙ kept_at ws n s (Aim.From x) refl k
          (λ j h m. lt-leb x.0 (get_or ws (2 * j) 0) (below-it j h m))
          (λ h. let b = here-base h in le-leb x.0 (get_or ws (2 * k) 0) (omega arith))

      pub from_next : e.here.base.0 < x.0 → (q : Entry) → q ≡ entry_at ws n (k + 1) → q ≡ entry_of (Aim.From x) (pairs ws n)
      from_next f q eq =
          eq ∙ kept_at ws n s (Aim.From x) refl (k + 1)
          (λ j h m. lt-leb x.0 (get_or ws (2 * j) 0) (before j h m))
          (λ h. let o = next-above k h in let r = p.reach (omega arith) in le-leb x.0 (get_or ws (2 * (k + 1)) 0) (omega arith))
        where
          before : (j : ℕ) → j < k + 1 → j < n → get_or ws (2 * j) 0 < x.0
          before j h m =
              by (ltb j k)
              (λ t. below-it j (ltb-true j k t) m)
              (λ t. let u : k ≡ j = omega tests in
              let b = here-base (omega arith) in let w : get_or ws (2 * k) 0 < x.0 = omega arith in
              rw u at w)

-- an aim and a choice by their cases
pub aim-as : (rs : List marks.Range) (aim v : Aim) → aim ≡ v → (e : Entry) → e ≡ entry_of v rs → e ≡ entry_of aim rs
aim-as rs aim v a e k = k ∙ ap (λ (x : Aim). entry_of x rs) (sym a)

pub which-as : (rs : List marks.Range) (size : Size) (which v : Which) → which ≡ v → (e : Entry) → e ≡ entry_of (Aim.Find v size) rs →
    e ≡ entry_of (Aim.Find which size) rs
which-as rs size which v w e k = k ∙ ap (λ (x : Which). entry_of (Aim.Find x size) rs) (sym w)

pub ruleset places = (nothing-kept, reach-kept, from-here, from_next, aim-as)
