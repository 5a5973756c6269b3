-- Where a range stands beside a table: the loop of `place_beside`, and what the place tells of overlaps. Assumes nothing.
use Prim.Native.Nat.{ℕ, zero, suc, ◌+◌, ◌≤◌, ◌<◌}
use mathlib.Core.Bool.{true, false, not}
use mathlib.Core.List.{List, [], ◌∷◌}
use mathlib.Core.Path.{◌≡◌, refl, sym, ap, subst, ◌∙◌}
use native.Mathlib.Omega.{arith}
use lib.Dec.{leb}
use borrow.Author.Tests.{leb-true, leb-false, le-leb, lt-leb}
use Rattle.std.specs.Prelude.{Option, Some, None}
use Rattle.units.specs.inner.Parts.{soundness_of}
use Rattle.units.specs.declared.Range as units
use Rattle.units.proofs.Cases.{checked_number}
use Rattle.units.proofs.Orders.{orders}
use Rattle.units.proofs.Tests.{by}
use Rattle.model.specs.Marks.{Range, struct}
use Rattle.model.specs.inner.Lists.{Apart, plain}
use Rattle.block_words.specs.Words.{capacity}
use Rattle.block_words.specs.inner.Tallies.{pair_at, behind}
use Rattle.block_words.proofs.Pairs.{pairs-at, pairs_end}
use Rattle.pair_model.specs.PairLayouts.{meet}
use Rattle.pair_words.specs.inner.Besides.{beside_of, beside_number}
use Rattle.pair_words.proofs.Meets.{meet-none, meet-pair, meet-range, meet-both}

-- the loop of `place_beside`: what is said from pair i on is what is said from the first on
pub record Placing (vs : List ℕ) (n : ℕ) (r : units.Range) (from i : ℕ) : Type 0 where
  pub fits : n ≤ capacity vs
  pub upto : i ≤ n
  pub left : beside_of r i (behind vs n i) ≡ beside_of r from (behind vs n from)

module _ (vs : List ℕ) (n : ℕ) (r : units.Range) (from : ℕ) where
  pub place-start : n ≤ capacity vs → from ≤ n → Placing vs n r from from
  place-start f u = record { fits = f; upto = u; left = refl }

  module _ (i : ℕ) (s : Placing vs n r from i) where
    pub place_inside : i < n → i < capacity vs
    place_inside k = omega (arith, s.fits)

    pub place_end : n ≤ i → Some i ≡ beside_of r from (behind vs n from)
    place_end k =
        sym (ap (beside_of r i) (pairs_end vs n i k)) ∙ s.left

    module _ (k : i < n) (q : units.Range) (eq : q ≡ pair_at vs i) where
      here : beside_of r i (plain q ∷ behind vs n (i + 1)) ≡ beside_of r from (behind vs n from)
      here = ap (λ (x : units.Range). beside_of r i (plain x ∷ behind vs n (i + 1))) eq ∙ sym (ap (beside_of r i) (pairs-at vs n i k s.fits)) ∙ s.left

      pub place-on : q.limit.0 ≤ r.base.0 → Placing vs n r from (i + 1)
      place-on f =
          let g = le-leb q.limit.0 r.base.0 f in
          let w : beside_of r (i + 1) (behind vs n (i + 1)) ≡ beside_of r from (behind vs n from) = rw g at here in
          record { fits = s.fits; upto = omega arith; left = w }

      module _ (f : r.base.0 < q.limit.0) where
        above : leb q.limit.0 r.base.0 ≡ false
        above = lt-leb q.limit.0 r.base.0 f

        pub place_here : r.limit.0 ≤ q.base.0 → Some i ≡ beside_of r from (behind vs n from)
        place_here g = let w = le-leb r.limit.0 q.base.0 g in rw (above, w) at here

        pub place-overlaps : q.base.0 < r.limit.0 → None ≡ beside_of r from (behind vs n from)
        place-overlaps g = let w = lt-leb r.limit.0 q.base.0 g in rw (above, w) at here

pub ruleset placings = (orders, place-start, place_inside, place_end, place-on, place_here, place-overlaps)

-- the pairs from a place on stand apart
pub record Kept (vs : List ℕ) (n hi i j : ℕ) : Type 0 where
  pub least : i ≤ j
  pub most : j ≤ n
  pub low : ℕ
  pub apart : Apart low hi (behind vs n j)

module _ (vs : List ℕ) (n hi : ℕ) (fits : n ≤ capacity vs) (r : units.Range) where
  abbrev pub Keeps : ℕ → Option ℕ → Type 0
  Keeps i (Some j) = Kept vs n hi i j
  Keeps i None = Unit {0}

  keeps_on : (i : ℕ) (w : Option ℕ) → Keeps (i + 1) w → Keeps i w
  keeps_on i (Some j) c = record { least = let l = c.least in omega arith; most = c.most; low = c.low; apart = c.apart }
  keeps_on i None c = tt

  pub placed-keeps : (d i lo : ℕ) → i + d ≡ n → Apart lo hi (behind vs n i) → Keeps i (beside_of r i (behind vs n i))
  placed-keeps zero i lo k b =
      let c : Kept vs n hi i i = record { least = omega arith; most = omega arith; low = lo; apart = b } in
      subst (λ (qs : List Range). Keeps i (beside_of r i qs)) (sym (pairs_end vs n i (omega arith))) c
  placed-keeps (suc d) i lo k b =
      let e = pairs-at vs n i (omega arith) fits in
      let q : Range = plain (pair_at vs i) in
      let t : Apart lo hi (q ∷ behind vs n (i + 1)) = subst (Apart lo hi) e b in
      let c : Kept vs n hi i i = record { least = omega arith; most = omega arith; low = lo; apart = b } in
      subst (λ (qs : List Range). Keeps i (beside_of r i qs)) (sym e)
      (by (leb q.limit r.base.0)
      (λ f. rw f (keeps_on i (beside_of r (i + 1) (behind vs n (i + 1))) (placed-keeps d (i + 1) (suc q.limit) (omega arith) t.3)))
      (λ f. by (leb r.limit.0 q.base) (λ g. rw (f, g) c) (λ g. rw (f, g) tt)))

-- what the place tells of overlaps
module _ (vs : List ℕ) (n hi : ℕ) (fits : n ≤ capacity vs) (r : Range) (rs : List Range) (top : ℕ) (o : r.base < r.limit) (p : r.limit ≤ top)
    (a : Apart (suc r.limit) top rs) where
  abbrev pub Says : ℕ → Option ℕ → Type 0
  Says i (Some j) = meet (r ∷ rs) (behind vs n i) ≡ meet rs (behind vs n j)
  Says i None = meet (r ∷ rs) (behind vs n i) ≡ true

  said-on : (i : ℕ) (w : Option ℕ) → meet (r ∷ rs) (behind vs n i) ≡ meet (r ∷ rs) (behind vs n (i + 1)) → Says (i + 1) w → Says i w
  said-on i (Some j) e c = e ∙ c
  said-on i None e c = e ∙ c

  pub placed-says : (d i lo : ℕ) → i + d ≡ n → Apart lo hi (behind vs n i) → Says i (beside_of (struct r) i (behind vs n i))
  placed-says zero i lo k b =
      let e = pairs_end vs n i (omega arith) in
      let s : meet (r ∷ rs) (behind vs n i) ≡ meet rs (behind vs n i) =
      ap (meet (r ∷ rs)) e ∙ meet-none (r ∷ rs) ∙ sym (meet-none rs) ∙ sym (ap (meet rs) e) in
      subst (λ (qs : List Range). Says i (beside_of (struct r) i qs)) (sym e) s
  placed-says (suc d) i lo k b =
      let e = pairs-at vs n i (omega arith) fits in
      let q : Range = plain (pair_at vs i) in
      let t : Apart lo hi (q ∷ behind vs n (i + 1)) = subst (Apart lo hi) e b in
      subst (λ (qs : List Range). Says i (beside_of (struct r) i qs)) (sym e)
      (by (leb q.limit r.base)
      (λ f.
      let m = ap (meet (r ∷ rs)) e ∙ meet-pair q (behind vs n (i + 1)) r.base top (r ∷ rs) (leb-true q.limit r.base f) (omega arith, o, p, a) in
      rw f (said-on i (beside_of (struct r) (i + 1) (behind vs n (i + 1))) m (placed-says d (i + 1) (suc q.limit) (omega arith) t.3)))
      (λ f.
      by (leb r.limit q.base)
      (λ g.
      let l = leb-true r.limit q.base g in
      let m = meet-range r rs q.base hi (q ∷ behind vs n (i + 1)) o l (omega arith, t.1, t.2, t.3) in
      let c : meet (r ∷ rs) (behind vs n i) ≡ meet rs (behind vs n i) = ap (meet (r ∷ rs)) e ∙ m ∙ sym (ap (meet rs) e) in
      rw (f, g) c)
      (λ g.
      let h = leb-false q.limit r.base f in
      let l = leb-false r.limit q.base g in
      let m : meet (r ∷ rs) (behind vs n i) ≡ true = ap (meet (r ∷ rs)) e ∙ meet-both r rs q (behind vs n (i + 1)) h l in
      rw (f, g) m)))

-- a range that overlaps a pair has the number of a land that is not sound
module _ (vs : List ℕ) (n hi : ℕ) (fits : n ≤ capacity vs) (r : Range) (o : r.base < r.limit) where
  abbrev numbered : ℕ → ℕ
  numbered i = checked_number (soundness_of (not (meet (r ∷ []) (behind vs n i))))

  number_of : (i : ℕ) (w : Option ℕ) → Says vs n hi fits r [] r.limit o (omega arith) tt i w → beside_number w ≡ numbered i
  number_of i (Some j) e = rw e (omega arith)
  number_of i None e = rw e (omega arith)

  pub beside-number : (d i lo : ℕ) → i + d ≡ n → Apart lo hi (behind vs n i) → beside_number (beside_of (struct r) i (behind vs n i)) ≡ numbered i
  beside-number d i lo k b =
      number_of i (beside_of (struct r) i (behind vs n i)) (placed-says vs n hi fits r [] r.limit o (omega arith) tt d i lo k b)
