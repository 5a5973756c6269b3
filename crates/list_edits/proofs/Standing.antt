-- Where a request stands in a sound list: the ranges in front of it, those above it, and whether it touches the one below. Assumes nothing.
use Prim.Native.Nat.{ℕ, suc, ◌+◌, ◌-◌, ◌<◌, ◌≤◌}
use mathlib.Core.Bool.{true, false, and-false}
use mathlib.Core.List.{List, [], ◌∷◌, ◌++◌, append-nil}
use mathlib.Core.Option.{Option, none, some}
use mathlib.Core.Path.{◌≡◌, refl, sym, ap}
use native.Mathlib.Omega.{arith}
use lib.Dec.{eqb}
use lib.ListN.{length}
use borrow.Author.Tests.{ne_eqb, le-ltb, eqb-true}
use Rattle.units.specs.Words.{range_of}
use Rattle.units.specs.declared.Range as units
use Rattle.units.specs.declared.aims.Aim.{Aim}
use Rattle.units.specs.declared.rules.Arena.{Arena}
use Rattle.units.proofs.Tests.{by, tests}
use Rattle.model.specs.Marks.{Range, total}
use Rattle.model.specs.inner.Lists.{Apart, overlaps, insert_in}
use Rattle.model.proofs.Places.{Before, apart-rest, insert-below}
use Rattle.model.proofs.Reaching.{reach, reach-none, reach-some}
use Rattle.list_edits.specs.inner.Places.{following_of, join_of, place_of}
use Rattle.list_words.specs.declared.Spot.{Spot}
use Rattle.list_words.proofs.Keeping.{Last, At, Behind, SpotOf, kept-reach}
use Rattle.list_words.proofs.Laid.{Laid}
use Rattle.list_words.specs.declared.Chain.{Chain}
use Rattle.list_edits.specs.inner.Chains.{met_of, Held}
use Rattle.list_edits.proofs.Joining.{Above, Over}
use Rattle.list_edits.proofs.Following.{here, laid-here, follows}
use Rattle.list_edits.proofs.Sound.{Fine}

-- the request y goes behind front, as [x, limit) before ups, where old stood
pub record Stand (a : Arena) (ws : List ℕ) (c : Chain) (y : units.Range) (s : Spot) : Type 0 where
  pub front : List Range
  pub old : List Range
  pub ups : List Range
  pub x : ℕ
  pub joins : ℕ
  pub above : Spot
  pub split : met_of a ws c ≡ front ++ old
  pub last : Last front s.prev
  pub below : Before y.base.0 front
  pub start : x ≤ y.base.0
  pub into : insert_in y.base.0 y.limit.0 old ≡ insert_in x y.limit.0 ups
  pub meets : overlaps y.base.0 y.limit.0 old ≡ overlaps y.base.0 y.limit.0 ups
  pub count : length old ≡ joins + length ups
  pub bytes : total old + (y.limit.0 - y.base.0) ≡ total ups + (y.limit.0 - x)
  pub one_more : joins ≤ 1
  pub lo : ℕ
  pub apart : Apart lo a.limit.0 ups
  pub laid : Laid a.base.0 ups ws
  pub at-ups : Above ups above
  pub over : Over y.base.0 ups
  pub place : place_of a ws y s ≡ join_of s.prev (range_of x y.limit.0) joins above

module _ (a : Arena) (ws : List ℕ) (c : Chain) (f : Fine a ws c) (y : units.Range) (s : Spot) (from : a.base.0 ≤ y.base.0) (proper : y.base.0 < y.limit.0) where
  abbrev b : ℕ
  b = y.base.0

  abbrev l : ℕ
  l = y.limit.0

  abbrev met : List Range
  met = met_of a ws c

  -- behind every range
  stand-behind : Before b met → Behind met s → Stand a ws c y s
  unfolding place_of
  stand-behind k p =
      let z : eqb s.here.limit.0 b ≡ false = rw p.here (ne_eqb 0 b (λ e. omega (arith, f.place.arena.above))) in
      record {
        front = met;
        old = [];
        ups = [];
        x = b;
        joins = 0;
        above = s;
        split = sym (append-nil met);
        last = p.last;
        below = k;
        start = omega arith;
        into = refl;
        meets = refl;
        count = refl;
        bytes = refl;
        one_more = omega arith;
        lo = 0;
        apart = tt;
        laid = tt;
        at-ups = (p.here, p.next);
        over = tt;
        place = rw z;
      }

  module _ (q : Range) (p : At met q s) (k : Before b p.front) (reaches : b ≤ q.limit) where
    -- before a range that ends above its base
    stand-before : eqb q.limit b ≡ false → Stand a ws c y s
    unfolding place_of
    stand-before t =
        let pr = apart-rest a.base.0 a.limit.0 p.front q p.rest (here a ws c f s q p) in
        let z : eqb s.here.limit.0 b ≡ false = rw p.here t in
        record {
          front = p.front;
          old = q ∷ p.rest;
          ups = q ∷ p.rest;
          x = b;
          joins = 0;
          above = s;
          split = p.split;
          last = p.last;
          below = k;
          start = omega arith;
          into = refl;
          meets = refl;
          count = omega arith;
          bytes = refl;
          one_more = omega arith;
          lo = q.base;
          apart = (omega arith, pr.1, pr.2, pr.3);
          laid = laid-here a ws c f s q p;
          at-ups = (p.here, p.next, p.above);
          over = omega tests;
          place = rw z;
        }

    -- behind a range that it touches
    stand-touching : eqb q.limit b ≡ true → Stand a ws c y s
    unfolding place_of
    stand-touching t =
        let pr = apart-rest a.base.0 a.limit.0 p.front q p.rest (here a ws c f s q p) in
        let e = eqb-true q.limit b t in
        let z : eqb s.here.limit.0 b ≡ true = rw p.here t in
        record {
          front = p.front;
          old = q ∷ p.rest;
          ups = p.rest;
          x = q.base;
          joins = 1;
          above = following_of a ws s;
          split = p.split;
          last = p.last;
          below = k;
          start = omega arith;
          into = insert-below b l proper q p.rest pr.1 e;
          meets = rw (le-ltb b q.limit (omega arith), and-false);
          count = omega arith;
          bytes = omega arith;
          one_more = omega arith;
          lo = suc q.limit;
          apart = pr.3;
          laid = (laid-here a ws c f s q p).1;
          at-ups = follows a ws c f s q p p.rest refl;
          over = over-of p.rest pr.3 e;
          place = rw z (ap (λ (v : units.Range). join_of s.prev (range_of v.base.0 l) 1 (following_of a ws s)) p.here);
        }
      where
        over-of : (rs : List Range) → Apart (suc q.limit) a.limit.0 rs → q.limit ≡ b → Over b rs
        over-of [] a e = tt
        over-of (r ∷ rs) a e = omega arith

    stand-at : Stand a ws c y s
    stand-at = by (eqb q.limit b) (λ t. stand-touching t) (λ t. stand-before t)

  pub stand : Held a ws c (Aim.Reach y.base) s → Stand a ws c y s
  stand k = go (reach b met) refl (rw (← k.kept) at (kept-reach a.base.0 a.limit.0 met f.place.arena.above f.apart y.base))
    where
      go : (o : Option Range) → reach b met ≡ o → SpotOf met o s → Stand a ws c y s
      go none e p = stand-behind (reach-none b a.base.0 a.limit.0 met f.apart e) p
      go (some q) e p =
          let r = reach-some b a.base.0 a.limit.0 p.front q p.rest (rw p.split at f.apart) (rw p.split at e) in
          stand-at q p r.0 r.1
