-- The place of a range before the ranges above it: an overlap, or the range that it becomes and what stays behind it. Assumes nothing.
use Prim.Native.Nat.{ℕ, suc, ◌+◌, ◌-◌, ◌<◌, ◌≤◌}
use mathlib.Core.Bool.{true, false}
use mathlib.Core.List.{List, [], ◌∷◌}
use mathlib.Core.Path.{◌≡◌, refl, sym, ap, ◌∙◌}
use native.Mathlib.Omega.{arith}
use lib.Dec.{eqb, ltb}
use lib.ListN.{length}
use borrow.Author.Tests.{ne_eqb, lt-ltb, eqb-true}
use Rattle.units.specs.Words.{range_of, addr}
use Rattle.units.specs.declared.Range as units
use Rattle.units.specs.inner.Aims.{is_none, none_range}
use Rattle.units.proofs.Tests.{by, tests}
use Rattle.model.specs.Marks.{Range, size, struct, total}
use Rattle.model.specs.inner.Lists.{Apart, overlaps, insert_in, plain}
use Rattle.model.proofs.Places.{overlaps-above, insert-apart-of, insert-join}
use Rattle.list_words.specs.Laying.{head_of}
use Rattle.list_words.specs.declared.Spot.{Spot}
use Rattle.list_words.proofs.Laid.{Laid}
use Rattle.std.specs.Prelude.{Some, None, is_some, not}
use Rattle.list_edits.specs.inner.Places.{placed, join_of}
use Rattle.list_edits.specs.declared.Join.{Join}

-- a spot at the first of some ranges, or behind the last
abbrev pub Above : List Range → Spot → Type 0
Above [] s = (s.here ≡ none_range) × (s.next ≡ addr 0)
Above (r ∷ rs) s = (s.here ≡ struct r) × (s.next ≡ addr (head_of rs)) × (0 < r.base)

-- the first of some ranges ends above b
abbrev pub Over : ℕ → List Range → Type 0
Over b [] = Unit {0}
Over b (r ∷ rs) = b < r.limit

-- [x, l), which holds the request [b, l), before the ranges ups: what it becomes, and what stays behind it
pub record ChainJoined (base x b l : ℕ) (ws : List ℕ) (p : units.Range) (joins : ℕ) (ups : List Range) (j : Join) : Type 0 where
  pub tail : List Range
  pub more : ℕ
  pub into : insert_in x l ups ≡ plain j.fresh ∷ tail
  pub prev : j.prev ≡ p
  pub next : j.next ≡ addr (head_of tail)
  pub low : j.fresh.base.0 ≡ x
  pub high : l ≤ j.fresh.limit.0
  pub count : length ups + 1 ≡ suc (length tail) + more
  pub joined : j.joins ≡ joins + more
  pub bytes : total ups + (l - x) ≡ size (plain j.fresh) + total tail
  pub laid : Laid base tail ws

module _ (base x b l : ℕ) (ws : List ℕ) (p : units.Range) (joins : ℕ) (xb : x ≤ b) (bl : b < l) where
  abbrev Out : List Range → Join → Type 0
  Out ups j = ChainJoined base x b l ws p joins ups j

  -- nothing above
  join-none : (s : Spot) → Above [] s → Out [] (placed p (range_of x l) s.next joins)
  join-none s a =
      record {
        tail = [];
        more = 0;
        into = refl;
        prev = refl;
        next = a.1;
        low = refl;
        high = omega arith;
        count = refl;
        joined = omega arith;
        bytes = omega arith;
        laid = tt;
      }

  module _ (lo hi : ℕ) (r : Range) (rs : List Range) (h : Apart lo hi (r ∷ rs)) (s : Spot) (a : Above (r ∷ rs) s) where
    here-some : is_none s.here ≡ false
    here-some = rw a.0 (ne_eqb r.base 0 (λ z. omega (arith, a.2)))

    here-base : s.here.base.0 ≡ r.base
    here-base = ap (λ (v : units.Range). v.base.0) a.0

    disjoint-of : l ≤ r.base → overlaps b l (r ∷ rs) ≡ false
    disjoint-of k = overlaps-above b l bl l hi (r ∷ rs) (omega arith) (k, h.1, h.2, h.3)

    join-some : Laid base (r ∷ rs) ws → (j : Join) → join_of p (range_of x l) joins s ≡ Some j → Out (r ∷ rs) j
    join-some d j o =
        by (ltb s.here.base.0 l)
        (λ t. let e : None ≡ Some j = rw (here-some, t) at o in absurd cc)
        (λ t. by (eqb s.here.base.0 l)
        (λ u. let k : r.base ≡ l = sym here-base ∙ eqb-true s.here.base.0 l u in
        let w : s.here.limit.0 ≡ r.limit = ap (λ (v : units.Range). v.limit.0) a.0 in
        let e : Some (placed p (range_of x s.here.limit.0) s.next (joins + 1)) ≡ Some j = rw (here-some, t, u) at o in
        let f : placed p (range_of x s.here.limit.0) s.next (joins + 1) ≡ j = cc in
        rw (← f) (record {
          tail = rs;
          more = 1;
          into = rw w (insert-join x l (omega arith) r rs (sym k));
          prev = refl;
          next = a.1;
          low = refl;
          high = omega arith;
          count = omega arith;
          joined = refl;
          bytes = rw w (omega arith);
          laid = d.1;
        }))
        (λ u. let k : l < r.base = omega (tests, here-base) in
        let e : Some (placed p (range_of x l) s.here.base joins) ≡ Some j = rw (here-some, t, u) at o in
        let f : placed p (range_of x l) s.here.base joins ≡ j = cc in
        rw (← f) (record {
          tail = r ∷ rs;
          more = 0;
          into = insert-apart-of x l (omega arith) r rs k;
          prev = refl;
          next = ap (λ (v : units.Range). v.base) a.0;
          low = refl;
          high = omega arith;
          count = omega arith;
          joined = omega arith;
          bytes = omega arith;
          laid = d;
        })))

    -- it overlaps r where r begins below its limit
    join-meets : b < r.limit → overlaps b l (r ∷ rs) ≡ not (is_some (join_of p (range_of x l) joins s))
    join-meets k =
        by (ltb s.here.base.0 l)
        (λ t. let m : r.base < l = omega (tests, here-base) in rw (here-some, t, lt-ltb r.base l m, lt-ltb b r.limit k))
        (λ t. disjoint-of (omega (tests, here-base)) ∙ sym (no-overlap t))
      where
        no-overlap : ltb s.here.base.0 l ≡ false → not (is_some (join_of p (range_of x l) joins s)) ≡ false
        no-overlap t = by (eqb s.here.base.0 l) (λ u. rw (here-some, t, u)) (λ u. rw (here-some, t, u))

  pub joins-free : (lo hi : ℕ) (ups : List Range) (s : Spot) → Apart lo hi ups → Laid base ups ws → Above ups s →
      (j : Join) → join_of p (range_of x l) joins s ≡ Some j → Out ups j
  joins-free lo hi [] s h d a j o =
      let z : is_none s.here ≡ true = rw a.0 in
      let e : Some (placed p (range_of x l) s.next joins) ≡ Some j = rw z at o in
      let f : placed p (range_of x l) s.next joins ≡ j = cc in
      rw (← f) (join-none s a)
  joins-free lo hi (r ∷ rs) s h d a j o = join-some lo hi r rs h s a d j o

  pub joins-meets : (lo hi : ℕ) (ups : List Range) (s : Spot) → Apart lo hi ups → Above ups s → Over b ups →
      overlaps b l ups ≡ not (is_some (join_of p (range_of x l) joins s))
  joins-meets lo hi [] s h a o = let z : is_none s.here ≡ true = rw a.0 in rw z
  joins-meets lo hi (r ∷ rs) s h a o = join-meets lo hi r rs h s a o
