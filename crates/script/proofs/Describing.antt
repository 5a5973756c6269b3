-- A description that goes on from each range's limit prints every range once. Assumes nothing.
use Prim.Native.Nat.{ℕ, suc, ◌≤◌, ◌<◌}
use mathlib.Core.Bool.{true}
use mathlib.Core.List.{List, [], ◌∷◌}
use mathlib.Core.Option.{Option, none, some}
use mathlib.Core.Path.{◌≡◌, refl, sym, ◌∙◌, ap, subst, sym, ◌∙◌}
use native.Mathlib.Omega.{arith}
use borrow.Author.Tests.{le-leb, lt-leb}
use lib.Dec.{leb}
use Rattle.units.proofs.Tests.{by, tests}
use Rattle.model.specs.Calls.{accepted, walk}
use Rattle.model.specs.Layouts.{fault, holding}
use Rattle.model.specs.inner.Lists.{Apart}
use Rattle.model.specs.Marks.{Range, rng}
use Rattle.model.specs.Reference.{from}
use Rattle.model.specs.inner.Steps.{next_from}
use Rattle.model.proofs.Choosing.{none-some}
use Rattle.model.proofs.Finding.{walk-visits}
use Rattle.model.proofs.Outcomes.{stays, call-fault, call-refused, call-accepted}
use Rattle.list_words.specs.Laying.{lay}
use Rattle.list_land.specs.Calls.{walked}
use Rattle.list_land.specs.Layout.{base, limit, arena_of, set_up, sound, read_of, walk_of, closed, layout}
use Rattle.list_land.specs.declared.ListLand.{ListLand}
use Rattle.list_land.proofs.Land.{is_call}
use Rattle.list_land.proofs.LayoutLaws.{reads-5, reads-6, held}
use Rattle.list_land.proofs.Sound.{Fine, fine}
use Rattle.texts.specs.Decimal.{line}
use Rattle.script.specs.Printed.{Turned, describe_turn, ranges_from}
use Rattle.script.specs.declared.Stage.{Stage}

-- FROM A NUMBER ON
-- all of a list that begins there
pub from_all : (x lo hi : ℕ) (rs : List Range) → x ≤ lo → Apart lo hi rs → from x rs ≡ rs
from_all x lo hi [] k h = refl
from_all x lo hi (r ∷ rs) k h =
    rw (le-leb x r.base (omega arith), from_all x (suc r.limit) hi rs (omega arith) h.3)

pub from-none : (x : ℕ) (rs : List Range) → next_from x rs ≡ none → from x rs ≡ []
from-none x [] e = refl
from-none x (r ∷ rs) e = by (leb x r.base) (λ f. none-some {r = r} (cc)) (λ f. rw (f, from-none x rs (rw f at e)))

-- the next range, and what stands from its limit on
pub from_some : (x lo hi : ℕ) (rs : List Range) (q : Range) → Apart lo hi rs → next_from x rs ≡ some q →
    (from x rs ≡ q ∷ from q.limit rs) × (lo ≤ q.base) × (q.base < q.limit)
from_some x lo hi [] q h e = none-some e
from_some x lo hi (r ∷ rs) q h e =
    by (leb x r.base)
    (λ f. let g : r ≡ q = cc in
    let first : from x (r ∷ rs) ≡ r ∷ from x rs = rw f refl in
    let behind : from r.limit (r ∷ rs) ≡ from r.limit rs = rw (lt-leb r.limit r.base h.1) refl in
    let all : from x (r ∷ rs) ≡ r ∷ from r.limit (r ∷ rs) =
    first ∙ ap (λ (ts : List Range). r ∷ ts) (from_all x (suc r.limit) hi rs (omega tests) h.3 ∙ sym (from_all r.limit (suc r.limit) hi rs (omega arith) h.3) ∙ sym behind) in
    (subst (λ (z : Range). from x (r ∷ rs) ≡ z ∷ from z.limit (r ∷ rs)) g all, rw (← g) h.0, rw (← g) h.1))
    (λ f. let w = from_some x (suc r.limit) hi rs q h.3 (rw f at e) in
    (rw (f, lt-leb q.limit r.base (omega arith)) w.0, omega arith, w.2))

none-cons : {P : Type 0} {r : Range} {rs : List Range} → [] ≡ r ∷ rs → P
none-cons e = let z : ◌≡◌ {A = ℕ} 0 1 = cc in absurd (omega arith)

-- WHAT A WALK SAYS OF A LAND
module _ (h : ListLand) (ws : List ℕ) (x : ℕ) where
  -- a refusal by 5 or 6, or a list of ranges and the next of them
  data Met : Type 0 where
    bad : (n : ℕ) → 2 < n → read_of h ws ≡ fault n → walked h ws x ≡ stays layout (walk x) h ws n → Met
    none_left : Fine h ws → read_of h ws ≡ holding (walk_of h ws).met → next_from x (walk_of h ws).met ≡ none → walked h ws x ≡ stays layout (walk x) h ws 2 → Met
    one_left : (q : Range) → Fine h ws → read_of h ws ≡ holding (walk_of h ws).met → next_from x (walk_of h ws).met ≡ some q →
        walked h ws x ≡ record { out = accepted q (rng 0 0); handle = closed h (walk_of h ws).met; words = lay (base h) (walk_of h ws).met ws } → Met

  in-sound : set_up h ws ≡ true → sound h ws ≡ true → (o : Option Range) → next_from x (walk_of h ws).met ≡ o → Met
  in-sound g s none e =
      let r = held h ws g s in
      none_left (fine h ws g s) r e (is_call (walk x) h ws ∙ call-refused layout (walk x) h ws (walk_of h ws).met r 2 refl (rw e))
  in-sound g s (some q) e =
      let r = held h ws g s in
      one_left q (fine h ws g s) r e
      (is_call (walk x) h ws ∙ call-accepted layout (walk x) h ws (walk_of h ws).met r q (rng 0 0) (walk_of h ws).met (walk-visits (arena_of h) x (walk_of h ws).met q e))

  met : Met
  met =
      by (set_up h ws)
      (λ g. by (sound h ws)
      (λ s. in-sound g s (next_from x (walk_of h ws).met) refl)
      (λ s. let r = reads-6 h ws g s in bad 6 (omega arith) r (is_call (walk x) h ws ∙ call-fault layout (walk x) h ws 6 r)))
      (λ g. let r = reads-5 h ws g in bad 5 (omega arith) r (is_call (walk x) h ws ∙ call-fault layout (walk x) h ws 5 r))

  -- a walk that is answered 0 met the next range to print
  pub goes_on : (walked h ws x).out.answer ≡ 0 →
      ranges_from x (read_of h ws) ≡ (walked h ws x).out.found ∷ ranges_from (walked h ws x).out.found.limit (read_of h ws)
  goes_on z = go met
    where
      go : Met → ranges_from x (read_of h ws) ≡ (walked h ws x).out.found ∷ ranges_from (walked h ws x).out.found.limit (read_of h ws)
      go (bad n k r o) = absurd (omega (arith, rw o at z))
      go (none_left f r e o) = absurd (omega (arith, rw o at z))
      go (one_left q f r e o) = rw (r, o) (from_some x (base h) (limit h) (walk_of h ws).met q f.apart e).0

  -- the ranges behind the first are those from its limit on
  pub next-ranges : (q : Range) (rs : List Range) → ranges_from x (read_of h ws) ≡ q ∷ rs → ranges_from q.limit (read_of h ws) ≡ rs
  next-ranges q rs p = go met
    where
      go : Met → ranges_from q.limit (read_of h ws) ≡ rs
      go (bad n k r o) = none-cons (rw r at p)
      go (none_left f r e o) = none-cons (sym (from-none x (walk_of h ws).met e) ∙ (rw r at p))
      go (one_left w f r e o) =
          let s : w ∷ from w.limit (walk_of h ws).met ≡ q ∷ rs = sym (from_some x (base h) (limit h) (walk_of h ws).met w f.apart e).0 ∙ (rw r at p) in
          let head : w ≡ q = cc in
          let tail : from w.limit (walk_of h ws).met ≡ rs = cc in
          rw (r, ← head) tail

  -- one with any other answer: nothing is left to print
  pub ends : ((walked h ws x).out.answer ≡ 0 → ⊥) → ranges_from x (read_of h ws) ≡ []
  ends z = go met
    where
      go : Met → ranges_from x (read_of h ws) ≡ []
      go (bad n k r o) = rw r
      go (none_left f r e o) = rw (r, from-none x (walk_of h ws).met e)
      go (one_left q f r e o) = absurd (z (rw o))

  -- the first line of a description
  pub describes-fault : 2 < (walked h ws x).out.answer →
      describe_turn h ws (read_of h ws) ≡ record { stage = Stage.Open h; words = ws; text = line ((walked h ws x).out.answer ∷ 0 ∷ 0 ∷ []) }
  describes-fault z = go met
    where
      go : Met → describe_turn h ws (read_of h ws) ≡ record { stage = Stage.Open h; words = ws; text = line ((walked h ws x).out.answer ∷ 0 ∷ 0 ∷ []) }
      go (bad n k r o) = rw (r, o)
      go (none_left f r e o) = absurd (omega (arith, rw o at z))
      go (one_left q f r e o) = absurd (omega (arith, rw o at z))

  abbrev described : Turned
  described = record { stage = Stage.Describing h h.base; words = ws; text = line (0 ∷ h.ranges ∷ h.bytes.0 ∷ []) }

  in-fine : Fine h ws → read_of h ws ≡ holding (walk_of h ws).met → describe_turn h ws (read_of h ws) ≡ described
  in-fine f r = rw (r, f.count, f.bytes)

  pub describes : (walked h ws x).out.answer ≤ 2 → describe_turn h ws (read_of h ws) ≡ described
  describes z = go met
    where
      go : Met → describe_turn h ws (read_of h ws) ≡ described
      go (bad n k r o) = absurd (omega (arith, rw o at z))
      go (none_left f r e o) = in-fine f r
      go (one_left q f r e o) = in-fine f r
