-- The loop that prints a description. Assumes nothing.
use Prim.Native.Nat.{ℕ, ◌+◌, ◌-◌, ◌≤◌, ◌<◌}
use mathlib.Core.List.{List, [], ◌∷◌, ◌++◌, append_assoc}
use mathlib.Core.Path.{◌≡◌, sym, ap, ◌∙◌}
use native.Mathlib.Omega.{arith}
use borrow.Author.Tests.{le-leb, lt-leb}
use lib.ListN.{length, take, drop}
use Rattle.units.specs.Words.{addr}
use Rattle.units.specs.declared.Addr.{Addr}
use Rattle.model.specs.Marks.{Range}
use Rattle.list_land.specs.Calls.{walked, changed}
use Rattle.list_land.specs.Layout.{read_of}
use Rattle.list_land.specs.declared.Changed.{Changed}
use Rattle.list_land.specs.declared.ListLand.{ListLand}
use Rattle.texts.specs.Decimal.{line}
use Rattle.texts.specs.inner.Writing.{Wrote}
use Rattle.texts.proofs.Writing.{line-some, same-behind}
use Rattle.script.specs.Printed.{ranges_from}
use Rattle.script.specs.Calls.{Told, onto, tell}
use Rattle.script.specs.inner.Feeding.{Tells}
use Rattle.script.specs.declared.Stage.{Stage}
use Rattle.script.proofs.Buffers.{text-end, text-over}
use Rattle.script.proofs.Describing.{goes_on, ends}

-- TELLING
pub tell-on : (h : ListLand) (x : Addr) (room : ℕ) (r : Range) (rs : List Range) → 42 ≤ room →
    tell h x room (r ∷ rs) ≡ onto (line (r.base ∷ r.limit ∷ [])) (tell h (addr r.limit) (room - length (line (r.base ∷ r.limit ∷ []))) rs)
tell-on h x room r rs k = rw (le-leb 42 room k)

pub tell_none : (h : ListLand) (x : Addr) (room : ℕ) → 42 ≤ room → tell h x room [] ≡ record { stage = Stage.Open h; text = [] }
tell_none h x room k = rw (le-leb 42 room k)

pub tell-short : (h : ListLand) (x : Addr) (room : ℕ) (rs : List Range) → room < 42 → tell h x room rs ≡ record { stage = Stage.Describing h x; text = [] }
tell-short h x room [] k = rw (lt-leb 42 room k)
tell-short h x room (r ∷ rs) k = rw (lt-leb 42 room k)

onto-onto : (a b : List ℕ) (t : Told) → onto a (onto b t) ≡ onto (a ++ b) t
onto-onto a b t = let e = sym (append_assoc a b t.text) in λ i. record { stage = t.stage; text = e i }

-- the lines up to an address stand in the buffer
pub record Telling (h : ListLand) (ws start : List ℕ) (x : Addr) (out : List ℕ) (y : Addr) (at : ℕ) : Type 0 where
  pub size : length out ≡ length start
  pub fits : at ≤ length start
  pub rest : drop at out ≡ drop at start
  pub same :
      tell h x (length start) (ranges_from x.0 (read_of h ws))
      ≡ onto (take at out) (tell h y (length start - at) (ranges_from y.0 (read_of h ws)))

module _ (h : ListLand) (ws start : List ℕ) (x : Addr) (out : List ℕ) (y : Addr) (at : ℕ) (t : Telling h ws start x out y at) where
  told-by : (s : Stage) → tell h y (length start - at) (ranges_from y.0 (read_of h ws)) ≡ record { stage = s; text = [] } →
      Tells (tell h x (length start) (ranges_from x.0 (read_of h ws))) start out (record { stage = s; at = at })
  told-by s e =
      let n = t.size in
      let k : at ≤ length out = omega (arith, t.fits) in
      let f : tell h x (length start) (ranges_from x.0 (read_of h ws)) ≡ record { stage = s; text = take at out ++ [] } = t.same ∙ ap (onto (take at out)) e in
      let m = text-end start out at k t.rest in
      rw f (record { turn = λ i. record { stage = s; at = m i }; buffer = text-over start out at k t.rest })

  module _ (c : Changed) (i : c ≡ changed (walked h ws y.0)) where
    -- the next range
    pub tell-next : c.answer ≡ 0 → (p q : ℕ) → p ≡ c.range.base.0 → q ≡ c.range.limit.0 → at + 42 ≤ length out →
        (out' : List ℕ) (k : ℕ) → Wrote 42 out at (line (p ∷ q ∷ [])) out' k → Telling h ws start x out' c.range.limit k
    tell-next z p q e f room out' k w =
        let r = (walked h ws y.0).out.found in
        let n = w.size in
        let m = w.bound in
        let s = t.size in
        let l = line (r.base ∷ r.limit ∷ []) in
        let g = goes_on h ws y.0 (rw i at z) in
        let v : take k out' ≡ take at out ++ l = rw (e, f, i) at w.text_there in
        let u : k ≡ at + length l = rw (e, f, i) at w.end in
        let left : (length start - at) - length l ≡ length start - k = omega arith in
        let one : tell h y (length start - at) (ranges_from y.0 (read_of h ws)) ≡ onto l (tell h (addr r.limit) (length start - k) (ranges_from r.limit (read_of h ws))) =
        ap (tell h y (length start - at)) g ∙ tell-on h y (length start - at) r (ranges_from r.limit (read_of h ws)) (omega arith) ∙ ap (λ (room : ℕ). onto l (tell h (addr r.limit) room (ranges_from r.limit (read_of h ws)))) left in
        record {
          size = omega arith;
          fits = omega arith;
          rest = w.behind ∙ same-behind out start at k (omega arith) t.rest;
          same = t.same ∙ ap (onto (take at out)) one ∙ onto-onto (take at out) l (tell h (addr r.limit) (length start - k) (ranges_from r.limit (read_of h ws))) ∙ rw (i, v);
        }

    -- no range is left
    pub tell-end : (c.answer ≡ 0 → ⊥) → 42 ≤ length start - at →
        Tells (tell h x (length start) (ranges_from x.0 (read_of h ws))) start out (record { stage = Stage.Open h; at = at })
    tell-end z k = told-by (Stage.Open h) (ap (tell h y (length start - at)) (ends h ws y.0 (rw i at z)) ∙ tell_none h y (length start - at) k)

  -- no room is left
  pub tell-full : length start - at < 42 → Tells (tell h x (length start) (ranges_from x.0 (read_of h ws))) start out (record { stage = Stage.Describing h y; at = at })
  tell-full m = told-by (Stage.Describing h y) (tell-short h y (length start - at) (ranges_from y.0 (read_of h ws)) m)

-- a line takes room
pub tell-less : (a b at : ℕ) {out out' : List ℕ} {k w : ℕ} → Wrote w out at (line (a ∷ b ∷ [])) out' k → at < k
tell-less a b at w = let e = w.end in omega (arith, line-some a (b ∷ []))
