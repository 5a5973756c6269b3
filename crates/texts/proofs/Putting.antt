-- The loop that writes the digits of a number, the last one first, and the text that it leaves. Assumes nothing.
use Prim.Native.Nat.{ℕ, suc, ◌+◌, ◌-◌, ◌/◌, ◌%◌, ◌≤◌, ◌<◌}
use mathlib.Core.List.{List, [], ◌∷◌, ◌++◌, append-nil}
use mathlib.Core.Path.{◌≡◌, refl, sym, ap, ◌∙◌}
use native.Mathlib.Omega.{arith}
use lib.ListN.{length, take, drop, get_or, set, length-set}
use lib.Seq.{length-take-le, take-suc, append_snoc, set_at, take-set-le, take-set-lt, drop-set-lt}
use Rattle.texts.specs.Decimal.{decimal}
use Rattle.texts.specs.inner.Writing.{Wrote}
use Rattle.texts.proofs.Decimal.{decimal-some, decimal-most}
use Rattle.texts.proofs.Writing.{wrote-byte, wrote_then}
use Rattle.texts.proofs.Spelling.{Front, front-start, front-next, front-done, front-longer}

-- a byte written in front of a text
one_more : (out t : List ℕ) (j next v : ℕ) → j < next → next ≤ length out → take next out ≡ take (suc j) out ++ t →
    take next (set out j v) ≡ take j out ++ (v ∷ t)
one_more out t j next v p q e =
    let l = length-take-le j out (omega arith) in
    let s : take next out ≡ take j out ++ (get_or out j 0 ∷ t) =
    e ∙ ap (λ (x : List ℕ). x ++ t) (take-suc out j 0 (omega arith)) ∙ append_snoc (take j out) (get_or out j 0) t in
    take-set-lt next out j v p ∙ ap (λ (x : List ℕ). set x j v) s ∙ set_at (take j out) (get_or out j 0) t v j l

-- the bytes from i on are the last digits of n, and the digits of rest are still to be written
pub record Putting (before : List ℕ) (at n next : ℕ) (out : List ℕ) (i rest : ℕ) : Type 0 where
  pub text : List ℕ
  pub front : Front n rest text
  pub room : at + 21 ≤ length before
  pub size : length out ≡ length before
  pub stop : next ≡ at + length (decimal n)
  pub few : next ≤ at + 20
  pub place : i + length text ≡ next
  pub above : at < i
  pub head : take at out ≡ take at before
  pub there : take next out ≡ take i out ++ text
  pub behind : drop next out ≡ drop next before

pub put-start : (before : List ℕ) (at n next : ℕ) → at + 21 ≤ length before → n < 18446744073709551616 → next ≡ at + length (decimal n) →
    Putting before at n next before next n
put-start before at n next r p e =
    let d = decimal-some n in
    let m = decimal-most n in
    record {
      text = [];
      front = front-start n p;
      room = r;
      size = refl;
      stop = e;
      few = omega arith;
      place = omega arith;
      above = omega arith;
      head = refl;
      there = sym (append-nil (take next before));
      behind = refl;
    }

module _ (before : List ℕ) (at n next : ℕ) (out : List ℕ) (i rest : ℕ) (h : Putting before at n next out i rest) where
  pub put_next : 9 < rest → (v j rest' : ℕ) (out' : List ℕ) → v ≡ 48 + rest % 10 → j ≡ i - 1 → rest' ≡ rest / 10 → out' ≡ set out j v → Putting before at n next out' j rest'
  put_next p v j rest' out' e d q o =
      let f = front-next n rest h.text h.front p in
      let g = front-longer n (rest / 10) ((48 + rest % 10) ∷ h.text) f in
      let room = h.room in
      let size = h.size in
      let stop = h.stop in
      let few = h.few in
      let place = h.place in
      let above = h.above in
      let s : suc j ≡ i = omega arith in
      let w : take next out ≡ take (suc j) out ++ h.text = rw s h.there in
      record {
        text = v ∷ h.text;
        front = rw (e, q) f;
        room = room;
        size = rw o (length-set out j v ∙ size);
        stop = stop;
        few = few;
        place = omega arith;
        above = omega arith;
        head = rw o (take-set-le at out j v (omega arith) ∙ h.head);
        there = rw (o, take-set-le j out j v (omega arith)) (one_more out h.text j next v (omega arith) (omega arith) w);
        behind = rw o (drop-set-lt next out j v (omega arith) ∙ h.behind);
      }

  last-digit : rest ≤ 9 → (v : ℕ) → v ≡ 48 + rest → Wrote 20 before at (decimal n) (set out at v) next
  last-digit p v d =
      let f = front-done n rest h.text h.front p in
      let l : length (decimal n) ≡ 1 + length h.text = rw f (omega arith) in
      let room = h.room in
      let size = h.size in
      let stop = h.stop in
      let few = h.few in
      let place = h.place in
      let s : suc at ≡ i = omega arith in
      let w : take next out ≡ take (suc at) out ++ h.text = rw s h.there in
      let x : v ∷ h.text ≡ decimal n = rw d (sym f) in
      record {
        size = length-set out at v ∙ size;
        end = stop;
        bound = few;
        text_there = one_more out h.text at next v (omega arith) (omega arith) w ∙ rw (h.head, x) refl;
        behind = drop-set-lt next out at v (omega arith) ∙ h.behind;
      }

  pub put-done : rest ≤ 9 → (v e r : ℕ) (out' : List ℕ) → v ≡ 48 + rest → r ≡ next + 1 → out' ≡ set (set out at v) next e → Wrote 21 before at (decimal n ++ (e ∷ [])) out' r
  put-done p v e r out' d q o =
      let room = h.room in
      let size = h.size in
      let few = h.few in
      let last = set out at v in
      let l = length-set out at v in
      rw o (wrote_then (last-digit p v d) (wrote-byte last next e r (omega arith) q))
