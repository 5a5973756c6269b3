-- A byte written, and texts written one behind the other. Assumes nothing.
use Prim.Native.Nat.{ℕ, suc, ◌+◌, ◌-◌, ◌*◌, ◌≤◌, ◌<◌}
use mathlib.Core.List.{List, [], ◌∷◌, ◌++◌, append_assoc, append-nil}
use mathlib.Core.Path.{◌≡◌, refl, sym, ap, ◌∙◌}
use native.Mathlib.Omega.{arith}
use lib.ListN.{length, take, drop, get_or, set, length-set, length-append}
use lib.Seq.{take-suc, take_all, take-suc-set, append_snoc, drop-set-lt, drop-drop}
use Rattle.texts.specs.Decimal.{decimal, line}
use Rattle.texts.specs.inner.Writing.{Wrote}
use Rattle.texts.proofs.Decimal.{decimal-some}

pub wrote-byte : (b : List ℕ) (at v r : ℕ) → at + 1 ≤ length b → r ≡ at + 1 → Wrote 1 b at (v ∷ []) (set b at v) r
wrote-byte b at v r p e =
    let s : r ≡ suc at = omega arith in
    record {
      size = length-set b at v;
      end = omega arith;
      bound = omega arith;
      text_there = rw s (take-suc-set b at v (omega arith));
      behind = drop-set-lt r b at v (omega arith);
    }

-- what is the same from a position on is the same from a later one on
pub same-behind : (a b : List ℕ) (n m : ℕ) → n ≤ m → drop n a ≡ drop n b → drop m a ≡ drop m b
same-behind a b n m k e =
    let s : n + (m - n) ≡ m = omega arith in
    let far : drop (n + (m - n)) a ≡ drop (n + (m - n)) b =
    sym (drop-drop (m - n) n a) ∙ ap (λ (l : List ℕ). drop (m - n) l) e ∙ drop-drop (m - n) n b in
    rw s at far

pub wrote_then : {k k' : ℕ} {b : List ℕ} {at : ℕ} {t a : List ℕ} {n : ℕ} {t' a' : List ℕ} {n' : ℕ} →
    Wrote k b at t a n → Wrote k' a n t' a' n' → Wrote (k + k') b at (t ++ t') a' n'
wrote_then {b = b} {at = at} {t = t} {a = a} {n = n} {t' = t'} {n' = n'} w w' =
    let e = w.end in
    let e' = w'.end in
    let m = w.bound in
    let m' = w'.bound in
    let l = length-append t t' in
    record {
      size = w'.size ∙ w.size;
      end = omega arith;
      bound = omega arith;
      text_there = w'.text_there ∙ rw w.text_there (append_assoc (take at b) t t');
      behind = w'.behind ∙ same-behind a b n n' (omega arith) w.behind;
    }

-- numbers with a space behind each
abbrev pub spaced : List ℕ → List ℕ
spaced [] = []
spaced (n ∷ ns) = (decimal n ++ (32 ∷ [])) ++ spaced ns

spaced-append : (ns ms : List ℕ) → spaced (ns ++ ms) ≡ spaced ns ++ spaced ms
spaced-append [] ms = refl
spaced-append (n ∷ ns) ms = ap (λ (l : List ℕ). (decimal n ++ (32 ∷ [])) ++ l) (spaced-append ns ms) ∙ sym (append_assoc (decimal n ++ (32 ∷ [])) (spaced ns) (spaced ms))

spaced-line : (ns : List ℕ) (n : ℕ) → spaced ns ++ (decimal n ++ (10 ∷ [])) ≡ line (ns ++ (n ∷ []))
unfolding line
spaced-line [] n = refl
spaced-line (m ∷ []) n = append_assoc (decimal m ++ (32 ∷ [])) [] _ ∙ append_snoc (decimal m) 32 (decimal n ++ (10 ∷ []))
spaced-line (m ∷ k ∷ ns) n =
    append_assoc (decimal m ++ (32 ∷ [])) (spaced (k ∷ ns)) _ ∙ ap (λ (l : List ℕ). (decimal m ++ (32 ∷ [])) ++ l) (spaced-line (k ∷ ns) n) ∙
    append_snoc (decimal m) 32 (line ((k ∷ ns) ++ (n ∷ [])))

module _ (before : List ℕ) (at i : ℕ) (ns : List ℕ) {out : List ℕ} {next : ℕ} (w : Wrote (21 * i) before at (spaced (take i ns)) out next) {out' : List ℕ} {r : ℕ} where
  pub line-more : i < length ns → Wrote 21 out next (decimal (get_or ns i 0) ++ (32 ∷ [])) out' r → Wrote (21 * (i + 1)) before at (spaced (take (i + 1) ns)) out' r
  line-more k p =
      let x = get_or ns i 0 in
      let one : i + 1 ≡ suc i = omega arith in
      let most : 21 * i + 21 ≡ 21 * (i + 1) = omega arith in
      let e : spaced (take i ns) ++ (decimal x ++ (32 ∷ [])) ≡ spaced (take (i + 1) ns) =
      ap (λ (l : List ℕ). spaced (take i ns) ++ l) (sym (append-nil (decimal x ++ (32 ∷ [])))) ∙
      (sym (spaced-append (take i ns) (x ∷ [])) ∙ ap spaced (sym (take-suc ns i 0 k) ∙ ap (λ (j : ℕ). take j ns) (sym one))) in
      rw (← most, ← e) (wrote_then w p)

  pub line-end : length ns ≤ i → i ≤ length ns → (numbers : List ℕ) (n : ℕ) → (numbers ≡ ns ++ (n ∷ [])) × (length ns + 1 ≡ length numbers) →
      Wrote 21 out next (decimal n ++ (10 ∷ [])) out' r → Wrote (21 * length numbers) before at (line numbers) out' r
  line-end k m numbers n (e, l) p =
      let most : 21 * i + 21 ≡ 21 * length numbers = omega arith in
      let t : spaced (take i ns) ++ (decimal n ++ (10 ∷ [])) ≡ line numbers =
      ap (λ (q : List ℕ). spaced q ++ (decimal n ++ (10 ∷ []))) (take_all i ns k) ∙ (spaced-line ns n ∙ ap line (sym e)) in
      rw (← most, ← t) (wrote_then w p)

-- a line is not empty
pub line-some : (n : ℕ) (ns : List ℕ) → 1 ≤ length (line (n ∷ ns))
unfolding line
line-some n [] = rw (length-append (decimal n) (10 ∷ [])) (omega (arith, decimal-some n))
line-some n (m ∷ ns) = rw (length-append (decimal n) (32 ∷ line (m ∷ ns))) (omega (arith, decimal-some n))
