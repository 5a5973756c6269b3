-- A line read in parts, and the loop that reads a part. Assumes nothing.
use Prim.Native.Nat.{ℕ, suc, ◌+◌, ◌*◌, ◌-◌, ◌≤◌, ◌<◌}
use mathlib.Core.Bool.{Bool, true, false, cond, ◌&&◌, and_assoc, and-false}
use mathlib.Core.List.{List, [], ◌∷◌, ◌++◌}
use mathlib.Core.Path.{◌≡◌, refl, sym, ap, ◌∙◌}
use native.Mathlib.Omega.{arith}
use lib.Dec.{eqb, ltb}
use lib.ListN.{length, get_or, take, drop, length-drop}
use lib.Seq.{take-suc, get_or-drop}
use borrow.Author.Tests.{ne_eqb}
use Rattle.units.proofs.Tests.{by}
use Rattle.lines.specs.Requests.{word_limit, is_digit, every}
use Rattle.lines.specs.inner.Reading.{grown, with_field, at_start, next_of, read_more, no_field, no_byte, begun_in, in_line, is_letter, name_with, number_with}
use Rattle.lines.specs.declared.Field.{Field}
use Rattle.lines.specs.declared.Line.{Line}
use Rattle.lines.specs.declared.Reader.{Reader}

pub read-more-append : (r : Reader) (a b : List ℕ) → read_more r (a ++ b) ≡ read_more (read_more r a) b
read-more-append r [] b = refl
read-more-append r (x ∷ a) b = read-more-append (next_of r x) a b

pub every_append : (t : ℕ → Bool) (a b : List ℕ) → every t (a ++ b) ≡ (every t a && every t b)
every_append t [] b = refl
every_append t (x ∷ a) b = ap (λ (p : Bool). t x && p) (every_append t a b) ∙ sym (and_assoc (t x) (every t a) (every t b))

-- the bytes from a position up to another
abbrev pub part : List ℕ → ℕ → ℕ → List ℕ
part bytes from at = take (at - from) (drop from bytes)

part-more : (bytes : List ℕ) (from at : ℕ) → from ≤ at → at < length bytes → part bytes from (at + 1) ≡ part bytes from at ++ (get_or bytes at 0 ∷ [])
part-more bytes from at h k =
    let n : at + 1 - from ≡ suc (at - from) = omega arith in
    let m : from + (at - from) ≡ at = omega arith in
    let g : get_or (drop from bytes) (at - from) 0 ≡ get_or bytes at 0 = get_or-drop from bytes (at - from) 0 ∙ ap (λ (i : ℕ). get_or bytes i 0) m in
    let l : at - from < length (drop from bytes) = omega (arith, length-drop from bytes) in
    ap (λ (i : ℕ). take i (drop from bytes)) n ∙ (take-suc (drop from bytes) (at - from) 0 l ∙
    ap (λ (b : ℕ). part bytes from at ++ (b ∷ [])) g)

-- at each turn the reader has read the bytes up to here, and none is a newline
pub record Along (r : Reader) (bytes : List ℕ) (from : ℕ) (reader : Reader) (at : ℕ) : Type 0 where
  pub start : from ≤ at
  pub fits : at ≤ length bytes
  pub so_far : reader ≡ read_more r (part bytes from at)
  pub line : every in_line (part bytes from at) ≡ true

module _ (r : Reader) (bytes : List ℕ) (from : ℕ) where
  module _ (reader : Reader) (at : ℕ) (a : Along r bytes from reader at) where
    pub along-next : (q : Reader) → at < length bytes → (get_or bytes at 0 ≡ 10 → ⊥) → q ≡ next_of reader (get_or bytes at 0) →
        Along r bytes from q (at + 1)
    along-next q h k e =
        let p : part bytes from (at + 1) ≡ part bytes from at ++ (get_or bytes at 0 ∷ []) = part-more bytes from at a.start h in
        let m : read_more r (part bytes from (at + 1)) ≡ next_of reader (get_or bytes at 0) =
        ap (read_more r) p ∙ (read-more-append r (part bytes from at) (get_or bytes at 0 ∷ []) ∙ ap (λ (s : Reader). next_of s (get_or bytes at 0)) (sym a.so_far)) in
        let l : every in_line (part bytes from (at + 1)) ≡ true =
        ap (every in_line) p ∙ (every_append in_line (part bytes from at) (get_or bytes at 0 ∷ []) ∙ rw (a.line, ne_eqb (get_or bytes at 0) 10 k)) in
        record { start = omega arith; fits = omega arith; so_far = e ∙ sym m; line = l }

-- a byte of a line has come
no-field-with : (l : Line) (f : Field) → no_field (with_field l f) ≡ false
no-field-with Line.Zero f = refl
no-field-with (Line.One w) f = refl
no-field-with (Line.Two w x) f = refl
no-field-with (Line.Three w x y) f = refl
no-field-with (Line.Four w x y z) f = refl
no-field-with Line.More f = refl

no-byte-name : (w b : ℕ) → no_byte (name_with w b) ≡ false
no-byte-name w b = by (is_letter b) (λ e. by (ltb (w * 256 + b) word_limit) (λ f. rw (e, f)) (λ f. rw (e, f))) (λ e. rw e)

no-byte-number : (v b : ℕ) → no_byte (number_with v b) ≡ false
no-byte-number v b = by (is_digit b) (λ e. by (ltb (v * 10 + (b - 48)) word_limit) (λ f. rw (e, f)) (λ f. rw (e, f))) (λ e. rw e)

either : (t : Bool) (x y : Field) → no_byte x ≡ false → no_byte y ≡ false → no_byte (cond t x y) ≡ false
either true x y p q = p
either false x y p q = q

no-byte-grown : (f : Field) (b : ℕ) → no_byte (grown f b) ≡ false
no-byte-grown Field.Empty b = either (is_letter b) (name_with 0 b) (number_with 0 b) (no-byte-name 0 b) (no-byte-number 0 b)
no-byte-grown (Field.Name w) b = no-byte-name w b
no-byte-grown (Field.Number v) b = no-byte-number v b
no-byte-grown Field.Neither b = refl

-- each byte makes a reader one of a line that has begun
begun-next : (r : Reader) (b : ℕ) → begun_in (next_of r b) ≡ true
begun-next r b =
    by (eqb b 32) (λ e. rw (e, no-field-with r.line r.field)) (λ e. rw (e, no-byte-grown r.field b, and-false (no_field r.line)))

begun_more : (r : Reader) (bs : List ℕ) → begun_in r ≡ true → begun_in (read_more r bs) ≡ true
begun_more r [] e = e
begun_more r (b ∷ bs) e = begun_more (next_of r b) bs (begun-next r b)

pub begun-some : (b : ℕ) (bs : List ℕ) → begun_in (read_more at_start (b ∷ bs)) ≡ true
begun-some b bs = begun_more (next_of at_start b) bs (begun-next at_start b)
