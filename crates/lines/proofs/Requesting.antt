-- A line that was read byte by byte asks for what its bytes ask for. Assumes nothing.
use Prim.Native.Nat.{ℕ}
use mathlib.Core.Bool.{Bool}
use mathlib.Core.List.{List, [], ◌∷◌}
use mathlib.Core.Path.{◌≡◌, refl, sym, ap, ◌∙◌}
use lib.Dec.{eqb}
use Rattle.units.proofs.Tests.{by}
use Rattle.lines.specs.Names.{arena_name, insert_name, delete_name, first_name, last_name, largest_name, walk_name, describe_name}
use Rattle.lines.specs.Names.{none_name, low_name, high_name, entire_name}
use Rattle.lines.specs.Requests.{space, onto, parted, split, number, same, mode_of, request_of, parse}
use Rattle.lines.specs.inner.Reading.{grown, with_field, at_start, next_of, read_more, name_in, number_in, fields_in, request_in}
use Rattle.lines.specs.declared.Field.{Field}
use Rattle.lines.specs.declared.Line.{Line}
use Rattle.lines.specs.declared.Reader.{Reader}
use Rattle.lines.proofs.Fields.{field_of, number_read, name-read}
use Rattle.lines.proofs.Numerals.{grown-all}
use Rattle.lines.proofs.Pieces.{Some, split-some}

-- a line with more fields
abbrev line_of : Line → List (List ℕ) → Line
line_of l [] = l
line_of l (p ∷ ps) = line_of (with_field l (field_of p)) ps

-- a line and a field that has begun, with the pieces of what follows
abbrev line_after : Line → Field → List (List ℕ) → Line
line_after l f [] = l
line_after l f (p ∷ ps) = line_of (with_field l (grown-all f p)) ps

-- the line of a reader, if it ends here
abbrev ended : Reader → Line
ended r = with_field r.line r.field

from-space : (l : Line) (ps : List (List ℕ)) → line_after l Field.Empty ps ≡ line_of l ps
from-space l [] = refl
from-space l (p ∷ ps) = refl

from_byte : (l : Line) (f : Field) (b : ℕ) (ps : List (List ℕ)) → Some ps → line_after l (grown f b) ps ≡ line_after l f (onto b ps)
from_byte l f b ps s = rw s.is

fields_read : (l : Line) (f : Field) (bs : List ℕ) → ended (read_more (record { line = l; field = f }) bs) ≡ line_after l f (split space bs)
fields_read l f [] = refl
fields_read l f (b ∷ bs) =
    by (eqb b 32)
    (λ e.
    let n : next_of (record { line = l; field = f }) b ≡ record { line = with_field l f; field = Field.Empty } = rw e in
    let t : ended (read_more (next_of (record { line = l; field = f }) b) bs) ≡ line_of (with_field l f) (split space bs) =
    ap (λ (r : Reader). ended (read_more r bs)) n ∙
    (fields_read (with_field l f) Field.Empty bs ∙ from-space (with_field l f) (split space bs)) in
    t ∙ ap (λ (u : Bool). line_after l f (parted u b (split space bs))) (sym e))
    (λ e.
    let n : next_of (record { line = l; field = f }) b ≡ record { line = l; field = grown f b } = rw e in
    let t : ended (read_more (next_of (record { line = l; field = f }) b) bs) ≡ line_after l f (onto b (split space bs)) =
    ap (λ (r : Reader). ended (read_more r bs)) n ∙
    (fields_read l (grown f b) bs ∙ from_byte l f b (split space bs) (split-some space bs)) in
    t ∙ ap (λ (u : Bool). line_after l f (parted u b (split space bs))) (sym e))

-- a fifth field makes a line of none of the forms
more_stays : (ps : List (List ℕ)) → line_of Line.More ps ≡ Line.More
more_stays [] = refl
more_stays (p ∷ ps) = more_stays ps

mode-read : (p : List ℕ) → mode_of name_in number_in (field_of p) ≡ mode_of same number p
mode-read p = rw (name-read p none_name refl, name-read p low_name refl, name-read p high_name refl, name-read p entire_name refl)

forms-read : (ps : List (List ℕ)) → request_of name_in number_in (fields_in (line_of Line.Zero ps)) ≡ request_of same number ps
forms-read [] = refl
forms-read (w ∷ []) = rw (name-read w describe_name refl)
forms-read (w ∷ x ∷ []) = rw (name-read w walk_name refl, number_read x)
forms-read (w ∷ x ∷ y ∷ []) =
    rw (
      name-read w insert_name refl,
      name-read w delete_name refl,
      name-read w first_name refl,
      name-read w last_name refl,
      name-read w largest_name refl,
      number_read x,
      number_read y,
      mode-read y,
    )
forms-read (w ∷ x ∷ y ∷ z ∷ []) = rw (name-read w arena_name refl, number_read x, number_read y, number_read z)
forms-read (w ∷ x ∷ y ∷ z ∷ v ∷ ps) = rw (more_stays ps)

pub reading : (line : List ℕ) → request_in (read_more at_start line) ≡ parse line
reading line =
    ap (λ (l : Line). request_of name_in number_in (fields_in l))
    (fields_read Line.Zero Field.Empty line ∙ from-space Line.Zero (split space line)) ∙
    forms-read (split space line)
