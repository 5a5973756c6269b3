-- Contracts of the reader: a line read byte by byte. Assumes nothing.
use Rattle.std.specs.Prelude.{ℕ, ◌+◌, ◌*◌, ◌-◌, ◌≤◌, ◌<◌, Bool, true, false, cond, ◌&&◌, not, List, [], ◌∷◌, ◌≡◌, eqb, leb, ltb, length, get_or, take, drop, Option, Some, None}
use Rattle.lines.specs.declared.Field.{Field}
use Rattle.lines.specs.declared.Line.{Line}
use Rattle.lines.specs.declared.Read.{Read}
use Rattle.lines.specs.declared.Reader.{Reader}
use Rattle.lines.specs.declared.Request.{Request}
use Rattle.lines.specs.Requests.{space, newline, word_limit, is_digit, every, request_of}

abbrev pub is_letter : ℕ → Bool
is_letter b = leb 97 b && leb b 122

-- A digit behind a number to a base, unless the number passes 2^64 - 1.
abbrev pub with_digit : ℕ → ℕ → ℕ → Option ℕ
with_digit base v d = cond (ltb (v * base + d) word_limit) (Some (v * base + d)) None

abbrev pub as_name : Option ℕ → Field
as_name (Some v) = Field.Name v
as_name None = Field.Neither

abbrev pub as_number : Option ℕ → Field
as_number (Some v) = Field.Number v
as_number None = Field.Neither

-- A letter behind a name, a digit behind a number.
abbrev pub name_with : ℕ → ℕ → Field
name_with w b = cond (is_letter b) (as_name (with_digit 256 w b)) Field.Neither

abbrev pub number_with : ℕ → ℕ → Field
number_with v b = cond (is_digit b) (as_number (with_digit 10 v (b - 48))) Field.Neither

abbrev pub grown : Field → ℕ → Field
grown Field.Empty b = cond (is_letter b) (name_with 0 b) (number_with 0 b)
grown (Field.Name w) b = name_with w b
grown (Field.Number v) b = number_with v b
grown Field.Neither b = Field.Neither

abbrev pub with_field : Line → Field → Line
with_field Line.Zero f = Line.One f
with_field (Line.One w) f = Line.Two w f
with_field (Line.Two w x) f = Line.Three w x f
with_field (Line.Three w x y) f = Line.Four w x y f
with_field (Line.Four w x y z) f = Line.More
with_field Line.More f = Line.More

-- No byte has come yet.
abbrev pub at_start : Reader
at_start = record { line = Line.Zero; field = Field.Empty }

abbrev pub next_of : Reader → ℕ → Reader
next_of r b =
    cond (eqb b space)
    (record { line = with_field r.line r.field; field = Field.Empty })
    (record { line = r.line; field = grown r.field b })

abbrev pub read_more : Reader → List ℕ → Reader
read_more r [] = r
read_more r (b ∷ bs) = read_more (next_of r b) bs

-- Letters as a number to the base 256.
abbrev pub pack_from : ℕ → List ℕ → ℕ
pack_from w [] = w
pack_from w (b ∷ bs) = pack_from (w * 256 + b) bs

-- Whether a field is a name, and which number it is.
abbrev pub is_packed : Field → ℕ → Bool
is_packed Field.Empty n = false
is_packed (Field.Name w) n = eqb w n
is_packed (Field.Number v) n = false
is_packed Field.Neither n = false

abbrev pub name_in : Field → List ℕ → Bool
name_in f t = is_packed f (pack_from 0 t)

abbrev pub number_in : Field → Option ℕ
number_in Field.Empty = None
number_in (Field.Name w) = None
number_in (Field.Number v) = Some v
number_in Field.Neither = None

-- The fields of a line; of more than four, five that are neither name nor number.
abbrev pub fields_in : Line → List Field
fields_in Line.Zero = []
fields_in (Line.One w) = w ∷ []
fields_in (Line.Two w x) = w ∷ x ∷ []
fields_in (Line.Three w x y) = w ∷ x ∷ y ∷ []
fields_in (Line.Four w x y z) = w ∷ x ∷ y ∷ z ∷ []
fields_in Line.More = Field.Neither ∷ Field.Neither ∷ Field.Neither ∷ Field.Neither ∷ Field.Neither ∷ []

-- What the line asks for, if it ends here and has a form.
abbrev pub request_in : Reader → Option Request
request_in r = request_of name_in number_in (fields_in (with_field r.line r.field))

abbrev pub no_field : Line → Bool
no_field Line.Zero = true
no_field (Line.One w) = false
no_field (Line.Two w x) = false
no_field (Line.Three w x y) = false
no_field (Line.Four w x y z) = false
no_field Line.More = false

abbrev pub no_byte : Field → Bool
no_byte Field.Empty = true
no_byte (Field.Name w) = false
no_byte (Field.Number v) = false
no_byte Field.Neither = false

-- A byte of the line has come.
abbrev pub begun_in : Reader → Bool
begun_in r = not (no_field r.line && no_byte r.field)

abbrev pub in_line : ℕ → Bool
in_line b = not (eqb b newline)

-- What was read of the bytes from a position on: a part of a line, up to a newline or the end.
pub record ReadTo (r : Reader) (bytes : List ℕ) (from : ℕ) (o : Read) : Type 0 where
  pub start : from ≤ o.at
  pub fits : o.at ≤ length bytes
  pub reader : o.reader ≡ read_more r (take (o.at - from) (drop from bytes))
  pub line : every in_line (take (o.at - from) (drop from bytes)) ≡ true
  pub stop : o.at < length bytes → get_or bytes o.at 0 ≡ newline
