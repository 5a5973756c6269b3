-- Lines of bytes and what they ask for: document 01, 'The program that plays requests'. Assumes nothing.
use Rattle.std.specs.Prelude.{ℕ, ◌+◌, ◌*◌, ◌-◌, Bool, true, false, cond, ◌&&◌, List, [], ◌∷◌, eqb, leb, ltb, Option, Some, None}
use Rattle.units.specs.Words.{addr, range_of}
use Rattle.units.specs.declared.Mode.{Mode}
use Rattle.units.specs.declared.Range.{Range}
use Rattle.units.specs.declared.Which.{Which}
use Rattle.lines.specs.declared.Request.{Request}
use Rattle.lines.specs.Names.{arena_name, insert_name, delete_name, first_name, last_name, largest_name, walk_name, describe_name}
use Rattle.lines.specs.Names.{none_name, low_name, high_name, entire_name}

abbrev pub space : ℕ
space = 32

abbrev pub newline : ℕ
newline = 10

-- The first number past those of a word: 2^64.
abbrev pub word_limit : ℕ
word_limit = 18446744073709551616

-- A byte in front of the first piece.
abbrev pub onto : ℕ → List (List ℕ) → List (List ℕ)
onto b [] = (b ∷ []) ∷ []
onto b (p ∷ ps) = (b ∷ p) ∷ ps

-- One byte more in front: a separator begins a new piece.
abbrev pub parted : Bool → ℕ → List (List ℕ) → List (List ℕ)
parted true b ps = [] ∷ ps
parted false b ps = onto b ps

-- The pieces of a text between its separators: one more than there are separators. The fields of a line stand between its
-- spaces, the lines of an input between its newlines.
abbrev pub split : ℕ → List ℕ → List (List ℕ)
split sep [] = [] ∷ []
split sep (b ∷ bs) = parted (eqb b sep) b (split sep bs)

abbrev pub every : (ℕ → Bool) → List ℕ → Bool
every t [] = true
every t (b ∷ bs) = t b && every t bs

abbrev pub is_digit : ℕ → Bool
is_digit b = leb 48 b && leb b 57

-- The value of digits behind digits of the value v.
abbrev pub value_from : ℕ → List ℕ → ℕ
value_from v [] = v
value_from v (b ∷ bs) = value_from (v * 10 + (b - 48)) bs

-- A decimal number: one digit or more, leading zeros allowed, at most 2^64 - 1.
abbrev pub number : List ℕ → Option ℕ
number [] = None
number (b ∷ bs) =
    cond (every is_digit (b ∷ bs) && ltb (value_from 0 (b ∷ bs)) word_limit)
    (Some (value_from 0 (b ∷ bs)))
    None

-- The field is this name.
abbrev pub same : List ℕ → List ℕ → Bool
same [] [] = true
same [] (y ∷ ys) = false
same (x ∷ xs) [] = false
same (x ∷ xs) (y ∷ ys) = eqb x y && same xs ys

-- A form with its numbers; without one of them it is no form.
abbrev pub arena_form : Option ℕ → Option ℕ → Option ℕ → Option Request
arena_form None l a = None
arena_form (Some b) None a = None
arena_form (Some b) (Some l) None = None
arena_form (Some b) (Some l) (Some a) = Some (Request.Arena (addr b) (addr l) (record { 0 = a }))

abbrev pub range_form : (Range → Request) → Option ℕ → Option ℕ → Option Request
range_form f None l = None
range_form f (Some b) None = None
range_form f (Some b) (Some l) = Some (f (range_of b l))

abbrev pub find_form : Which → Option ℕ → Option Mode → Option Request
find_form w None m = None
find_form w (Some n) None = None
find_form w (Some n) (Some m) = Some (Request.Find w (record { 0 = n }) m)

abbrev pub walk_form : Option ℕ → Option Request
walk_form None = None
walk_form (Some n) = Some (Request.Walk (addr n))

-- The forms, over any fields F of which it is known whether one is a name, and which number it is.
module _ {F : Type 0} (is : F → List ℕ → Bool) (num : F → Option ℕ) where
  abbrev pub mode_of : F → Option Mode
  mode_of f =
      cond (is f none_name) (Some Mode.None)
      (cond (is f low_name) (Some Mode.Low)
      (cond (is f high_name) (Some Mode.High)
      (cond (is f entire_name) (Some Mode.Entire) None)))

  abbrev pub request_of : List F → Option Request
  request_of [] = None
  request_of (w ∷ []) = cond (is w describe_name) (Some Request.Describe) None
  request_of (w ∷ x ∷ []) = cond (is w walk_name) (walk_form (num x)) None
  request_of (w ∷ x ∷ y ∷ []) =
      cond (is w insert_name) (range_form Request.Insert (num x) (num y))
      (cond (is w delete_name) (range_form Request.Delete (num x) (num y))
      (cond (is w first_name) (find_form Which.First (num x) (mode_of y))
      (cond (is w last_name) (find_form Which.Last (num x) (mode_of y))
      (cond (is w largest_name) (find_form Which.Largest (num x) (mode_of y)) None))))
  request_of (w ∷ x ∷ y ∷ z ∷ []) =
      cond (is w arena_name) (arena_form (num x) (num y) (num z)) None
  request_of (w ∷ x ∷ y ∷ z ∷ v ∷ fs) = None

-- What a line asks for, if it has a form.
abbrev pub parse : List ℕ → Option Request
parse line = request_of same number (split space line)
