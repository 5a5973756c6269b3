-- The pieces of a text: never none, and a piece that was read before the rest. Assumes nothing.
use Prim.Native.Nat.{ℕ}
use mathlib.Core.Bool.{Bool, true, false}
use mathlib.Core.List.{List, [], ◌∷◌, ◌++◌}
use mathlib.Core.Path.{◌≡◌, refl}
use lib.Dec.{eqb}
use borrow.Author.Tests.{not-true}
use Rattle.units.proofs.Tests.{and_left, and_right}
use Rattle.lines.specs.Requests.{newline, onto, parted, split, every}
use Rattle.lines.specs.inner.Reading.{in_line}

-- a list of one piece or more
pub record Some (ps : List (List ℕ)) : Type 0 where
  pub head : List ℕ
  pub tail : List (List ℕ)
  pub is : ps ≡ head ∷ tail

some-onto : (b : ℕ) (ps : List (List ℕ)) → Some (onto b ps)
some-onto b [] = record { head = b ∷ []; tail = []; is = refl }
some-onto b (p ∷ ps) = record { head = b ∷ p; tail = ps; is = refl }

some-parted : (t : Bool) (b : ℕ) (ps : List (List ℕ)) → Some (parted t b ps)
some-parted true b ps = record { head = []; tail = ps; is = refl }
some-parted false b ps = some-onto b ps

pub split-some : (sep : ℕ) (bs : List ℕ) → Some (split sep bs)
split-some sep [] = record { head = []; tail = []; is = refl }
split-some sep (b ∷ bs) = some-parted (eqb b sep) b (split sep bs)

-- bytes in front of the first piece
abbrev pub glue : List ℕ → List (List ℕ) → List (List ℕ)
glue cur [] = cur ∷ []
glue cur (p ∷ ps) = (cur ++ p) ∷ ps

glue-none : (ps : List (List ℕ)) → Some ps → ps ≡ glue [] ps
glue-none ps s = rw s.is

glue-onto : (b : ℕ) (cur : List ℕ) (ps : List (List ℕ)) → onto b (glue cur ps) ≡ glue (b ∷ cur) ps
glue-onto b cur [] = refl
glue-onto b cur (p ∷ ps) = refl

-- bytes of one line in front of a text
pub split-part : (l more : List ℕ) → every in_line l ≡ true → split newline (l ++ more) ≡ glue l (split newline more)
split-part [] more e = glue-none (split newline more) (split-some newline more)
split-part (b ∷ l) more e =
    let f : eqb b newline ≡ false = not-true (eqb b newline) (and_left (in_line b) (every in_line l) e) in
    let g : split newline (l ++ more) ≡ glue l (split newline more) = split-part l more (and_right (in_line b) (every in_line l) e) in
    rw (f, g) (glue-onto b l (split newline more))
