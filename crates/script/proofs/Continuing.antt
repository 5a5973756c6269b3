-- What is still to be printed, after a part of a line and after its newline. Assumes nothing.
use Prim.Native.Nat.{ℕ}
use mathlib.Core.Bool.{true}
use mathlib.Core.List.{List, [], ◌∷◌, ◌++◌}
use mathlib.Core.Path.{◌≡◌, refl}
use Rattle.lines.specs.Requests.{newline, split, every}
use Rattle.lines.specs.inner.Reading.{at_start, read_more, request_in, in_line}
use Rattle.lines.specs.declared.Reader.{Reader}
use Rattle.lines.proofs.Pieces.{glue, split-some, split-part}
use Rattle.lines.proofs.Requesting.{reading}
use Rattle.lines.proofs.Running.{read-more-append, begun-some}
use Rattle.script.specs.Printed.{turn_of, then_print, printed}
use Rattle.script.specs.inner.Feeding.{printed_from}
use Rattle.script.specs.declared.Stage.{Stage}

-- from the start of a line it is what is printed for the lines
pub from_start : (s : Stage) (ws : List ℕ) (ls : List (List ℕ)) → printed_from at_start s ws ls ≡ printed s ws ls
from_start s ws [] = refl
from_start s ws ([] ∷ []) = refl
from_start s ws ((b ∷ bs) ∷ []) = rw (begun-some b bs)
from_start s ws (l ∷ m ∷ ls) = rw (reading l)

-- a part of a line
in-part : (r : Reader) (s : Stage) (ws l p : List ℕ) (ps : List (List ℕ)) →
    printed_from r s ws (glue l (p ∷ ps)) ≡ printed_from (read_more r l) s ws (p ∷ ps)
in-part r s ws l p [] = rw (read-more-append r l p)
in-part r s ws l p (m ∷ ls) = rw (read-more-append r l p)

pub after-part : (r : Reader) (s : Stage) (ws l more : List ℕ) → every in_line l ≡ true →
    printed_from r s ws (split newline (l ++ more)) ≡ printed_from (read_more r l) s ws (split newline more)
after-part r s ws l more e =
    let q = split-some newline more in rw (split-part l more e, q.is) (in-part r s ws l q.head q.tail)

-- a newline
pub after-newline : (r : Reader) (s : Stage) (ws more : List ℕ) →
    printed_from r s ws (split newline (newline ∷ more))
    ≡ then_print (turn_of s ws (request_in r)) (λ s' ws'. printed_from at_start s' ws' (split newline more))
after-newline r s ws more = let q = split-some newline more in rw q.is (simp from_start)
