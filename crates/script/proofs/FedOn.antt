-- Feeding goes on: behind a part of a line, behind its newline, and where it stops. Assumes nothing.
use Prim.Native.Nat.{ℕ, ◌+◌}
use mathlib.Core.Bool.{true, false}
use mathlib.Core.List.{List, [], ◌∷◌, ◌++◌, append_assoc}
use mathlib.Core.Path.{◌≡◌, sym, ap, ◌∙◌}
use native.Mathlib.Omega.{arith}
use borrow.Author.Tests.{not-true}
use lib.Dec.{eqb}
use lib.ListN.{length, drop}
use Rattle.units.proofs.Tests.{and_left, and_right}
use Rattle.lines.specs.Requests.{newline, every}
use Rattle.lines.specs.inner.Reading.{read_more, request_in, in_line}
use Rattle.script.specs.Printed.{turn_of}
use Rattle.script.specs.Calls.{Done, behind, with_byte, answered, fed, is_ready}
use Rattle.lines.specs.declared.Reader.{Reader}
use Rattle.script.specs.declared.Script.{Script}
use Rattle.script.specs.declared.Stage.{Stage}

pub behind-behind : (n m : ℕ) (t u : List ℕ) (d : Done) → behind n t (behind m u d) ≡ behind (m + n) (t ++ u) d
behind-behind n m t u d =
    let p : (d.used + m) + n ≡ d.used + (m + n) = omega arith in
    let q = sym (append_assoc t u d.text) in
    λ i. record { script = d.script; words = d.words; used = p i; text = q i; full = d.full }

pub behind-none : (d : Done) → d ≡ behind 0 [] d
behind-none d = let p : d.used ≡ d.used + 0 = omega arith in λ i. record { script = d.script; words = d.words; used = p i; text = d.text; full = d.full }

pub fed-part : (s : Script) (ws : List ℕ) (room : ℕ) (l more : List ℕ) → every in_line l ≡ true →
    fed s ws room (l ++ more) ≡ behind (length l) [] (fed (record { stage = s.stage; reader = read_more s.reader l }) ws room more)
fed-part s ws room [] more e = behind-none (fed s ws room more)
fed-part s ws room (b ∷ l) more e =
    let f : eqb b newline ≡ false = not-true (eqb b newline) (and_left (in_line b) (every in_line l) e) in
    let g = fed-part (with_byte s b) ws room l more (and_right (in_line b) (every in_line l) e) in
    let rest = fed (record { stage = s.stage; reader = read_more (with_byte s b).reader l }) ws room more in
    let n : length l + 1 ≡ length (b ∷ l) = omega arith in
    rw f (ap (behind 1 []) g ∙ behind-behind 1 (length l) [] [] rest ∙ ap (λ (k : ℕ). behind k [] rest) n)

-- the same from equal parts
pub fed-same : {s s' : Stage} {r r' : Reader} {ws ws' : List ℕ} {n n' k k' : ℕ} (bytes : List ℕ) → s ≡ s' → r ≡ r' → ws ≡ ws' → n ≡ n' → k ≡ k' →
    fed (record { stage = s; reader = r }) ws n (drop k bytes) ≡ fed (record { stage = s'; reader = r' }) ws' n' (drop k' bytes)
fed-same bytes a b c d e = λ i. fed (record { stage = a i; reader = b i }) (c i) (d i) (drop (e i) bytes)

module _ (s : Script) (ws : List ℕ) (room : ℕ) (more : List ℕ) where
  pub fed-line : is_ready s.stage room ≡ true →
      fed s ws room (newline ∷ more) ≡ answered (turn_of s.stage ws (request_in s.reader)) room (λ s' ws' room'. fed s' ws' room' more)
  fed-line e = rw e
