-- Contracts of the functions that play requests and take an input in parts. Assumes nothing.
use Rattle.std.specs.Prelude.{ℕ, ◌-◌, ◌≤◌, ◌<◌, true, false, cond, List, [], ◌∷◌, ◌++◌, ◌≡◌, length, take, drop}
use Rattle.lines.specs.Requests.{newline, split}
use Rattle.lines.specs.inner.Reading.{read_more, request_in, begun_in}
use Rattle.lines.specs.declared.Reader.{Reader}
use Rattle.texts.specs.inner.Writing.{Wrote}
use Rattle.script.specs.Printed.{Turned, question, turn_of, pending, settled, then_print, printed}
use Rattle.script.specs.Calls.{Told, over, behind, at_rest, fed}
use Rattle.script.specs.declared.Fed.{Fed}
use Rattle.script.specs.declared.Script.{Script}
use Rattle.script.specs.declared.Stage.{Stage}
use Rattle.script.specs.declared.Turn.{Turn}

-- The first n words, as far as there are so many.
pub record Fits (n : ℕ) (ws : List ℕ) (r : ℕ) : Type 0 where
  pub inside : r ≤ length ws
  pub counted : r ≡ length (take r ws)
  pub same : take r ws ≡ take n ws
  pub behind : drop r ws ≡ drop n ws

-- A text behind what a buffer holds up to a position, and the stage.
pub record Says (s : Stage) (text before : List ℕ) (from : ℕ) (after : List ℕ) (r : Turn) : Type 0 where
  pub stage : r.stage ≡ s
  pub wrote : Wrote 105 before from text after r.at

-- The same of a turn, with its words.
pub record Plays (t : Turned) (ws' before : List ℕ) (from : ℕ) (after : List ℕ) (r : Turn) : Type 0 where
  pub says : Says t.stage t.text before from after r
  pub words : ws' ≡ t.words

-- What is printed for the lines of an input, if the first of them goes on where a reader stands.
abbrev pub printed_from : Reader → Stage → List ℕ → List (List ℕ) → List ℕ
printed_from r s ws [] = []
printed_from r s ws (l ∷ []) = cond (begun_in (read_more r l)) question []
printed_from r s ws (l ∷ m ∷ ls) =
    then_print (turn_of s ws (request_in (read_more r l))) (λ s' ws'. printed s' ws' (m ∷ ls))

-- What a script still prints for an input.
abbrev pub rest_of : Script → List ℕ → List ℕ → List ℕ
rest_of s ws input = pending s.stage ws ++ printed_from s.reader (settled s.stage) ws (split newline input)

-- What was told stands at the start of the buffer.
pub record Tells (t : Told) (out out' : List ℕ) (r : Turn) : Type 0 where
  pub turn : r ≡ record { stage = t.stage; at = length t.text }
  pub buffer : out' ≡ over t.text out

-- From a position of the bytes and of the buffer on: what was used and put out, and what feeding the rest leaves, stay the same.
pub record Goes (s : Script) (ws bytes : List ℕ) (from : ℕ) (out : List ℕ) (at : ℕ) (f : Fed) (ws' out' : List ℕ) : Type 0 where
  pub later : from ≤ f.used
  pub used : f.used ≤ length bytes
  pub further : at ≤ f.at
  pub fits : f.at ≤ length out
  pub size : length out' ≡ length out
  pub rest : drop f.at out' ≡ drop f.at out
  pub same :
      behind from (take at out) (fed s ws (length out - at) (drop from bytes))
      ≡ behind f.used (take f.at out') (fed f.script ws' (length out - f.at) (drop f.used bytes))

-- It does not stand still, unless it says that it stops there.
pub record Moves (bytes : List ℕ) (from : ℕ) (out : List ℕ) (f : Fed) (ws' : List ℕ) : Type 0 where
  pub onward : from < length bytes → f.full ≡ false → from < f.used
  pub stops : f.full ≡ true → fed f.script ws' (length out - f.at) (drop f.used bytes) ≡ at_rest f.script ws' true
