-- A whole input, taken in parts of any length, with buffers of any length. Assumes nothing.
use Rattle.std.specs.Prelude.{ℕ, ◌≤◌, ◌<◌, List, [], ◌++◌, ◌≡◌, take, drop}
use Rattle.script.specs.Printed.{pending, whole}
use Rattle.script.specs.Calls.{fed, told, ended, script_start}
use Rattle.script.specs.declared.Script.{Script}

-- From a script and words, over an input, to what is put out: calls of `feed` on the first bytes of what is left, of `describe`, and at
-- the end of the input, when no description is under way, one of `end` with room for two bytes. Each gives what its contract says.
-- `Part` and `Room` tell which numbers of bytes are fed at once and which lengths the buffers have. Between the calls no word is written.
pub data Run (Part Room : ℕ → Type 0) : Script → List ℕ → List ℕ → List ℕ → Type 0 where
  part : (s : Script) (ws input text : List ℕ) (k room : ℕ) → Part k → Room room →
      Run Part Room (fed s ws room (take k input)).script (fed s ws room (take k input)).words (drop (fed s ws room (take k input)).used input) text →
      Run Part Room s ws input ((fed s ws room (take k input)).text ++ text)
  description : (s : Script) (ws input text : List ℕ) (room : ℕ) → Room room →
      Run Part Room (told s ws room).script ws input text → Run Part Room s ws input ((told s ws room).text ++ text)
  end : (s : Script) (ws : List ℕ) (room : ℕ) → Room room → 2 ≤ room → pending s.stage ws ≡ [] → Run Part Room s ws [] (ended s room)

-- What is put out for an input is what is printed for its lines, whatever the parts and the buffers are.
abbrev pub PrintsWhole : Type 1
PrintsWhole = (Part Room : ℕ → Type 0) (ws input text : List ℕ) → Run Part Room script_start ws input text → text ≡ whole ws input

-- There is a run: from every script, with any words, over every input, in parts of any one length that is not 0, with buffers of any one
-- length that has room for an answer.
abbrev pub HasRun : Type 0
HasRun =
    (s : Script) (ws input : List ℕ) (k room : ℕ) → 0 < k → 105 ≤ room → (text : List ℕ) × Run (λ n. n ≡ k) (λ n. n ≡ room) s ws input text
