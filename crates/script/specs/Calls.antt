-- What each call of a script gives, for every script, words, bytes and buffer. Assumes nothing.
use Rattle.std.specs.Prelude.{ℕ, ◌+◌, ◌-◌, Bool, true, false, cond, not, ◌&&◌, List, [], ◌∷◌, ◌++◌, eqb, leb, length, take, drop}
use Rattle.units.specs.Words.{addr}
use Rattle.units.specs.declared.Addr.{Addr}
use Rattle.model.specs.Marks.{Range}
use Rattle.list_land.specs.Layout.{read_of}
use Rattle.list_land.specs.declared.ListLand.{ListLand}
use Rattle.lines.specs.Requests.{newline}
use Rattle.lines.specs.inner.Reading.{at_start, next_of, request_in, begun_in}
use Rattle.texts.specs.Decimal.{line}
use Rattle.script.specs.Printed.{Turned, question, turn_of, ranges_from, arena_words}
use Rattle.script.specs.declared.Fed.{Fed}
use Rattle.script.specs.declared.Script.{Script}
use Rattle.script.specs.declared.Stage.{Stage}

-- What a call leaves: the script, the words, how many bytes it used, what it put out, and whether it stopped for want of room.
pub record Done : Type 0 where
  pub script : Script
  pub words : List ℕ
  pub used : ℕ
  pub text : List ℕ
  pub full : Bool

-- Its result: the position is behind what was put out.
abbrev pub fed_of : Done → Fed
fed_of d = record { script = d.script; used = d.used; at = length d.text; full = d.full }

-- The buffer afterwards: what was put out, and behind it the bytes that stood there.
abbrev pub over : List ℕ → List ℕ → List ℕ
over text out = text ++ drop (length text) out

-- The script before the first byte.
abbrev pub script_start : Script
script_start = record { stage = Stage.Closed; reader = at_start }

abbrev pub is_describing : Stage → Bool
is_describing Stage.Closed = false
is_describing (Stage.Open h) = false
is_describing (Stage.Describing h x) = true

-- A request can be played: no description is under way, and there is room for the longest answer, 105 bytes, five numbers.
abbrev pub is_ready : Stage → ℕ → Bool
is_ready s room = leb 105 room && not (is_describing s)

-- FEED
-- Some bytes used and a text put out, and then what a call leaves.
abbrev pub behind : ℕ → List ℕ → Done → Done
behind n text d = record { script = d.script; words = d.words; used = d.used + n; text = text ++ d.text; full = d.full }

abbrev pub at_rest : Script → List ℕ → Bool → Done
at_rest s ws full = record { script = s; words = ws; used = 0; text = []; full = full }

abbrev pub with_byte : Script → ℕ → Script
with_byte s b = record { stage = s.stage; reader = next_of s.reader b }

-- A line that was played: its newline is used, its answer put out, and it goes on with the room that is left.
abbrev pub answered : Turned → ℕ → (Script → List ℕ → ℕ → Done) → Done
answered t room more =
    behind 1 t.text (more (record { stage = t.stage; reader = at_start }) t.words (room - length t.text))

-- Byte by byte, with room for so many bytes: a line is played at its newline. Where it cannot be played, that newline is the
-- first byte that is not used, and the call stops there.
abbrev pub fed : Script → List ℕ → ℕ → List ℕ → Done
fed s ws room [] = at_rest s ws false
fed s ws room (b ∷ bs) =
    cond (eqb b newline)
    (cond (is_ready s.stage room)
    (answered (turn_of s.stage ws (request_in s.reader)) room (λ s' ws' room'. fed s' ws' room' bs))
    (at_rest s ws true))
    (behind 1 [] (fed (with_byte s b) ws room bs))

-- DESCRIBE
pub record Told : Type 0 where
  pub stage : Stage
  pub text : List ℕ

abbrev pub onto : List ℕ → Told → Told
onto text t = record { stage = t.stage; text = text ++ t.text }

-- A line for each range, while there is room for the longest, 42 bytes; behind the last range the description has ended.
abbrev pub tell : ListLand → Addr → ℕ → List Range → Told
tell h x room [] = record { stage = cond (leb 42 room) (Stage.Open h) (Stage.Describing h x); text = [] }
tell h x room (r ∷ rs) =
    let l = line (r.base ∷ r.limit ∷ []) in
    cond (leb 42 room)
    (onto l (tell h (addr r.limit) (room - length l) rs))
    (record { stage = Stage.Describing h x; text = [] })

abbrev pub tell_stage : Stage → List ℕ → ℕ → Told
tell_stage Stage.Closed ws room = record { stage = Stage.Closed; text = [] }
tell_stage (Stage.Open h) ws room = record { stage = Stage.Open h; text = [] }
tell_stage (Stage.Describing h x) ws room = tell h x room (ranges_from x.0 (read_of h (take (arena_words h) ws)))

-- It uses no byte, and is full exactly if the description is still under way.
abbrev pub told : Script → List ℕ → ℕ → Done
told s ws room =
    let t = tell_stage s.stage ws room in
    record { script = record { stage = t.stage; reader = s.reader }; words = ws; used = 0; text = t.text; full = is_describing t.stage }

-- END
-- An unfinished last line prints "?"; a buffer of less than two bytes has no room for that.
abbrev pub end_text : Script → List ℕ
end_text s = cond (begun_in s.reader) question []

abbrev pub ended : Script → ℕ → List ℕ
ended s room = cond (leb 2 room) (end_text s) []
