-- What is printed for each line: document 01, 'The program that plays requests'. Assumes nothing.
use Rattle.std.specs.Prelude.{ℕ, cond, List, [], ◌∷◌, ◌++◌, eqb, length, take, drop, replicate, Option, Some, None}
use Rattle.units.specs.Words.{word_number}
use Rattle.units.specs.declared.Addr.{Addr}
use Rattle.units.specs.declared.Align.{Align}
use Rattle.model.specs.Marks.{Range, total}
use Rattle.model.specs.Reference.{from}
use Rattle.model.specs.Layouts.{Reading, fault, holding}
use Rattle.list_land.specs.Layout.{base, limit, read_of}
use Rattle.list_land.specs.Calls.{LandDone, inserted, deleted, found, walked, opened_of}
use Rattle.list_land.specs.declared.ListLand.{ListLand}
use Rattle.list_land.specs.declared.Opened.{Opened}
use Rattle.texts.specs.Decimal.{line}
use Rattle.lines.specs.Names.{ascii}
use Rattle.lines.specs.Requests.{newline, split, parse}
use Rattle.lines.specs.declared.Request.{Request}
use Rattle.script.specs.declared.Stage.{Stage}

-- What a request leaves: the stage, the words, and what it prints.
pub record Turned : Type 0 where
  pub stage : Stage
  pub words : List ℕ
  pub text : List ℕ

abbrev pub question : List ℕ
question = ascii "?\n"

-- A line outside the forms, or a call before an arena, prints "?".
abbrev pub unknown : Stage → List ℕ → Turned
unknown s ws = record { stage = s; words = ws; text = question }

-- First the answer, then base and limit.
abbrev pub changed_turn : LandDone → Turned
changed_turn d = record {
  stage = Stage.Open d.handle;
  words = d.words;
  text = line (d.out.answer ∷ d.out.found.base ∷ d.out.found.limit ∷ []);
}

-- A find adds the old base and limit.
abbrev pub found_turn : LandDone → Turned
found_turn d = record {
  stage = Stage.Open d.handle;
  words = d.words;
  text = line (d.out.answer ∷ d.out.found.base ∷ d.out.found.limit ∷ d.out.old.base ∷ d.out.old.limit ∷ []);
}

-- Describe gives answer, ranges, free bytes; then the description goes on from the arena's base.
abbrev pub describe_turn : ListLand → List ℕ → Reading (List Range) → Turned
describe_turn h ws (fault n) = record { stage = Stage.Open h; words = ws; text = line (n ∷ 0 ∷ 0 ∷ []) }
describe_turn h ws (holding rs) = record {
  stage = Stage.Describing h h.base;
  words = ws;
  text = line (0 ∷ length rs ∷ total rs ∷ []);
}

-- A request on a land, whose arena is lent whole. An arena line does not come here (`turn_of`).
abbrev pub land_turn : ListLand → List ℕ → Option Request → Turned
land_turn h ws None = unknown (Stage.Open h) ws
land_turn h ws (Some (Request.Arena b l a)) = unknown (Stage.Open h) ws
land_turn h ws (Some (Request.Insert y)) = changed_turn (inserted h ws y)
land_turn h ws (Some (Request.Delete y)) = changed_turn (deleted h ws y)
land_turn h ws (Some (Request.Find w n mode)) = found_turn (found h ws w n.0 mode)
land_turn h ws (Some (Request.Walk x)) = changed_turn (walked h ws x.0)
land_turn h ws (Some Request.Describe) = describe_turn h ws (read_of h ws)

-- A refused arena line prints 5 and keeps the earlier arena, if any. An accepted one starts anew: all words are 0.
abbrev pub opened_turn : Stage → List ℕ → Opened → Turned
opened_turn s ws o =
    cond (eqb o.answer 0)
    (record { stage = Stage.Open o.land; words = replicate (length ws) 0; text = line (0 ∷ []) })
    (record { stage = s; words = ws; text = line (o.answer ∷ []) })

abbrev pub arena_turn : Stage → Addr → Addr → Align → List ℕ → Turned
arena_turn s b l a ws = opened_turn s ws (opened_of b.0 l.0 a.0 ws)

-- An arena takes the first (limit - base) / 8 words; those behind it stay. A larger one is refused, since it is not lent whole.
abbrev pub on_first : ℕ → List ℕ → (List ℕ → Turned) → Turned
on_first n ws f = record { stage = (f (take n ws)).stage; words = (f (take n ws)).words ++ drop n ws; text = (f (take n ws)).text }

abbrev pub arena_words : ListLand → ℕ
arena_words h = word_number (base h) (limit h)

-- A call goes by the stage: before an arena it prints "?".
abbrev pub call_turn : Stage → List ℕ → Option Request → Turned
call_turn Stage.Closed ws q = unknown Stage.Closed ws
call_turn (Stage.Open h) ws q = on_first (arena_words h) ws (λ part. land_turn h part q)
call_turn (Stage.Describing h x) ws q = on_first (arena_words h) ws (λ part. land_turn h part q)

-- What a line plays: an arena, or a call.
abbrev pub turn_of : Stage → List ℕ → Option Request → Turned
turn_of s ws None = call_turn s ws None
turn_of s ws (Some (Request.Arena b l a)) = on_first (word_number b.0 l.0) ws (arena_turn s b l a)
turn_of s ws (Some (Request.Insert y)) = call_turn s ws (Some (Request.Insert y))
turn_of s ws (Some (Request.Delete y)) = call_turn s ws (Some (Request.Delete y))
turn_of s ws (Some (Request.Find w n mode)) = call_turn s ws (Some (Request.Find w n mode))
turn_of s ws (Some (Request.Walk x)) = call_turn s ws (Some (Request.Walk x))
turn_of s ws (Some Request.Describe) = call_turn s ws (Some Request.Describe)

-- One line of base and limit for each range.
abbrev pub range_lines : List Range → List ℕ
range_lines [] = []
range_lines (r ∷ rs) = line (r.base ∷ r.limit ∷ []) ++ range_lines rs

-- Of the ranges with a base at or above x.
abbrev pub ranges_from : ℕ → Reading (List Range) → List Range
ranges_from x (fault n) = []
ranges_from x (holding rs) = from x rs

abbrev pub lines_from : ℕ → Reading (List Range) → List ℕ
lines_from x o = range_lines (ranges_from x o)

-- What is left to print of a description, and the stage when it has ended.
abbrev pub pending : Stage → List ℕ → List ℕ
pending Stage.Closed ws = []
pending (Stage.Open h) ws = []
pending (Stage.Describing h x) ws = lines_from x.0 (read_of h (take (arena_words h) ws))

abbrev pub settled : Stage → Stage
settled Stage.Closed = Stage.Closed
settled (Stage.Open h) = Stage.Open h
settled (Stage.Describing h x) = Stage.Open h

-- A last line without its newline prints "?".
abbrev pub ending : List ℕ → List ℕ
ending [] = []
ending (b ∷ bs) = question

-- What a request prints, and then what is printed from where it leaves off.
abbrev pub then_print : Turned → (Stage → List ℕ → List ℕ) → List ℕ
then_print t more = t.text ++ (pending t.stage t.words ++ more (settled t.stage) t.words)

-- What is printed for the lines of an input, the last of which has no newline.
abbrev pub printed : Stage → List ℕ → List (List ℕ) → List ℕ
printed s ws [] = []
printed s ws (l ∷ []) = ending l
printed s ws (l ∷ m ∷ ls) = then_print (turn_of s ws (parse l)) (λ s' ws'. printed s' ws' (m ∷ ls))

-- The whole output for an input, where ws are the words for an arena.
abbrev pub whole : List ℕ → List ℕ → List ℕ
whole ws input = printed Stage.Closed ws (split newline input)
