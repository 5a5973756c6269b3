-- A range put into a sound list at a spot, and a part taken out of the range there: what the edits of a chain give. Assumes nothing.
use Rattle.std.specs.Prelude.{ℕ, ◌%◌, ◌≤◌, ◌<◌, Bool, true, not, cond, List, ◌≡◌, length, Result, Ok, Err}
use Rattle.units.specs.Rules.{refusal_number, range_check, good_range}
use Rattle.units.specs.Words.{addr}
use Rattle.units.specs.declared.Range as units
use Rattle.units.specs.declared.aims.Aim.{Aim}
use Rattle.units.specs.declared.refusals.Refusal.{Refusal}
use Rattle.units.specs.declared.rules.Arena.{Arena}
use Rattle.model.specs.Marks.{Range, struct, total}
use Rattle.model.specs.inner.Lists.{overlaps, holds, holder, insert_in, delete_from}
use Rattle.list_words.specs.declared.Chain.{Chain}
use Rattle.list_words.specs.declared.Spot.{Spot}
use Rattle.list_words.specs.Words.{sound_walk}
use Rattle.list_words.specs.Laying.{head_of, lay}
use Rattle.list_words.specs.inner.Surveys.{Ready, walk_of, kept_of}
use Rattle.list_edits.specs.declared.ChainJoined.{ChainJoined}

-- The ranges that the walk from the head meets.
abbrev pub met_of : Arena → List ℕ → Chain → List Range
met_of a ws c = (walk_of a ws c.head.0).met

-- A spot that an aim keeps of a sound list.
pub record Held (a : Arena) (ws : List ℕ) (c : Chain) (aim : Aim) (s : Spot) : Type 0 where
  pub ready : Ready a (length ws)
  pub whole : sound_walk (walk_of a ws c.head.0) c.ranges c.bytes.0 ≡ true
  pub kept : s ≡ kept_of aim (met_of a ws c)

-- The range keeps the rules of a request to the arena.
abbrev pub may_ask : Arena → units.Range → Bool
may_ask a y = good_range (range_check a.base.0 a.limit.0 a.align.0 y.base.0 y.limit.0)

-- The range at a spot of a sound list holds a part, which is not empty and is aligned.
pub record Holding (a : Arena) (ws : List ℕ) (c : Chain) (s : Spot) (y : units.Range) : Type 0 where
  pub aim : Aim
  pub held : Held a ws c aim s
  pub low : s.here.base.0 ≤ y.base.0
  pub proper : y.base.0 < y.limit.0
  pub high : y.limit.0 ≤ s.here.limit.0
  pub base_aligned : y.base.0 % a.align.0 ≡ 0
  pub limit_aligned : y.limit.0 % a.align.0 ≡ 0

-- The chain of a list of ranges.
abbrev pub chain_of : List Range → Chain
chain_of rs = record { head = addr (head_of rs); ranges = length rs; bytes = record { 0 = total rs } }

-- The chain of a new list, and the range of the code that r is.
abbrev pub chain_joined : List Range → Range → ChainJoined
chain_joined new r = record { chain = chain_of new; range = struct r }

-- Document 01's number of each case: that of the refusal, or 0.
abbrev pub edited_number : Result ChainJoined Refusal → ℕ
edited_number (Err r) = refusal_number r
edited_number (Ok d) = 0

-- What an edit gives, and the words: refused where some byte is already free, or is not free; or the chain of the new list and
-- the range that holds the request.
abbrev pub edited : Bool → List Range → Range → Result ChainJoined Refusal
edited bad new r = cond bad (Err Refusal.Overlap) (Ok (chain_joined new r))

abbrev pub edited_words : Bool → List Range → ℕ → List ℕ → List ℕ
edited_words bad new base ws = cond bad ws (lay base new ws)

module _ (rs : List Range) (y : units.Range) where
  -- A range put in: the chain of the list with it, and the range that holds it.
  abbrev pub joined : List Range
  joined = insert_in y.base.0 y.limit.0 rs

  abbrev pub joined_of : ChainJoined
  joined_of = chain_joined joined (holder y.base.0 y.limit.0 joined)

  abbrev pub joined_words : ℕ → List ℕ → List ℕ
  joined_words base ws = lay base joined ws

  -- Refused if it overlaps one.
  unfoldable pub put_of : Result ChainJoined Refusal
  put_of = edited (overlaps y.base.0 y.limit.0 rs) joined (holder y.base.0 y.limit.0 joined)

  unfoldable pub put_words : ℕ → List ℕ → List ℕ
  put_words base ws = edited_words (overlaps y.base.0 y.limit.0 rs) joined base ws

  -- A part taken out: the chain of the list without it.
  abbrev pub remaining : List Range
  remaining = delete_from y.base.0 y.limit.0 rs

  abbrev pub cut_chain : Chain
  cut_chain = chain_of remaining

  abbrev pub cut_words : ℕ → List ℕ → List ℕ
  cut_words base ws = lay base remaining ws

  -- A range taken out: refused if none holds it; it was in the range that did.
  unfoldable pub cut_of : Result ChainJoined Refusal
  cut_of = edited (not (holds y.base.0 y.limit.0 rs)) remaining (holder y.base.0 y.limit.0 rs)

  unfoldable pub cut_out_words : ℕ → List ℕ → List ℕ
  cut_out_words base ws = edited_words (not (holds y.base.0 y.limit.0 rs)) remaining base ws
