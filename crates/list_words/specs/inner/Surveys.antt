-- What the walk over the whole list keeps: contracts of inner functions. Assumes nothing.
use Rattle.std.specs.Prelude.{ℕ, ◌+◌, ◌-◌, ◌≤◌, ◌<◌, Bool, cond, ◌&&◌, List, [], ◌∷◌, ◌≡◌, eqb, length, Result, Ok, Err}
use Rattle.units.specs.declared.Addr.{Addr}
use Rattle.units.specs.declared.Range.{Range}
use Rattle.units.specs.declared.aims.Aim.{Aim}
use Rattle.units.specs.declared.rules.Arena.{Arena}
use Rattle.units.specs.declared.refusals.Refusal.{Refusal}
use Rattle.units.specs.Rules.{refusal_number, arena_check}
use Rattle.units.specs.Words.{addr, word_number, range_of}
use Rattle.units.specs.inner.Aims.{none_range, is_none, takes}
use Rattle.model.specs.Marks.{total}
use Rattle.model.specs.Marks as marks
use Rattle.list_words.specs.declared.Chain.{Chain}
use Rattle.list_words.specs.declared.cursor.Cursor.{Cursor}
use Rattle.list_words.specs.declared.Spot.{Spot}
use Rattle.list_words.specs.Words.{Walk, walk_from, sound_walk}
use Rattle.list_words.specs.Laying.{head_of}

-- The set-up is good: an arena, and as many words as it has.
pub record Ready (a : Arena) (n : ℕ) : Type 0 where
  pub arena : arena_check a.base.0 a.limit.0 a.align.0 ≡ Ok tt
  pub words : word_number a.base.0 a.limit.0 ≡ n

-- The walk of an arena's words from a place.
abbrev pub walk_in : Arena → List ℕ → ℕ → ℕ → Walk
walk_in a ws low x = walk_from a.base.0 a.limit.0 a.align.0 ws low x

-- The walk from head.
abbrev pub walk_of : Arena → List ℕ → ℕ → Walk
walk_of a ws head = walk_in a ws a.base.0 head

abbrev pub spot : Range → Range → Addr → Spot
spot p r n = record { prev = p; here = r; next = n }

abbrev pub kept_on : Aim → Range → Spot → Range → Addr → Spot
kept_on aim p k r n = cond (takes aim k.here r) (spot p r n) k

-- A cursor before the first range.
abbrev pub start_at : Arena → Addr → Cursor
start_at a h = record { low = a.base; at = h; count = 0; bytes = record { 0 = 0 } }

-- A cursor one range further on.
abbrev pub onward : Cursor → ℕ → Addr → Cursor
onward c e n = record {
  low = addr (e + 1);
  at = n;
  count = c.count + 1;
  bytes = record { 0 = c.bytes.0 + (e - c.at.0) };
}

-- A range that ends at e follows a cursor, and no number grows too large.
pub record Near (c : Cursor) (e : ℕ) : Type 0 where
  pub above : c.at.0 ≤ e
  pub end : e < 18446744073709551615
  pub count : c.count < 18446744073709551615
  pub bytes : c.bytes.0 + (e - c.at.0) < 18446744073709551616

-- The range that a cursor met last, by its base; none where that is 0.
abbrev pub passed : Cursor → Addr → Range
passed c b = cond (eqb b.0 0) none_range (range_of b.0 (c.low.0 - 1))

-- The ranges and bytes that a cursor met are those of the handle.
abbrev pub counts_of : Cursor → Chain → Bool
counts_of c h = eqb h.ranges c.count && eqb h.bytes.0 c.bytes.0

-- A cursor of the walk from head: what was met, with what comes from here, is the whole.
pub record Along (a : Arena) (ws : List ℕ) (head : ℕ) (c : Cursor) : Type 0 where
  pub from : a.base.0 ≤ c.low.0
  pub top : c.low.0 ≤ a.limit.0 + 1
  pub small : c.count ≤ c.bytes.0
  pub past : a.base.0 + c.bytes.0 ≤ c.low.0
  pub number : c.count + length (walk_in a ws c.low.0 c.at.0).met ≡ length (walk_of a ws head).met
  pub sum : c.bytes.0 + total (walk_in a ws c.low.0 c.at.0).met ≡ total (walk_of a ws head).met
  pub ending : (walk_in a ws c.low.0 c.at.0).end ≡ (walk_of a ws head).end

-- What is kept at the end, behind the range p.
abbrev pub at_end : Range → Spot → Spot
at_end p k = cond (is_none k.here) (spot p none_range (addr 0)) k

-- What is kept of the ranges rs behind p.
abbrev pub keeping : Aim → Range → Spot → List marks.Range → Spot
keeping aim p k [] = at_end p k
keeping aim p k (r ∷ rs) =
    keeping aim (range_of r.base r.limit) (kept_on aim p k (range_of r.base r.limit) (addr (head_of rs))) rs

abbrev pub no_spot : Spot
no_spot = spot none_range none_range (addr 0)

-- What the aim keeps of a whole list.
abbrev pub kept_of : Aim → List marks.Range → Spot
kept_of aim rs = keeping aim none_range no_spot rs

-- Document 01's number of what a survey finds: that of the refusal, or 0.
abbrev pub verdict_number : Result Spot Refusal → ℕ
verdict_number (Err r) = refusal_number r
verdict_number (Ok s) = 0

-- What a survey finds.
unfoldable pub survey_of : Arena → List ℕ → Chain → Aim → Result Spot Refusal
survey_of a ws c aim =
    cond (sound_walk (walk_of a ws c.head.0) c.ranges c.bytes.0)
    (Ok (kept_of aim (walk_of a ws c.head.0).met)) (Err Refusal.Damaged)
