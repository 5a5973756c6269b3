-- The twelve starred cases of document 01, 'Sessions with known ends', as one list: the calls, and what each returns and leaves. Assumes nothing.
use Rattle.std.specs.Prelude.{ℕ, List, [], ◌∷◌, ◌≡◌}
use Rattle.units.specs.Words.{range_of}
use Rattle.units.specs.declared.Mode.{Mode}
use Rattle.units.specs.declared.Which.{Which}
use Rattle.units.specs.LowWater.{low_water}
use Rattle.model.specs.Marks.{rng, marks_of}
use Rattle.model.specs.Calls.{Call, insert, delete, find, walk, Outcome, refused, accepted}
use Rattle.model.specs.Layouts.{Done}
use Rattle.model.specs.Histories.{Seen, expected}
use Rattle.model.specs.Lands.{ranges_in, Shown, land_answers, reference_rules, LandLayout}
use Rattle.list_land.specs.Calls as list
use Rattle.list_land.specs.Layout as list-layout
use Rattle.list_land.specs.declared.ListLand.{ListLand}
use Rattle.block_land.specs.Calls as block
use Rattle.block_land.specs.Layout as block-layout
use Rattle.block_land.specs.declared.BlockLand.{BlockLand}

-- What the public calls equal, by call.
abbrev pub on_list : Call → ListLand → List ℕ → list.LandDone
on_list (insert b l) h ws = list.inserted h ws (range_of b l)
on_list (delete b l) h ws = list.deleted h ws (range_of b l)
on_list (find w n mode) h ws = list.found h ws w n mode
on_list (walk x) h ws = list.walked h ws x

abbrev pub on_block : Call → BlockLand → List ℕ → block.LandDone
on_block (insert b l) h ws = block.inserted h ws (range_of b l)
on_block (delete b l) h ws = block.deleted h ws (range_of b l)
on_block (find w n mode) h ws = block.found h ws w n mode
on_block (walk x) h ws = block.walked h ws x

-- A call, and its end: the outcome, the handle and the words.
pub record Case (H : Type 0) : Type 0 where
  pub call : Call
  pub end : Done Outcome H (List ℕ)

-- Cases one after the other, from a handle and words.
pub record Session (H : Type 0) : Type 0 where
  pub handle : H
  pub words : List ℕ
  pub cases : List (Case H)

pub data AnySession : Type 0 where
  list_session : Session ListLand → AnySession
  block_session : Session BlockLand → AnySession

-- Each case ends as it says, where the next begins.
abbrev Ends : {H : Type 0} → (Call → H → List ℕ → Done Outcome H (List ℕ)) → H → List ℕ → List (Case H) → Type 0
Ends f h ws [] = Unit {0}
Ends f h ws (c ∷ cs) = (f c.call h ws ≡ c.end) × Ends f c.end.handle c.end.words cs

-- What the reference model returns, from the bytes that the handle and the words give.
abbrev calls : {H : Type 0} → List (Case H) → List Call
calls [] = []
calls (c ∷ cs) = c.call ∷ calls cs

abbrev outcomes : {H : Type 0} → List (Case H) → List Outcome
outcomes [] = []
outcomes (c ∷ cs) = c.end.out ∷ outcomes cs

abbrev outs : List (Seen Outcome Shown) → List Outcome
outs [] = []
outs (o ∷ os) = o.out ∷ outs os

abbrev by_reference : {H : Type 0} → LandLayout H → Session H → List Outcome
by_reference R s =
    outs (expected land_answers reference_rules (R.arena s.handle s.words) (calls s.cases)
    (marks_of (ranges_in (R.read s.handle s.words))) (R.noted s.handle))

-- The public calls and the reference model both end as the session says.
abbrev Holds : AnySession → Type 0
Holds (list_session s) = Ends on_list s.handle s.words s.cases × (by_reference list-layout.layout s ≡ outcomes s.cases)
Holds (block_session s) = Ends on_block s.handle s.words s.cases × (by_reference block-layout.layout s ≡ outcomes s.cases)

abbrev pub AllHold : List AnySession → Type 0
AllHold [] = Unit {0}
AllHold (s ∷ ss) = Holds s × AllHold ss

-- Arena [4096, 4160), alignment 8.
-- With a head, the number of ranges and of free bytes, and low water.
abbrev list_land : ℕ → ℕ → ℕ → ℕ → ListLand
list_land head ranges bytes low = record {
  base = record { 0 = 4096 };
  limit = record { 0 = 4160 };
  align = record { 0 = 8 };
  head = record { 0 = head };
  ranges = ranges;
  bytes = record { 0 = bytes };
  water = low_water 1 low;
}

abbrev block_land : ℕ → ℕ → ℕ → BlockLand
block_land ranges bytes low = record {
  base = record { 0 = 4096 };
  limit = record { 0 = 4160 };
  align = record { 0 = 8 };
  ranges = ranges;
  bytes = record { 0 = bytes };
  water = low_water 1 low;
}

abbrev words_8 : ℕ → ℕ → ℕ → ℕ → List ℕ
words_8 w0 w1 w2 w3 = w0 ∷ w1 ∷ w2 ∷ w3 ∷ 0 ∷ 0 ∷ 0 ∷ 0 ∷ []

abbrev ends : {H : Type 0} → Call → Outcome → H → List ℕ → Case H
ends c o h ws = record { call = c; end = record { out = o; handle = h; words = ws } }

-- insert and delete return a range, a find one range twice
abbrev gives : ℕ → ℕ → Outcome
gives b l = accepted (rng b l) (rng 0 0)

abbrev twice : ℕ → ℕ → Outcome
twice b l = accepted (rng b l) (rng b l)

abbrev pub twelve : List AnySession
twelve =
    -- list land, all words 0: cases 1 to 8
    list_session (record {
      handle = (list.opened_of 4096 4160 8 (words_8 0 0 0 0)).land;
      words = words_8 0 0 0 0;
      cases =
          ends (insert 4096 4112) (gives 4096 4112) (list_land 4096 1 16 16) (words_8 0 4112 0 0)
          ∷ ends (insert 4120 4128) (gives 4120 4128) (list_land 4096 2 24 16) (words_8 4120 4112 0 1)
          ∷ ends (insert 4112 4120) (gives 4096 4128) (list_land 4096 1 32 16) (words_8 0 4128 0 1)
          ∷ ends (insert 4104 4136) (refused 1) (list_land 4096 1 32 16) (words_8 0 4128 0 1)
          ∷ ends (delete 4104 4112) (gives 4096 4128) (list_land 4096 2 24 16) (words_8 4113 4128 0 4128)
          ∷ ends (find Which.First 16 Mode.Low) (twice 4112 4128) (list_land 4096 1 8 8) (words_8 1 4128 0 4128)
          ∷ ends (find Which.Largest 0 Mode.None) (twice 4096 4104) (list_land 4096 1 8 8) (words_8 1 4128 0 4128)
          ∷ ends (find Which.First 16 Mode.None) (refused 2) (list_land 4096 1 8 8) (words_8 1 4128 0 4128)
          ∷ [];
    })
    -- block land, capacity 1: cases 9 and 10
    ∷ block_session (record {
      handle = (block.opened_of 4096 4160 8 (7 ∷ 7 ∷ [])).land;
      words = block.opened_words 4096 4160 8 (7 ∷ 7 ∷ []);
      cases =
          ends (insert 4096 4104) (gives 4096 4104) (block_land 1 8 8) (4096 ∷ 4104 ∷ [])
          ∷ ends (insert 4112 4120) (refused 3) (block_land 1 8 8) (4096 ∷ 4104 ∷ [])
          ∷ ends (insert 4104 4112) (gives 4096 4112) (block_land 1 16 8) (4096 ∷ 4112 ∷ [])
          ∷ [];
    })
    -- holding only [4096, 4120): case 11
    ∷ block_session (record {
      handle = block_land 1 24 24;
      words = 4096 ∷ 4120 ∷ [];
      cases = ends (delete 4104 4112) (refused 3) (block_land 1 24 24) (4096 ∷ 4120 ∷ []) ∷ [];
    })
    -- and case 12
    ∷ block_session (record {
      handle = block_land 1 24 24;
      words = 4096 ∷ 4120 ∷ [];
      cases = ends (delete 4096 4104) (gives 4096 4120) (block_land 1 16 16) (4104 ∷ 4120 ∷ []) ∷ [];
    })
    ∷ []
