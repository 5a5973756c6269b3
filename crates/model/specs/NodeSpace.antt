-- A find and node space (K11): no find leaves more ranges than it met, so 3 is no answer of a find; and nothing that document 01's own
-- ledger says of a history, which has a 3 on finds, is lost. Assumes nothing.
use Rattle.std.specs.Prelude.{◌≡◌, false, cond, List, ℕ, ◌≤◌, length}
use Rattle.std.proofs.Math.Option.{Option, none, some}
use Rattle.units.specs.declared.Mode.{Mode}
use Rattle.units.specs.declared.Which.{Which}
use Rattle.units.specs.declared.low_water.LowWater.{LowWater}
use Rattle.model.specs.Marks.{Range, Marks, Inside, marks_of}
use Rattle.model.specs.Calls.{Arena, Call, insert, delete, find, walk, Outcome, Step, good_size_in, size_number_in, find_size_in}
use Rattle.model.specs.Reference.{isolated, at_least, pick, acting, share, removed, too_many, stays, moves, reference}
use Rattle.model.specs.Layouts.{holding, Rules}
use Rattle.model.specs.Histories.{Seen, expected}
use Rattle.model.specs.Lands.{Shown, told, note, land_answers, LandLayout, land_call, LandHistory}

-- No find leaves more isolated ranges than it met: over every set of bytes in the arena, every size and every mode.
abbrev pub FindsNoMore : Type 0
FindsNoMore =
    (a : Arena) (m : Marks) → a.base ≤ a.limit → Inside a.base a.limit m → (w : Which) (n : ℕ) (mode : Mode) →
    length (isolated a (reference a (find w n mode) m).next) ≤ length (isolated a m)

-- Nor does a find of a land, by the counts shown before and after it: over every handle, all words, every size and every mode.
abbrev pub LandFindsNoMore : {H : Type 0} → LandLayout H → Type 0
LandFindsNoMore {H} R =
    (h : H) (ws : List ℕ) (w : Which) (n : ℕ) (mode : Mode) →
    (R.show (land_call R (find w n mode) h ws).handle (land_call R (find w n mode) h ws).words).count ≤ (R.show h ws).count

-- DOCUMENT 01'S LEDGER, before K11: in a block land, a step that would leave more isolated ranges than the capacity answers 3 instead; a
-- find is one.
module _ (a : Arena) where
  abbrev pub serves_01 : Mode → ℕ → Marks → Option Range → Step Marks
  serves_01 mode n m none = stays 2 m
  serves_01 mode n m (some r) = moves a m (removed mode m (share mode n r)) (share mode n r) r

  abbrev pub reference_01 : Call → Marks → Step Marks
  reference_01 (insert b l) m = reference a (insert b l) m
  reference_01 (delete b l) m = reference a (delete b l) m
  reference_01 (find w n mode) m =
      cond (good_size_in a w n)
      (serves_01 (acting w mode) (find_size_in a n) m (pick w (at_least (find_size_in a n) (isolated a m))))
      (stays (size_number_in a w n) m)
  reference_01 (walk x) m = reference a (walk x) m

abbrev pub rules_01 : Rules Arena Call Outcome Marks LowWater Shown
rules_01 = record {
  out = λ a c m. (reference_01 a c m).out;
  next = λ a c m. (reference_01 a c m).next;
  note = λ a m q. note (isolated a m) q;
  told = λ a m q. told (isolated a m) q;
}

-- It gives the same on every call where the marks have no more isolated ranges than the capacity.
abbrev pub SameAs01 : Type 0
SameAs01 =
    (a : Arena) (m : Marks) → a.base ≤ a.limit → Inside a.base a.limit m → too_many a.room (length (isolated a m)) ≡ false →
    (c : Call) → reference_01 a c m ≡ reference a c m

-- Hence at every call of a history: what is seen, from every handle and words that give a set, is what it says.
abbrev pub HistoriesAs01 : {H : Type 0} → LandLayout H → Type 0
HistoriesAs01 {H} R =
    (h : H) (ws : List ℕ) (rs : List Range) → R.read h ws ≡ holding rs → (cs : List Call) (os : List (Seen Outcome Shown)) →
    LandHistory R h ws cs os → os ≡ expected land_answers rules_01 (R.arena h ws) cs (marks_of rs) (R.noted h)
