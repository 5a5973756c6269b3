-- A find and node space: no find leaves more ranges than it met, and document 01's ledger, with its 3 on finds, gives the same. Assumes nothing.
use mathlib.Core.Path.{◌≡◌, refl, sym, ap, ◌∙◌}
use mathlib.Core.Bool.{false, not}
use mathlib.Core.List.{List, [], ◌∷◌}
use mathlib.Core.Option.{Option, none, some}
use Prim.Native.Nat.{ℕ, ◌≤◌}
use native.Mathlib.Omega.{arith}
use lib.ListN.{length}
use borrow.Author.Tests.{not-false}
use Rattle.units.specs.declared.Mode.{Mode}
use Rattle.units.specs.declared.Which.{Which}
use Rattle.model.specs.Marks.{Range, Marks, Inside, marks_of}
use Rattle.model.specs.Calls.{Arena, Call, insert, delete, find, walk, Step, good_size_in, find_size_in}
use Rattle.model.specs.Reference.{isolated, acting, share, removed, too_many, serves, reference}
use Rattle.model.specs.Answers.{SizeRules}
use Rattle.model.specs.Layouts.{Reading, fault, holding}
use Rattle.model.specs.Lands.{Shown, land_answers, list_rules, reference_rules, LandLayout, land_call}
use Rattle.model.specs.NodeSpace.{FindsNoMore, LandFindsNoMore, serves_01, reference_01, rules_01, SameAs01, HistoriesAs01}
use Rattle.model.specs.inner.Laws.{Canon, Fine, LandLaws, Alike}
use Rattle.model.specs.inner.Lists.{Aligned}
use Rattle.model.specs.inner.Steps.{marks_ops, list_ops, choose, part, room_for, taken, step}
use Rattle.units.proofs.Tests.{by}
use Rattle.model.proofs.Calling.{fine-inside}
use Rattle.model.proofs.Choosing.{choose-mem}
use Rattle.model.proofs.Counting.{room-for-fewer, taken-length, finds-no-more}
use Rattle.model.proofs.DemandMet.{land-alike}
use Rattle.model.proofs.Isolating.{runs-sorted, runs-marks}
use Rattle.model.proofs.ListsAreMarks.{ranges-same, taken-same}
use Rattle.model.proofs.Outcomes.{call-fault}
use Rattle.model.proofs.Parts.{mem-stands, part-takes}
use Rattle.model.proofs.Picking.{pick_choose}
use Rattle.model.proofs.Playing.{one, as-expected}
use Rattle.model.proofs.Requests.{find-size-rules}
use Rattle.model.proofs.RulesAreReference.{part-share, taken-removed, room-same}

-- every address is a multiple of 1
by_ones : (rs : List Range) → Aligned 1 rs
by_ones [] = tt
by_ones (r ∷ rs) = (omega arith, omega arith, by_ones rs)

not-too-many : (o : Option ℕ) (n k : ℕ) → too_many o n ≡ false → k ≤ n → too_many o k ≡ false
not-too-many o n k e p = room-same o k ∙ ap not (room-for-fewer o n k (not-false (room_for o n) (sym (room-same o n) ∙ e)) p)

-- OVER MARKS
module _ (a : Arena) (m : Marks) (order : a.base ≤ a.limit) (i : Inside a.base a.limit m) where
  -- the same arena, where bytes need not be aligned
  abbrev bytes : Arena
  bytes = record { base = a.base; limit = a.limit; align = 1; room = a.room }

  abbrev rs : List Range
  rs = isolated a m

  canon : Canon bytes rs
  canon = record { apart = runs-sorted a.base a.limit m order i; aligned = by_ones rs }

  sized : (w : Which) (n : ℕ) → SizeRules a w n → SizeRules bytes w n
  sized Which.First n z = (z.0, omega arith)
  sized Which.Last n z = (z.0, omega arith)
  sized Which.Largest n z = omega arith

  removed-fewer : (w : Which) (n : ℕ) (mode : Mode) → SizeRules a w n → (r : Range) → choose w n rs ≡ some r →
      length (isolated a (removed (acting w mode) m (share (acting w mode) n r))) ≤ length rs
  removed-fewer w n mode z r e =
      let c = choose-mem w n rs r e in
      let f = part w mode n r in
      let t = part-takes bytes w mode n rs r (mem-stands 1 a.base a.limit rs r canon.apart canon.aligned c.0) c.1 (sized w n z) in
      let s = taken-same bytes order mode rs r f t canon in
      let after : removed (acting w mode) m (share (acting w mode) n r) ≡ marks_of (taken list_ops mode rs f) =
      ap (removed (acting w mode) m) (sym (part-share w mode n r))
      ∙ sym (taken-removed a w mode m f)
      ∙ ap (λ (x : Marks). taken (marks_ops a) mode x f) (sym (runs-marks a.base a.limit m order i))
      ∙ s.0 in
      rw (after, ranges-same bytes order (taken list_ops mode rs f) s.1) (taken-length bytes rs canon mode r f c.0 t)

  serves-fewer : (w : Which) (n : ℕ) (mode : Mode) → SizeRules a w n → (o : Option Range) → choose w n rs ≡ o →
      length (isolated a (serves (acting w mode) n m o).next) ≤ length rs
  serves-fewer w n mode z none e = omega arith
  serves-fewer w n mode z (some r) e = removed-fewer w n mode z r e

  module _ (f : too_many a.room (length (isolated a m)) ≡ false) where
    serves-same : (w : Which) (n : ℕ) (mode : Mode) → SizeRules a w n → (o : Option Range) → choose w n rs ≡ o →
        serves_01 a (acting w mode) n m o ≡ serves (acting w mode) n m o
    serves-same w n mode z none e = refl
    serves-same w n mode z (some r) e =
        rw (not-too-many a.room (length rs) (length (isolated a (removed (acting w mode) m (share (acting w mode) n r)))) f (removed-fewer w n mode z r e))

    calls_same : (c : Call) → reference_01 a c m ≡ reference a c m
    calls_same (insert b l) = refl
    calls_same (delete b l) = refl
    calls_same (find w n mode) =
        by (good_size_in a w n)
        (λ g. rw (g, pick_choose w (find_size_in a n) (isolated a m))
        (serves-same w (find_size_in a n) mode (find-size-rules a w n g) (choose w (find_size_in a n) (isolated a m)) refl))
        (λ g. rw g)
    calls_same (walk x) = refl

pub no-find-leaves-more : FindsNoMore
no-find-leaves-more a m order i w n mode =
    by (good_size_in a w n)
    (λ g. rw (g, pick_choose w (find_size_in a n) (isolated a m))
    (serves-fewer a m order i w (find_size_in a n) mode (find-size-rules a w n g) (choose w (find_size_in a n) (isolated a m)) refl))
    (λ g. rw g (omega arith))

pub same-as-01 : SameAs01
same-as-01 a m order i f c = calls_same a m order i f c

-- OVER A LAND
pub land-finds-no-more : {H : Type 0} (R : LandLayout H) → LandLaws R → LandFindsNoMore R
land-finds-no-more R L h ws w n mode = go (R.read h ws) refl
  where
    go : (g : Reading (List Range)) → R.read h ws ≡ g →
        (R.show (land_call R (find w n mode) h ws).handle (land_call R (find w n mode) h ws).words).count ≤ (R.show h ws).count
    go (fault k) e = rw (call-fault R (find w n mode) h ws k e) (omega arith)
    go (holding rs) e =
        let a = R.arena h ws in
        let d = land_call R (find w n mode) h ws in
        let f = L.sound h ws rs e in
        let t = one Fine land_answers list_rules reference_rules marks_of land-alike R L (find w n mode) h ws rs e in
        let next = (step list_ops a (find w n mode) rs).next in
        let before : (R.show h ws).count ≡ length rs = ap (λ (v : Shown). v.count) f.1 in
        let after : (R.show d.handle d.words).count ≡ length next = ap (λ (v : Shown). v.count) (L.sound d.handle d.words next t.reads).1 in
        let k = finds-no-more a rs f.0.canon w n mode in
        omega arith

-- OVER HISTORIES
fine-same : (a : Arena) (rs : List Range) → Fine a rs → (c : Call) → reference_01 a c (marks_of rs) ≡ reference a c (marks_of rs)
fine-same a rs f c =
    same-as-01 a (marks_of rs) f.order (fine-inside a rs f)
    (rw (ranges-same a f.order rs f.canon, room-same a.room (length rs), f.room)) c

alike-01 : Alike Fine land_answers list_rules rules_01 marks_of
alike-01 = record {
  out_same = λ a c rs f. land-alike.out_same a c rs f ∙ ap (λ (s : Step Marks). s.out) (sym (fine-same a rs f c));
  next_same = λ a c rs f. ap (λ (s : Step Marks). s.next) (fine-same a rs f c) ∙ land-alike.next_same a c rs f;
  note_same = land-alike.note_same;
  told_same = land-alike.told_same;
  fine_next = land-alike.fine_next;
  kept = land-alike.kept;
}

pub histories-as-01 : {H : Type 0} (R : LandLayout H) → LandLaws R → HistoriesAs01 R
histories-as-01 R L h ws rs e cs os t =
    as-expected Fine land_answers list_rules rules_01 marks_of alike-01 R L (R.arena h ws) h ws cs os rs (R.noted h) refl refl e t
