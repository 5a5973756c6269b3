-- The ways out of the inner functions of the block land. Assumes nothing.
use Prim.Native.Nat.{ℕ, ◌≤◌, ◌<◌}
use mathlib.Core.Bool.{true, false, cond}
use mathlib.Core.List.{List, []}
use mathlib.Core.Path.{◌≡◌, sym, ap, ◌∙◌}
use lib.ListN.{length}
use borrow.Author.Tests.{le-leb, lt-leb}
use Rattle.std.specs.Prelude.{Result, Ok, Err}
use Rattle.units.specs.Rules.{refusal_number}
use Rattle.units.specs.LowWater.{unset, noted, sound_low}
use Rattle.units.specs.inner.Parts.{Checked, set_up_of, soundness_of}
use Rattle.units.specs.declared.Addr.{Addr}
use Rattle.units.specs.declared.Align.{Align}
use Rattle.units.specs.declared.Size.{Size}
use Rattle.units.specs.declared.aims.Aim.{Aim}
use Rattle.units.specs.declared.rules.Arena.{Arena}
use Rattle.units.specs.declared.low_water.LowWater.{LowWater}
use Rattle.units.specs.declared.refusals.Refusal.{Refusal}
use Rattle.units.proofs.Cases.{set-up-true, set-up-err, sound-true, sound-err}
use Rattle.units.proofs.Tests.{and_left}
use Rattle.model.proofs.lands.Ways.{low-damaged, low-sound, look-told}
use Rattle.block_words.specs.inner.Tallies.{Ready}
use Rattle.block_words.specs.inner.Surveys.{entry_of, Rising, survey_of}
use Rattle.block_words.specs.declared.Entry.{Entry}
use Rattle.block_words.specs.Words.{pairs, sound_table, fill}
use Rattle.block_words.proofs.Surveying.{sound-rising}
use Rattle.block_land.specs.Calls.{new_land, opened_of, opened_words}
use Rattle.block_land.specs.Layout.{lent, set_up, sound, table_of, closed_with}
use Rattle.block_land.specs.inner.Parts.{arena_in, look_of, Looked}
use Rattle.block_land.specs.declared.BlockLand.{BlockLand}
use Rattle.block_land.proofs.Land.{block_land, judged, sound-is}
use Rattle.block_land.proofs.Sound.{placed}

-- THE WORDS LENT
pub lent-good : (ws : List ℕ) → length ws ≤ 2097152 → Ok tt ≡ set_up_of (lent ws)
lent-good ws k = rw (le-leb (length ws) 2097152 k)

pub lent-bad : (ws : List ℕ) → 2097152 < length ws → Err Refusal.SetUp ≡ set_up_of (lent ws)
lent-bad ws k = rw (lt-leb (length ws) 2097152 k)

-- A GOOD SET-UP
module _ (h : BlockLand) (ws : List ℕ) (r : Checked) (e : r ≡ set_up_of (set_up h ws)) (f : r ≡ Ok tt) (a : Arena) (ea : a ≡ arena_in h) where
  pub good-ready : Ready a
  good-ready = rw ea (placed h ws (set-up-true (set_up h ws) r e f)).check

  -- the land judged
  module _ (z : Checked) (ez : z ≡ soundness_of (sound h ws)) where
    pub land-damaged : (x : Refusal) → z ≡ Err x → (sound h ws ≡ false) × (x ≡ Refusal.Damaged)
    land-damaged x g = sound-err (sound h ws) x (sym g ∙ ez)

    module _ (g : z ≡ Ok tt) where
      pub land-rising : Rising ws h.ranges
      land-rising = sound-rising (arena_in h) ws h.ranges h.bytes (rw ea at good-ready) (and_left (judged h ws) _ (sym (sound-is h ws) ∙ sound-true (sound h ws) z ez g))

      pub land-kept : (aim : Aim) (d : Entry) → d ≡ entry_of aim (pairs ws h.ranges) → Looked h ws aim d
      land-kept aim d ed = record { good = set-up-true (set_up h ws) r e f; whole = sound-true (sound h ws) z ez g; kept = ed }

  -- THE LOOK
  module _ (z : Checked) (ez : z ≡ soundness_of (sound_low h.water h.bytes.0)) (fz : z ≡ Ok tt)
      (aim : Aim) (v : Result Entry Refusal) (ev : v ≡ survey_of a ws h.ranges h.bytes aim) where
    surveyed : v ≡ cond (judged h ws) (Ok (entry_of aim (table_of h ws))) (Err Refusal.Damaged)
    unfolding survey_of
    surveyed = ev ∙ ap (λ (x : Arena). survey_of x ws h.ranges h.bytes aim) ea

    pub look-surveyed : v ≡ look_of h ws aim
    look-surveyed = look-told block_land h z ez ws aim r e f fz v surveyed

-- JUDGED
module _ (h : BlockLand) (ws : List ℕ) (a : Arena) (ea : a ≡ arena_in h) where
  pub judge-ready : set_up h ws ≡ true → Ready a
  judge-ready g = rw ea (placed h ws g).check

  module _ (z : Checked) (ez : z ≡ soundness_of (sound_low h.water h.bytes.0)) where
    pub judge-low : (x : Refusal) → z ≡ Err x → Err x ≡ soundness_of (sound h ws)
    judge-low x g =
        let p = (sound-err (sound_low h.water h.bytes.0) x (sym g ∙ ez)).1 in
        rw (low-damaged block_land h z ez (rw p at g) ws, p)

    pub judge-table : z ≡ Ok tt → (y : Checked) → y ≡ soundness_of (sound_table a.base.0 a.limit.0 a.align.0 ws h.ranges h.bytes.0) →
        y ≡ soundness_of (sound h ws)
    judge-table g y ey = rw (low-sound block_land h z ez g ws) (rw ea at ey)

-- THE OPENING
pub new-made : (b l : Addr) (a : Align) (s : Size) (w : LowWater) → s.0 ≡ 0 → w ≡ unset →
    record { base = b; limit = l; align = a; ranges = 0; bytes = s; water = w } ≡ new_land b.0 l.0 a.0
new-made b l a s w e g = λ i. record { base = b; limit = l; align = a; ranges = 0; bytes = record { 0 = e i }; water = g i }

pub new-zero : (z : Addr) (n : Align) → z.0 ≡ 0 → n.0 ≡ 0 → (h : BlockLand) → h ≡ new_land z.0 z.0 n.0 → h ≡ new_land 0 0 0
new-zero z n ez en h e = e ∙ rw (ez, en)

module _ (b l a : ℕ) (ws : List ℕ) (h : BlockLand) (eh : h ≡ new_land b l a) (r : Checked) (e : r ≡ set_up_of (set_up h ws)) where
  pub open-good : r ≡ Ok tt → (vs : List ℕ) → vs ≡ fill [] ws → (record { land = h; answer = 0 } ≡ opened_of b l a ws) × (vs ≡ opened_words b l a ws)
  unfolding opened_of opened_words
  open-good f vs v =
      let t : set_up (new_land b l a) ws ≡ true = rw eh at (set-up-true (set_up h ws) r e f) in
      (rw t (ap (λ (x : BlockLand). record { land = x; answer = 0 }) eh), rw t v)

  pub open-bad : (x : Refusal) → r ≡ Err x → (z : BlockLand) → z ≡ new_land 0 0 0 → (n : ℕ) → n ≡ refusal_number x →
      (record { land = z; answer = n } ≡ opened_of b l a ws) × (ws ≡ opened_words b l a ws)
  unfolding opened_of opened_words
  open-bad x f z ez n en =
      let p = set-up-err (set_up h ws) x (sym f ∙ e) in
      let t : set_up (new_land b l a) ws ≡ false = rw eh at p.0 in
      let m : n ≡ refusal_number Refusal.SetUp = en ∙ ap refusal_number p.1 in
      (rw t (λ j. record { land = ez j; answer = m j }), rw t)

-- THE CLOSING
pub closed-made : (h : BlockLand) (n : ℕ) (s : Size) (w : LowWater) → w ≡ noted h.water s.0 →
    record { base = h.base; limit = h.limit; align = h.align; ranges = n; bytes = s; water = w } ≡ closed_with h n s
closed-made h n s w e = λ i. record { base = h.base; limit = h.limit; align = h.align; ranges = n; bytes = s; water = e i }
