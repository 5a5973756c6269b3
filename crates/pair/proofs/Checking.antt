-- The checks of a call of a pair: their ways out, and what they say of both lands. Assumes nothing.
use Prim.Native.Nat.{ℕ, ◌<◌}
use mathlib.Core.Bool.{Bool, true, false, not, cond, ◌&&◌, and-false, and-true}
use mathlib.Core.List.{List}
use mathlib.Core.Path.{◌≡◌, sym, ap, ap₂, ◌∙◌}
use native.Mathlib.Omega.{arith}
use lib.ListN.{length}
use Rattle.std.specs.Prelude.{Result, Ok, Err}
use Rattle.units.specs.Rules.{arena_check, good_align, good_arena}
use Rattle.units.specs.inner.Parts.{Checked, set_up_of, soundness_of}
use Rattle.units.specs.LowWater.{sound_low}
use Rattle.units.specs.inner.Aims.{aim_of}
use Rattle.units.specs.Words.{range_of}
use Rattle.units.specs.declared.Range as ranges
use Rattle.units.specs.declared.aims.Aim.{Aim}
use Rattle.units.specs.declared.rules.Arena as units
use Rattle.units.specs.declared.refusals.Refusal.{Refusal}
use Rattle.units.proofs.Cases.{set-up-true, set-up-err, sound-true, sound-err}
use Rattle.units.proofs.Tests.{by, and_left, and_right, and_second}
use Rattle.model.specs.Marks.{Range}
use Rattle.list_words.specs.inner.Surveys as list-words
use Rattle.list_words.specs.inner.Surveys.{kept_of}
use Rattle.list_words.specs.declared.Chain.{Chain}
use Rattle.list_words.specs.declared.Spot.{Spot}
use Rattle.list_land.specs.Layout as list
use Rattle.list_land.proofs.Land as list_land
use Rattle.list_land.specs.inner.Parts as list-parts
use Rattle.list_land.proofs.Sound as list-sound
use Rattle.block_words.specs.inner.Surveys.{entry_of, Rising}
use Rattle.block_words.specs.inner.Tallies.{Ready}
use Rattle.block_words.specs.Words.{pairs, sound_table}
use Rattle.block_words.specs.declared.Entry.{Entry}
use Rattle.block_words.proofs.Surveying.{sound-rising}
use Rattle.block_land.specs.Layout as block
use Rattle.block_land.proofs.Land as block_land
use Rattle.flush.specs.Flush.{same_arena}
use Rattle.flush.specs.Flush as flush-check
use Rattle.flush.proofs.FlushKeeps.{OneArena, one-arena}
use Rattle.pair_model.specs.PairLayouts.{meet}
use Rattle.pair_words.specs.inner.Besides.{survey_beside}
use Rattle.pair.specs.Calls.{set_up, sound}
use Rattle.pair.specs.inner.Parts.{aim_in, sound_lows, check_of, refused_by, found_none}
use Rattle.pair.specs.declared.Pair.{Pair}

pub refused-made : (p : Pair) (n : ℕ) (r : ranges.Range) → r ≡ range_of 0 0 → record { pair = p; answer = n; range = r } ≡ refused_by p n
refused-made p n r e = rw e

pub none_made : (p : Pair) (n : ℕ) (r o : ranges.Range) → r ≡ range_of 0 0 → o ≡ range_of 0 0 → record { pair = p; answer = n; range = r; old = o } ≡ found_none p n
none_made p n r o e f = rw (e, f)

-- the arenas are one, so the set-up of the list tells that of the block land
module _ (p : Pair) (ws vs : List ℕ) (q : Checked) (eq : q ≡ set_up_of (same_arena p.list p.block)) where
  pub up-differ : (x : Refusal) → q ≡ Err x → Err x ≡ set_up_of (set_up p ws vs)
  up-differ x f =
      let k = set-up-err (same_arena p.list p.block) x (sym f ∙ eq) in
      rw (
        k.1,
        k.0,
        and-false (block.set_up p.block vs),
        and-false (list.set_up p.list ws),
      )

  module _ (f : q ≡ Ok tt) (r : Checked) (er : r ≡ set_up_of (list.set_up p.list ws)) where
    pub up-list : (x : Refusal) → r ≡ Err x → Err x ≡ set_up_of (set_up p ws vs)
    up-list x g = let k = set-up-err (list.set_up p.list ws) x (sym g ∙ er) in rw (k.1, k.0)

    module _ (g : r ≡ Ok tt) where
      is_same : same_arena p.list p.block ≡ true
      is_same = set-up-true (same_arena p.list p.block) q eq f

      list-good : list.set_up p.list ws ≡ true
      list-good = set-up-true (list.set_up p.list ws) r er g

      block-lent : block.set_up p.block vs ≡ block.lent vs
      unfolding list.set_up block.set_up
      block-lent =
          let o = one-arena p.list p.block is_same in
          let c = and_left (good_arena (arena_check (list.base p.list) (list.limit p.list) (list.align p.list))) _ list-good in
          let d : good_arena (arena_check (block.base p.block) (block.limit p.block) (block.align p.block)) ≡ true =
          rw (← o.base, ← o.limit, ← o.align) c in
          rw d

      pub up-lent : (t : Checked) → t ≡ set_up_of (block.lent vs) → t ≡ set_up_of (set_up p ws vs)
      up-lent t et = rw (list-good, is_same, block-lent, and-true (block.lent vs)) et

pub ruleset ups = (up-differ, up-list, up-lent)

-- what a good set-up says
module _ (p : Pair) (ws vs : List ℕ) (g : set_up p ws vs ≡ true) where
  pub list_up : list.set_up p.list ws ≡ true
  list_up = and_left (list.set_up p.list ws) _ g

  rest_up : (block.set_up p.block vs && same_arena p.list p.block) ≡ true
  rest_up = and_right (list.set_up p.list ws) _ g

  pub block_up : block.set_up p.block vs ≡ true
  block_up = and_left (block.set_up p.block vs) _ rest_up

  pub same_up : OneArena p.list p.block
  same_up = one-arena p.list p.block (and_right (block.set_up p.block vs) _ rest_up)

-- the checks of a flush are good where both lands are sound
pub flush-good : (p : Pair) (ws vs : List ℕ) → set_up p ws vs ≡ true → list.sound p.list ws ≡ true → block.sound p.block vs ≡ true →
    flush-check.check_of p.list ws p.block vs ≡ Ok tt
unfolding flush-check.check_of
flush-good p ws vs g s t =
    rw (list_up p ws vs g, block_up p ws vs g, and_right (block.set_up p.block vs) (same_arena p.list p.block) (rest_up p ws vs g), s, t)

err-is : {T : Type 0} (r : Refusal) → ◌≡◌ {A = Result T Refusal} (Err r) (Err Refusal.Damaged) → r ≡ Refusal.Damaged
err-is r e = cc

-- the set-up, then the look
pub check_up : (p : Pair) (ws vs : List ℕ) (aim : Aim) (r : Checked) (x : Refusal) → r ≡ set_up_of (set_up p ws vs) → r ≡ Err x → Err x ≡ check_of p ws vs aim
unfolding check_of
check_up p ws vs aim r x er f = let k = set-up-err (set_up p ws vs) x (sym f ∙ er) in rw (k.1, k.0)

-- low water of both lands
abbrev list-low : Pair → Bool
list-low p = sound_low p.list.water p.list.bytes.0

abbrev block-low : Pair → Bool
block-low p = sound_low p.block.water p.block.bytes.0

module _ (p : Pair) (z : Checked) (ez : z ≡ soundness_of (list-low p)) where
  pub lows-list : (x : Refusal) → z ≡ Err x → Err x ≡ soundness_of (sound_lows p)
  lows-list x f = let k = sound-err (list-low p) x (sym f ∙ ez) in rw (k.1, k.0)

  pub lows-block : z ≡ Ok tt → (y : Checked) → y ≡ soundness_of (block-low p) → y ≡ soundness_of (sound_lows p)
  lows-block f y ey = rw (sound-true (list-low p) z ez f) ey

-- the low water of a land that is not sound
pub check-low : (p : Pair) (ws vs : List ℕ) (aim : Aim) → set_up p ws vs ≡ true → (z : Checked) → z ≡ soundness_of (sound_lows p) → (x : Refusal) → z ≡ Err x →
    Err x ≡ check_of p ws vs aim
unfolding check_of
check-low p ws vs aim good z ez x f =
    let k = sound-err (sound_lows p) x (sym f ∙ ez) in
    rw k.1 (by (list-low p)
    (λ t. let u : block-low p ≡ false = and_second (list-low p) (block-low p) k.0 t in
    let v : block.sound p.block vs ≡ false = block_land.sound-is p.block vs ∙ rw (u, and-false (block_land.judged p.block vs)) in
    rw (good, v, and-false (list.sound p.list ws)))
    (λ t. let v : list.sound p.list ws ≡ false = list_land.sound-is p.list ws ∙ rw (t, and-false (list_land.judged p.list ws)) in rw (good, v)))

-- the look of a call whose set-up is good
module _ (p : Pair) (ws vs : List ℕ) (aim : Aim) (good : set_up p ws vs ≡ true) where
  at : list-sound.SetUpFacts p.list (length ws)
  at = list-sound.placed p.list ws (list_up p ws vs good)

  pub check-align : (b : units.Arena) → b ≡ list-parts.arena_in p.list → good_align b.align.0 ≡ true
  check-align b eb = rw eb at.arena.align

  module _ (a : units.Arena) (ea : a ≡ list-parts.arena_in p.list) where
    pub check-arena : Ready a
    check-arena = rw ea at.ready.arena

    pub check-positive : (b : units.Arena) → b ≡ a → 0 < b.align.0
    check-positive b eb = rw (eb ∙ ea) at.positive

    pub check-words : (b : units.Arena) → b ≡ a → list-words.Ready b (length ws)
    check-words b eb = rw (eb ∙ ea) at.ready

    abbrev n : ℕ
    n = p.block.ranges

    abbrev table : Bool
    table = sound_table a.base.0 a.limit.0 a.align.0 vs n p.block.bytes.0

    is-table : table ≡ block_land.judged p.block vs
    is-table = let o = same_up p ws vs good in rw (ea, o.base, o.limit, o.align)

    module _ (o : Checked) (eo : o ≡ soundness_of table) where
      pub check-table : (x : Refusal) → o ≡ Err x → Err x ≡ check_of p ws vs aim
      unfolding check_of
      check-table x g =
          let k = sound-err table x (sym g ∙ eo) in
          let t : block_land.judged p.block vs ≡ false = sym is-table ∙ k.0 in
          let u : block.sound p.block vs ≡ false = block_land.sound-is p.block vs ∙ rw t in
          rw (k.1, good, u, and-false (list.sound p.list ws))

      module _ (g : o ≡ Ok tt) where
        table-sound : table ≡ true
        table-sound = sound-true table o eo g

        pub check-rising : Rising vs n
        check-rising = sound-rising a vs n p.block.bytes check-arena table-sound

        module _ (b : units.Arena) (eb : b ≡ a) (x : Aim) (ex : x ≡ aim_of b aim) (h : Chain) (eh : h ≡ list-parts.chain_in p.list)
            (v : Result Spot Refusal) (ev : v ≡ survey_beside b ws h vs n x) where
          is-aim : x ≡ aim_in p aim
          is-aim = ex ∙ ap (λ (y : units.Arena). aim_of y aim) (eb ∙ ea)

          abbrev met : List Range
          met = (list.walk_of p.list ws).met

          abbrev overlap : Bool
          overlap = meet met (block.table_of p.block vs)

          abbrev both : Bool
          both = list_land.judged p.list ws && not overlap

          found : v ≡ cond both (Ok (kept_of (aim_in p aim) met)) (Err Refusal.Damaged)
          unfolding survey_beside
          found = ev ∙ ap (survey_beside b ws h vs n) is-aim ∙ ap₂ (λ (y : units.Arena) (z : Chain). survey_beside y ws z vs n (aim_in p aim)) (eb ∙ ea) eh

          pub check-walk : (r : Refusal) → v ≡ Err r → Err r ≡ check_of p ws vs aim
          unfolding check_of
          check-walk r d =
              by (list_land.judged p.list ws)
              (λ t. by overlap
              (λ u. let q : Err r ≡ Err Refusal.Damaged = sym d ∙ rw (t, u) at found in rw (good, u, and-false (block.sound p.block vs), and-false (list.sound p.list ws)) (ap (λ (y : Refusal). Err y) (err-is r q)))
              (λ u. let q : v ≡ Ok (kept_of (aim_in p aim) met) = rw (t, u) at found in let z : ◌≡◌ {A = ℕ} 0 1 = cc in absurd (omega arith)))
              (λ t. let q : Err r ≡ Err Refusal.Damaged = sym d ∙ rw t at found in
              let u : list.sound p.list ws ≡ false = list_land.sound-is p.list ws ∙ rw t in rw (good, u) (ap (λ (y : Refusal). Err y) (err-is r q)))

          module _ (lows : sound_lows p ≡ true) where
            as-sound : sound p ws vs ≡ both
            as-sound =
                let t : list.sound p.list ws ≡ list_land.judged p.list ws =
                list_land.sound-is p.list ws ∙ rw (and_left (list-low p) (block-low p) lows, and-true (list_land.judged p.list ws)) in
                let u : block.sound p.block vs ≡ true =
                block_land.sound-is p.block vs ∙ rw (and_right (list-low p) (block-low p) lows, ← is-table, table-sound) in
                rw (t, u)

            pub check-good : (s : Spot) → v ≡ Ok s → (e : Entry) → e ≡ entry_of x (pairs vs n) → Ok (s, e) ≡ check_of p ws vs aim
            unfolding check_of
            check-good s d e ee =
                by both
                (λ t. let q : v ≡ Ok (kept_of (aim_in p aim) met) = rw t at found in
                let w : s ≡ kept_of (aim_in p aim) met = cc in rw (good, as-sound, t) (ap₂ (λ (y : Spot) (z : Entry). Ok (y, z)) w (ee ∙ ap (λ (y : Aim). entry_of y (pairs vs n)) is-aim)))
                (λ t. let q : v ≡ Err Refusal.Damaged = rw t at found in let z : ◌≡◌ {A = ℕ} 0 1 = cc in absurd (omega arith))
