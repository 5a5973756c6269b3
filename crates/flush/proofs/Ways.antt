-- The ways out of the inner functions of the flush. Assumes nothing.
use Prim.Native.Nat.{ℕ}
use mathlib.Core.Bool.{Bool, true, false, not}
use mathlib.Core.List.{List}
use mathlib.Core.Path.{◌≡◌, sym, ap, ◌∙◌}
use native.Mathlib.Omega.{arith}
use lib.Dec.{eqb}
use borrow.Author.Tests.{not-true, not-false}
use Rattle.std.specs.Prelude.{Result, Ok, Err}
use Rattle.units.specs.Rules.{refusal_number}
use Rattle.units.specs.inner.Parts.{Checked, set_up_of}
use Rattle.units.specs.declared.refusals.Refusal.{Refusal}
use Rattle.block_words.specs.declared.Entry.{Entry}
use Rattle.units.specs.declared.aims.Aim.{Aim}
use Rattle.units.proofs.Cases.{set-up-true, set-up-err}
use Rattle.model.specs.inner.Looks.{look_of}
use Rattle.model.proofs.lands.Looking.{look-ok, look-err}
use Rattle.list_words.specs.declared.Spot.{Spot}
use Rattle.list_land.specs.Layout as list
use Rattle.list_land.specs.inner.Parts as list-parts
use Rattle.list_land.specs.declared.ListLand.{ListLand}
use Rattle.list_land.proofs.Land.{list_land}
use Rattle.block_land.specs.Layout as block
use Rattle.block_land.specs.inner.Parts as block-parts
use Rattle.block_land.specs.declared.BlockLand.{BlockLand}
use Rattle.block_land.proofs.Land.{block_land}
use Rattle.flush.specs.Flush.{same_arena, check_of}
use Rattle.flush.specs.inner.Checks.{if_same, behind_damaged, behind_sound}
use Rattle.flush.specs.declared.FlushError.{FlushError}

not-set-up : Refusal.Damaged ≡ Refusal.SetUp → ⊥
not-set-up e = let z : ◌≡◌ {A = ℕ} 6 5 = ap refusal_number e in omega arith

-- ONE ARENA
module _ (h : ListLand) (k : BlockLand) (p : Bool) (ep : p ≡ eqb h.base.0 k.base.0) where
  pub same_base : not p ≡ true → Err Refusal.SetUp ≡ set_up_of (same_arena h k)
  same_base f = rw (← ep, not-true p f)

  module _ (fp : not p ≡ false) (q : Bool) (eq : q ≡ eqb h.limit.0 k.limit.0) where
    pub same-limit : not q ≡ true → Err Refusal.SetUp ≡ set_up_of (same_arena h k)
    same-limit f = rw (← ep, not-false p fp, ← eq, not-true q f)

    module _ (fq : not q ≡ false) (r : Bool) (er : r ≡ eqb h.align.0 k.align.0) where
      pub same_align : not r ≡ true → Err Refusal.SetUp ≡ set_up_of (same_arena h k)
      same_align f = rw (← ep, not-false p fp, ← eq, not-false q fq, ← er, not-true r f)

      pub same-all : not r ≡ false → Ok tt ≡ set_up_of (same_arena h k)
      same-all f = rw (← ep, not-false p fp, ← eq, not-false q fq, ← er, not-false r f)

pub ruleset same-ways = (same_base, same-limit, same_align, same-all)

-- THE CHECKS
-- a check behind the difference of the lands
module _ (h : ListLand) (k : BlockLand) (x : Result (Unit {0}) FlushError) (s : Checked) (es : s ≡ set_up_of (same_arena h k)) where
  pub differs : (r : Refusal) → s ≡ Err r → Err FlushError.Differ ≡ if_same h k x
  differs r f = rw (set-up-err (same_arena h k) r (sym f ∙ es)).0

  pub same : (u : Unit {0}) → s ≡ Ok u → x ≡ if_same h k x
  same u f = rw (set-up-true (same_arena h k) s es f)

-- behind a list that is not sound
module _ (h : ListLand) (k : BlockLand) (vs : List ℕ) (q : Checked) (eq : q ≡ set_up_of (block.set_up k vs)) where
  pub damaged-block : (r : Refusal) → q ≡ Err r → Err FlushError.BlockSetUp ≡ behind_damaged h k vs
  damaged-block r f = rw (set-up-err (block.set_up k vs) r (sym f ∙ eq)).0

  pub damaged-list : (u : Unit {0}) → q ≡ Ok u → (r : Result (Unit {0}) FlushError) → r ≡ if_same h k (Err FlushError.ListDamaged) → r ≡ behind_damaged h k vs
  damaged-list u f r e = rw (set-up-true (block.set_up k vs) q eq f) e

-- behind a sound list
module _ (h : ListLand) (k : BlockLand) (vs : List ℕ) (w : Result Entry Refusal) (ew : w ≡ block-parts.look_of k vs Aim.Nothing) where
  seen : w ≡ look_of (block.set_up k vs) (block.sound k vs) (block_land.keep (block_land.aimed k Aim.Nothing) (block_land.ranges k vs))
  seen = ew ∙ block_land.looks k vs Aim.Nothing

  abbrev kept : Entry
  kept = block_land.keep (block_land.aimed k Aim.Nothing) (block_land.ranges k vs)

  pub sound-block : (x : Refusal) → w ≡ Err x → x ≡ Refusal.SetUp → Err FlushError.BlockSetUp ≡ behind_sound h k vs
  sound-block x f e =
      look-err (block.set_up k vs) (block.sound k vs) kept x (sym f ∙ seen)
      (λ g q. rw g)
      (λ g s q. absurd (not-set-up (sym q ∙ e)))

  pub sound-damaged : (x : Refusal) → w ≡ Err x → (x ≡ Refusal.SetUp → ⊥) → (r : Result (Unit {0}) FlushError) → r ≡ if_same h k (Err FlushError.BlockDamaged) → r ≡ behind_sound h k vs
  sound-damaged x f n r e =
      look-err (block.set_up k vs) (block.sound k vs) kept x (sym f ∙ seen)
      (λ g q. absurd (n q))
      (λ g s q. rw (g, s) e)

  pub sound-good : (x : Entry) → w ≡ Ok x → (r : Result (Unit {0}) FlushError) → r ≡ if_same h k (Ok tt) → r ≡ behind_sound h k vs
  sound-good x f r e = let t = look-ok (block.set_up k vs) (block.sound k vs) kept x (sym f ∙ seen) in rw (t.0, t.1) e

-- the whole
module _ (h : ListLand) (ws : List ℕ) (k : BlockLand) (vs : List ℕ) (v : Result Spot Refusal) (ev : v ≡ list-parts.look_of h ws Aim.Nothing) where
  looked : v ≡ look_of (list.set_up h ws) (list.sound h ws) (list_land.keep (list_land.aimed h Aim.Nothing) (list_land.ranges h ws))
  looked = ev ∙ list_land.looks h ws Aim.Nothing

  abbrev spot : Spot
  spot = list_land.keep (list_land.aimed h Aim.Nothing) (list_land.ranges h ws)

  pub check-list : (x : Refusal) → v ≡ Err x → x ≡ Refusal.SetUp → Err FlushError.ListSetUp ≡ check_of h ws k vs
  unfolding check_of
  check-list x f e =
      look-err (list.set_up h ws) (list.sound h ws) spot x (sym f ∙ looked)
      (λ g q. rw g)
      (λ g s q. absurd (not-set-up (sym q ∙ e)))

  pub check-damaged : (x : Refusal) → v ≡ Err x → (x ≡ Refusal.SetUp → ⊥) → (r : Result (Unit {0}) FlushError) → r ≡ behind_damaged h k vs → r ≡ check_of h ws k vs
  unfolding check_of
  check-damaged x f n r e =
      look-err (list.set_up h ws) (list.sound h ws) spot x (sym f ∙ looked)
      (λ g q. absurd (n q))
      (λ g s q. rw (g, s) e)

  pub check_sound : (x : Spot) → v ≡ Ok x → (r : Result (Unit {0}) FlushError) → r ≡ behind_sound h k vs → r ≡ check_of h ws k vs
  unfolding check_of
  check_sound x f r e = let t = look-ok (list.set_up h ws) (list.sound h ws) spot x (sym f ∙ looked) in rw (t.0, t.1) e
