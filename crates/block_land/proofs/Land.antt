-- The block land, as the laws on answers of `model` take it. Assumes nothing.
use Prim.Native.Nat.{ℕ}
use mathlib.Core.Bool.{Bool, cond, ◌&&◌}
use mathlib.Core.List.{List}
use mathlib.Core.Option.{none}
use mathlib.Core.Path.{◌≡◌, refl, ◌∙◌}
use Rattle.std.specs.Prelude.{Ok, Err}
use Rattle.units.specs.LowWater.{sound_low}
use Rattle.units.specs.Rules.{good_arena}
use Rattle.units.specs.declared.aims.Aim.{Aim}
use Rattle.units.specs.declared.refusals.Refusal.{Refusal}
use Rattle.model.specs.Calls.{Call}
use Rattle.model.specs.Lands.{land_call}
use Rattle.model.specs.Layouts.{reading}
use Rattle.model.proofs.Aiming.{picked-by}
use Rattle.model.proofs.lands.Land.{Land, check-of}
use Rattle.block_words.specs.Words.{sound_table}
use Rattle.block_words.specs.inner.Surveys.{entry_of}
use Rattle.block_words.specs.declared.Entry.{Entry}
use Rattle.block_edits.proofs.Entering.{entry_here}
use Rattle.block_land.specs.Calls.{does}
use Rattle.block_land.specs.Layout.{base, limit, align, lent, set_up, sound, table_of, read_of, layout}
use Rattle.block_land.specs.inner.Parts.{arena_in, look_of}
use Rattle.block_land.specs.declared.BlockLand.{BlockLand}
use Rattle.block_land.specs.declared.Changed.{Changed}
use Rattle.block_land.specs.declared.Found.{Found}
use Rattle.block_land.proofs.LayoutLaws.{block-laws, words_back}
use Rattle.block_land.proofs.Sound.{fine}

pub is_call : (c : Call) (h : BlockLand) (ws : List ℕ) → does c h ws ≡ land_call layout c h ws
unfolding does
is_call c h ws = refl

pub set-up-is : (h : BlockLand) (ws : List ℕ) → set_up h ws ≡ good_arena (check-of (arena_in h)) && lent ws
unfolding set_up
set-up-is h ws = refl

-- the table and both counts
abbrev pub judged : BlockLand → List ℕ → Bool
judged h ws = sound_table (base h) (limit h) (align h) ws h.ranges h.bytes.0

pub sound-is : (h : BlockLand) (ws : List ℕ) → sound h ws ≡ judged h ws && sound_low h.water h.bytes.0
unfolding sound
sound-is h ws = refl

pub reads_as : (h : BlockLand) (ws : List ℕ) → read_of h ws ≡ reading (set_up h ws) (sound h ws) (table_of h ws)
unfolding read_of
reads_as h ws = refl

pub looks : (h : BlockLand) (ws : List ℕ) (aim : Aim) →
    look_of h ws aim ≡ cond (set_up h ws) (cond (sound h ws) (Ok (entry_of aim (table_of h ws))) (Err Refusal.Damaged)) (Err Refusal.SetUp)
unfolding look_of
looks h ws aim = refl

abbrev pub block_land : Land BlockLand Entry Changed Found
block_land = record {
  layout = layout;
  lent = λ h ws. lent ws;
  set-up = set_up;
  judged = judged;
  sound = sound;
  bytes = λ h. h.bytes;
  ranges = table_of;
  arena-in = arena_in;
  look = look_of;
  aimed = λ h aim. aim;
  keep = entry_of;
  here = λ s. s.here;
  change = λ h n r. record { land = h; answer = n; range = r };
  find-made = λ h n r o. record { land = h; answer = n; range = r; old = o };
  does = does;
  is_call = is_call;
  laws = block-laws;
  set-up-is = set-up-is;
  sound-is = sound-is;
  reads = reads_as;
  arena-is = λ h ws. refl;
  looks = looks;
  aims-from = λ h x. refl;
  keeps = λ aim lo hi rs z a. entry_here aim rs ∙ picked-by aim none rs;
  words_back = λ h ws g s. words_back h ws (fine h ws g s);
}
