-- The list land, as the laws on answers of `model` take it. Assumes nothing.
use Prim.Native.Nat.{ℕ}
use mathlib.Core.Bool.{Bool, ◌&&◌}
use mathlib.Core.List.{List}
use mathlib.Core.Option.{Option, none, some}
use mathlib.Core.Path.{◌≡◌, refl}
use lib.Dec.{eqb}
use lib.ListN.{length}
use Rattle.units.specs.LowWater.{sound_low}
use Rattle.units.specs.Rules.{good_arena}
use Rattle.units.specs.Words.{word_number}
use Rattle.units.specs.declared.aims.Aim.{Aim}
use Rattle.model.specs.Calls.{Call}
use Rattle.model.specs.Lands.{land_call}
use Rattle.model.specs.Layouts.{reading}
use Rattle.model.specs.Marks.{Range}
use Rattle.model.specs.inner.Looks as model
use Rattle.model.specs.inner.Picks.{here_of}
use Rattle.model.proofs.Aiming.{pick-by}
use Rattle.model.proofs.lands.Land.{Land, check-of}
use Rattle.list_words.specs.Words.{sound_walk}
use Rattle.list_words.specs.inner.Surveys.{kept_of}
use Rattle.list_words.specs.declared.Spot.{Spot}
use Rattle.list_words.proofs.Keeping.{SpotOf, kept-placed}
use Rattle.list_words.proofs.Laid.{lay-laid}
use Rattle.list_land.specs.Calls.{does}
use Rattle.list_land.specs.Layout.{base, limit, set_up, walk_of, sound, read_of, layout}
use Rattle.list_land.specs.inner.Parts.{arena_in, aim_in, look_of}
use Rattle.list_land.specs.declared.Changed.{Changed}
use Rattle.list_land.specs.declared.Found.{Found}
use Rattle.list_land.specs.declared.ListLand.{ListLand}
use Rattle.list_land.proofs.LayoutLaws.{list-laws}
use Rattle.list_land.proofs.Sound.{fine}

pub is_call : (c : Call) (h : ListLand) (ws : List ℕ) → does c h ws ≡ land_call layout c h ws
unfolding does
is_call c h ws = refl

pub set-up-is : (h : ListLand) (ws : List ℕ) → set_up h ws ≡ good_arena (check-of (arena_in h)) && eqb (word_number (base h) (limit h)) (length ws)
unfolding set_up
set-up-is h ws = refl

-- the walk and both counts
abbrev pub judged : ListLand → List ℕ → Bool
judged h ws = sound_walk (walk_of h ws) h.ranges h.bytes.0

pub sound-is : (h : ListLand) (ws : List ℕ) → sound h ws ≡ judged h ws && sound_low h.water h.bytes.0
unfolding sound
sound-is h ws = refl

pub reads_as : (h : ListLand) (ws : List ℕ) → read_of h ws ≡ reading (set_up h ws) (sound h ws) (walk_of h ws).met
unfolding read_of
reads_as h ws = refl

pub looks : (h : ListLand) (ws : List ℕ) (aim : Aim) →
    look_of h ws aim ≡ model.look_of (set_up h ws) (sound h ws) (kept_of (aim_in h aim) (walk_of h ws).met)
unfolding look_of
looks h ws aim = refl

pub placed-here : (rs : List Range) (o : Option Range) (s : Spot) → SpotOf rs o s → s.here ≡ here_of o
placed-here rs none s p = p.here
placed-here rs (some q) s p = p.here

abbrev pub list_land : Land ListLand Spot Changed Found
list_land = record {
  layout = layout;
  lent = λ h ws. eqb (word_number (base h) (limit h)) (length ws);
  set-up = set_up;
  judged = judged;
  sound = sound;
  bytes = λ h. h.bytes;
  ranges = λ h ws. (walk_of h ws).met;
  arena-in = arena_in;
  look = look_of;
  aimed = aim_in;
  keep = kept_of;
  here = λ s. s.here;
  change = λ h n r. record { land = h; answer = n; range = r };
  find-made = λ h n r o. record { land = h; answer = n; range = r; old = o };
  does = does;
  is_call = is_call;
  laws = list-laws;
  set-up-is = set-up-is;
  sound-is = sound-is;
  reads = reads_as;
  arena-is = λ h ws. refl;
  looks = looks;
  aims-from = λ h x. refl;
  keeps = λ aim lo hi rs z a. placed-here rs (pick-by aim none rs) (kept_of aim rs) (kept-placed aim lo hi rs z a);
  words_back = λ h ws g s. lay-laid (base h) (walk_of h ws).met ws (fine h ws g s).laid;
}
