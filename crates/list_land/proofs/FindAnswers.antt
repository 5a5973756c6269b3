-- What an edit of a sound list says of a find: a part of the range taken out. Assumes nothing.
use Prim.Native.Nat.{ℕ}
use mathlib.Core.Bool.{Bool, true, false}
use mathlib.Core.List.{List}
use mathlib.Core.Path.{◌≡◌}
use lib.Dec.{eqb}
use Rattle.units.specs.Rules.{find_size}
use Rattle.units.specs.declared.Mode.{Mode}
use Rattle.units.specs.declared.Range as units
use Rattle.units.specs.declared.Size.{Size}
use Rattle.units.specs.declared.Which.{Which}
use Rattle.units.specs.declared.rules.Arena.{Arena}
use Rattle.model.specs.Calls.{good_size_in}
use Rattle.model.specs.inner.Lists.{delete_from, plain}
use Rattle.model.specs.Marks.{struct}
use Rattle.model.specs.inner.Steps.{part}
use Rattle.model.proofs.lands.FindAnswers as answers
use Rattle.model.proofs.lands.FindAnswers.{find-long, find-part}
use Rattle.finds.specs.inner.Parts.{Within}
use Rattle.list_words.specs.declared.Spot.{Spot}
use Rattle.list_words.specs.declared.Chain.{Chain}
use Rattle.list_edits.specs.inner.Chains.{met_of, Holding, cut_chain, cut_words}
use Rattle.list_land.specs.Calls.{found, found_of}
use Rattle.list_land.specs.Layout.{base, arena_of, walk_of, closed_with}
use Rattle.list_land.specs.inner.Parts.{arena_in, chain_in, Looked, find_aim}
use Rattle.list_land.specs.declared.ListLand.{ListLand}
use Rattle.list_land.proofs.Land.{list_land}
use Rattle.list_land.proofs.Requests.{looked-held, closes}

module _ (h : ListLand) (ws : List ℕ) (w : Which) (n : Size) (mode : Mode) (s : Spot) (k : Looked h ws (find_aim h w n) s)
    (g : good_size_in (arena_of h) w n.0 ≡ true) (t : Bool) (et : t ≡ eqb s.here.base.0 0) (f : t ≡ false)
    (a : Arena) (ea : a ≡ arena_in h) (m : Size) (em : m.0 ≡ find_size a.align.0 n.0) where
  pub find-within : Within m s.here
  find-within = record { long = find-long list_land h ws w n mode s k g t et f a ea m em }

  module _ (o : (mode ≡ Mode.None → ⊥))
      (y : units.Range) (ey : y ≡ struct (part w mode m.0 (plain s.here))) (c : Chain) (ec : c ≡ chain_in h) where
    pub find-holding : Holding a ws c s y
    find-holding =
        let p = find-part list_land h ws w n mode s k g t et f a ea m em o y ey in
        record {
          aim = find_aim h w n;
          held = looked-held h ws (find_aim h w n) s k a ea c ec;
          low = p.low;
          proper = p.proper;
          high = p.high;
          base_aligned = rw ea p.base_aligned;
          limit_aligned = rw ea p.limit_aligned;
        }

    pub find-0 : (v : Chain) (vs : List ℕ) → (v ≡ cut_chain (met_of a ws c) y) × (vs ≡ cut_words (met_of a ws c) y a.base.0 ws) →
        (z : ListLand) → z ≡ closed_with h v.head v.ranges v.bytes →
        (record { land = z; answer = 0; range = y; old = s.here } ≡ found_of (found h ws w n.0 mode)) × (vs ≡ (found h ws w n.0 mode).words)
    find-0 v vs p z ez =
        let u : (v ≡ cut_chain (walk_of h ws).met y) × (vs ≡ cut_words (walk_of h ws).met y (base h) ws) = rw (ea, ec) at p in
        answers.find-0 list_land h ws w n mode s k g t et f a ea m em o y ey
        z (closes h (delete_from y.base.0 y.limit.0 (walk_of h ws).met) v u.0 z ez) vs u.1
