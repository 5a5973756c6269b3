-- What an edit of a sound table says of a find: a part of the range taken out. Assumes nothing.
use Prim.Native.Nat.{ℕ, ◌+◌, ◌-◌, ◌≤◌}
use mathlib.Core.Bool.{Bool, true, false}
use mathlib.Core.List.{List}
use mathlib.Core.Logic.{◌⊎◌}
use mathlib.Core.Path.{◌≡◌, sym, subst, ◌∙◌}
use native.Mathlib.Omega.{arith}
use lib.Dec.{eqb}
use lib.ListN.{length}
use Rattle.units.specs.inner.Aims.{is_none}
use Rattle.units.specs.Rules.{find_size}
use Rattle.units.specs.declared.Mode.{Mode}
use Rattle.units.specs.declared.Range as units
use Rattle.units.specs.declared.Size.{Size}
use Rattle.units.specs.declared.Which.{Which}
use Rattle.units.specs.declared.rules.Arena.{Arena}
use Rattle.model.specs.Calls.{good_size_in}
use Rattle.model.specs.inner.Lists.{delete_from, plain}
use Rattle.model.specs.Marks.{struct, total}
use Rattle.model.specs.inner.Steps.{part}
use Rattle.model.proofs.lands.FindAnswers as answers
use Rattle.model.proofs.lands.FindAnswers.{find-long, find-part}
use Rattle.model.proofs.Parts.{PartOf}
use Rattle.model.proofs.Totals.{total-delete}
use Rattle.finds.specs.inner.Parts.{Within}
use Rattle.block_words.specs.Words.{fill}
use Rattle.block_words.specs.inner.Surveys.{entry_of}
use Rattle.block_words.specs.declared.Entry.{Entry}
use Rattle.block_edits.specs.inner.Edits.{remaining}
use Rattle.block_edits.specs.inner.Places.{Holding, AtEnd}
use Rattle.block_edits.proofs.Entering.{Numbered, kept-numbered}
use Rattle.block_land.specs.Calls.{found, found_of}
use Rattle.block_land.specs.Layout.{base, limit, align, arena_of, table_of, closed_with}
use Rattle.block_land.specs.inner.Parts.{arena_in, Readable, Looked, find_aim}
use Rattle.block_land.specs.declared.BlockLand.{BlockLand}
use Rattle.block_land.proofs.Land.{block_land}
use Rattle.block_land.proofs.LayoutLaws.{closed-as}
use Rattle.block_land.proofs.Requests.{readable, whole, sorted}
use Rattle.block_land.proofs.Sound.{Fine}

module _ (h : BlockLand) (ws : List ℕ) (w : Which) (n : Size) (mode : Mode) (d : Entry) (k : Looked h ws (find_aim h w n) d)
    (g : good_size_in (arena_of h ws) w n.0 ≡ true) (t : Bool) (et : t ≡ eqb d.here.base.0 0) (f : t ≡ false)
    (a : Arena) (ea : a ≡ arena_in h) (m : Size) (em : m.0 ≡ find_size a.align.0 n.0) where
  pub find-within : Within m d.here
  find-within = record { long = find-long block_land h ws w n mode d k g t et f a ea m em }

  module _ (o : (mode ≡ Mode.None → ⊥)) (y : units.Range) (ey : y ≡ struct (part w mode m.0 (plain d.here))) where
    read : Readable h ws
    read = readable h ws (find_aim h w n) d k

    fit : Fine h ws
    fit = whole h ws read

    takes : PartOf (align h) (table_of h ws) (plain d.here) (plain y)
    takes = find-part block_land h ws w n mode d k g t et f a ea m em o y ey

    entered : Numbered ws h.ranges d
    entered =
        let z : is_none (entry_of (find_aim h w n) (table_of h ws)).here ≡ false = rw k.kept at (sym et ∙ f) in
        rw k.kept (kept-numbered ws h.ranges (find_aim h w n) fit.fits z)

    -- the entry holds it
    pub find-holding : Holding ws h.ranges d.number y
    find-holding = record {
      sorted = sorted h ws read;
      inside = entered.inside;
      low = subst (λ (x : units.Range). x.base.0 ≤ y.base.0) entered.here takes.low;
      proper = takes.proper;
      high = subst (λ (x : units.Range). y.limit.0 ≤ x.limit.0) entered.here takes.high;
    }

    -- it reaches an end of the pair
    pub find-end : AtEnd ws d.number y
    find-end = subst (λ (x : units.Range). (y.base.0 ≡ x.base.0) ⊎ (y.limit.0 ≡ x.limit.0)) entered.here takes.at_end

    pub find-order : y.base.0 ≤ y.limit.0
    find-order = let u = takes.proper in omega arith

    left_over : total (delete_from y.base.0 y.limit.0 (table_of h ws)) + (y.limit.0 - y.base.0) ≡ h.bytes.0
    left_over = total-delete y.base.0 y.limit.0 (base h) (limit h) (table_of h ws) takes.proper fit.apart takes.held ∙ sym fit.bytes

    pub find-room : (s : Size) → s.0 ≡ y.limit.0 - y.base.0 → s.0 ≤ h.bytes.0
    find-room s es = let u = left_over in omega arith

    pub find-0 : (c : ℕ) (vs : List ℕ) → (c ≡ length (remaining ws h.ranges y)) × (vs ≡ fill (remaining ws h.ranges y) ws) →
        (s : Size) → s.0 ≡ y.limit.0 - y.base.0 → (b : Size) → b.0 ≡ h.bytes.0 - s.0 → (z : BlockLand) → z ≡ closed_with h c b →
        (record { land = z; answer = 0; range = y; old = d.here } ≡ found_of (found h ws w n.0 mode)) × (vs ≡ (found h ws w n.0 mode).words)
    find-0 c vs e s es b eb z ez =
        let v = left_over in
        answers.find-0 block_land h ws w n mode d k g t et f a ea m em o y ey
        z (ez ∙ closed-as h (delete_from y.base.0 y.limit.0 (table_of h ws)) c b e.0 (omega arith)) vs e.1
