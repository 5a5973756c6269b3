-- A find in one land of a pair: the step where the look kept a range, which is always accepted. Assumes nothing.
use Prim.Native.Nat.{ℕ}
use mathlib.Core.List.{List}
use mathlib.Core.Option.{some}
use mathlib.Core.Path.{◌≡◌}
use Rattle.units.specs.declared.Mode.{Mode}
use Rattle.units.specs.declared.Size.{Size}
use Rattle.units.specs.declared.Which.{Which}
use Rattle.model.specs.Calls.{Arena, Call, find, accepted, good_size_in, find_size_in}
use Rattle.model.specs.inner.Looks.{Chose}
use Rattle.model.specs.Marks.{Range}
use Rattle.model.specs.inner.Steps.{list_ops, choose, part, taken, step}
use Rattle.model.proofs.Chosen.{some-chosen}
use Rattle.model.proofs.lands.FindAnswers.{find-aim, chosen}
use Rattle.model.proofs.lands.Land.{Land}
use Rattle.model.proofs.lands.Looking.{step-done}
use Rattle.pair_model.proofs.LandFinds.{find-gives}

-- an accepted step of a land
pub record Accepts (a : Arena) (c : Call) (rs : List Range) : Type 0 where
  pub part : Range
  pub old : Range
  pub next : List Range
  pub step : step list_ops a c rs ≡ record { out = accepted part old; next = next }

module _ {H S C F : Type 0} (I : Land H S C F) (h : H) (ws : List ℕ) (w : Which) (n : Size) (mode : Mode) (s : S)
    (k : Chose (I.set-up h ws) (I.sound h ws) (good_size_in (I.layout.arena h ws) w n.0) (I.keep (find-aim I h ws w n) (I.ranges h ws)) s (I.here s)) where
  abbrev want : ℕ
  want = find_size_in (I.layout.arena h ws) n.0

  pub find-accepts : Accepts (I.layout.arena h ws) (find w n.0 mode) (I.ranges h ws)
  find-accepts =
      let c = some-chosen (I.here s) (choose w want (I.ranges h ws)) (chosen I h ws w n s k.looked) k.there in
      record {
        part = part w mode want c.range;
        old = c.range;
        next = taken list_ops mode (I.ranges h ws) (part w mode want c.range);
        step = find-gives (I.layout.arena h ws) (I.ranges h ws) w n.0 mode k.good (some c.range) c.is;
      }

  pub find-done : I.does (find w n.0 mode) h ws ≡ record {
    out = accepted find-accepts.part find-accepts.old;
    handle = I.layout.close h find-accepts.next;
    words = I.layout.words h ws find-accepts.next;
  }
  find-done =
      let t = find-accepts in
      step-done I h ws (find-aim I h ws w n) s k.looked (find w n.0 mode) t.part t.old t.next t.step
