-- What a request on a land plays, form by form. Assumes nothing.
use Prim.Native.Nat.{ℕ, ◌≤◌, ◌<◌}
use Rattle.std.specs.Prelude.{Some}
use mathlib.Core.List.{List, [], ◌∷◌}
use mathlib.Core.Path.{◌≡◌, refl}
use native.Mathlib.Omega.{arith}
use Rattle.units.specs.declared.Addr.{Addr}
use Rattle.list_land.specs.Calls.{walked, changed}
use Rattle.list_land.specs.declared.Changed.{Changed}
use Rattle.list_land.specs.declared.ListLand.{ListLand}
use Rattle.lines.specs.declared.Request.{Request}
use Rattle.texts.specs.Decimal.{line}
use Rattle.texts.specs.inner.Writing.{Wrote}
use Rattle.script.specs.Printed.{land_turn}
use Rattle.script.specs.inner.Feeding.{Plays}
use Rattle.script.specs.declared.Stage.{Stage}
use Rattle.script.proofs.Ways.{says}
use Rattle.script.proofs.Describing.{describes-fault, describes}

-- THE FIRST LINE OF A DESCRIPTION
module _ (h : ListLand) (ws : List ℕ) (x : Addr) (c : Changed) (i : c ≡ changed (walked h ws x.0)) {b a : List ℕ} {from k : ℕ} where
  pub described-fault : 2 < c.answer → Wrote 63 b from (line (c.answer ∷ 0 ∷ 0 ∷ [])) a k →
      Plays (land_turn h ws (Some Request.Describe)) ws b from a (record { stage = Stage.Open h; at = k })
  described-fault z w =
      rw (describes-fault h ws x.0 (rw i at z))
      (record { says = says (record { stage = Stage.Open h; at = k }) (rw i at w) (omega arith); words = refl })

  pub described-sound : c.answer ≤ 2 → (n : ℕ) → n ≡ h.bytes.0 → Wrote 63 b from (line (0 ∷ h.ranges ∷ n ∷ [])) a k →
      Plays (land_turn h ws (Some Request.Describe)) ws b from a (record { stage = Stage.Describing h h.base; at = k })
  described-sound z n e w =
      rw (describes h ws x.0 (rw i at z))
      (record { says = says (record { stage = Stage.Describing h h.base; at = k }) (rw e at w) (omega arith); words = refl })
