-- What a script prints from the start on, and at the end of an input. Assumes nothing.
use Rattle.std.proofs.Common.{ℕ, ◌≡◌, ◌≤◌, List, [], false, refl}
use borrow.Author.Tests.{le-leb}
use Rattle.units.proofs.Tests.{clash}
use Rattle.lines.specs.Requests.{newline, split}
use Rattle.script.specs.Calls.{ended, is_describing, script_start}
use Rattle.script.specs.Printed.{pending, whole}
use Rattle.script.specs.inner.Feeding.{rest_of}
use Rattle.script.specs.declared.Script.{Script}
use Rattle.script.specs.declared.Stage.{Stage}
use Rattle.script.proofs.Continuing.{from_start}

pub start-whole : (ws input : List ℕ) → rest_of script_start ws input ≡ whole ws input
start-whole ws input = from_start Stage.Closed ws (split newline input)

none-pending : (s : Stage) (ws : List ℕ) → is_describing s ≡ false → pending s ws ≡ []
none-pending Stage.Closed ws e = refl
none-pending (Stage.Open h) ws e = refl
none-pending (Stage.Describing h x) ws e = clash refl e

pub ends-rest : (s : Script) (ws : List ℕ) (room : ℕ) → is_describing s.stage ≡ false → 2 ≤ room → rest_of s ws [] ≡ ended s room
ends-rest s ws room e k = let p = none-pending s.stage ws e in rw (p, le-leb 2 room k)
