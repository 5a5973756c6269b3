-- A script that uses some of the bytes that it is fed; a description that goes on. Assumes nothing.
use Rattle.std.proofs.Common.{rules, ℕ, ◌-◌, ◌≤◌, ◌<◌, ◌≡◌, true, List, length, take, drop, arith, length-drop}
use Rattle.std.proofs.lemmas.List.{take_rest}
use Rattle.script.specs.Calls.{fed_of, fed, told, is_describing, is_ready}
use Rattle.script.specs.declared.Fed.{Fed}
use Rattle.script.specs.declared.Script.{Script}
use Rattle.script.proofs.RunsExist.{to-print, prints-less}
use Rattle.script.proofs.StillPrints.{feeds, uses-one}
use Rattle.play.specs.inner.Steps.{Still}

module _ (bytes : List ℕ) (s : Script) (ws : List ℕ) (room : ℕ) (f : Fed) (e : f ≡ fed_of (fed s ws room bytes)) where
  pub used-in : f.used ≤ length bytes
  used-in = rw e ((feeds bytes s ws room).used)

  -- a script that can play uses a byte
  pub uses-some : 0 < length bytes → 105 ≤ room → Still s → 0 < f.used
  uses-some k m still =
      let r : is_ready s.stage room ≡ true = search rules in
      rw e (uses-one s ws bytes room k r)

  pub left-less : 0 < length bytes → 105 ≤ room → Still s → length (take (length bytes - f.used) (drop f.used bytes)) < length bytes
  left-less k m still = let used = uses-some k m still in rw take_rest (omega (arith, length-drop f.used bytes))

-- a description that goes on leaves less to print
pub told-less : (s : Script) (ws : List ℕ) (room : ℕ) (f : Fed) → 42 ≤ room → is_describing s.stage ≡ true → f ≡ fed_of (told s ws room) →
    to-print f.script ws < to-print s ws
told-less s ws room f k d e = rw e (prints-less s ws room k d)
