-- Every input has a run: feeding uses bytes, and a description comes to its end. Assumes nothing.
use Prim.Native.Nat.{ℕ, zero, suc, ◌+◌, ◌≤◌, ◌<◌}
use mathlib.Core.Bool.{true, false, cond}
use mathlib.Core.List.{List, [], ◌∷◌, ◌++◌}
use mathlib.Core.Path.{◌≡◌, refl, ap, ◌∙◌}
use native.Mathlib.Omega.{arith}
use borrow.Author.Tests.{le-leb}
use lib.ListN.{length, take, drop, length-append, length-drop, length-take}
use Rattle.units.proofs.Tests.{by, clash}
use Rattle.script.specs.Printed.{pending}
use Rattle.script.specs.Calls.{fed, told, is_describing, is_ready}
use Rattle.script.specs.inner.Feeding.{rest_of}
use Rattle.script.specs.Runs.{Run, part, description, end, HasRun}
use Rattle.script.specs.declared.Script.{Script}
use Rattle.script.specs.declared.Stage.{Stage}
use Rattle.script.proofs.StillPrints.{uses-one, describes}

-- what a script still prints if no byte comes, and one more while a description is under way
abbrev pub to-print : Script → List ℕ → ℕ
to-print s ws = length (rest_of s ws []) + cond (is_describing s.stage) 1 0

pub prints-less : (s : Script) (ws : List ℕ) (room : ℕ) → 42 ≤ room → is_describing s.stage ≡ true → to-print (told s ws room).script ws < to-print s ws
prints-less s ws room k e =
    let d = told s ws room in
    let t = describes s ws room in
    let l = ap length (t.text []) ∙ length-append d.text (rest_of d.script ws []) in
    by (is_describing d.script.stage)
    (λ y. let z = t.shows k y in rw (e, y) (omega arith))
    (λ y. rw (e, y) (omega arith))

none-pending : (s : Stage) (ws : List ℕ) → is_describing s ≡ false → pending s ws ≡ []
none-pending Stage.Closed ws e = refl
none-pending (Stage.Open h) ws e = refl
none-pending (Stage.Describing h x) ws e = clash refl e

module _ (part_length room : ℕ) (some : 0 < part_length) (k : 105 ≤ room) where
  abbrev Ran : Script → List ℕ → List ℕ → Type 0
  Ran s ws input = (text : List ℕ) × Run (λ n. n ≡ part_length) (λ n. n ≡ room) s ws input text

  -- a description to its end
  settles : (fuel : ℕ) (s : Script) (ws input : List ℕ) → to-print s ws ≤ fuel → ((s' : Script) → is_describing s'.stage ≡ false → Ran s' ws input) → Ran s ws input
  settles zero s ws input m next =
      by (is_describing s.stage) (λ e. let l = prints-less s ws room (omega arith) e in absurd (omega arith)) (λ e. next s e)
  settles (suc fuel) s ws input m next =
      by (is_describing s.stage)
      (λ e. let l = prints-less s ws room (omega arith) e in
      let r = settles fuel (told s ws room).script ws input (omega arith) next in
      ((told s ws room).text ++ r.0, description s ws input r.0 room refl r.1))
      (λ e. next s e)

  -- one call of feed, and its description
  step : (s : Script) (ws input : List ℕ) → is_describing s.stage ≡ false →
      ((s' : Script) (ws' input' : List ℕ) → length input' < length input → is_describing s'.stage ≡ false → Ran s' ws' input') → Ran s ws input
  step s ws [] e next = (_, end s ws room refl (omega arith) (none-pending s.stage ws e))
  step s ws (b ∷ bs) e next =
      let input = b ∷ bs in
      let n = length-take part_length input in
      let d = fed s ws room (take part_length input) in
      let ready : is_ready s.stage room ≡ true = rw (le-leb 105 room k, e) in
      let u : 0 < d.used = uses-one s ws (take part_length input) room (omega arith) ready in
      let l = length-drop d.used input in
      let r = settles (to-print d.script d.words) d.script d.words (drop d.used input) (omega arith) (λ s' e'. next s' d.words (drop d.used input) (omega arith) e') in
      (d.text ++ r.0, part s ws input r.0 part_length room refl refl r.1)

  runs : (fuel : ℕ) (s : Script) (ws input : List ℕ) → is_describing s.stage ≡ false → length input ≤ fuel → Ran s ws input
  runs zero s ws input e m = step s ws input e (λ s' ws' input' l e'. absurd (omega arith))
  runs (suc fuel) s ws input e m = step s ws input e (λ s' ws' input' l e'. runs fuel s' ws' input' e' (omega arith))

pub has-run : HasRun
has-run s ws input n room some k =
    settles n room some k (to-print s ws) s ws input (omega arith) (λ s' e. runs n room some k (length input) s' ws input e (omega arith))
