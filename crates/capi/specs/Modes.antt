-- A find's mode as a number. Assumes nothing.
use Rattle.std.specs.Prelude.{ℕ, Bool, cond, eqb, Option, Some, None, Result, Ok, Err}
use Rattle.units.specs.Rules.{refusal_number}
use Rattle.units.specs.declared.Mode.{Mode}
use Rattle.units.specs.declared.refusals.Refusal.{Refusal}
use Rattle.model.specs.Calls.{Outcome, refused}
use Rattle.model.specs.Layouts.{Done}

-- 0 none, 1 low, 2 high, 3 entire.
abbrev pub given_mode : ℕ → Option Mode
given_mode m =
    cond (eqb m 0) (Some Mode.None)
    (cond (eqb m 1) (Some Mode.Low)
    (cond (eqb m 2) (Some Mode.High)
    (cond (eqb m 3) (Some Mode.Entire) None)))

-- Document 01's number of each case: 4, since the request breaks the rules.
abbrev pub given_number : Option Mode → ℕ
given_number (Some mode) = 0
given_number None = 4

-- Any other number is answered where the size rule is tested: after 5 and 6.
abbrev pub unknown_mode : Bool → Bool → ℕ
unknown_mode set-up sound =
    cond set-up (cond sound (given_number None) (refusal_number Refusal.Damaged)) (refusal_number Refusal.SetUp)

-- How a find is refused for its mode, by what a call finds before it looks at its request.
abbrev pub refusal_after : {S : Type 0} → Result S Refusal → Refusal
refusal_after (Ok s) = Refusal.Request
refusal_after (Err r) = r

-- A call with its mode; with a number that is none, a refusal that leaves the handle and the words.
abbrev pub with_mode : {H W : Type 0} → (Mode → Done Outcome H W) → ℕ → H → W → Option Mode → Done Outcome H W
with_mode call n h ws (Some mode) = call mode
with_mode call n h ws None = record { out = refused n; handle = h; words = ws }
