-- What a look at a land keeps: contracts of inner functions. Assumes nothing.
use Rattle.std.specs.Prelude.{ℕ, Bool, true, false, cond, ◌≡◌, Result, Ok, Err}
use Rattle.units.specs.Rules.{refusal_number}
use Rattle.units.specs.inner.Aims.{is_none}
use Rattle.units.specs.declared.Range.{Range}
use Rattle.units.specs.declared.refusals.Refusal.{Refusal}

-- 5, then 6, then what is kept.
abbrev pub look_of : {S : Type 0} → Bool → Bool → S → Result S Refusal
look_of set-up sound s = cond set-up (cond sound (Ok s) (Err Refusal.Damaged)) (Err Refusal.SetUp)

-- Its number: 5, 6, or 0.
abbrev pub look_number : {S : Type 0} → Result S Refusal → ℕ
look_number (Ok s) = 0
look_number (Err r) = refusal_number r

-- The set-up is good, the list or table is sound, and s is what an aim keeps of it.
pub record Looked {S : Type 0} (set-up sound : Bool) (of : S) (s : S) : Type 0 where
  pub good : set-up ≡ true
  pub whole : sound ≡ true
  pub kept : s ≡ of

-- And it is a range that a find of a good size has chosen.
pub record Chose {S : Type 0} (set-up sound sized : Bool) (of : S) (s : S) (here : Range) : Type 0 where
  pub looked : Looked set-up sound of s
  pub good : sized ≡ true
  pub there : is_none here ≡ false
