-- Contracts of inner functions: a test told as the answer of a check, and the number of ranges that a range is. Assumes nothing.
use Rattle.std.specs.Prelude.{ℕ, Bool, true, false, cond, ltb, Result, Ok, Err}
use Rattle.units.specs.declared.Range.{Range}
use Rattle.units.specs.declared.refusals.Refusal.{Refusal}

-- What a test answers that refuses a call.
abbrev pub Checked : Type 0
Checked = Result (Unit {0}) Refusal

abbrev pub set_up_of : Bool → Checked
set_up_of true = Ok tt
set_up_of false = Err Refusal.SetUp

abbrev pub soundness_of : Bool → Checked
soundness_of true = Ok tt
soundness_of false = Err Refusal.Damaged

-- One if a range is not empty.
abbrev pub one : Range → ℕ
one r = cond (ltb r.base.0 r.limit.0) 1 0
