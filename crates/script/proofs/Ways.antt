-- The ways out of the functions that write an answer. Assumes nothing.
use Prim.Native.Nat.{ℕ, ◌≤◌}
use mathlib.Core.List.{List}
use mathlib.Core.Path.{refl}
use native.Mathlib.Omega.{arith}
use Rattle.texts.specs.inner.Writing.{Wrote}
use Rattle.script.specs.inner.Feeding.{Says}
use Rattle.script.specs.declared.Turn.{Turn}

-- ANSWERS
pub wider : {k : ℕ} {b : List ℕ} {from : ℕ} {t a : List ℕ} {n : ℕ} → Wrote k b from t a n → k ≤ 105 → Wrote 105 b from t a n
wider w k = let m = w.bound in record { size = w.size; end = w.end; bound = omega arith; text_there = w.text_there; behind = w.behind }

pub says : {k : ℕ} {b : List ℕ} {from : ℕ} {t a : List ℕ} (r : Turn) → Wrote k b from t a r.at → k ≤ 105 → Says r.stage t b from a r
says r w k = record { stage = refl; wrote = wider w k }
