-- A buffer with a text at its start: what was there stands behind it. Assumes nothing.
use Prim.Native.Nat.{ℕ, ◌≤◌}
use mathlib.Core.List.{List, [], ◌++◌, append-nil}
use mathlib.Core.Path.{◌≡◌, sym, ap, ◌∙◌}
use lib.ListN.{length, take, drop, take-append-drop}
use lib.Seq.{length-take-le}
use Rattle.script.specs.Calls.{over}

module _ (start out : List ℕ) (at : ℕ) (k : at ≤ length out) (e : drop at out ≡ drop at start) where
  pub text-end : at ≡ length (take at out ++ [])
  text-end = sym (length-take-le at out k) ∙ ap length (sym (append-nil (take at out)))

  pub text-over : out ≡ over (take at out ++ []) start
  text-over = rw (append-nil (take at out), length-take-le at out k, ← e) (sym (take-append-drop at out))
