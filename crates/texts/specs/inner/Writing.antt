-- Contracts of what writes into a buffer. Assumes nothing.
use Rattle.std.specs.Prelude.{ℕ, ◌+◌, ◌≤◌, List, ◌++◌, ◌≡◌, length, take, drop}

-- Behind the first bytes of a buffer, up to `from`, stands a text of at most `most` bytes, up to `next`; the bytes behind it and the
-- length are as they were.
pub record Wrote (most : ℕ) (before : List ℕ) (from : ℕ) (text after : List ℕ) (next : ℕ) : Type 0 where
  pub size : length after ≡ length before
  pub end : next ≡ from + length text
  pub bound : next ≤ from + most
  pub text_there : take next after ≡ take from before ++ text
  pub behind : drop next after ≡ drop next before
