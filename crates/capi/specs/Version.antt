-- The number of the interface for C. Assumes nothing.
use Rattle.std.specs.Prelude.{ℕ}

-- Raised by one where a struct, a function or the meaning of an answer changes.
abbrev pub version : ℕ
version = 2
