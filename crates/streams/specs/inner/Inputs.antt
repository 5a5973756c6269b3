-- Contracts of reading. Assumes nothing.
use Rattle.std.specs.Prelude.{◌≡◌, ℕ, ◌<◌, ◌≤◌, List, [], length, take, Option, None, Some, Result, Ok, Err}
use Rattle.std.specs.Io.KnownBytes.{Consumes, IsAtEnd, Keeps}

module _ {E : Type 0} where
  -- The bytes that a read brought stand in the buffer, and they are one at least.
  abbrev pub Holds : Result (Option ℕ) E → List ℕ → Type 0
  Holds (Ok (Some n)) buf = ((n ≤ length buf) × (n ≡ length (take n buf))) × (0 < n)
  Holds (Ok None) buf = Unit {0}
  Holds (Err e) buf = Unit {0}

  -- Of a reader whose bytes are known: those brought are its first, and it has the others left; the end comes only where none is
  -- left, or there is no room; a failure takes none.
  abbrev pub Took : Option (List ℕ) → Option (List ℕ) → Result (Option ℕ) E → List ℕ → Type 0
  Took old new (Ok (Some n)) buf = Consumes old new (take n buf)
  Took old new (Ok None) buf = Consumes old new [] × (0 < length buf → IsAtEnd new)
  Took old new (Err e) buf = Keeps old new
