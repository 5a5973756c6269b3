-- Contracts of the program's parts. Assumes nothing.
use Rattle.std.specs.Prelude.{◌≡◌, ℕ, ◌++◌, List, [], Option, None, Some, Result, Ok, Err, false}
use Rattle.std.specs.Io.KnownBytes.{Appends, Keeps}
use Rattle.script.specs.Calls.{is_describing}
use Rattle.script.specs.inner.Feeding.{rest_of}
use Rattle.script.specs.declared.Script.{Script}
use Rattle.play.specs.declared.Fault.{Fault}

-- No description is under way.
abbrev pub Still : Script → Type 0
Still s = is_describing s.stage ≡ false

-- What a writer took between two scripts and what the second still prints are what the first still printed, where some bytes of the input
-- were next before and some are next after, whatever comes behind them.
pub record Prints (old new : Option (List ℕ)) (s : Script) (ws before : List ℕ) (s' : Script) (ws' after : List ℕ) : Type 0 where
  pub text : List ℕ
  pub took : Appends old new text
  pub same : (more : List ℕ) → rest_of s ws (before ++ more) ≡ text ++ rest_of s' ws' (after ++ more)

-- The same of a step behind some bytes that were fed, unless it failed.
abbrev pub StepPrints : Option (List ℕ) → Option (List ℕ) → Script → List ℕ → List ℕ → Result Script Fault → List ℕ → Type 0
StepPrints old new s ws bytes (Ok s') ws' = Prints old new s ws bytes s' ws' []
StepPrints old new s ws bytes (Err fault) ws' = Unit {0}

-- The same over a whole input, of which some is left.
pub record PrintsOf (input : List ℕ) (left old new : Option (List ℕ)) (s : Script) (ws : List ℕ) (s' : Script) (ws' : List ℕ) : Type 0 where
  pub rest : List ℕ
  pub left_is : left ≡ Some rest
  pub text : List ℕ
  pub took : Appends old new text
  pub same : rest_of s ws input ≡ text ++ rest_of s' ws' rest

-- A read of a reader whose bytes are known: a script that goes on prints for what was read, and the end comes at the end.
abbrev pub ReadPrints : Option (List ℕ) → Option (List ℕ) → Option (List ℕ) → Option (List ℕ) → Script → List ℕ → Result (Option Script) Fault → List ℕ → Type 0
ReadPrints None left old new s ws r ws' = Unit {0}
ReadPrints (Some input) left old new s ws (Ok (Some s')) ws' = PrintsOf input left old new s ws s' ws'
ReadPrints (Some input) left old new s ws (Ok None) ws' = (input ≡ []) × Keeps old new
ReadPrints (Some input) left old new s ws (Err fault) ws' = Unit {0}
