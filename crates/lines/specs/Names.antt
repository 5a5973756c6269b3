-- The names of document 01's forms. Assumes nothing.
use Prim.Native.Char.{code}
use Rattle.std.specs.Prelude.{ℕ, List, [] as no_byte, ◌∷◌ as ◌then◌}
use Prim.Native.String.{String, [], ◌∷◌}

-- A text as the list of its bytes, if it is ASCII.
abbrev pub ascii : String → List ℕ
ascii [] = no_byte
ascii (c ∷ s) = code c then ascii s

abbrev pub arena_name : List ℕ
arena_name = ascii "arena"

abbrev pub insert_name : List ℕ
insert_name = ascii "insert"

abbrev pub delete_name : List ℕ
delete_name = ascii "delete"

abbrev pub first_name : List ℕ
first_name = ascii "first"

abbrev pub last_name : List ℕ
last_name = ascii "last"

abbrev pub largest_name : List ℕ
largest_name = ascii "largest"

abbrev pub walk_name : List ℕ
walk_name = ascii "walk"

abbrev pub describe_name : List ℕ
describe_name = ascii "describe"

abbrev pub none_name : List ℕ
none_name = ascii "none"

abbrev pub low_name : List ℕ
low_name = ascii "low"

abbrev pub high_name : List ℕ
high_name = ascii "high"

abbrev pub entire_name : List ℕ
entire_name = ascii "entire"
