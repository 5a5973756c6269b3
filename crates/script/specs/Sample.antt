-- Document 01's sample of the program that plays requests. Assumes nothing.
use Rattle.std.specs.Prelude.{ℕ, List, ◌≡◌, replicate}
use Rattle.lines.specs.Names.{ascii}
use Rattle.script.specs.Printed.{whole}

abbrev pub sample_input : List ℕ
sample_input = ascii "arena 4096 4160 8\ninsert 4096 4112\ninsert 4120 4128\nfirst 16 none\ninsert 4120 4128\ndescribe\n"

abbrev pub sample_output : List ℕ
sample_output = ascii "0\n0 4096 4112\n0 4120 4128\n0 4096 4112 4096 4112\n1 0 0\n0 2 24\n4096 4112\n4120 4128\n"

abbrev pub Sample : Type 0
Sample = whole (replicate 4096 0) sample_input ≡ sample_output
