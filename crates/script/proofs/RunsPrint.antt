-- A whole input in parts: what is put out is what is printed for its lines. Assumes nothing.
use Prim.Native.Nat.{ℕ}
use mathlib.Core.Bool.{Bool, cond}
use mathlib.Core.List.{List, [], ◌++◌}
use mathlib.Core.Path.{◌≡◌, sym, ap, ◌∙◌}
use borrow.Author.Tests.{le-leb}
use lib.ListN.{take, drop, take-append-drop}
use lib.Seq.{drop-append-le}
use Rattle.lines.specs.Requests.{newline, split}
use Rattle.script.specs.Calls.{fed, told, end_text}
use Rattle.script.specs.inner.Feeding.{rest_of}
use Rattle.script.specs.Runs.{Run, part, description, end, PrintsWhole}
use Rattle.script.specs.declared.Script.{Script}
use Rattle.script.specs.declared.Stage.{Stage}
use Rattle.script.proofs.Continuing.{from_start}
use Rattle.script.proofs.StillPrints.{feeds, describes}

-- the first bytes of an input fed
part-rest : (s : Script) (ws input : List ℕ) (k room : ℕ) →
    rest_of s ws input
    ≡ (fed s ws room (take k input)).text ++ rest_of (fed s ws room (take k input)).script (fed s ws room (take k input)).words (drop (fed s ws room (take k input)).used input)
part-rest s ws input k room =
    let d = fed s ws room (take k input) in
    let f = feeds (take k input) s ws room in
    let e = take-append-drop k input in
    let left : drop d.used (take k input) ++ drop k input ≡ drop d.used input =
    sym (drop-append-le d.used (take k input) (drop k input) f.used) ∙ ap (drop d.used) e in
    ap (rest_of s ws) (sym e) ∙ f.text (drop k input) ∙ ap (λ (l : List ℕ). d.text ++ rest_of d.script d.words l) left

run-rest : {Part Room : ℕ → Type 0} {s : Script} {ws input text : List ℕ} → Run Part Room s ws input text → text ≡ rest_of s ws input
run-rest (part s ws input text k room p a r) =
    ap (λ (t : List ℕ). (fed s ws room (take k input)).text ++ t) (run-rest r) ∙ sym (part-rest s ws input k room)
run-rest (description s ws input text room a r) =
    ap (λ (t : List ℕ). (told s ws room).text ++ t) (run-rest r) ∙ sym ((describes s ws room).text input)
run-rest (end s ws room a k e) = ap (λ (t : Bool). cond t (end_text s) []) (le-leb 2 room k) ∙ rw e

pub prints-whole : PrintsWhole
prints-whole Part Room ws input text r = run-rest r ∙ from_start Stage.Closed ws (split newline input)
