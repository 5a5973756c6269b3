-- An input taken in parts, line after line. Assumes nothing.
use Prim.Native.Nat.{ℕ, suc, ◌+◌, ◌-◌, ◌≤◌, ◌<◌}
use mathlib.Core.Bool.{Bool, true, false}
use mathlib.Core.List.{List, [], ◌∷◌, ◌++◌, append-nil}
use mathlib.Core.Path.{◌≡◌, refl, sym, ap, ◌∙◌}
use native.Mathlib.Omega.{arith}
use borrow.Author.Tests.{leb-true}
use lib.ListN.{length, take, drop, take-append-drop, length-drop}
use lib.Seq.{drop-cons, drop-drop, length-take-le}
use Rattle.units.proofs.Tests.{and_left}
use Rattle.lines.specs.Requests.{newline}
use Rattle.lines.specs.inner.Reading.{ReadTo, at_start, request_in}
use Rattle.lines.specs.declared.Read.{Read}
use Rattle.lines.specs.declared.Reader.{Reader}
use Rattle.lines.specs.declared.Request.{Request}
use Rattle.std.specs.Prelude.{Option}
use Rattle.texts.proofs.Writing.{same-behind}
use Rattle.script.specs.Printed.{turn_of}
use Rattle.script.specs.Calls.{Done, fed_of, over, behind, at_rest, fed, is_ready}
use Rattle.script.specs.inner.Feeding.{Plays, Goes}
use Rattle.script.specs.declared.Fed.{Fed}
use Rattle.script.specs.declared.Script.{Script}
use Rattle.script.specs.declared.Stage.{Stage}
use Rattle.script.specs.declared.Turn.{Turn}
use Rattle.script.proofs.Buffers.{text-end, text-over}
use Rattle.script.proofs.FedOn.{behind-behind, behind-none, fed-same, fed-part, fed-line}

-- the bytes from a position on, in two parts
parts : (bytes : List ℕ) (from to : ℕ) → from ≤ to → drop from bytes ≡ take (to - from) (drop from bytes) ++ drop to bytes
parts bytes from to k =
    let e : from + (to - from) ≡ to = omega arith in
    sym (take-append-drop (to - from) (drop from bytes)) ∙ ap (λ (t : List ℕ). take (to - from) (drop from bytes) ++ t) (drop-drop (to - from) from bytes ∙ ap (λ (i : ℕ). drop i bytes) e)

-- A PART OF A LINE
module _ (s : Script) (ws bytes : List ℕ) (from : ℕ) (o : Read) (t : ReadTo s.reader bytes from o) where
  abbrev pub reader-on : Script
  reader-on = record { stage = s.stage; reader = o.reader }

  module _ (out : List ℕ) (at : ℕ) where
    read-on :
        behind from (take at out) (fed s ws (length out - at) (drop from bytes))
        ≡ behind o.at (take at out) (fed reader-on ws (length out - at) (drop o.at bytes))
    read-on =
        let l = take (o.at - from) (drop from bytes) in
        let a = t.start in
        let b = t.fits in
        let n = length-drop from bytes in
        let m = length-take-le (o.at - from) (drop from bytes) (omega arith) in
        let u : length l + from ≡ o.at = omega arith in
        let rest = fed reader-on ws (length out - at) (drop o.at bytes) in
        let e : fed s ws (length out - at) (drop from bytes) ≡ behind (length l) [] rest =
        ap (fed s ws (length out - at)) (parts bytes from o.at a) ∙ fed-part s ws (length out - at) l (drop o.at bytes) t.line ∙ rw (← t.reader) in
        ap (behind from (take at out)) e ∙ behind-behind from (length l) (take at out) [] rest ∙ rw (u, append-nil (take at out))

    -- it stops behind a part of a line
    pub line-part : (full : Bool) → at ≤ length out → Goes s ws bytes from out at (record { script = reader-on; used = o.at; at = at; full = full }) ws out
    line-part full k = record { later = t.start; used = t.fits; further = omega arith; fits = k; size = refl; rest = refl; same = read-on }

  here : (o.at ≡ length bytes → ⊥) → o.at < length bytes
  here inside = let u = t.fits in omega (arith, inside)

  at-newline : (o.at ≡ length bytes → ⊥) → drop o.at bytes ≡ newline ∷ drop (suc o.at) bytes
  at-newline inside = drop-cons bytes o.at 0 (here inside) ∙ rw (t.stop (here inside))

-- A LINE
pub has_room : (s : Stage) (out : List ℕ) (at : ℕ) (d : Bool) → d ≡ is_ready s (length out - at) → d ≡ true → at + 105 ≤ length out
has_room s out at d e f = let g = leb-true 105 (length out - at) (and_left _ _ (sym e ∙ f)) in omega arith

module _ (s : Script) (ws bytes : List ℕ) (from : ℕ) (o : Read) (t : ReadTo s.reader bytes from o) (out : List ℕ) (at : ℕ)
    (d : Bool) (ed : d ≡ is_ready s.stage (length out - at)) (yes : d ≡ true) (inside : o.at ≡ length bytes → ⊥)
    (q : Option Request) (eq : q ≡ request_in o.reader) (r : Turn) (ws' out' : List ℕ)
    (p : Plays (turn_of s.stage ws q) ws' out at out' r) (rd : Reader) (er : rd ≡ at_start) where
  abbrev after : Done
  after = fed (record { stage = r.stage; reader = rd }) ws' (length out - r.at) (drop (o.at + 1) bytes)

  played : fed (reader-on s ws bytes from o t) ws (length out - at) (drop o.at bytes) ≡ behind 1 (turn_of s.stage ws q).text after
  played =
      let end = p.says.wrote.end in
      let turn = turn_of s.stage ws q in
      let room : length out - r.at ≡ (length out - at) - length turn.text = omega arith in
      let line : fed (reader-on s ws bytes from o t) ws (length out - at) (drop o.at bytes) ≡ behind 1 turn.text (fed (record { stage = turn.stage; reader = at_start }) turn.words ((length out - at) - length turn.text) (drop (suc o.at) bytes)) =
      ap (fed (reader-on s ws bytes from o t) ws (length out - at)) (at-newline s ws bytes from o t inside)
      ∙ fed-line (reader-on s ws bytes from o t) ws (length out - at) (drop (suc o.at) bytes) (sym ed ∙ yes)
      ∙ rw eq in
      line ∙ ap (behind 1 turn.text) (fed-same {k = suc o.at} {k' = o.at + 1} bytes (sym p.says.stage) (sym er) (sym p.words) (sym room) (omega arith))

  pub line-turn : Goes s ws bytes from out at (record { script = record { stage = r.stage; reader = rd }; used = o.at + 1; at = r.at; full = false }) ws' out'
  line-turn =
      let u = t.start in
      let w = p.says.wrote in
      let room = has_room s.stage out at d ed yes in
      let b = w.bound in
      let n = w.end in
      let one : 1 + o.at ≡ o.at + 1 = omega arith in
      record {
        later = omega arith;
        used = omega (arith, here s ws bytes from o t inside);
        further = omega arith;
        fits = omega arith;
        size = w.size;
        rest = w.behind;
        same = read-on s ws bytes from o t out at ∙ ap (behind o.at (take at out)) played ∙ behind-behind o.at 1 (take at out) (turn_of s.stage ws q).text after ∙ rw (one, w.text_there);
      }

-- LINE AFTER LINE
pub goes_then : {s : Script} {ws bytes : List ℕ} {from : ℕ} {out : List ℕ} {at : ℕ} {f : Fed} {ws' out' : List ℕ} {g : Fed} {ws'' out'' : List ℕ} →
    Goes s ws bytes from out at f ws' out' → Goes f.script ws' bytes f.used out' f.at g ws'' out'' → Goes s ws bytes from out at g ws'' out''
goes_then {out = out} {f = f} {out' = out'} {g = g} p q =
    let a = p.later in
    let b = q.later in
    let c = p.further in
    let d = q.further in
    let m = p.size in
    let n = q.size in
    let k = q.fits in
    record {
      later = omega arith;
      used = q.used;
      further = omega arith;
      fits = omega arith;
      size = n ∙ m;
      rest = q.rest ∙ same-behind out' out f.at g.at d p.rest;
      same = p.same ∙ (rw m at q.same);
    }

-- nothing is left to feed: the result, the words and the buffer are those of the definition
pub record Closes (d : Done) (out : List ℕ) (f : Fed) (ws' out' : List ℕ) : Type 0 where
  pub result : f ≡ fed_of d
  pub words : ws' ≡ d.words
  pub buffer : out' ≡ over d.text out

module _ (s : Script) (ws bytes out : List ℕ) (f : Fed) (ws' out' : List ℕ) (p : Goes s ws bytes 0 out 0 f ws' out') where
  closes : (full : Bool) → f.full ≡ full → fed f.script ws' (length out - f.at) (drop f.used bytes) ≡ at_rest f.script ws' full →
      Closes (fed s ws (length out) bytes) out f ws' out'
  closes full e g =
      let m = p.size in
      let k : f.at ≤ length out' = omega (arith, p.fits) in
      let z : length out ≡ length out - 0 = omega arith in
      let d : fed s ws (length out) bytes ≡ behind f.used (take f.at out') (at_rest f.script ws' full) =
      behind-none (fed s ws (length out) bytes) ∙ ap (λ (n : ℕ). behind 0 [] (fed s ws n bytes)) z ∙ p.same ∙ ap (behind f.used (take f.at out')) g in
      let u : f.used ≡ 0 + f.used = omega arith in
      let n = text-end out out' f.at k p.rest in
      rw d
      (record {
        result = λ i. record { script = f.script; used = u i; at = n i; full = e i };
        words = refl;
        buffer = text-over out out' f.at k p.rest;
      })

  -- it stopped
  pub closes-full : (mid : List ℕ) → length mid ≡ length out → f.full ≡ true →
      fed f.script ws' (length mid - f.at) (drop f.used bytes) ≡ at_rest f.script ws' true → Closes (fed s ws (length out) bytes) out f ws' out'
  closes-full mid m e g = closes true e (rw m at g)
