-- What a script still prints, after a call of `feed` and after one of `describe`; and that neither stands still. Assumes nothing.
use Prim.Native.Nat.{ℕ, suc, ◌+◌, ◌-◌, ◌≤◌, ◌<◌}
use mathlib.Core.Bool.{true, false}
use mathlib.Core.List.{List, [], ◌∷◌, ◌++◌, append_assoc}
use mathlib.Core.Path.{◌≡◌, refl, sym, ap, ◌∙◌}
use native.Mathlib.Omega.{arith}
use borrow.Author.Tests.{leb-false, eqb-true, not-true}
use lib.Dec.{leb, eqb}
use lib.ListN.{length, take, drop, length-append}
use Rattle.units.proofs.Tests.{by, clash, and_right}
use Rattle.units.specs.Words.{addr}
use Rattle.units.specs.declared.Addr.{Addr}
use Rattle.model.specs.Marks.{Range}
use Rattle.list_land.specs.Layout.{read_of}
use Rattle.list_land.specs.declared.ListLand.{ListLand}
use Rattle.lines.specs.Requests.{newline, split}
use Rattle.lines.specs.inner.Reading.{at_start, request_in}
use Rattle.lines.specs.declared.Reader.{Reader}
use Rattle.texts.specs.Decimal.{line}
use Rattle.texts.proofs.Writing.{line-some}
use Rattle.script.specs.Printed.{turn_of, pending, settled, range_lines, ranges_from, arena_words}
use Rattle.script.specs.Calls.{Done, Told, behind, with_byte, fed, told, tell, is_describing, is_ready}
use Rattle.script.specs.inner.Feeding.{printed_from, rest_of}
use Rattle.script.specs.declared.Script.{Script}
use Rattle.script.specs.declared.Stage.{Stage}
use Rattle.script.proofs.Continuing.{after-part, after-newline}
use Rattle.script.proofs.Describing.{next-ranges}

-- FEED
quiet : (s : Stage) (r : Reader) (ws input : List ℕ) → is_describing s ≡ false → rest_of (record { stage = s; reader = r }) ws input ≡ printed_from r s ws (split newline input)
quiet Stage.Closed r ws input e = refl
quiet (Stage.Open h) r ws input e = refl
quiet (Stage.Describing h x) r ws input e = clash refl e

newline-rest : (s : Script) (ws more : List ℕ) → is_describing s.stage ≡ false →
    rest_of s ws (newline ∷ more)
    ≡ (turn_of s.stage ws (request_in s.reader)).text ++ rest_of (record { stage = (turn_of s.stage ws (request_in s.reader)).stage; reader = at_start }) (turn_of s.stage ws (request_in s.reader)).words more
newline-rest s ws more e = quiet s.stage s.reader ws (newline ∷ more) e ∙ after-newline s.reader s.stage ws more

byte-rest : (s : Script) (ws more : List ℕ) (b : ℕ) → eqb b newline ≡ false → rest_of s ws (b ∷ more) ≡ rest_of (with_byte s b) ws more
byte-rest s ws more b e =
    ap (λ (t : List ℕ). pending s.stage ws ++ t) (after-part s.reader (settled s.stage) ws (b ∷ []) more (rw e))

still : (s : Stage) (room : ℕ) → is_ready s room ≡ true → is_describing s ≡ false
still s room e = not-true (is_describing s) (and_right (leb 105 room) _ e)

-- what was put out and what is still printed are what was still printed, whatever comes behind the bytes
pub record Feeds (s : Script) (ws bytes : List ℕ) (d : Done) : Type 0 where
  pub used : d.used ≤ length bytes
  pub all : d.full ≡ false → d.used ≡ length bytes
  pub text : (more : List ℕ) → rest_of s ws (bytes ++ more) ≡ d.text ++ rest_of d.script d.words (drop d.used bytes ++ more)

-- a byte that was used, with its text
one_byte : (s : Script) (ws : List ℕ) (b : ℕ) (bs text : List ℕ) (s' : Script) (ws' : List ℕ) (d : Done) →
    ((more : List ℕ) → rest_of s ws (b ∷ (bs ++ more)) ≡ text ++ rest_of s' ws' (bs ++ more)) → Feeds s' ws' bs d → Feeds s ws (b ∷ bs) (behind 1 text d)
one_byte s ws b bs text s' ws' d e f =
    let u = f.used in
    let n : d.used + 1 ≡ suc d.used = omega arith in
    record {
      used = omega arith;
      all = λ z. let a = f.all z in omega arith;
      text = λ more. rw n (e more ∙ ap (λ (t : List ℕ). text ++ t) (f.text more) ∙ sym (append_assoc text d.text (rest_of d.script d.words (drop d.used bs ++ more))));
    }

pub feeds : (bytes : List ℕ) (s : Script) (ws : List ℕ) (room : ℕ) → Feeds s ws bytes (fed s ws room bytes)
feeds [] s ws room = record { used = omega arith; all = λ z. refl; text = λ more. refl }
feeds (b ∷ bs) s ws room =
    let t = turn_of s.stage ws (request_in s.reader) in
    let s' : Script = record { stage = t.stage; reader = at_start } in
    by (eqb b newline)
    (λ e. let z = eqb-true b newline e in
    by (is_ready s.stage room)
    (λ r. rw (z, r) (one_byte s ws newline bs t.text s' t.words (fed s' t.words (room - length t.text) bs) (λ more. newline-rest s ws (bs ++ more) (still s.stage room r)) (feeds bs s' t.words (room - length t.text))))
    (λ r. rw (z, r) (record { used = omega arith; all = λ y. clash refl y; text = λ more. refl })))
    (λ e. rw e (one_byte s ws b bs [] (with_byte s b) ws (fed (with_byte s b) ws room bs) (λ more. byte-rest s ws (bs ++ more) b e) (feeds bs (with_byte s b) ws room)))

-- a byte is used if a request can be played
pub uses-one : (s : Script) (ws bytes : List ℕ) (room : ℕ) → 0 < length bytes → is_ready s.stage room ≡ true → 0 < (fed s ws room bytes).used
uses-one s ws [] room k r = absurd (omega arith)
uses-one s ws (b ∷ bs) room k r =
    by (eqb b newline)
    (λ e. rw (e, r) (omega arith))
    (λ e. rw e (omega arith))

-- DESCRIBE
-- what is told and what is left are the lines that were left; something is told, or nothing is left, if there is room for a line
record Leaves (h : ListLand) (ws : List ℕ) (room : ℕ) (rs : List Range) (t : Told) : Type 0 where
  land : settled t.stage ≡ Stage.Open h
  text : range_lines rs ≡ t.text ++ pending t.stage ws
  shows : 42 ≤ room → is_describing t.stage ≡ true → 0 < length t.text

module _ (h : ListLand) (ws : List ℕ) where
  abbrev ranges : ℕ → List Range
  ranges x = ranges_from x (read_of h (take (arena_words h) ws))

  tell-leaves : (rs : List Range) (x : Addr) (room : ℕ) → ranges x.0 ≡ rs → Leaves h ws room rs (tell h x room rs)
  tell-leaves [] x room e =
      by (leb 42 room)
      (λ f. rw f (record { land = refl; text = refl; shows = λ k z. clash z refl }))
      (λ f. rw f (record { land = refl; text = rw e; shows = λ k z. let m = leb-false 42 room f in omega arith }))
  tell-leaves (r ∷ rs) x room e =
      let l = line (r.base ∷ r.limit ∷ []) in
      let t = tell h (addr r.limit) (room - length l) rs in
      let more = tell-leaves rs (addr r.limit) (room - length l) (next-ranges h (take (arena_words h) ws) x.0 r rs e) in
      let n = line-some r.base (r.limit ∷ []) in
      let m = length-append l t.text in
      by (leb 42 room)
      (λ f. rw f (record { land = more.land; text = ap (λ (v : List ℕ). l ++ v) more.text ∙ sym (append_assoc l t.text (pending t.stage ws)); shows = λ k z. omega arith }))
      (λ f. rw f (record { land = refl; text = rw e; shows = λ k z. let m = leb-false 42 room f in omega arith }))

-- of a script, whatever input comes
pub record Describes (s : Script) (ws : List ℕ) (room : ℕ) : Type 0 where
  pub text : (input : List ℕ) → rest_of s ws input ≡ (told s ws room).text ++ rest_of (told s ws room).script ws input
  pub shows : 42 ≤ room → (told s ws room).full ≡ true → 0 < length (told s ws room).text

pub describes : (s : Script) (ws : List ℕ) (room : ℕ) → Describes s ws room
describes s ws room = go s.stage refl
  where
    go : (t : Stage) → s.stage ≡ t → Describes s ws room
    go Stage.Closed e = rw e (record { text = λ input. refl; shows = λ k z. clash z refl })
    go (Stage.Open h) e = rw e (record { text = λ input. refl; shows = λ k z. clash z refl })
    go (Stage.Describing h x) e =
        let l = tell-leaves h ws (ranges h ws x.0) x room refl in
        let t = tell h x room (ranges h ws x.0) in
        rw e
        (record {
          text = λ input. rw (l.land, l.text) (append_assoc t.text (pending t.stage ws) (printed_from s.reader (Stage.Open h) ws (split newline input)));
          shows = l.shows;
        })
