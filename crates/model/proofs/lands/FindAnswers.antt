-- The ways out of a find of a land: 5, 6, 4, 2, the range as it stands, and a part of it taken out. Assumes nothing.
use Prim.Native.Nat.{ℕ, ◌+◌, ◌≤◌, ◌<◌}
use mathlib.Core.Bool.{Bool, true, false}
use mathlib.Core.List.{List}
use mathlib.Core.Option.{Option, none, some}
use mathlib.Core.Path.{◌≡◌, refl, sym, ap, ap₂, ◌∙◌}
use native.Mathlib.Omega.{arith}
use lib.Dec.{eqb}
use Rattle.std.specs.Prelude.{Result, Ok, Err}
use Rattle.units.specs.inner.Aims.{none_range, find_aim, aim_of}
use Rattle.units.specs.Rules.{find_check, find_size, refusal_number}
use Rattle.units.specs.inner.Parts.{Checked, set_up_of}
use Rattle.units.specs.declared.Mode.{Mode}
use Rattle.units.specs.declared.Range as units
use Rattle.units.specs.declared.Size.{Size}
use Rattle.units.specs.declared.Which.{Which}
use Rattle.units.specs.declared.aims.Aim.{Aim}
use Rattle.units.specs.declared.rules.Arena.{Arena}
use Rattle.units.specs.declared.refusals.Refusal.{Refusal}
use Rattle.units.specs.declared.rules.SizeError.{SizeError}
use Rattle.units.proofs.Cases.{set-up-false}
use Rattle.model.specs.Calls.{Call, find, good_size_in, find_size_in}
use Rattle.model.specs.inner.Lists.{delete_from, plain}
use Rattle.model.specs.Marks.{Range, struct}
use Rattle.model.specs.inner.Picks.{here_of}
use Rattle.model.specs.inner.Steps.{choose, part}
use Rattle.model.proofs.Aiming.{by-find}
use Rattle.model.proofs.Bytes.{mem-proper}
use Rattle.model.proofs.Checks.{size-bad, size-good}
use Rattle.model.proofs.Choosing.{choose-mem}
use Rattle.model.proofs.Chosen.{Choice, none-chosen, some-chosen}
use Rattle.model.proofs.Finding.{find_none, find-takes}
use Rattle.model.proofs.lands.Land.{Land}
use Rattle.model.proofs.lands.Ways.{above}
use Rattle.model.proofs.lands.Looking.{handle-back, Kept, Finds, bad-is-5, damaged-is-6, saw-err, refused-find, fine, is-kept, mem-above, step-refused, done-find}
use Rattle.model.proofs.Parts.{PartOf, mem-stands, part-takes}
use Rattle.model.proofs.Requests.{find-size-rules, size-refused}

module _ {H S C F : Type 0} (I : Land H S C F) (h : H) (ws : List ℕ) where
  -- the aim of a find of a good size
  abbrev pub find-aim : Which → Size → Aim
  find-aim w n = Aim.Find w (record { 0 = find_size_in (I.layout.arena h ws) n.0 })

  -- a sound land and what a find of a good size keeps of it
  abbrev pub Asked : Which → Size → S → Type 0
  Asked w n s = Kept I h ws (find-aim w n) s × (good_size_in (I.layout.arena h ws) w n.0 ≡ true)

  -- 5 and 6, from the two tests
  module _ (c : Call) where
    pub find-5 : (r : Checked) → r ≡ set_up_of (I.set-up h ws) → r ≡ Err Refusal.SetUp → (v : F) → v ≡ I.find-made h 5 none_range none_range → Finds I v ws (I.does c h ws)
    find-5 r e f v k = refused-find I h ws c 5 (bad-is-5 I h ws c (set-up-false (I.set-up h ws) r e f)) v k ws refl

    pub find-6 : I.set-up h ws ≡ true → I.sound h ws ≡ false → (v : F) → v ≡ I.find-made h 6 none_range none_range → Finds I v ws (I.does c h ws)
    find-6 g s v k = refused-find I h ws c 6 (damaged-is-6 I h ws c g s) v k ws refl

  -- 5 and 6, from a look
  module _ (aim : Aim) (v : Result S Refusal) (e : v ≡ I.look h ws aim) (c : Call) where
    pub looked-err : (x : Refusal) → v ≡ Err x → (r : F) → r ≡ I.find-made h (refusal_number x) none_range none_range → Finds I r ws (I.does c h ws)
    looked-err x f r k = refused-find I h ws c (refusal_number x) (saw-err I h ws aim v e c x f) r k ws refl

  -- the size that the code works with is the one that the definition names
  size_is : (n : Size) (a : Arena) → a ≡ I.arena-in h → (m : Size) → m.0 ≡ find_size a.align.0 n.0 → m.0 ≡ find_size_in (I.layout.arena h ws) n.0
  size_is n a ea m em = em ∙ ap (λ (x : Arena). find_size x.align.0 n.0) (ea ∙ I.arena-is h ws)

  -- A SOUND LAND, THE SIZE CHECKED
  module _ (w : Which) (n : Size) (a : Arena) (ea : a ≡ I.arena-in h) (r : Result (Unit {0}) SizeError) (er : r ≡ find_check w a.base.0 a.limit.0 a.align.0 n.0)
      (aim : Aim) (s : S) (k : Kept I h ws aim s) where
    pub find-4 : (r ≡ Ok tt → ⊥) → (mode : Mode) (v : F) → v ≡ I.find-made h 4 none_range none_range →
        Finds I v ws (I.does (find w n.0 mode) h ws)
    find-4 t mode v e =
        let b = I.layout.arena h ws in
        let z = size-refused b w n.0 (size-bad b a (ea ∙ I.arena-is h ws) w n.0 r er t) in
        refused-find I h ws (find w n.0 mode) 4 (step-refused I h ws aim s k (find w n.0 mode) 4 refl (rw z)) v e ws refl

    module _ (g : r ≡ Ok tt) where
      pub find-ready : (m : Size) → m.0 ≡ find_size a.align.0 n.0 → aim ≡ find_aim r w m → Asked w n s
      find-ready m em f =
          let e : aim ≡ find-aim w n = f ∙ ap (λ (x : Result (Unit {0}) SizeError). find_aim x w m) g ∙ ap (λ (x : ℕ). Aim.Find w (record { 0 = x })) (size_is n a ea m em) in
          (rw e at k, size-good (I.layout.arena h ws) a (ea ∙ I.arena-is h ws) w n.0 r er g)

      -- of what a find asks for
      pub find-asked : aim ≡ aim_of (I.arena-in h) (Aim.Find w n) → Asked w n s
      find-asked f =
          let e : aim ≡ aim_of a (Aim.Find w n) = f ∙ ap (λ (x : Arena). aim_of x (Aim.Find w n)) (sym ea) in
          find-ready (record { 0 = find_size a.align.0 n.0 }) refl (e ∙ ap (λ (x : Result (Unit {0}) SizeError). find_aim x w (record { 0 = find_size a.align.0 n.0 })) (sym er))

  -- WHAT WAS KEPT IS THE RANGE CHOSEN
  module _ (w : Which) (n : Size) (s : S) (k : Kept I h ws (find-aim w n) s) where
    pub chosen : I.here s ≡ here_of (choose w (find_size_in (I.layout.arena h ws) n.0) (I.ranges h ws))
    chosen =
        is-kept I h ws (find-aim w n) s k
        ∙ ap here_of (by-find (record { 0 = find_size_in (I.layout.arena h ws) n.0 }) w (I.layout.arena h ws).base (I.layout.arena h ws).limit (I.ranges h ws)
        (above I h ws k.good) (fine I h ws (find-aim w n) s k).canon.apart)

    pub chosen-above : (q : Range) → choose w (find_size_in (I.layout.arena h ws) n.0) (I.ranges h ws) ≡ some q → 0 < q.base
    chosen-above q p = mem-above I h ws (find-aim w n) s k q (choose-mem w (find_size_in (I.layout.arena h ws) n.0) (I.ranges h ws) q p).0

    pub chosen-order : (I.here s).base.0 ≤ (I.here s).limit.0
    chosen-order = rw chosen (go (choose w (find_size_in (I.layout.arena h ws) n.0) (I.ranges h ws)) refl)
      where
        go : (o : Option Range) → choose w (find_size_in (I.layout.arena h ws) n.0) (I.ranges h ws) ≡ o → (here_of o).base.0 ≤ (here_of o).limit.0
        go none e = omega arith
        go (some q) e =
            let m = mem-proper (I.layout.arena h ws).base (I.layout.arena h ws).limit (I.ranges h ws) q (fine I h ws (find-aim w n) s k).canon.apart
            (choose-mem w (find_size_in (I.layout.arena h ws) n.0) (I.ranges h ws) q e).0 in
            omega arith

  -- A FIND OF A GOOD SIZE, AT WHAT WAS KEPT
  module _ (w : Which) (n : Size) (mode : Mode) (s : S) (k : Kept I h ws (find-aim w n) s) (g : good_size_in (I.layout.arena h ws) w n.0 ≡ true)
      (t : Bool) (et : t ≡ eqb (I.here s).base.0 0) where
    abbrev rs : List Range
    rs = I.ranges h ws

    abbrev want : ℕ
    want = find_size_in (I.layout.arena h ws) n.0

    abbrev aim : Aim
    aim = find-aim w n

    pub find-2 : t ≡ true → (v : F) → v ≡ I.find-made h 2 none_range none_range → Finds I v ws (I.does (find w n.0 mode) h ws)
    find-2 f v e =
        let o = none-chosen (I.here s) (choose w want rs) (chosen w n s k) (chosen-above w n s k) (sym et ∙ f) in
        refused-find I h ws (find w n.0 mode) 2 (step-refused I h ws aim s k (find w n.0 mode) 2 refl (rw (g, o))) v e ws refl

    module _ (f : t ≡ false) where
      pub choice : Choice (choose w (find_size_in (I.layout.arena h ws) n.0) (I.ranges h ws)) (I.here s)
      choice = some-chosen (I.here s) (choose w want rs) (chosen w n s k) (sym et ∙ f)

      abbrev q : Range
      q = choice.range

      module _ (a : Arena) (ea : a ≡ I.arena-in h) (m : Size) (em : m.0 ≡ find_size a.align.0 n.0) where
        -- the range is as long
        pub find-long : (I.here s).base.0 + m.0 ≤ (I.here s).limit.0
        find-long =
            let e = size_is n a ea m em in
            let c = choose-mem w want rs q choice.is in
            let p = mem-proper (I.layout.arena h ws).base (I.layout.arena h ws).limit rs q (fine I h ws aim s k).canon.apart c.0 in
            let u = c.1 in
            rw choice.here (omega arith)

        -- a part of it is taken out
        module _ (o : (mode ≡ Mode.None → ⊥)) (y : units.Range) (ey : y ≡ struct (part w mode m.0 (plain (I.here s)))) where
          abbrev p : Range
          p = part w mode want q

          is-part : y ≡ struct p
          is-part = ey ∙ ap₂ (λ (x : ℕ) (v : units.Range). struct (part w mode x (plain v))) (size_is n a ea m em) choice.here

          pub find-part : PartOf (I.layout.arena h ws).align (I.ranges h ws) (plain (I.here s)) (plain y)
          find-part =
              let c = choose-mem w want rs q choice.is in
              let d = (fine I h ws aim s k).canon in
              let t : PartOf (I.layout.arena h ws).align rs q p =
              part-takes (I.layout.arena h ws) w mode want rs q
              (mem-stands (I.layout.arena h ws).align (I.layout.arena h ws).base (I.layout.arena h ws).limit rs q d.apart d.aligned c.0) c.1
              (find-size-rules (I.layout.arena h ws) w n.0 g) in
              rw (is-part, choice.here) t

          abbrev less : List Range
          less = delete_from y.base.0 y.limit.0 (I.ranges h ws)

          pub find-0 : (z : H) → z ≡ I.layout.close h less → (vs : List ℕ) → vs ≡ I.layout.words h ws less →
              Finds I (I.find-made z 0 y (I.here s)) vs (I.does (find w n.0 mode) h ws)
          find-0 z ez vs ev =
              done-find I h ws aim s k (find w n.0 mode) p q (delete_from p.base p.limit rs)
              (find-takes (I.layout.arena h ws) w n.0 mode rs q g choice.is o)
              z (rw is-part at ez) y (I.here s) is-part choice.here vs (rw is-part at ev)

      -- nothing is removed
      pub find-kept : mode ≡ Mode.None → Finds I (I.find-made h 0 (I.here s) (I.here s)) ws (I.does (find w n.0 mode) h ws)
      find-kept m =
          done-find I h ws aim s k (find w n.0 mode) q q rs
          (find_none (I.layout.arena h ws) w n.0 mode rs q g choice.is m)
          h (sym (handle-back I h ws k.good k.whole)) (I.here s) (I.here s) choice.here choice.here ws (sym (I.words_back h ws k.good k.whole))
