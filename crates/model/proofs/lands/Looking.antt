-- What the look of a land says: 5, 6, or what an aim keeps of a sound land; and what a step of a sound land gives. Assumes nothing.
use Prim.Native.Nat.{ℕ, ◌<◌}
use mathlib.Core.Bool.{Bool, true, false, cond}
use mathlib.Core.List.{List}
use mathlib.Core.Option.{none}
use mathlib.Core.Path.{◌≡◌, refl, sym, ap, ◌∙◌}
use native.Mathlib.Omega.{arith}
use lib.Dec.{eqb}
use Rattle.std.specs.Prelude.{Result, Ok, Err}
use Rattle.units.specs.Rules.{refusal_number}
use Rattle.units.specs.inner.Aims.{none_range}
use Rattle.units.specs.declared.Addr.{Addr}
use Rattle.units.specs.declared.Range as units
use Rattle.units.specs.declared.aims.Aim.{Aim}
use Rattle.units.specs.declared.refusals.Refusal.{Refusal}
use Rattle.model.specs.Calls.{Call, Outcome, refused, accepted}
use Rattle.model.specs.inner.Laws.{Fine}
use Rattle.model.specs.Layouts.{holding, reading, Done}
use Rattle.model.specs.inner.Lists.{Apart, Mem}
use Rattle.model.specs.inner.Looks.{Looked, look_of, look_number}
use Rattle.model.specs.Marks.{Range, struct}
use Rattle.model.specs.inner.Picks.{here_of}
use Rattle.model.specs.inner.Steps.{list_ops, step}
use Rattle.model.proofs.Aiming.{pick-by, by-reach}
use Rattle.model.proofs.Bytes.{mem-from}
use Rattle.model.proofs.lands.Land.{Land}
use Rattle.model.proofs.lands.Ways.{above}
use Rattle.model.proofs.Reaching.{reach}
use Rattle.model.proofs.Outcomes.{call-fault, call-refused, call-accepted, fault-number, read_whole}

-- THE ANSWER THAT THE TWO TESTS GIVE
module _ {S : Type 0} (g s : Bool) (k : S) where
  pub look-ok : (x : S) → Ok x ≡ look_of g s k → (g ≡ true) × (s ≡ true) × (x ≡ k)
  look-ok x = go g s
    where
      go : (g' s' : Bool) → Ok x ≡ look_of g' s' k → (g' ≡ true) × (s' ≡ true) × (x ≡ k)
      go false s' e = let z : ◌≡◌ {A = ℕ} 0 1 = cc in absurd (omega arith)
      go true false e = let z : ◌≡◌ {A = ℕ} 0 1 = cc in absurd (omega arith)
      go true true e = (refl, refl, cc)

  pub look-err : {P : Type 0} (x : Refusal) → Err x ≡ look_of g s k →
      (g ≡ false → x ≡ Refusal.SetUp → P) → (g ≡ true → s ≡ false → x ≡ Refusal.Damaged → P) → P
  look-err {P} x = go g s
    where
      go : (g' s' : Bool) → Err x ≡ look_of g' s' k → (g' ≡ false → x ≡ Refusal.SetUp → P) → (g' ≡ true → s' ≡ false → x ≡ Refusal.Damaged → P) → P
      go false s' e bad damaged = bad refl cc
      go true false e bad damaged = damaged refl refl cc
      go true true e bad damaged = let z : ◌≡◌ {A = ℕ} 0 1 = cc in absurd (omega arith)

-- and its number
abbrev pub said : Bool → Bool → ℕ
said g s = cond g (cond s 0 6) 5

number_is : {S : Type 0} (g s : Bool) (k : S) → look_number (look_of g s k) ≡ said g s
number_is false s k = refl
number_is true false k = refl
number_is true true k = refl

fault-is : (g s : Bool) (rs : List Range) → said g s ≡ fault-number (reading g s rs)
fault-is false s rs = refl
fault-is true false rs = refl
fault-is true true rs = refl

module _ {H S C F : Type 0} (I : Land H S C F) where
  abbrev LandDone : Type 0
  LandDone = Done Outcome H (List ℕ)

  -- what a call hands back, and the words that it leaves
  abbrev pub changed : LandDone → C
  changed d = I.change d.handle d.out.answer (struct d.out.found)

  abbrev pub found_of : LandDone → F
  found_of d = I.find-made d.handle d.out.answer (struct d.out.found) (struct d.out.old)

  abbrev pub Changes : C → List ℕ → LandDone → Type 0
  Changes w vs d = (w ≡ changed d) × (vs ≡ d.words)

  abbrev pub Finds : F → List ℕ → LandDone → Type 0
  Finds w vs d = (w ≡ found_of d) × (vs ≡ d.words)

  abbrev pub Kept : H → List ℕ → Aim → S → Type 0
  Kept h ws aim s = Looked (I.set-up h ws) (I.sound h ws) (I.keep aim (I.ranges h ws)) s

  pub look-said : (h : H) (ws : List ℕ) (aim : Aim) → look_number (I.look h ws aim) ≡ said (I.set-up h ws) (I.sound h ws)
  look-said h ws aim = ap look_number (I.looks h ws aim) ∙ number_is (I.set-up h ws) (I.sound h ws) (I.keep (I.aimed h aim) (I.ranges h ws))

  -- the number of a look is the one that the handle and the words are read with
  pub look-number : (h : H) (ws : List ℕ) (aim : Aim) → look_number (I.look h ws aim) ≡ fault-number (I.layout.read h ws)
  look-number h ws aim =
      look-said h ws aim ∙ fault-is (I.set-up h ws) (I.sound h ws) (I.ranges h ws) ∙ ap fault-number (sym (I.reads h ws))

  -- writing what is read changes no word
  pub read_back : (h : H) (ws : List ℕ) (rs : List Range) → I.layout.read h ws ≡ holding rs → I.layout.words h ws rs ≡ ws
  read_back h ws rs e =
      let p = read_whole (I.set-up h ws) (I.sound h ws) (I.ranges h ws) rs (sym (I.reads h ws) ∙ e) in
      rw (← p.2) (I.words_back h ws p.0 p.1)

  module _ (h : H) (ws : List ℕ) where
    -- the refusal of a call by number: the handle and the words stay
    abbrev pub refuses : Call → ℕ → Type 0
    refuses c n = I.does c h ws ≡ record { out = refused n; handle = h; words = ws }

    held : I.set-up h ws ≡ true → I.sound h ws ≡ true → I.layout.read h ws ≡ holding (I.ranges h ws)
    held g s = I.reads h ws ∙ rw (g, s)

    -- the handle of a sound land is the one that closes its ranges
    pub handle-back : I.set-up h ws ≡ true → I.sound h ws ≡ true → I.layout.close h (I.ranges h ws) ≡ h
    handle-back g s = I.laws.close_same h ws (I.ranges h ws) (held g s)

    -- 5 and 6, of any call
    module _ (c : Call) where
      pub bad-is-5 : I.set-up h ws ≡ false → refuses c 5
      bad-is-5 g = I.is_call c h ws ∙ call-fault I.layout c h ws 5 (I.reads h ws ∙ rw g)

      pub damaged-is-6 : I.set-up h ws ≡ true → I.sound h ws ≡ false → refuses c 6
      damaged-is-6 g s = I.is_call c h ws ∙ call-fault I.layout c h ws 6 (I.reads h ws ∙ rw (g, s))

    module _ (c : Call) (n : ℕ) (e : refuses c n) where
      pub refused-change : (w : C) → w ≡ I.change h n none_range → (vs : List ℕ) → vs ≡ ws → Changes w vs (I.does c h ws)
      refused-change w k vs v = (rw e k, rw e v)

      pub refused-find : (w : F) → w ≡ I.find-made h n none_range none_range → (vs : List ℕ) → vs ≡ ws → Finds w vs (I.does c h ws)
      refused-find w k vs v = (rw e k, rw e v)

  module _ (h : H) (ws : List ℕ) (aim : Aim) (v : Result S Refusal) (e : v ≡ I.look h ws aim) where
    abbrev kept : S
    kept = I.keep (I.aimed h aim) (I.ranges h ws)

    told : v ≡ look_of (I.set-up h ws) (I.sound h ws) (I.keep (I.aimed h aim) (I.ranges h ws))
    told = e ∙ I.looks h ws aim

    pub saw : (s : S) → v ≡ Ok s → Kept h ws (I.aimed h aim) s
    saw s f =
        let t = look-ok (I.set-up h ws) (I.sound h ws) kept s (sym f ∙ told) in
        record { good = t.0; whole = t.1; kept = t.2 }

    -- 5 and 6
    pub saw-err : (c : Call) (x : Refusal) → v ≡ Err x → refuses h ws c (refusal_number x)
    saw-err c x f =
        look-err (I.set-up h ws) (I.sound h ws) kept x (sym f ∙ told)
        (λ g q. rw q (bad-is-5 h ws c g))
        (λ g s q. rw q (damaged-is-6 h ws c g s))

  -- what an aim at the first range that reaches x keeps
  pub kept-reach : (x : Addr) (lo hi : ℕ) (rs : List Range) → 0 < lo → Apart lo hi rs →
      (s : S) → s ≡ I.keep (Aim.Reach x) rs → I.here s ≡ here_of (reach x.0 rs)
  kept-reach x lo hi rs z a s e = ap I.here e ∙ I.keeps (Aim.Reach x) lo hi rs z a ∙ ap here_of (by-reach x lo hi rs z a)

  -- A SOUND LAND
  module _ (h : H) (ws : List ℕ) (aim : Aim) (s : S) (k : Kept h ws aim s) where
    abbrev rs : List Range
    rs = I.ranges h ws

    pub fine : Fine (I.layout.arena h ws) (I.ranges h ws)
    fine = (I.laws.sound h ws rs (held h ws k.good k.whole)).0

    pub is-kept : I.here s ≡ here_of (pick-by aim none (I.ranges h ws))
    is-kept =
        ap I.here k.kept
        ∙ I.keeps aim (I.layout.arena h ws).base (I.layout.arena h ws).limit rs (above I h ws k.good) fine.canon.apart

    pub mem-above : (q : Range) → Mem q (I.ranges h ws) → 0 < q.base
    mem-above q m =
        let u = mem-from (I.layout.arena h ws).base (I.layout.arena h ws).limit rs q fine.canon.apart m in
        let v = above I h ws k.good in
        omega arith

    module _ (c : Call) where
      -- a step that is refused
      pub step-refused : (n : ℕ) → eqb n 0 ≡ false → step list_ops (I.layout.arena h ws) c (I.ranges h ws) ≡ record { out = refused n; next = I.ranges h ws } → refuses h ws c n
      step-refused n z e = I.is_call c h ws ∙ call-refused I.layout c h ws rs (held h ws k.good k.whole) n z e

      -- a step that is accepted, closed
      module _ (f r : Range) (new : List Range)
          (e : step list_ops (I.layout.arena h ws) c (I.ranges h ws) ≡ record { out = accepted f r; next = new }) where
        pub step-done : I.does c h ws ≡ record { out = accepted f r; handle = I.layout.close h new; words = I.layout.words h ws new }
        step-done = I.is_call c h ws ∙ call-accepted I.layout c h ws rs (held h ws k.good k.whole) f r new e

        pub done-change : (z : H) → z ≡ I.layout.close h new → (x : units.Range) → x ≡ struct f → (vs : List ℕ) → vs ≡ I.layout.words h ws new →
            Changes (I.change z 0 x) vs (I.does c h ws)
        done-change z ez x ex vs ev = (rw (step-done, ez, ex), rw (step-done, ev))

        pub done-find : (z : H) → z ≡ I.layout.close h new → (x o : units.Range) → x ≡ struct f → o ≡ struct r → (vs : List ℕ) → vs ≡ I.layout.words h ws new →
            Finds (I.find-made z 0 x o) vs (I.does c h ws)
        done-find z ez x o ex eo vs ev = (rw (step-done, ez, ex, eo), rw (step-done, ev))
