-- The ways out of the inner functions of the list land. Assumes nothing.
use Prim.Native.Nat.{ℕ}
use mathlib.Core.Bool.{true, false, cond}
use mathlib.Core.List.{List}
use mathlib.Core.Path.{◌≡◌, sym, ap, ap₂, ◌∙◌}
use lib.ListN.{length}
use borrow.Author.Tests.{eq-eqb, ne_eqb}
use Rattle.units.specs.inner.Aims.{aim_of}
use Rattle.units.specs.LowWater.{unset, noted, sound_low}
use Rattle.units.specs.inner.Parts.{Checked, set_up_of, soundness_of}
use Rattle.units.specs.Words.{word_number, addr}
use Rattle.units.specs.declared.Addr.{Addr}
use Rattle.units.specs.declared.Align.{Align}
use Rattle.units.specs.declared.Size.{Size}
use Rattle.units.specs.declared.aims.Aim.{Aim}
use Rattle.units.specs.declared.rules.Arena.{Arena}
use Rattle.units.specs.declared.low_water.LowWater.{LowWater}
use Rattle.units.specs.declared.refusals.Refusal.{Refusal}
use Rattle.units.specs.Rules.{refusal_number}
use Rattle.std.specs.Prelude.{Result, Ok, Err}
use Rattle.units.proofs.Cases.{set-up-true, set-up-err}
use Rattle.model.proofs.lands.Ways.{look-told}
use Rattle.list_words.specs.Words.{sound_walk}
use Rattle.list_words.specs.inner.Surveys.{Ready, kept_of, survey_of}
use Rattle.list_words.specs.declared.Chain.{Chain}
use Rattle.list_words.specs.declared.Spot.{Spot}
use Rattle.list_land.specs.Calls.{new_land, opened_of}
use Rattle.list_land.specs.Layout.{base, limit, set_up, walk_of, closed_with}
use Rattle.list_land.specs.inner.Parts.{arena_in, chain_in, aim_in, look_of}
use Rattle.list_land.specs.declared.ListLand.{ListLand}
use Rattle.list_land.proofs.Land.{list_land}
use Rattle.list_land.proofs.Sound.{placed}

-- THE WORDS LENT
module _ (h : ListLand) (ws : List ℕ) (n : ℕ) (e : n ≡ word_number h.base.0 h.limit.0) where
  pub lent-good : n ≡ length ws → Ok tt ≡ set_up_of (list_land.lent h ws)
  lent-good f = rw (eq-eqb (word_number (base h) (limit h)) (length ws) (sym e ∙ f))

  pub lent-bad : (n ≡ length ws → ⊥) → Err Refusal.SetUp ≡ set_up_of (list_land.lent h ws)
  lent-bad f = rw (ne_eqb (word_number (base h) (limit h)) (length ws) (λ q. f (e ∙ q)))

-- THE LOOK
module _ (h : ListLand) (ws : List ℕ) (aim : Aim) (r : Checked) (e : r ≡ set_up_of (set_up h ws)) (f : r ≡ Ok tt) (a : Arena) (ea : a ≡ arena_in h) where
  pub good-ready : Ready a (length ws)
  good-ready = rw ea (placed h ws (set-up-true (set_up h ws) r e f)).ready

  module _ (z : Checked) (ez : z ≡ soundness_of (sound_low h.water h.bytes.0)) (fz : z ≡ Ok tt)
      (x : Aim) (ex : x ≡ aim_of a aim) (c : Chain) (ec : c ≡ chain_in h) (v : Result Spot Refusal) (ev : v ≡ survey_of a ws c x) where
    surveyed : v ≡ cond (sound_walk (walk_of h ws) h.ranges h.bytes.0) (Ok (kept_of (aim_in h aim) (walk_of h ws).met)) (Err Refusal.Damaged)
    unfolding survey_of
    surveyed = ev ∙ ap (λ (y : Aim). survey_of a ws c y) ex ∙ ap₂ (λ (y : Arena) (z : Chain). survey_of y ws z (aim_of y aim)) ea ec

    pub look-surveyed : v ≡ look_of h ws aim
    look-surveyed = look-told list_land h z ez ws aim r e f fz v surveyed

-- THE OPENING
pub new-made : (b l : Addr) (a : Align) (z : Addr) (s : Size) (w : LowWater) → z.0 ≡ 0 → s.0 ≡ 0 → w ≡ unset →
    record { base = b; limit = l; align = a; head = z; ranges = 0; bytes = s; water = w } ≡ new_land b.0 l.0 a.0
new-made b l a z s w e f g = λ i. record { base = b; limit = l; align = a; head = addr (e i); ranges = 0; bytes = record { 0 = f i }; water = g i }

pub new-zero : (z : Addr) (n : Align) → z.0 ≡ 0 → n.0 ≡ 0 → (h : ListLand) → h ≡ new_land z.0 z.0 n.0 → h ≡ new_land 0 0 0
new-zero z n ez en h e = e ∙ rw (ez, en)

module _ (b l a : ℕ) (ws : List ℕ) (h : ListLand) (eh : h ≡ new_land b l a) (r : Checked) (e : r ≡ set_up_of (set_up h ws)) where
  pub open-good : r ≡ Ok tt → record { land = h; answer = 0 } ≡ opened_of b l a ws
  unfolding opened_of
  open-good f =
      let t : set_up (new_land b l a) ws ≡ true = rw eh at (set-up-true (set_up h ws) r e f) in
      rw t (ap (λ (x : ListLand). record { land = x; answer = 0 }) eh)

  pub open-bad : (x : Refusal) → r ≡ Err x → (z : ListLand) → z ≡ new_land 0 0 0 → (n : ℕ) → n ≡ refusal_number x →
      record { land = z; answer = n } ≡ opened_of b l a ws
  unfolding opened_of
  open-bad x f z ez n en =
      let p = set-up-err (set_up h ws) x (sym f ∙ e) in
      let t : set_up (new_land b l a) ws ≡ false = rw eh at p.0 in
      let q : n ≡ refusal_number Refusal.SetUp = rw p.1 at en in
      rw t (ap₂ (λ (y : ListLand) (m : ℕ). record { land = y; answer = m }) ez q)

-- THE CLOSING
pub closed-made : (h : ListLand) (hd : Addr) (n : ℕ) (s : Size) (w : LowWater) → w ≡ noted h.water s.0 →
    record { base = h.base; limit = h.limit; align = h.align; head = hd; ranges = n; bytes = s; water = w } ≡ closed_with h hd n s
closed-made h hd n s w e = λ i. record { base = h.base; limit = h.limit; align = h.align; head = hd; ranges = n; bytes = s; water = e i }

pub ruleset open-ways = (open-good, open-bad, new-zero)
