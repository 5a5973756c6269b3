-- The walk beside a table up to the first range that fits: what holds at each turn of the loop of `seek`, and its ways out. Assumes nothing.
use Prim.Native.Nat.{ℕ, ◌+◌, ◌-◌, ◌≤◌, ◌<◌}
use mathlib.Core.Bool.{Bool, true, false, not}
use mathlib.Core.List.{List}
use mathlib.Core.Path.{◌≡◌, refl, sym, ap, subst}
use lib.Dec.{eqb}
use lib.ListN.{length}
use Rattle.std.specs.Prelude.{Option, Some, None, Result, Ok, Err}
use Rattle.units.specs.declared.refusals.Refusal.{Refusal}
use Rattle.units.specs.inner.Aims.{none_range, keeps_first, fits}
use Rattle.units.specs.Words.{addr, range_of}
use Rattle.units.specs.declared.Addr.{Addr}
use Rattle.units.specs.declared.Range.{Range}
use Rattle.units.specs.declared.Size.{Size}
use Rattle.units.specs.declared.Which.{Which}
use Rattle.units.specs.declared.aims.Aim.{Aim}
use Rattle.units.specs.declared.aims.Goal.{Goal}
use Rattle.units.specs.declared.rules.Arena.{Arena}
use Rattle.units.proofs.Fitting.{goal_of, goal-of-nothing, goal-of-reach, goal-of-from, goal-of-find}
use Rattle.list_words.specs.Words.{range_at}
use Rattle.list_words.specs.inner.Seeks.{sought}
use Rattle.list_words.specs.inner.Surveys.{Ready, spot, start_at, onward, Near, Along, kept_of}
use Rattle.list_words.specs.declared.Descriptor.{Descriptor}
use Rattle.list_words.specs.declared.Fault.{Fault}
use Rattle.list_words.specs.declared.Spot.{Spot}
use Rattle.list_words.specs.declared.cursor.Cursor.{Cursor}
use Rattle.list_words.proofs.Going.{along-near, along-less}
use Rattle.list_words.proofs.Seeking.{Seeking, seek-start, seek-broken, seek-order, seek-at, seek-next, seek-end}
use Rattle.list_words.proofs.Staying.{first-kept}
use Rattle.block_words.specs.inner.Tallies.{behind}
use Rattle.block_words.specs.inner.Surveys.{Rising}
use Rattle.pair_words.specs.inner.Besides.{beside_of, Abreast, SeeksBeside}
use Rattle.pair_words.proofs.Abreast.{abreast-start, abreast-overlaps, abreast-next}

-- the list sought through, and the table abreast of it
pub record Pursuing (a : Arena) (ws : List ℕ) (head : ℕ) (vs : List ℕ) (n : ℕ) (g : Goal) (p : Range) (c : Cursor) (i : ℕ) : Type 0 where
  pub seeking : Seeking a ws head g p c
  pub abreast : Abreast a ws head vs n c i

module _ (a : Arena) (ws : List ℕ) (ready : Ready a (length ws)) (vs : List ℕ) (n : ℕ) (g : Goal) (h : Addr) (s : Cursor) (es : s ≡ start_at a h) where
  at_head : s.at.0 ≡ h.0
  at_head = ap (λ (v : Cursor). v.at.0) es

  pub pursue-start : Rising vs n → (p : Range) → p ≡ none_range → Pursuing a ws s.at.0 vs n g p s 0
  pursue-start t p ep =
      record {
        seeking = seek-start a ws ready g h s es p ep;
        abreast = subst (λ (x : ℕ). Abreast a ws x vs n s 0) (sym at_head) (abreast-start a ws ready vs n t h s es);
      }

  module _ (p : Range) (c : Cursor) (i : ℕ) (k : Pursuing a ws s.at.0 vs n g p c i) (z : Bool) (ez : z ≡ eqb c.at.0 0) where
    along : Along a ws h.0 c
    along = subst (λ (x : ℕ). Along a ws x c) at_head k.seeking.along

    abreast : Abreast a ws h.0 vs n c i
    abreast = subst (λ (x : ℕ). Abreast a ws x vs n c i) at_head k.abreast

    abbrev Found : Result (Spot × Cursor × ℕ) Refusal → Type 0
    Found = SeeksBeside a ws h.0 vs n (sought g none_range)

    pub pursue-end : not z ≡ false → (v : Spot) → v ≡ spot p none_range (addr 0) → Found (Ok (v, c, i))
    pursue-end f v ev = (seek-end a ws ready g h s es p c k.seeking z ez f v ev, abreast)

    module _ (f : not z ≡ true) (m : Result Descriptor Fault) (em : m ≡ range_at a.base.0 a.limit.0 a.align.0 ws c.low.0 c.at.0) where
      pub pursue-broken : (x : Fault) → m ≡ Err x → (u : Refusal) → u ≡ Refusal.Damaged → Found (Err u)
      pursue-broken x o u eu = (eu, (λ w. absurd (seek-broken a ws ready g h s es p c k.seeking z ez f m em x o x w)))

      module _ (d : Descriptor) (fm : m ≡ Ok d) where
        pub pursue-near : Near c d.limit.0
        pursue-near = along-near a ws ready h.0 c along z ez f m em d fm

        pub pursue-less : (c' : Cursor) → c' ≡ onward c d.limit.0 d.next → a.limit.0 + 1 - c'.low.0 < a.limit.0 + 1 - c.low.0
        pursue-less c' ec = along-less a ws ready h.0 c along z ez f m em d fm c' ec

        module _ (y : Range) (ey : y ≡ range_of c.at.0 d.limit.0) where
          pub pursue-order : y.base.0 ≤ y.limit.0
          pursue-order = seek-order a ws ready g h s es p c k.seeking z ez f m em d fm y ey

          module _ (b : Option ℕ) (eb : b ≡ beside_of y i (behind vs n i)) where
            pub pursue-overlaps : b ≡ None → Found (Err Refusal.Damaged)
            pursue-overlaps o = (refl, abreast-overlaps a ws ready vs n h.0 c i along abreast z ez f m em d fm y ey b eb o)

            module _ (j : ℕ) (o : b ≡ Some j) (c' : Cursor) (ec : c' ≡ onward c d.limit.0 d.next) (t : Bool) (et : t ≡ fits g y) where
              next-pairs : Abreast a ws h.0 vs n c' j
              next-pairs = abreast-next a ws ready vs n h.0 c i along abreast z ez f m em d fm y ey b eb j o c' ec

              pub pursue-at : t ≡ true → Found (Ok (spot p y d.next, c', j))
              pursue-at ft = (seek-at a ws ready g h s es p c k.seeking z ez f m em d fm c' ec y ey t et ft, next-pairs)

              pub pursue-next : t ≡ false → Pursuing a ws s.at.0 vs n g y c' j
              pursue-next ft =
                  record {
                    seeking = seek-next a ws ready g h s es p c k.seeking z ez f m em d fm c' ec y ey t et ft;
                    abreast = subst (λ (v : ℕ). Abreast a ws v vs n c' j) (sym at_head) next-pairs;
                  }

pub ruleset pursuits = (pursue-start, pursue-end, pursue-broken, pursue-near, pursue-less, pursue-order, pursue-overlaps, pursue-at, pursue-next)

-- the ways out of `first`
module _ (a : Arena) (ws : List ℕ) (ready : Ready a (length ws)) (head : ℕ) (vs : List ℕ) (n : ℕ) (aim : Aim) (stay : keeps_first aim ≡ true) where
  by-goal : (g : Goal) → g ≡ goal_of aim → (q : Result (Spot × Cursor × ℕ) Refusal) → SeeksBeside a ws head vs n (sought g none_range) q → SeeksBeside a ws head vs n (kept_of aim) q
  by-goal g eg (Err x) i = i
  by-goal g eg (Ok (s, c, j)) i = (first-kept a ws ready head aim stay g eg (Ok (s, c)) i.0, i.1)

  module _ (x y : Addr) (z : Size) (q : Result (Spot × Cursor × ℕ) Refusal) (i : SeeksBeside a ws head vs n (sought (record { reach = x; from = y; size = z }) none_range) q) where
    abbrev Kept : Type 0
    Kept = SeeksBeside a ws head vs n (kept_of aim) q

    pub first-nothing : aim ≡ Aim.Nothing → x.0 ≡ 18446744073709551615 → y.0 ≡ 0 → z.0 ≡ 0 → Kept
    first-nothing e ex ey ez = by-goal (record { reach = x; from = y; size = z }) (goal-of-nothing x y z aim e ex ey ez) q i

    pub first_reach : (v : Addr) → aim ≡ Aim.Reach v → x ≡ v → y.0 ≡ 0 → z.0 ≡ 0 → Kept
    first_reach v e ex ey ez = by-goal (record { reach = x; from = y; size = z }) (goal-of-reach x y z aim v e ex ey ez) q i

    pub first-from : (v : Addr) → aim ≡ Aim.From v → x.0 ≡ 0 → y ≡ v → z.0 ≡ 0 → Kept
    first-from v e ex ey ez = by-goal (record { reach = x; from = y; size = z }) (goal-of-from x y z aim v e ex ey ez) q i

    pub first-find : (w : Which) (m : Size) → aim ≡ Aim.Find w m → x.0 ≡ 0 → y.0 ≡ 0 → z ≡ m → Kept
    first-find w m e ex ey ez = by-goal (record { reach = x; from = y; size = z }) (goal-of-find x y z aim w m e ex ey ez) q i
