-- The ways out of a delete in a pair that was checked: in the list; in the table; in neither. Assumes nothing.
use Prim.Native.Nat.{ℕ, ◌-◌, ◌≤◌}
use mathlib.Core.Bool.{Bool, true, false}
use mathlib.Core.List.{List}
use mathlib.Core.Logic.{◌⊎◌, inl, inr}
use mathlib.Core.Path.{◌≡◌, refl, sym, ap, subst, ◌∙◌}
use native.Mathlib.Omega.{arith}
use borrow.Author.Tests.{not-false}
use Rattle.std.specs.Prelude.{Result, Ok, Err}
use Rattle.units.specs.declared.refusals.Refusal.{Refusal}
use Rattle.units.specs.declared.Range as units
use Rattle.units.specs.declared.Size.{Size}
use Rattle.model.specs.Calls.{good_range_in, accepted}
use Rattle.model.specs.Marks.{Range, rng, struct}
use Rattle.model.specs.inner.Lists.{holds, holder}
use Rattle.model.proofs.lands.Looking.{handle-back, kept-reach}
use Rattle.model.proofs.Totals.{total-delete}
use Rattle.list_words.specs.Laying.{lay}
use Rattle.list_words.specs.declared.Spot.{Spot}
use Rattle.list_words.proofs.Laid.{lay-laid}
use Rattle.list_land.specs.Layout as list
use Rattle.list_land.specs.inner.Parts.{Looked, reach_limit}
use Rattle.list_land.specs.declared.ListLand.{ListLand}
use Rattle.list_land.proofs.Land.{list_land}
use Rattle.block_words.specs.Words.{fill}
use Rattle.block_words.specs.inner.Surveys as places
use Rattle.block_words.specs.declared.Entry.{Entry}
use Rattle.block_edits.specs.inner.Edits.{Sorted, cut_of, cut_words}
use Rattle.block_edits.specs.declared.TableEdited.{TableEdited}
use Rattle.block_edits.proofs.Answered.{cut-refusal, cut-refused, cut-full, cut-done, cut-words}
use Rattle.block_land.specs.Layout as block
use Rattle.block_land.specs.declared.BlockLand.{BlockLand}
use Rattle.block_land.proofs.EditAnswers as block-edits
use Rattle.block_land.proofs.Requests as block-requests
use Rattle.block_land.proofs.LayoutLaws as block-laws
use Rattle.pair_model.specs.Pairs.{both, delete, pair_step}
use Rattle.pair.specs.Calls.{called, changed, deleted}
use Rattle.pair.specs.inner.Deletes.{begins, Asked, Unlisted, Spilling, Nowhere}
use Rattle.pair.specs.inner.Editing.{list_less, table_less, TakingListed}
use Rattle.pair.specs.declared.Changed.{Changed}
use Rattle.pair.specs.declared.Pair.{Pair}
use Rattle.pair.proofs.Asking.{list_fine, block_fine, readable, order, list-good}
use Rattle.pair.proofs.Calling.{Hands, list-looked, block-looked, accepts}
use Rattle.pair.proofs.DeleteLists.{listed-holds, listed_here, listed-takes}
use Rattle.pair.proofs.ReachedHere.{begins-holds}

pub is-delete : (p : Pair) (ws vs : List ℕ) (y : units.Range) → deleted p ws vs y ≡ called (delete y.base.0 y.limit.0) p ws vs
unfolding deleted
is-delete p ws vs y = refl

-- what a delete hands back
abbrev pub Deletes : Pair → List ℕ → List ℕ → units.Range → Changed → List ℕ → List ℕ → Type 0
Deletes p ws vs y = Hands changed (deleted p ws vs y)

module _ (p : Pair) (ws vs : List ℕ) (y : units.Range) (s : Spot) (e : Entry) where
  abbrev b : ℕ
  b = y.base.0

  abbrev l : ℕ
  l = y.limit.0

  abbrev rs : List Range
  rs = (list.walk_of p.list ws).met

  abbrev qs : List Range
  qs = block.table_of p.block vs

  module _ (k : Asked p ws vs y s e) where
    -- an accepted step, with the handles and the words that it leaves
    pub does : (f : Range) (rs' qs' : List Range) →
        pair_step (block.arena_of p.block vs) (delete b l) (both rs qs) ≡ record { out = accepted f (rng 0 0); next = both rs' qs' } →
        (x : units.Range) → x ≡ struct f → (h : ListLand) → h ≡ list.closed p.list rs' → (m : BlockLand) → m ≡ block.closed p.block qs' →
        (ws' vs' : List ℕ) → ws' ≡ lay (list.base p.list) rs' ws → vs' ≡ fill qs' vs →
        Deletes p ws vs y (record { pair = record { list = h; block = m }; answer = 0; range = x }) ws' vs'
    does f rs' qs' d x ex h eh m em ws' vs' ew ev =
        let c = is-delete p ws vs y ∙ accepts p ws vs (reach_limit y) s e k.checked (delete b l) f (rng 0 0) rs' qs' d in
        (rw c (λ i. record { pair = record { list = eh i; block = em i }; answer = 0; range = ex i }), rw c ew, rw c ev)

    -- IN THE LIST
    module _ (t : Bool) (et : t ≡ begins y s.here) where
      looked : Looked p.list ws (reach_limit y) s
      looked = list-looked p ws vs (reach_limit y) s e k.checked

      good : good_range_in (list.arena_of p.list) y.base.0 y.limit.0 ≡ true
      good = list-good p ws vs y s e k

      pub in-list-takes : t ≡ true → TakingListed p.list ws y s
      in-list-takes f = listed-takes p.list ws y s looked good (sym et ∙ f)

      pub in-list-0 : t ≡ true → (h : ListLand) (ws' : List ℕ) → (h ≡ list.closed p.list (list_less p.list ws y)) × (ws' ≡ lay (list.base p.list) (list_less p.list ws y) ws) →
          Deletes p ws vs y (record { pair = record { list = h; block = p.block }; answer = 0; range = s.here }) ws' vs
      in-list-0 f h ws' g =
          does (holder b l rs) (list_less p.list ws y) qs (rw (k.good, listed-holds p.list ws y s looked good (sym et ∙ f)))
          s.here (listed_here p.list ws y s looked good (sym et ∙ f)) h g.0 p.block (sym (block-laws.handle-back p.block vs (block_fine p ws vs y s e k)))
          ws' vs g.1 (sym (block-laws.words_back p.block vs (block_fine p ws vs y s e k)))

      pub not-in-list : t ≡ false → Unlisted p ws vs y s e
      not-in-list f =
          let z = (list_fine p ws vs y s e k).place.arena.above in
          let q = kept-reach list_land y.limit (list.base p.list) (list.limit p.list) rs z (list_fine p ws vs y s e k).apart s k.checked.spot in
          record {
            asked = k;
            unlisted = sym (begins-holds y (list.base p.list) (list.limit p.list) rs z (order p ws vs y s e k) (list_fine p ws vs y s e k).apart) ∙ (rw q at (sym et ∙ f));
          }

  -- IN THE TABLE
  module _ (u : Unlisted p ws vs y s e) where
    pub cut_sorted : Sorted vs p.block.ranges
    cut_sorted = block-requests.sorted p.block vs (readable p ws vs y s e u.asked)

    pub cut-spot : places.FirstReach vs p.block.ranges y.limit.0 e.number
    cut-spot = block-requests.looked-spot p.block vs y.limit e (block-looked p ws vs (reach_limit y) s e u.asked.checked)

    module _ (v : Result TableEdited Refusal) (vs' : List ℕ) (d : (v ≡ cut_of vs p.block.ranges y) × (vs' ≡ cut_words vs p.block.ranges y)) where
      overlap : (r : Refusal) → v ≡ Err r → (r ≡ Refusal.Full → ⊥) → cut_of vs p.block.ranges y ≡ Err Refusal.Overlap
      overlap r f n = go (cut-refusal vs p.block.ranges y r (sym d.0 ∙ f))
        where
          go : (r ≡ Refusal.Overlap) ⊎ (r ≡ Refusal.Full) → cut_of vs p.block.ranges y ≡ Err Refusal.Overlap
          go (inl g) = sym d.0 ∙ f ∙ ap (λ (z : Refusal). Err z) g
          go (inr g) = absurd (n g)

      filled : (r : Refusal) → v ≡ Err r → r ≡ Refusal.Full → cut_of vs p.block.ranges y ≡ Err Refusal.Full
      filled r f n = sym d.0 ∙ f ∙ ap (λ (z : Refusal). Err z) n

      pub none-holds : (r : Refusal) → v ≡ Err r → (r ≡ Refusal.Full → ⊥) → Nowhere p ws vs' y
      none-holds r f n =
          let q = overlap r f n in
          subst (λ (x : List ℕ). Nowhere p ws x y) (sym (d.1 ∙ cut-words vs p.block.ranges y (Err Refusal.Overlap) q))
          (record { spot = s; entry = e; asked = u; none = cut-refused vs p.block.ranges y q })

      pub after_none : (r : Refusal) → v ≡ Err r → (r ≡ Refusal.Full → ⊥) → (w : Changed) (ws₂ vs₂ : List ℕ) → Deletes p ws vs' y w ws₂ vs₂ → Deletes p ws vs y w ws₂ vs₂
      after_none r f n w ws₂ vs₂ g =
          subst (λ (x : List ℕ). Deletes p ws x y w ws₂ vs₂) (d.1 ∙ cut-words vs p.block.ranges y (Err Refusal.Overlap) (overlap r f n)) g

      pub spills : (r : Refusal) → v ≡ Err r → r ≡ Refusal.Full → Spilling p ws vs' y s e
      spills r f n =
          let q = filled r f n in
          let o = cut-full vs p.block.ranges y q in
          subst (λ (x : List ℕ). Spilling p ws x y s e) (sym (d.1 ∙ cut-words vs p.block.ranges y (Err Refusal.Full) q))
          (record { asked = u; held = not-false (holds b l qs) o.0; full = o.1 })

      pub after-spill : (r : Refusal) → v ≡ Err r → r ≡ Refusal.Full → (w : Changed) (ws₂ vs₂ : List ℕ) → Deletes p ws vs' y w ws₂ vs₂ → Deletes p ws vs y w ws₂ vs₂
      after-spill r f n w ws₂ vs₂ g =
          subst (λ (x : List ℕ). Deletes p ws x y w ws₂ vs₂) (d.1 ∙ cut-words vs p.block.ranges y (Err Refusal.Full) (filled r f n)) g

      module _ (x : TableEdited) (f : v ≡ Ok x) (z : Size) (ez : z.0 ≡ y.limit.0 - y.base.0) where
        pub cut-room : z.0 ≤ p.block.bytes.0
        cut-room = block-edits.delete-room p.block vs y e (block-looked p ws vs (reach_limit y) s e u.asked.checked) u.asked.good v vs' d x f z ez

        pub cut-0 : (t : Size) → t.0 ≡ p.block.bytes.0 - z.0 → (h : BlockLand) → h ≡ block.closed_with p.block x.count t →
            Deletes p ws vs y (record { pair = record { list = p.list; block = h }; answer = 0; range = x.range }) ws vs'
        cut-0 t et h eh =
            let q = sym d.0 ∙ f in
            let o = cut-done vs p.block.ranges y x q in
            let lf = list_fine p ws vs y s e u.asked in
            let seen = list-looked p ws vs (reach_limit y) s e u.asked.checked in
            let c = not-false (holds b l qs) o.good in
            let bf = block_fine p ws vs y s e u.asked in
            let left = total-delete b l (block.base p.block) (block.limit p.block) qs (order p ws vs y s e u.asked) bf.apart c in
            let bytes = bf.bytes in
            does u.asked (holder b l qs) rs (table_less p.block vs y) (rw (u.asked.good, u.unlisted, c, o.fits))
            x.range o.range p.list (sym (handle-back list_land p.list ws seen.good seen.whole))
            h (eh ∙ block-laws.closed-as p.block (table_less p.block vs y) x.count t o.count (omega arith))
            ws vs' (sym (lay-laid (list.base p.list) rs ws lf.laid)) (d.1 ∙ cut-words vs p.block.ranges y (Ok x) q)
