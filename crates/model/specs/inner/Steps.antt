-- The rules of the calls once, over any set of bytes that has the operations: what the code computes on lists of ranges. Assumes nothing.
use Rattle.std.specs.Prelude.{Bool, true, cond, List, [], ◌∷◌, ℕ, ◌+◌, ◌-◌, leb, ltb, length}
use Rattle.std.proofs.Math.Option.{Option, none, some}
use Rattle.units.specs.declared.Mode.{Mode}
use Rattle.model.specs.Marks.{Range, rng, size, Marks, mark, unmark, some_marked, every_marked, runs}
use Rattle.model.specs.inner.Lists.{overlaps, holds, holder, insert_in, delete_from}
use Rattle.units.specs.declared.Which.{Which}
use Rattle.model.specs.Calls.{Arena, Call, insert, delete, find, walk, Step, refused, accepted, good_range_in, good_size_in, range_number_in, size_number_in, find_size_in}

-- What a set of bytes can do: whether some or every byte of [b, l) is in it, the set with them and without them, its isolated ranges.
pub record Ops (S : Type 0) : Type 0 where
  pub any : S → ℕ → ℕ → Bool
  pub all : S → ℕ → ℕ → Bool
  pub put : S → ℕ → ℕ → S
  pub cut : S → ℕ → ℕ → S
  pub ranges : S → List Range

abbrev pub marks_ops : Arena → Ops Marks
marks_ops a = record {
  any = λ m b l. some_marked m b (l - b);
  all = λ m b l. every_marked m b (l - b);
  put = mark;
  cut = unmark;
  ranges = λ m. runs m a.base (a.limit - a.base);
}

abbrev pub list_ops : Ops (List Range)
list_ops = record {
  any = λ rs b l. overlaps b l rs;
  all = λ rs b l. holds b l rs;
  put = λ rs b l. insert_in b l rs;
  cut = λ rs b l. delete_from b l rs;
  ranges = λ rs. rs;
}

abbrev pub fit : ℕ → Range → Option Range
fit n r = cond (leb n (size r)) (some r) none

abbrev pub or_else : Option Range → Option Range → Option Range
or_else none o = o
or_else (some r) o = some r

-- The isolated range of at least the size with the lowest / highest base.
abbrev pub first_fit : ℕ → List Range → Option Range
first_fit n [] = none
first_fit n (r ∷ rs) = or_else (fit n r) (first_fit n rs)

abbrev pub last_fit : ℕ → List Range → Option Range
last_fit n [] = none
last_fit n (r ∷ rs) = or_else (last_fit n rs) (fit n r)

-- The longest range, the lowest base among equals, if it reaches the size.
abbrev pub shorter : Range → Range → Bool
shorter r q = ltb (size r) (size q)

abbrev pub longer : Range → Option Range → Range
longer r none = r
longer r (some q) = cond (shorter r q) q r

abbrev pub longest : List Range → Option Range
longest [] = none
longest (r ∷ rs) = some (longer r (longest rs))

abbrev pub fitting : ℕ → Option Range → Option Range
fitting n none = none
fitting n (some r) = fit n r

abbrev pub choose : Which → ℕ → List Range → Option Range
choose Which.First n rs = first_fit n rs
choose Which.Last n rs = last_fit n rs
choose Which.Largest n rs = fitting n (longest rs)

-- Given any number, the isolated range of lowest base at or above it.
abbrev pub next_from : ℕ → List Range → Option Range
next_from x [] = none
next_from x (r ∷ rs) = cond (leb x r.base) (some r) (next_from x rs)

-- The part of the chosen range that is found.
abbrev pub end_part : Mode → ℕ → Range → Range
end_part Mode.None n r = r
end_part Mode.Low n r = rng r.base (r.base + n)
end_part Mode.High n r = rng (r.limit - n) r.limit
end_part Mode.Entire n r = r

abbrev pub part : Which → Mode → ℕ → Range → Range
part Which.First mode n r = end_part mode n r
part Which.Last mode n r = end_part mode n r
part Which.Largest mode n r = r

-- There is room for n ranges.
abbrev pub room_for : Option ℕ → ℕ → Bool
room_for none n = true
room_for (some capacity) n = leb n capacity

abbrev pub refuse : {S : Type 0} → ℕ → S → Step S
refuse n s = record { out = refused n; next = s }

module _ {S : Type 0} (o : Ops S) where
  abbrev pub taken : Mode → S → Range → S
  taken Mode.None s f = s
  taken Mode.Low s f = o.cut s f.base f.limit
  taken Mode.High s f = o.cut s f.base f.limit
  taken Mode.Entire s f = o.cut s f.base f.limit

  -- A find that has chosen a range is accepted.
  abbrev pub grant : Which → Mode → ℕ → S → Option Range → Step S
  grant w mode n s none = refuse 2 s
  grant w mode n s (some r) = record { out = accepted (part w mode n r) r; next = taken mode s (part w mode n r) }

abbrev pub visit : {S : Type 0} → S → Option Range → Step S
visit s none = refuse 2 s
visit s (some r) = record { out = accepted r (rng 0 0); next = s }

module _ {S : Type 0} (o : Ops S) (a : Arena) where
  -- An insert or a delete is accepted, unless there is no room for the ranges of the next set.
  abbrev pub settle : S → S → Range → Range → Step S
  settle s s' f r =
      cond (room_for a.room (length (o.ranges s'))) (record { out = accepted f r; next = s' }) (refuse 3 s)

  abbrev pub do_insert : S → ℕ → ℕ → Step S
  do_insert s b l =
      cond (good_range_in a b l)
      (cond (o.any s b l) (refuse 1 s)
      (settle s (o.put s b l) (holder b l (o.ranges (o.put s b l))) (rng 0 0)))
      (refuse (range_number_in a b l) s)

  abbrev pub do_delete : S → ℕ → ℕ → Step S
  do_delete s b l =
      cond (good_range_in a b l)
      (cond (o.all s b l)
      (settle s (o.cut s b l) (holder b l (o.ranges s)) (rng 0 0))
      (refuse 1 s))
      (refuse (range_number_in a b l) s)

  abbrev pub do_find : Which → ℕ → Mode → S → Step S
  do_find w n mode s =
      cond (good_size_in a w n) (grant o w mode (find_size_in a n) s (choose w (find_size_in a n) (o.ranges s))) (refuse (size_number_in a w n) s)

  abbrev pub step : Call → S → Step S
  step (insert b l) s = do_insert s b l
  step (delete b l) s = do_delete s b l
  step (find w n mode) s = do_find w n mode s
  step (walk x) s = visit s (next_from x (o.ranges s))
