-- `place_beside` meets its contract: at each turn the place from here on is that from the first on. Assumes nothing.
use Prim.Native.Nat.{◌-◌}
use Rattle.pair_words.proofs.Besides.{Placing}
use Rattle.pair_words.proofs.walks.place_beside.Given as goal

abbrev pub invariant-loop-i : goal.invariant-loop-i
invariant-loop-i l = Placing l.nodes l.n l.here l.from l.i

abbrev pub decreases-loop-i : goal.decreases-loop-i
decreases-loop-i l = l.n - l.i
