-- `weigh` meets its contract: at each turn what is kept of the rest is what is kept of the whole list. Assumes nothing.
use Prim.Native.Nat.{◌+◌, ◌-◌}
use Rattle.pair_words.proofs.Weighing.{Pondering}
use Rattle.pair_words.proofs.walks.weigh.Given as goal

abbrev pub invariant-loop-arena : goal.invariant-loop-arena
invariant-loop-arena l = Pondering l.arena l.words l.chain.head.0 l.nodes l.n l.aim l.prev l.kept l.cur l.i

abbrev pub decreases-loop-arena : goal.decreases-loop-arena
decreases-loop-arena l = l.arena.limit.0 + 1 - l.cur.low.0
