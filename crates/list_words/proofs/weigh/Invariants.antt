-- `weigh` meets its contract: at each turn what is kept of the rest is what is kept of the whole list. Assumes nothing.
use Prim.Native.Nat.{◌+◌, ◌-◌}
use Rattle.list_words.proofs.Weighing.{Weighing}
use Rattle.list_words.proofs.weigh.Given as goal

abbrev pub invariant-loop-arena : goal.invariant-loop-arena
invariant-loop-arena l = Weighing l.arena l.words l.chain.head.0 l.aim l.prev l.kept l.cur

abbrev pub decreases-loop-arena : goal.decreases-loop-arena
decreases-loop-arena l = l.arena.limit.0 + 1 - l.cur.low.0
