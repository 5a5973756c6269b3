-- `sound_on` meets its contract: at each turn what is to come of the list and of the table overlaps exactly if all does. Assumes nothing.
use Prim.Native.Nat.{◌+◌, ◌-◌}
use Rattle.pair_words.proofs.Judging.{Walking}
use Rattle.pair_words.proofs.walks.sound_on.Given as goal

abbrev pub invariant-loop-arena : goal.invariant-loop-arena
invariant-loop-arena l = Walking l.arena l.words l.chain.head.0 l.nodes l.n l.cur l.i

abbrev pub decreases-loop-arena : goal.decreases-loop-arena
decreases-loop-arena l = l.arena.limit.0 + 1 - l.cur.low.0
