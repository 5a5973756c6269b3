-- `seek` meets its contract: nothing before the cursor fits. Assumes nothing.
use Prim.Native.Nat.{◌+◌, ◌-◌}
use Rattle.list_words.specs.inner.Surveys.{passed}
use Rattle.list_words.proofs.Seeking.{Seeking}
use Rattle.list_words.proofs.seeks.seek.Given as goal

abbrev pub invariant-loop-arena : goal.invariant-loop-arena
invariant-loop-arena l = Seeking l.arena l.words l.initial.cur.at.0 l.goal (passed l.cur l.prev) l.cur

abbrev pub decreases-loop-arena : goal.decreases-loop-arena
decreases-loop-arena l = l.arena.limit.0 + 1 - l.cur.low.0
