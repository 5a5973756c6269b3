-- `Cursor::sound_on` meets its contract: at each turn what was met, with the walk from there, is the whole walk. Assumes nothing.
use Prim.Native.Nat.{◌+◌, ◌-◌}
use Rattle.list_words.specs.inner.Surveys.{Along}
use Rattle.list_words.proofs.cursor.Cursor.sound_on.Given as goal

abbrev pub invariant-loop-arena : goal.invariant-loop-arena
invariant-loop-arena l = Along l.arena l.words l.chain.head.0 l.cur

abbrev pub decreases-loop-arena : goal.decreases-loop-arena
decreases-loop-arena l = l.arena.limit.0 + 1 - l.cur.low.0
