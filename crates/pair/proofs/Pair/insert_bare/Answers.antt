-- `Pair::insert_bare` meets its contract: the flush, the range put in, and both handles closed. Assumes nothing.
use Rattle.pair.proofs.InsertFlushed.{bare-placed, bare-open, bare-0}
use Rattle.pair.proofs.Pair.insert_bare.Goals as goal

pub prepared-ready-requires : goal.prepared-ready-requires
prepared-ready-requires c =
    bare-placed c.args.self _ _ c.args.range _ c.args.entry c.requires

pub enter-done-requires-clause-fact : goal.enter-done-requires-clause-fact
enter-done-requires-clause-fact c = bare-open c.args.self _ _ c.args.range _ c.args.entry c.requires _ _ c.prepared-ready.ensures.0

pub returns : goal.returns
returns c =
    bare-0 c.args.self _ _ c.args.range _ c.args.entry c.requires _ _ c.prepared-ready.ensures.0
    _ _ _ c.enter-done.ensures _ c.close.ensures
