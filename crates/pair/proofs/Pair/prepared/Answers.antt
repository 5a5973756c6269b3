-- `Pair::prepared` meets its contract: the place that was kept, or one looked for. Assumes nothing.
use Rattle.pair.proofs.Preparing.{prepare-ordered, prepare-same}
use Rattle.pair.proofs.Pair.prepared.Goals as goal

pub returns-then-eq : goal.returns-then-eq
returns-then-eq c =
    (c.flushed-counts.ensures, prepare-same c.args.self _ _ c.args.range c.args.entry c.requires _ _ c.flushed-counts.ensures _ c.eq.ensures c.if-eq.true)

pub first_reach-place-requires : goal.first_reach-place-requires
first_reach-place-requires c =
    prepare-ordered c.args.self _ _ c.args.range c.args.entry c.requires _ _ c.flushed-counts.ensures
