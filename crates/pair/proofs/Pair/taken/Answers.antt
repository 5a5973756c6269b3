-- `Pair::taken` meets its contract: the list, then the table. Assumes nothing.
use Rattle.pair.proofs.Inserting.{list-asks, table-asks}
use Rattle.pair.proofs.Pair.taken.Goals as goal

pub overlaps_at-requires-clause-held : goal.overlaps_at-requires-clause-held
overlaps_at-requires-clause-held c = (list-asks _ _ _ c.args.range _ _ c.requires _ c.arena.ensures _ c.chain.ensures).0

pub overlaps_at-requires-2-clause-sorted : goal.overlaps_at-requires-2-clause-sorted
overlaps_at-requires-2-clause-sorted c = (table-asks _ _ _ c.args.range _ _ c.requires).0

pub overlaps_at-requires-2-clause-base_lt_limit : goal.overlaps_at-requires-2-clause-base_lt_limit
overlaps_at-requires-2-clause-base_lt_limit c = (table-asks _ _ _ c.args.range _ _ c.requires).1.0

pub overlaps_at-requires-2-clause-first_reach : goal.overlaps_at-requires-2-clause-first_reach
overlaps_at-requires-2-clause-first_reach c = (table-asks _ _ _ c.args.range _ _ c.requires).1.1
