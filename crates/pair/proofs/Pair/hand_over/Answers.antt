-- `Pair::hand_over` meets its contract. Assumes nothing.
use Rattle.pair.proofs.HandsOver.{over-asks, over-takes, over-0}
use Rattle.pair.proofs.LandEdits.{join-closed}
use Rattle.pair.proofs.Pair.hand_over.Goals as goal

pub join_at-joined-requires-clause-held : goal.join_at-joined-requires-clause-held
join_at-joined-requires-clause-held c = (over-asks _ _ _ c.args.range _ _ c.requires _ c.new-upper.ensures _ c.arena.ensures _ c.chain.ensures).0

pub join_at-joined-requires-clause-range_value : goal.join_at-joined-requires-clause-range_value
join_at-joined-requires-clause-range_value c = (over-asks _ _ _ c.args.range _ _ c.requires _ c.new-upper.ensures _ c.arena.ensures _ c.chain.ensures).1.0

pub join_at-joined-requires-clause-chain_value : goal.join_at-joined-requires-clause-chain_value
join_at-joined-requires-clause-chain_value c = (over-asks _ _ _ c.args.range _ _ c.requires _ c.new-upper.ensures _ c.arena.ensures _ c.chain.ensures).1.1

pub take_tabled-block-requires : goal.take_tabled-block-requires
take_tabled-block-requires c =
    over-takes _ _ _ c.args.range _ _ c.requires _ c.new-upper.ensures _ c.new-above.ensures

pub returns : goal.returns
returns c =
    over-0 _ _ _ c.args.range _ _ c.requires _ c.new-upper.ensures _ c.new-above.ensures
    _ _ (join-closed c.args.self.list _ _ _ c.arena.ensures _ c.chain.ensures _ _ c.join_at-joined.ensures _ c.close-list.ensures)
    _ _ c.take_tabled-block.ensures
