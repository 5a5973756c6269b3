-- `Pair::enter` meets its contract: into the block land, and where it has no room into the list. Assumes nothing.
use Rattle.pair.specs.inner.Inserts.{closed_by}
use Rattle.pair.proofs.Entering.{enter-sorted, enter-room, enter-blocked}
use Rattle.pair.proofs.Pair.enter.Goals as goal

pub join_at-requires-clause-sorted : goal.join_at-requires-clause-sorted
join_at-requires-clause-sorted c = (enter-sorted (closed_by c.args.self c.args.rest) _ _ c.args.range _ c.requires.fact _ c.requires.first_reach).0

pub plus-bytes-requires : goal.plus-bytes-requires
plus-bytes-requires c =
    enter-room (closed_by c.args.self c.args.rest) _ _ c.args.range _ c.requires.fact _ _ c.join_at.ensures _ c.in-Ok.is _ c.size.ensures

pub returns-in-Ok : goal.returns-in-Ok
returns-in-Ok c =
    enter-blocked (closed_by c.args.self c.args.rest) _ _ c.args.range _ c.requires.fact _ _ c.join_at.ensures _ c.in-Ok.is _ c.size.ensures _ c.plus-bytes.ensures
