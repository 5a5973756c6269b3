-- `Pair::enter_list` meets its contract: the spot that is left, and the range put in. Assumes nothing.
use Rattle.pair.specs.inner.Inserts.{closed_by}
use Rattle.pair.proofs.Entering.{enter-asks}
use Rattle.pair.proofs.Pair.enter_list.Goals as goal

pub join_at-joined-requires-clause-held : goal.join_at-joined-requires-clause-held
join_at-joined-requires-clause-held c = (enter-asks (closed_by c.args.self c.args.rest) _ c.args.range _ c.requires _ c.arena-arena.ensures _ c.spot_left-place.ensures).0
