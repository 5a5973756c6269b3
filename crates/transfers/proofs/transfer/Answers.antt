-- `transfer` meets its contract: range after range, until none is left or one is refused. Assumes nothing.
use mathlib.Core.Path.{refl}
use Rattle.units.proofs.Ways.{said-true, said-false}
use Rattle.transfers.proofs.Transferring.{start, done}
use Rattle.transfers.proofs.OneRange.{standing, put-ready, stopped-by, near, next}
use mathlib.Core.Path.{ap}
use mathlib.Core.Bool.{not}
use Rattle.transfers.proofs.transfer.Goals as goal

pub loop-arena-init : goal.loop-arena-init
loop-arena-init c =
    start _ _ _ _ _ c.requires _ c.new.ensures _ refl

pub descriptor_at-here-requires : goal.descriptor_at-here-requires
descriptor_at-here-requires c =
    let z = said-false _ _ c.is_zero.ensures (ap not c.loop-arena-test.true) in
    standing _ _ _ _ _ _ _ c.loop-arena.invariant z

pub put_in-requires-clause-sorted : goal.put_in-requires-clause-sorted
put_in-requires-clause-sorted c = (let z = said-false _ _ c.is_zero.ensures (ap not c.loop-arena-test.true) in
    put-ready _ _ _ _ _ _ _ c.loop-arena.invariant z _ c.descriptor_at-here.ensures _ c.new-in-loop-arena.ensures).0

pub put_in-requires-clause-base_lt_limit : goal.put_in-requires-clause-base_lt_limit
put_in-requires-clause-base_lt_limit c = (let z = said-false _ _ c.is_zero.ensures (ap not c.loop-arena-test.true) in
    put-ready _ _ _ _ _ _ _ c.loop-arena.invariant z _ c.descriptor_at-here.ensures _ c.new-in-loop-arena.ensures).1

pub returns-in-Err : goal.returns-in-Err
returns-in-Err c =
    let z = said-false _ _ c.is_zero.ensures (ap not c.loop-arena-test.true) in
    stopped-by _ _ _ _ _ _ _ c.loop-arena.invariant z _ c.descriptor_at-here.ensures _ c.new-in-loop-arena.ensures _ _ c.put_in.ensures _ c.in-Err.is _ c.stopped.ensures

pub on-cur-requires : goal.on-cur-requires
on-cur-requires c =
    let z = said-false _ _ c.is_zero.ensures (ap not c.loop-arena-test.true) in
    near _ _ _ _ _ _ _ c.loop-arena.invariant z _ c.descriptor_at-here.ensures _ c.new-in-loop-arena.ensures _ _ c.put_in.ensures

pub loop-arena-preserved : goal.loop-arena-preserved
loop-arena-preserved c =
    let z = said-false _ _ c.is_zero.ensures (ap not c.loop-arena-test.true) in
    next _ _ _ _ _ _ _ c.loop-arena.invariant z _ c.descriptor_at-here.ensures _ c.new-in-loop-arena.ensures _ _ c.put_in.ensures _ c.in-Ok.is _ c.on-cur.ensures

pub returns : goal.returns
returns c =
    done _ _ _ _ _ _ _ c.loop-arena.invariant (said-true _ _ c.is_zero.ensures (ap not c.loop-arena-test.false))
