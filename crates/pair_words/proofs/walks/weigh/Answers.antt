-- `weigh` meets its contract: at each turn what is kept of the rest is what is kept of the whole list. Assumes nothing.
use Rattle.std.proofs.lemmas.Result.{err_from_is_err_and}
use Rattle.pair_words.proofs.Weighing.{ponder-done, ponder-near, ponder-less, ponder-sized, ponder-overlaps, ponder-taken, ponder-left, ponders}
use mathlib.Core.Path.{ap}
use mathlib.Core.Bool.{not}
use Rattle.pair_words.proofs.walks.weigh.Goals as goal
use Rattle.pair_words.proofs.walks.weigh.Goals.{then-takes, else-takes}

pub loop-arena-init : goal.loop-arena-init
loop-arena-init c = search ponders

pub returns-in_err-limit : goal.returns-in_err-limit
returns-in_err-limit c =
    let p = err_from_is_err_and c.from_residual.result c.from_residual.ensures.1 in
    rw (p.1, p.2) (search (ponders, c.in_err-limit.was))

pub returns-in_default : goal.returns-in_default
returns-in_default c =
    ponder-overlaps _ _ c.requires.ready c.args.chain _ _ _ _ _ _ _ c.loop-arena.invariant
    _ c.is_zero.ensures (ap not c.loop-arena-test.true) _ c.range_at.ensures _ c.in_ok-limit.was
    _ c.new-here.ensures _ c.place_beside.ensures c.in_default.is

pub takes-requires : goal.takes-requires
takes-requires c =
    ponder-sized _ _ c.requires.ready c.args.chain _ _ _ _ _ _ _ c.loop-arena.invariant
    _ c.is_zero.ensures (ap not c.loop-arena-test.true) _ c.range_at.ensures _ c.in_ok-limit.was _ c.new-here.ensures

pub on-cur-requires : goal.on-cur-requires
on-cur-requires c =
    ponder-near _ _ c.requires.ready c.args.chain _ _ _ _ _ _ _ c.loop-arena.invariant
    _ c.is_zero.ensures (ap not c.loop-arena-test.true) _ c.range_at.ensures _ c.in_ok-limit.was

pub loop-arena-smaller : goal.loop-arena-smaller
loop-arena-smaller c =
    ponder-less _ _ c.requires.ready c.args.chain _ _ _ _ _ _ _ c.loop-arena.invariant
    _ c.is_zero.ensures (ap not c.loop-arena-test.true) _ c.range_at.ensures _ c.in_ok-limit.was _ c.on-cur.ensures

pub loop-arena-preserved : goal.loop-arena-preserved
loop-arena-preserved c =
    elim c.if-takes.branch [
      | then-takes w ↦ ponder-taken _ _ c.requires.ready c.args.chain _ _ _ _ _ _ _ c.loop-arena.invariant
          _ c.is_zero.ensures (ap not c.loop-arena-test.true) _ c.range_at.ensures _ c.in_ok-limit.was
          _ c.new-here.ensures _ c.place_beside.ensures _ c.in-Some.is _ c.takes.ensures _ c.on-cur.ensures w.if-takes.true _ w.kept-is
      | else-takes w ↦ ponder-left _ _ c.requires.ready c.args.chain _ _ _ _ _ _ _ c.loop-arena.invariant
          _ c.is_zero.ensures (ap not c.loop-arena-test.true) _ c.range_at.ensures _ c.in_ok-limit.was
          _ c.new-here.ensures _ c.place_beside.ensures _ c.in-Some.is _ c.takes.ensures _ c.on-cur.ensures w.if-takes.false _ w.kept-is
    ]

pub returns-in_err-counts : goal.returns-in_err-counts
returns-in_err-counts c =
    let p = err_from_is_err_and c.from_residual-in_err-counts.result c.from_residual-in_err-counts.ensures.1 in
    rw (p.1, p.2) (search (ponders, c.in_err-counts.was))

pub returns : goal.returns
returns c =
    ponder-done _ _ c.requires.ready c.args.chain _ _ _ _ _ _ _ c.loop-arena.invariant
    _ c.is_zero.ensures (ap not c.loop-arena-test.false) _ c.counts.ensures c.in_ok-counts.was _ c.at_end.ensures
