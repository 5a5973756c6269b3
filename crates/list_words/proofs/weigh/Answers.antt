-- `weigh` meets its contract: at each turn what is kept of the rest is what is kept of the whole list. Assumes nothing.
use Rattle.list_words.proofs.Going.{along-near, along-less}
use Rattle.list_words.proofs.Weighing.{weigh-taken, weigh-left, weighings}
use Rattle.std.proofs.lemmas.Result.{err_from_is_err_and}
use mathlib.Core.Path.{ap}
use mathlib.Core.Bool.{not}
use Rattle.list_words.proofs.weigh.Goals as goal
use Rattle.list_words.proofs.weigh.Goals.{then-takes, else-takes}

pub loop-arena-init : goal.loop-arena-init
loop-arena-init c = search weighings

pub returns-in_err-limit : goal.returns-in_err-limit
returns-in_err-limit c =
    let p = err_from_is_err_and c.from_residual.result c.from_residual.ensures.1 in
    rw (p.1, p.2) (search (weighings, c.in_err-limit.was))

pub takes-requires : goal.takes-requires
takes-requires c = search (weighings, c.in_ok-limit.was)

pub on-cur-requires : goal.on-cur-requires
on-cur-requires c =
    along-near _ _ c.requires _ _ c.loop-arena.invariant.along
    _ c.is_zero.ensures (ap not c.loop-arena-test.true) _ c.range_at.ensures _ c.in_ok-limit.was

pub loop-arena-smaller : goal.loop-arena-smaller
loop-arena-smaller c =
    along-less _ _ c.requires _ _ c.loop-arena.invariant.along
    _ c.is_zero.ensures (ap not c.loop-arena-test.true) _ c.range_at.ensures _ c.in_ok-limit.was _ c.on-cur.ensures

pub loop-arena-preserved : goal.loop-arena-preserved
loop-arena-preserved c =
    elim c.if-takes.branch [
      | then-takes w ↦ weigh-taken _ _ c.requires c.args.chain _ _ _ _ c.loop-arena.invariant
          _ c.is_zero.ensures (ap not c.loop-arena-test.true) _ c.range_at.ensures _ c.in_ok-limit.was
          _ c.new-here.ensures _ c.takes.ensures _ c.on-cur.ensures w.if-takes.true _ w.kept-is
      | else-takes w ↦ weigh-left _ _ c.requires c.args.chain _ _ _ _ c.loop-arena.invariant
          _ c.is_zero.ensures (ap not c.loop-arena-test.true) _ c.range_at.ensures _ c.in_ok-limit.was
          _ c.new-here.ensures _ c.takes.ensures _ c.on-cur.ensures w.if-takes.false _ w.kept-is
    ]

pub returns-in_err-counts : goal.returns-in_err-counts
returns-in_err-counts c =
    let p = err_from_is_err_and c.from_residual-in_err-counts.result c.from_residual-in_err-counts.ensures.1 in
    rw (p.1, p.2) (search (weighings, c.in_err-counts.was))

pub returns : goal.returns
returns c = search (weighings, c.in_ok-counts.was)
