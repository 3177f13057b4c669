use Rattle.std.proofs.Common.{◌+◌, ◌-◌, vec_len, arith}
use Rattle.value_spread.proofs.Widening.{higher, lower}
use Rattle.value_spread.proofs.spread.widen.Goals as goal

pub returns-then-place-first : goal.returns-then-place-first
returns-then-place-first c = lower c.args.first c.args.place c.args.counts.now.items c.put_before.new.counts.items c.if-place-first.true c.in_ok-put_before.ensures

pub returns-in_ok-resize : goal.returns-in_ok-resize
returns-in_ok-resize c =
    higher c.args.first c.args.place (c.args.place - c.args.first + 1 - vec_len c.args.counts.now) c.args.counts.now.items c.resize.new.self.items (omega (arith, c.if-place-first.false)) c.requires
    (omega (arith, c.len.ensures, c.if-len-reached.true)) c.in_ok-resize.ensures.items
