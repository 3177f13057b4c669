use Rattle.std.proofs.Common.{arith, rules, length-take, length-drop}
use Rattle.device_rack.proofs.Writings.{HasWritten-stopped, taken_more}
use Rattle.device_rack.proofs.writing.write_all.Goals as goal

pub loop-written-preserved : goal.loop-written-preserved
loop-written-preserved g c = record {
  within = let more = simp (length-take, length-drop) at c.in_ok-written.ensures.does.within in omega arith;
  took = taken_more (g.S.Sink.state c.args.sink.now).held (g.S.Sink.state c.loop-written.sink).held (g.S.Sink.state c.write.new.self).held
      c.args.bytes.now c.loop-written.written c.in_ok-written.field-0 c.loop-written.invariant.took c.in_ok-written.ensures.does.appends;
  quiet = search rules;
}

pub returns-in_err-written : goal.returns-in_err-written
returns-in_err-written g c =
    let was = c.loop-written.invariant in
    HasWritten-stopped (g.S.Sink.state c.args.sink.now) (g.S.Sink.state c.loop-written.sink) (g.S.Sink.state c.write.new.self)
    c.args.bytes.now c.loop-written.written
    was.took was.quiet c.in_err-written.ensures.does.appends c.in_err-written.ensures.does.counted c.from_residual.ensures.0
