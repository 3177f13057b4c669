use Rattle.std.proofs.Common.{arith, rules, length-take, length-drop}
use Rattle.avtp_text.proofs.Moved.{taken_more}
use Rattle.avtp_text.proofs.buffer.write_out.Goals as goal

pub loop-taken-preserved : goal.loop-taken-preserved
loop-taken-preserved g c = record {
  within = let more = simp (length-take, length-drop) at c.in-Ok.ensures.does.within in omega arith;
  took = taken_more (g.S.Sink.state c.args.out.now).held (g.S.Sink.state c.loop-taken.out).held (g.S.Sink.state c.write.new.self).held
      c.args.bytes.now c.loop-taken.taken c.in-Ok.count c.loop-taken.invariant.took c.in-Ok.ensures.does.appends;
  quiet = search rules;
}
