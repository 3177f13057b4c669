use Rattle.std.proofs.Common.{rules, ◌<◌}
use Rattle.std.proofs.lemmas.Bool.{MatchBool-at_false, MatchBool-at_true}
use Rattle.presenter_ring.specs.Pipes.{work}
use Rattle.presenter_ring.specs.state.Pipes.{IsStill, HasStepped}
use Rattle.presenter_ring.proofs.PipeLemmas.{less_by_turns, moved_by_turns, moved_past, less_past}
use Rattle.presenter_ring.proofs.pipe.Pipe.advance.Goals as goal

pub returns-in_err-take_turns : goal.returns-in_err-take_turns
returns-in_err-take_turns g c =
    let t = c.take_turns.ensures in
    let stepped : HasStepped c.args.self.now c.take_turns.new.self = c.in_err-take_turns.ensures.failed in
    let less : work (g.R.Receiver.left c.take_turns.new.receiver) c.take_turns.new.self < work (g.R.Receiver.left c.args.receiver.now) c.args.self.now =
    less_by_turns _ _ _ _ _ _ _ _ c.args.self.now c.take_turns.new.self c.args.self.now.fifo c.take_turns.new.self.fifo t.fed t.presented stepped in
    record {
      moved = moved_by_turns _ _ _ _ _ _ _ _ c.args.self.now c.take_turns.new.self c.args.self.now.fifo c.take_turns.new.self.fifo t.fed t.presented stepped;
      ends = search rules;
      counted = search rules;
      failed = search rules;
      capacity = search rules;
    }

pub returns-then-branch : goal.returns-then-branch
returns-then-branch g c =
    let t = c.take_turns.ensures in
    let stepped : HasStepped c.args.self.now c.take_turns.new.self = MatchBool-at_true _ _ c.if-branch.true c.in_ok-take_turns.ensures.stepped in
    record {
      moved = moved_by_turns _ _ _ _ _ _ _ _ c.args.self.now c.take_turns.new.self c.args.self.now.fifo c.take_turns.new.self.fifo t.fed t.presented stepped;
      ends = search rules;
      counted = search rules;
      failed = search rules;
      capacity = search rules;
    }

pub returns-in_err-present_hand : goal.returns-in_err-present_hand
returns-in_err-present_hand g c =
    let t = c.take_turns.ensures in
    let still : IsStill c.args.self.now c.take_turns.new.self = MatchBool-at_false _ _ c.if-branch.false c.in_ok-take_turns.ensures.stepped in
    let less : work (g.R.Receiver.left c.take_turns.new.receiver) c.present_hand.new.self < work (g.R.Receiver.left c.args.receiver.now) c.args.self.now =
    less_past _ _ _ _ _ _ _ _ c.args.self.now c.take_turns.new.self c.present_hand.new.self c.args.self.now.fifo c.take_turns.new.self.fifo
    t.fed t.presented still c.present_hand.ensures.kept c.in_err-present_hand.ensures.failed in
    record {
      moved = moved_past _ _ _ _ _ _ _ _ _ c.args.self.now c.take_turns.new.self c.present_hand.new.self c.args.self.now.fifo c.take_turns.new.self.fifo
          t.fed t.presented still c.present_hand.ensures.hands c.present_hand.ensures.kept;
      ends = search rules;
      counted = search rules;
      failed = search rules;
      capacity = search rules;
    }

pub returns : goal.returns
returns g c =
    let t = c.take_turns.ensures in
    let still : IsStill c.args.self.now c.take_turns.new.self = MatchBool-at_false _ _ c.if-branch.false c.in_ok-take_turns.ensures.stepped in
    record {
      moved = moved_past _ _ _ _ _ _ _ _ _ c.args.self.now c.take_turns.new.self c.present_hand.new.self c.args.self.now.fifo c.take_turns.new.self.fifo
          t.fed t.presented still c.present_hand.ensures.hands c.present_hand.ensures.kept;
      ends = search rules;
      counted = search rules;
      failed = search rules;
      capacity = search rules;
    }
