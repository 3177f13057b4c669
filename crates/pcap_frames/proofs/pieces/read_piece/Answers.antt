use Rattle.std.proofs.Common.{List, ℕ, map, subst, arith, refl}
use Rattle.pcap_frames.specs.Pieces.{kept}
use Rattle.pcap_frames.specs.Reading.{HasRead}
use Rattle.pcap_frames.proofs.Steps.{two_steps, all_steps, rest_long}
use Rattle.pcap_frames.proofs.pieces.read_piece.Goals as goal

pub returns-in-Err : goal.returns-in-Err
returns-in-Err c = record {
  read = λ bytes h.
      subst (λ (p : List ℕ). HasRead c.feed.new.self p (map kept c.loop-used.records.items)) (all_steps bytes c.loop-used.used c.args.piece.now)
      (c.in-Err.ensures.stopped _ _ (c.loop-used.invariant.read bytes h));
  free = rw c.in-Err.ensures.stays_refused refl;
  bounded = omega (arith, c.in-Err.ensures.bounded, c.loop-used.invariant.bounded, c.loop-used.invariant.within, rest_long c.loop-used.used c.args.piece.now);
}

pub loop-used-preserved : goal.loop-used-preserved
loop-used-preserved c = record {
  within = omega (arith, c.in-Ok.ensures.within, rest_long c.loop-used.used c.args.piece.now);
  bounded = omega (arith, c.in-Ok.ensures.taken, c.in_ok-keep_held-in-Ok.ensures.taken);
  free = c.in_ok-keep_held-in-Ok.ensures.free;
  read = λ bytes h.
      subst (λ (p : List ℕ). HasRead c.keep_held.new.reader p (map kept c.keep_held.new.records.items)) (two_steps bytes c.loop-used.used c.in-Ok.taken c.args.piece.now)
      (c.in_ok-keep_held-in-Ok.ensures.read _ (c.in-Ok.ensures.read _ _ (c.loop-used.invariant.read bytes h)));
}
