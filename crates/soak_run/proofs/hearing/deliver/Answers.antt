use Rattle.std.proofs.Common.{◌++◌, ◌∷◌, [], arith, refl, rules, subst, w64}
use Rattle.std.proofs.lemmas.Int.{fits_signed_from_abs, ints, to_z-of_z}
use Rattle.pcap_frames.specs.Capture.{Record}
use Rattle.listener.specs.Listening.{StandsFor}
use Rattle.talker.specs.Frames.{sent_frame}
use Rattle.talker.specs.Journal.{stream_of}
use Rattle.soak_run.proofs.Taken.{taken}
use Rattle.soak_run.proofs.hearing.deliver.Goals as goal

pub returns : goal.returns
returns c =
    let talker = c.args.talker.now in
    let time = c.requires.deliverable.time in
    let took = c.in_ok-take_record.ensures in
    let same = taken (stream_of talker.plan talker.input) c.args.delivery (sent_frame c.packet-sent.result) _ _ c.requires.deliverable.known c.packet-sent.ensures.frame (to_z-of_z w64 c.args.delivery.0 (fits_signed_from_abs w64 c.args.delivery.0 (omega (arith, ints)))) refl in
    record {
      takes = record {
        stands = λ records given stands. subst (λ (r : Record). StandsFor (records ++ r ∷ []) given c.take_record.new.self) same (took.stands records given stands);
        same = tt;
        plan = took.plan;
        still_open = took.open;
      };
      talker = search rules;
    }
