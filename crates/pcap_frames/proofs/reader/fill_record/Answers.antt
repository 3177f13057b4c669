use Rattle.std.proofs.Common.{◌∙◌, ◌-◌, ◌≤◌, ◌++◌, sym, ap, arith, List, ℕ, length, take, drop, rules}
use Rattle.std.proofs.lemmas.List.{length-take-le}
use Rattle.pcap_frames.specs.Reading.{IsPart}
use Rattle.pcap_frames.proofs.Fields.{certain_is, part_filled, part_headed, record_limit}
use Rattle.pcap_frames.proofs.Held.{filled}
use Rattle.pcap_frames.proofs.Steps.{rest_long, two_steps}
use Rattle.pcap_frames.proofs.reader.fill_record.Goals as goal

pub returns-in-Some : goal.returns-in-Some
returns-in-Some c =
    let some = sym c.certain.ensures ∙ c.in-Some.is in
    let why = rw (c.record_refusal-refusal.ensures, c.as_slice.ensures.value, c.gather-header.ensures.moved) at some in
    let first = certain_is _ _ why in
    record {
      room = omega (arith, c.requires.room, c.gather-header.ensures.capacity);
      within = tt;
      moved = tt;
      part = tt;
      whole = tt;
      bounded = omega (arith, c.gather-header.ensures.grown, c.gather-header.ensures.within);
      refused = (c.gather-header.result, first.0, first.1);
    }

pub gather-bytes-requires : goal.gather-bytes-requires
gather-bytes-requires c =
    let certain = sym c.certain.ensures ∙ c.in-None.is in
    let accepted = rw (c.record_refusal-refusal.ensures, c.as_slice.ensures.value) at certain in
    let captured = rw c.as_slice-2.ensures.value at c.u32_at-captured.ensures in
    let long : 16 ≤ length c.gather-header.new.part.items = search rules in
    let limit = record_limit _ _ _ (omega (arith, long)) accepted in
    omega arith

pub returns : goal.returns
returns c =
    let first = c.gather-header.ensures in
    let then = c.gather-bytes.ensures in
    let certain = sym c.certain.ensures ∙ c.in-None.is in
    let accepted = rw (c.record_refusal-refusal.ensures, c.as_slice.ensures.value, first.moved) at certain in
    let captured = rw c.as_slice-2.ensures.value at c.u32_at-captured.ensures in
    let long : 16 ≤ length c.gather-header.new.part.items = search rules in
    let fits = length-take-le _ _ first.within in
    let mid : IsPart c.args.order c.args.start c.gather-header.new.part.items = rw first.moved (part_headed _ _ _ _ c.requires.part (omega arith) accepted) in
    let rest = rest_long c.gather-header.result c.args.piece.now in
    let more = length-take-le _ _ then.within in
    let grown = rw then.moved at then.grown in
    record {
      room = omega (arith, c.requires.room, first.capacity, then.capacity);
      within = omega (arith, first.within, then.within, rest);
      moved = then.moved ∙ (ap (λ (p : List ℕ). p ++ take c.gather-bytes.result (take (length c.args.piece.now - c.gather-header.result) (drop c.gather-header.result c.args.piece.now))) first.moved ∙ two_steps c.args.part.now.items c.gather-header.result c.gather-bytes.result c.args.piece.now);
      part = rw then.moved (part_filled _ _ _ _ mid long (omega arith));
      whole = λ less. rw then.moved (filled _ _ _ _ mid long (omega arith));
      bounded = omega (arith, first.grown, first.within, then.grown, then.within, rest);
      refused = tt;
    }
