use Rattle.std.proofs.Common.{◌≡◌, ◌-◌, ◌∙◌, ℕ, ap, arith, drop, false, sym, true}
use Rattle.std.specs.Prelude.{is_none}
use Rattle.pcap_frames.specs.Layout.{number_at}
use Rattle.pcapng_blocks.specs.Fields.{kind_of}
use Rattle.pcapng_blocks.proofs.Packets.{begins_block, begins_six, block_begins, none_is, rest_number}
use Rattle.pcapng_blocks.proofs.packet.packet_size.Goals as goal

pub returns-then-bytes-lt-PACKET_HEAD : goal.returns-then-bytes-lt-PACKET_HEAD
returns-then-bytes-lt-PACKET_HEAD c = record {
  within = tt;
  next = tt;
  none = λ none size b. absurd (omega (arith, (block_begins _ _ _ size b).long));
}

pub returns-then-u32_at-ne-ENHANCED_PACKET : goal.returns-then-u32_at-ne-ENHANCED_PACKET
returns-then-u32_at-ne-ENHANCED_PACKET c = record {
  within = tt;
  next = tt;
  none = λ none size b. absurd (omega (arith, begins_six _ _ _ (block_begins _ _ _ size b), c.u32_at.ensures));
}

pub returns-then-not-accepts_packet : goal.returns-then-not-accepts_packet
returns-then-not-accepts_packet c = record {
  within = tt;
  next = tt;
  none = λ none size b.
      absurd (let no : false ≡ true = sym c.if-not-accepts_packet.true ∙ (c.accepts_packet.ensures ∙ ap is_none (block_begins _ _ _ size b).accepted) in cc);
}

pub returns-then-bytes-size : goal.returns-then-bytes-size
returns-then-bytes-size c = record {
  within = tt;
  next = tt;
  none = λ none size b. absurd (omega (arith, (block_begins _ _ _ size b).within, c.u32_at-total.ensures));
}

pub returns-then-u32_at-total : goal.returns-then-u32_at-total
returns-then-u32_at-total c = record {
  within = tt;
  next = tt;
  none = λ none size b.
      let last = c.u32_at-2.ensures ∙ (rest_number c.args.order (c.u32_at-total.result - 4) c.args.bytes.now ∙ (ap (λ (n : ℕ). number_at c.args.order 0 4 (drop (n - 4) c.args.bytes.now)) c.u32_at-total.ensures ∙ ((block_begins _ _ _ size b).trailer ∙ sym c.u32_at-total.ensures))) in
      absurd (omega (arith, last));
}

pub returns : goal.returns
returns c =
    let six : number_at c.args.order 0 4 c.args.bytes.now ≡ 6 = omega (arith, c.u32_at.ensures) in
    let b = begins_block c.args.order c.args.interfaces.now c.args.bytes.now (record {
      long = omega arith;
      kind = ap kind_of six;
      accepted = none_is _ (sym c.accepts_packet.ensures ∙ c.if-not-accepts_packet.false);
      within = omega (arith, c.u32_at-total.ensures);
      trailer = sym (c.u32_at-2.ensures ∙ (rest_number c.args.order (c.u32_at-total.result - 4) c.args.bytes.now ∙ ap (λ (n : ℕ). number_at c.args.order 0 4 (drop (n - 4) c.args.bytes.now)) c.u32_at-total.ensures)) ∙ (c.if-u32_at-total.false ∙ c.u32_at-total.ensures);
    }) in
    record {
      within = omega arith;
      next = rw c.u32_at-total.ensures b;
      none = λ none. absurd cc;
    }
