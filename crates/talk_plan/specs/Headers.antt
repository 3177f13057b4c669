-- The stream headers of a plan's packets.
use Rattle.std.specs.Prelude.{length, ℕ, true, false, Option, is_some, option_map, unwrap_or}
use Rattle.avtp_header.specs.declared.header.StreamHeader.{StreamHeader}
use Rattle.talk_plan.specs.declared.plan.TalkPlan.{TalkPlan}
use Rattle.talk_plan.specs.Timing.{mr_of, seq_of, timestamp_of}

-- The stream header of packet n (IEEE 1722-2016, 4.4.4), for a payload of `length` bytes. If `stamp` is an instant, the
-- header has the timestamp of that instant.
abbrev pub header_of : ℕ → Option ℕ → TalkPlan → ℕ → ℕ → StreamHeader
header_of subtype stamp plan n length = record {
  subtype = subtype;
  sv = true;
  mr = mr_of plan n;
  format_bits = 0;
  tv = is_some stamp;
  seq = seq_of n;
  tu = false;
  stream_id = plan.id;
  timestamp = unwrap_or (option_map timestamp_of stamp) 0;
  data_length = length;
}
