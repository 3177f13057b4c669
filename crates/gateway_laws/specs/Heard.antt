-- The packets that a listener reads from a gateway's frames.
use Rattle.std.specs.Prelude.{ℕ, suc, ◌%◌, ◌≤ℤ◌, false, pos, List, [], ◌∷◌, Some}
use Rattle.time_unfold.specs.declared.head_rule.HeadRule.{HeadRule}
use Rattle.time_unfold.specs.declared.head_rule.HeadRule.TheVariants.{Own, Blocks}
use Rattle.talk_plan.specs.Plan.{interval_of}
use Rattle.sample_schedule.specs.declared.item.Packet.{Packet}
use Rattle.sample_schedule.specs.Batches.{Presented, sample_instant}
use Rattle.am824_gateway.specs.declared.piece.Piece.{Piece}
use Rattle.am824_gateway.specs.declared.scan.Shape.{Shape}
use Rattle.am824_gateway.specs.declared.scan.To.{To}
use Rattle.am824_gateway.specs.declared.scan.To.TheVariants.{Aaf, Am824}
use Rattle.am824_gateway.specs.Laws.{Cut, HasRisingInstants, cut_instant}
use Rattle.am824_gateway.specs.Packets.{samples_of, timestamp_at}
use Rattle.am824_gateway.specs.Pieces.{arrival_at}

-- The timestamp of a piece's packet belongs to the sample that this rule names. In PCM, the timestamp belongs to the
-- first sample (IEEE 1722-2016, 7). In AM824, the timestamp belongs to the sample in the first data block whose block
-- count is a multiple of SYT_INTERVAL (IEC 61883-6).
abbrev pub rule_of : To → Shape → Piece → HeadRule
rule_of Am824 shape p = Blocks p.block (interval_of shape.rate)
rule_of Aaf shape p = Own

-- the packet that a listener reads from the frame of piece c; the frame is record number `frame` of the capture
abbrev pub packet_heard : To → Shape → ℕ → Cut → Packet
packet_heard to shape frame c = record {
  frame = frame;
  arrival = arrival_at (cut_instant c);
  seq = c.number % 256;
  mr = false;
  tu = false;
  stamp = Some (timestamp_at (cut_instant c));
  rule = rule_of to shape c.piece;
  rate = shape.rate;
  count = c.piece.count;
  bytes = samples_of to shape c.batch c.piece;
}

-- the packets that a listener reads from the frames of these pieces; the first frame is record number `frame` of the
-- capture
abbrev pub packets_heard : To → Shape → ℕ → List Cut → List Packet
packets_heard to shape frame [] = []
packets_heard to shape frame (c ∷ cs) = packet_heard to shape frame c ∷ packets_heard to shape (suc frame) cs

-- The instants of a batch rise and begin at 0 or later. Every presented batch has rising instants, and begins at 0 or
-- later because no packet arrives before 0.
pub record BeginsInTime (batch : Presented) : Type 0 where
  pub rising : HasRisingInstants batch
  pub begun : pos 0 ≤ℤ sample_instant batch 0
