-- The samples of a stream, whatever packets carry them.
use Rattle.std.specs.Prelude.{ℕ, zero, suc, ◌*◌, ℤ, pos, ◌+ℤ◌, List, [], ◌∷◌, take, drop}
use Rattle.sample_schedule.specs.Batches.{Presented, sample_instant}
use Rattle.talk_plan.specs.Timing.{nominal_offset}
use Rattle.am824_gateway.specs.declared.scan.Shape.{Shape}
use Rattle.am824_gateway.specs.declared.scan.To.{To}
use Rattle.am824_gateway.specs.declared.scan.To.TheVariants.{Aaf, Am824}
use Rattle.am824_gateway.specs.Labels.{unlabelled, value_in, value_out}
use Rattle.am824_gateway.specs.Laws.{Cut, cut_instant}
use Rattle.am824_gateway.specs.Packets.{samples_of}

-- A sample: when it is presented, and its values of 24 bits, one for each channel, without labels.
pub record Sample : Type 0 where
  pub instant : ℤ
  pub values : List ℕ

-- the bytes of sample j, if each sample has `size` bytes
abbrev pub part : ℕ → ℕ → List ℕ → List ℕ
part size j bytes = take size (drop (j * size) bytes)

-- ---- what is presented to a gateway

-- the values of a sample, without labels, taken from its bytes before they are converted to this format
abbrev pub values_in : To → ℕ → List ℕ → List ℕ
values_in Am824 channels bytes = bytes
values_in Aaf channels bytes = unlabelled channels bytes

-- n samples of a batch, from sample j on
abbrev pub batch_samples : To → Shape → Presented → ℕ → ℕ → List Sample
batch_samples to shape batch j zero = []
batch_samples to shape batch j (suc n) =
    record { instant = sample_instant batch j; values = values_in to shape.channels (part (value_in to * shape.channels) j batch.bytes) }
    ∷ batch_samples to shape batch (suc j) n

-- the samples of a batch
abbrev pub samples_presented : To → Shape → Presented → List Sample
samples_presented to shape batch = batch_samples to shape batch 0 batch.count

-- ---- what a gateway sends

-- the values of a sample, without labels, taken from its bytes in this format
abbrev pub values_out : To → ℕ → List ℕ → List ℕ
values_out Am824 channels bytes = unlabelled channels bytes
values_out Aaf channels bytes = bytes

-- n samples of a packet, from sample k on. Sample 0 is presented at `instant`, and the instants of the other samples
-- are counted from `instant` at the nominal rate. Listeners count the instants in the same way if the timestamp belongs
-- to the packet's first sample (IEEE 1722-2016, 7; IEC 61883-6).
abbrev pub packet_samples : To → Shape → ℤ → List ℕ → ℕ → ℕ → List Sample
packet_samples to shape instant payload k zero = []
packet_samples to shape instant payload k (suc n) =
    record { instant = instant +ℤ pos (nominal_offset shape.rate k); values = values_out to shape.channels (part (value_out to * shape.channels) k payload) }
    ∷ packet_samples to shape instant payload (suc k) n

-- the samples of the packet that carries a piece
abbrev pub samples_sent : To → Shape → Cut → List Sample
samples_sent to shape c = packet_samples to shape (cut_instant c) (samples_of to shape c.batch c.piece) 0 c.piece.count
