-- Packets that carry the pieces of a gateway, and the samples that listeners present from them.
use Rattle.std.specs.Prelude.{◌≡◌, ℕ, zero, suc, ◌*◌, List, [], ◌∷◌, ⊤}
use Rattle.sample_schedule.specs.declared.item.Packet.{Packet}
use Rattle.sample_schedule.specs.Batches.{Presented, sample_instant}
use Rattle.am824_gateway.specs.declared.scan.Shape.{Shape}
use Rattle.am824_gateway.specs.declared.scan.To.{To}
use Rattle.am824_gateway.specs.Labels.{value_out}
use Rattle.am824_gateway.specs.Laws.{Cut, cut_instant}
use Rattle.am824_gateway.specs.Packets.{samples_of}
use Rattle.gateway_laws.specs.Samples.{Sample, part, values_out}
use Rattle.gateway_laws.specs.Stamped.{IsStamped}

-- The packet carries piece c: the packet has the piece's samples at the stream's rate, and its timestamp is that of the
-- piece's first sample.
pub record CarriesCut (to : To) (shape : Shape) (p : Packet) (c : Cut) : Type 0 where
  pub stamped : IsStamped p (cut_instant c)
  pub rate : p.rate ≡ shape.rate
  pub count : p.count ≡ c.piece.count
  pub bytes : p.bytes ≡ samples_of to shape c.batch c.piece

-- packet i carries piece i, and there are as many packets as pieces
abbrev pub CarryCuts : To → Shape → List Packet → List Cut → Type 0
CarryCuts to shape [] [] = ⊤
CarryCuts to shape [] (c ∷ cs) = ⊥
CarryCuts to shape (p ∷ ps) [] = ⊥
CarryCuts to shape (p ∷ ps) (c ∷ cs) = CarriesCut to shape p c × CarryCuts to shape ps cs

-- n samples, from sample j on, of a batch that a listener presents from a gateway's packets
abbrev pub heard_from : To → Shape → Presented → ℕ → ℕ → List Sample
heard_from to shape batch j zero = []
heard_from to shape batch j (suc n) =
    record { instant = sample_instant batch j; values = values_out to shape.channels (part (value_out to * shape.channels) j batch.bytes) }
    ∷ heard_from to shape batch (suc j) n

-- the samples of a batch that a listener presents from a gateway's packets
abbrev pub samples_heard : To → Shape → Presented → List Sample
samples_heard to shape batch = heard_from to shape batch 0 batch.count
