-- What holds for the pieces of all batches that a gateway does not skip.
use Rattle.std.specs.Prelude.{ℕ, suc, ◌<◌, ◌≤◌, ℤ, ◌<ℤ◌, List, [], ◌∷◌, ◌++◌, length, ⊤}
use Rattle.std.specs.List.{AllByRecursion}
use Rattle.sample_schedule.specs.Batches.{Presented, sample_instant}
use Rattle.talker.specs.Frames.{SentFrame}
use Rattle.am824_gateway.specs.declared.piece.Piece.{Piece}
use Rattle.am824_gateway.specs.declared.scan.Shape.{Shape}
use Rattle.am824_gateway.specs.declared.scan.To.{To}
use Rattle.am824_gateway.specs.Packets.{piece_frame}
use Rattle.am824_gateway.specs.Pieces.{Given, given_with, pieces_of, skip_by, unless}

-- ---- all pieces

-- A piece of a batch that is not skipped, with the number of the packet that carries the piece.
pub record Cut : Type 0 where
  pub number : ℕ
  pub batch : Presented
  pub piece : Piece

-- the pieces of a batch, with the numbers of their packets; packet n carries the first piece
abbrev pub cuts_from : ℕ → Presented → List Piece → List Cut
cuts_from n batch [] = []
cuts_from n batch (p ∷ pieces) = record { number = n; batch = batch; piece = p } ∷ cuts_from (suc n) batch pieces

-- The pieces of `batches`, which are batches of a stream of this shape. `given` is the gateway's history before the
-- batches. A skipped batch has no pieces.
abbrev pub cuts_after : To → Shape → Given → List Presented → List Cut
cuts_after to shape given [] = []
cuts_after to shape given (batch ∷ batches) =
    unless (skip_by to shape given batch)
    (cuts_from given.packets batch (pieces_of to shape batch given.block) ++ cuts_after to shape (given_with to shape given batch) batches)
    (cuts_after to shape given batches)

-- the frame that carries a piece
abbrev pub cut_frame : To → Shape → ℕ → Cut → SentFrame
cut_frame to shape id c = piece_frame to shape id c.number c.batch c.piece

-- when the first sample of a piece is presented
abbrev pub cut_instant : Cut → ℤ
cut_instant c = sample_instant c.batch c.piece.first

-- The batches that a gateway does not skip. `given` is the gateway's history before `batches`.
abbrev pub given_batches : To → Shape → Given → List Presented → List Presented
given_batches to shape given [] = []
given_batches to shape given (batch ∷ batches) =
    unless (skip_by to shape given batch)
    (batch ∷ given_batches to shape (given_with to shape given batch) batches)
    (given_batches to shape given batches)

-- ---- what holds for batches, instants and frames

-- the batch has at least one sample, and each sample is presented after the sample before it
pub record HasRisingInstants (batch : Presented) : Type 0 where
  pub some : 1 ≤ batch.count
  pub rise : (j : ℕ) → suc j < batch.count → sample_instant batch j <ℤ sample_instant batch (suc j)

-- each instant is later than all instants before it
abbrev pub Rise : List ℤ → Type 0
Rise [] = ⊤
Rise (x ∷ xs) = AllByRecursion (λ y. x <ℤ y) xs × Rise xs

-- the length of the longest Ethernet frame with a tag, without its frame check sequence (IEEE 802.3, 3.2.7)
abbrev pub longest_frame : ℕ
longest_frame = 1518

-- the frame is not too long for Ethernet
abbrev pub IsFrame : SentFrame → Type 0
IsFrame f = length f.bytes ≤ longest_frame
