use Rattle.std.proofs.Common.{ℕ, List, [], ◌∷◌}
use Rattle.stream_journal.specs.Journal.{Journal, Kind, DenseAaf, SparseAaf, Am824, H264}
use Rattle.stream_journal.specs.Delivered.{AreNear, IsAudioKind, IsFragment}
use Rattle.packet_journal.specs.Delivered.{stream_numbers}
use Rattle.listener.proofs.laws.carried_packets_are_heard.Goals as goal

no_fragment : (kind : Kind) (n : ℕ) → IsAudioKind kind → ¬ IsFragment kind n
no_fragment DenseAaf n audio f = f
no_fragment SparseAaf n audio f = f
no_fragment (Am824 interval dbc) n audio f = f
no_fragment (H264 part) n audio f = absurd audio

-- the condition on adjacent fragments holds for audio, because an audio packet is not a fragment
audio_near : (j : Journal) (numbers : List ℕ) → IsAudioKind j.kind → AreNear j numbers
audio_near j [] audio = tt
audio_near j (n ∷ []) audio = tt
audio_near j (n ∷ m ∷ numbers) audio = ((λ first second unstamped. absurd (no_fragment j.kind n audio first)), audio_near j (m ∷ numbers) audio)

pub returns-clause-h264 : goal.returns-clause-h264
returns-clause-h264 c shift p plan origins records conforming stream clock carry near = record {
  conforming = conforming;
  stream = stream;
  clock = clock;
  delivered = c.records_of_both_are_delivered.ensures shift p plan.clock plan.lead origins records conforming carry near;
}

pub returns-clause-audio : goal.returns-clause-audio
returns-clause-audio c shift p plan origins records conforming audio stream clock carry =
    returns-clause-h264 c shift p plan origins records conforming stream clock carry (audio_near p.times (stream_numbers origins) audio)
