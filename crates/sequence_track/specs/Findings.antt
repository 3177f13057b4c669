-- The findings in a packet of a capture, given the notes of the packets before it. The rules for findings are this
-- project's own.
use Rattle.std.specs.Prelude.{ℕ, ◌+◌, ◌-◌, ◌%◌, ◌==◌, Bool, true, false, not, ◌&&◌, nat_lt, if◌then◌else◌, List, [], ◌∷◌, ◌++◌, length, map, filter, reverse, take, Option, Some, None}
use Rattle.std.specs.Bool.{beq}
use Rattle.std.specs.List.{list_any, prefix_len}
use Rattle.sequence_track.specs.declared.seen.Seen.{Seen}
use Rattle.sequence_track.specs.declared.seen.Findings.{Findings}
use Rattle.sequence_track.specs.declared.stream.StreamKey.{StreamKey}

-- ---- streams

-- the stream of a packet: its subtype and its stream ID
abbrev pub stream_of : Seen → StreamKey
stream_of seen = record { subtype = seen.subtype; id = seen.id }

-- the two streams are the same: their subtypes and their stream IDs are equal
abbrev pub same_stream : StreamKey → StreamKey → Bool
same_stream a b = a.subtype == b.subtype && a.id == b.id

-- the streams of a list, each of them once, in the order in which they first occur
abbrev pub distinct : List StreamKey → List StreamKey
distinct [] = []
distinct (stream ∷ streams) = stream ∷ filter (λ other. not (same_stream stream other)) (distinct streams)

-- the greatest number of streams that are tracked
abbrev pub most_streams : ℕ
most_streams = 1024

-- the streams that are tracked: the first 1,024 in the notes
abbrev pub tracked : List Seen → List StreamKey
tracked notes = take most_streams (distinct (map stream_of notes))

-- the stream is tracked after these notes
abbrev pub is_tracked : StreamKey → List Seen → Bool
is_tracked stream notes = list_any (same_stream stream) (tracked notes)

-- the notes of this stream's packets, the newest first
abbrev pub recent : StreamKey → List Seen → List Seen
recent stream notes = reverse (filter (λ note. same_stream stream (stream_of note)) notes)

-- ---- single findings, given the notes of the packet's stream, the newest first

-- how far a sequence number is ahead of the previous one, modulo 256
abbrev pub step_from : ℕ → ℕ → ℕ
step_from previous seq = (seq + 256 - previous) % 256

-- the step from the previous packet's sequence number to this packet's sequence number, if the step is not 1
abbrev pub step_after : List Seen → Seen → Option ℕ
step_after [] seen = None
step_after (previous ∷ older) seen =
    if step_from previous.seq seen.seq == 1 then None else Some (step_from previous.seq seen.seq)

-- how many packets in a row, counted back from the newest, have this value of the media clock restart bit
abbrev pub stood : Bool → List Seen → ℕ
stood mr notes = prefix_len (λ note. beq note.mr mr) notes

-- after a change, the media clock restart bit must keep its value for at least this many packets
abbrev pub least_hold : ℕ
least_hold = 8

-- `all` is the number of the stream's packets. Counted back from the stream's newest packet, `packets` packets in a row
-- have the same media clock restart bit. If `packets` is less than 8 and less than `all`, the answer is `packets`. If
-- `packets` is at least 8 or at least `all`, the answer is `None`. If `packets` equals `all`, the bit has never
-- changed.
abbrev pub early : ℕ → ℕ → Option ℕ
early packets all = if nat_lt packets all && nat_lt packets least_hold then Some packets else None

-- The number of packets for which the media clock restart bit kept its previous value. `None` if the bit does not
-- change too early at this packet.
abbrev pub hold_after : List Seen → Seen → Option ℕ
hold_after [] seen = None
hold_after (previous ∷ older) seen =
    if beq previous.mr seen.mr then None else
    early (stood previous.mr (previous ∷ older)) (length (previous ∷ older))

-- ---- the findings

-- the findings in a packet of a stream that is tracked
abbrev pub tracked_findings : List Seen → Seen → Findings
tracked_findings notes seen = record {
  reserved = seen.reserved;
  step = step_after notes seen;
  hold = hold_after notes seen;
  stamp = seen.stamp_wrong;
  untracked = false;
}

-- the findings in a packet of a stream that is not tracked: that the stream is not tracked, and whether a reserved bit
-- is set
abbrev pub untracked_findings : Seen → Findings
untracked_findings seen = record { reserved = seen.reserved; step = None; hold = None; stamp = false; untracked = true }

-- the findings in a packet that follows these notes
abbrev pub findings : List Seen → Seen → Findings
findings notes seen =
    if is_tracked (stream_of seen) (notes ++ seen ∷ [])
    then tracked_findings (recent (stream_of seen) notes) seen
    else untracked_findings seen
