-- A file that `talk` makes is a classic capture of its records.
use Rattle.std.proofs.Common.{◌≡◌, ℕ, pos, List, None, sym, subst}
use Rattle.pcap_frames.specs.Capture.{first_refusal, whole_records}
use Rattle.packet_journal.specs.Packets.{PacketJournal}
use Rattle.listener.specs.declared.plan.ListenPlan.{ListenPlan}
use Rattle.listener.specs.Laws.{HearsTalker}
use Rattle.capture_io.specs.declared.capture_reader.Format.TheVariants.{Classic}
use Rattle.capture_io.specs.Formats.{records_in}
use Rattle.capture_io.proofs.Formats.{accepted_classic, is_classic, records_by}

pub file_heard : (p : PacketJournal) (listen : ListenPlan) (bytes : List ℕ) → first_refusal bytes ≡ None → HearsTalker (pos 0) p listen (whole_records bytes) → HearsTalker (pos 0) p listen (records_in bytes)
file_heard p listen bytes none h = subst (HearsTalker (pos 0) p listen) (sym (records_by Classic bytes (is_classic bytes (accepted_classic bytes none)))) h
