-- How a listener reads a copy of a packet.
use Rattle.std.specs.Prelude.{List, ℕ}
use Rattle.aaf_format.specs.Aaf.{SpellsAaf, plain_aaf}
use Rattle.iec61883_format.specs.Iec.{SpellsIec, plain_iec}
use Rattle.cvf_format.specs.Cvf.{SpellsCvf, plain_cvf}
use Rattle.crf_format.specs.Crf.{Crf, SpellsCrf, plain_crf}
use Rattle.packet_journal.specs.Packets.{PacketView, Pcm, Am824Data, H264Data}

-- The reader of the packet's format accepts the bytes; they spell the given packet, but with every reserved bit 0.
abbrev pub IsReadAs : PacketView → List ℕ → Type 0
IsReadAs (Pcm v) bytes = SpellsAaf bytes (plain_aaf v)
IsReadAs (Am824Data v) bytes = SpellsIec bytes (plain_iec v)
IsReadAs (H264Data v) bytes = SpellsCvf bytes (plain_cvf v)

-- The reader of CRF accepts the bytes; they spell the given packet, but with every reserved bit 0.
abbrev pub IsClockReadAs : Crf → List ℕ → Type 0
IsClockReadAs v bytes = SpellsCrf bytes (plain_crf v)
