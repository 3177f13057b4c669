-- What `check` notes about a gateway's frames.
use Rattle.std.specs.Prelude.{ℕ, ◌%◌, false, None}
use Rattle.aaf_format.specs.Aaf.{aaf_subtype}
use Rattle.iec61883_format.specs.Iec.{iec_subtype}
use Rattle.sequence_track.specs.declared.seen.Findings.{Findings}
use Rattle.sequence_track.specs.declared.seen.Seen.{Seen}
use Rattle.am824_gateway.specs.declared.scan.To.{To}
use Rattle.am824_gateway.specs.declared.scan.To.TheVariants.{Aaf, Am824}
use Rattle.am824_gateway.specs.Laws.{Cut}

-- the subtype of a format's packets (IEEE 1722-2016, table 6)
abbrev pub subtype_to : To → ℕ
subtype_to Am824 = iec_subtype
subtype_to Aaf = aaf_subtype

-- What `check` notes about the frame that carries piece c. No reserved bit is set, there is no media clock restart, and
-- the timestamp obeys the rule of the format.
abbrev pub cut_seen : To → ℕ → Cut → Seen
cut_seen to id c = record { id = id; subtype = subtype_to to; seq = c.number % 256; mr = false; reserved = false; stamp_wrong = false }

-- `check` finds nothing
abbrev pub nothing_found : Findings
nothing_found = record { reserved = false; step = None; hold = None; stamp = false; untracked = false }
