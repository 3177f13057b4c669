use Rattle.std.proofs.Common.{ℕ, sym, subst}
use Rattle.std.specs.Prelude.{IsSome}
use Rattle.avtp_base.specs.States.{ShelfState}
use Rattle.capture_io.specs.Reads.{ReadsSlot}
use Rattle.avtp_report.proofs.reading.read_records.Goals as goal

-- after a read, the slot that was read is still open, at its new index `j`
live_now : {s t : ShelfState} {k j : ℕ} → ReadsSlot s t k j → IsSome (t.slots j)
live_now {t = t} reads = subst (λ (n : ℕ). IsSome (t.slots n)) (sym reads.slot) reads.live

pub loop-end-preserved : goal.loop-end-preserved
loop-end-preserved g c = live_now c.next.ensures.reads

pub returns-in-Some : goal.returns-in-Some
returns-in-Some g c = live_now c.next.ensures.reads
