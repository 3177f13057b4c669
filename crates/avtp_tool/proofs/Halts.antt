-- The read faults that are possible.
use Rattle.std.proofs.Common.{[], ◌∷◌, refl, ◌≡◌}
use Rattle.avtp_base.specs.declared.failed.FaultPlace.{FaultPlace}
use Rattle.avtp_base.specs.Files.{Files}
use Rattle.avtp_words.specs.Grammar.{agree, gateway, Request, show, check, listen, talk, soak}
use Rattle.run_report.specs.Halt.{Halt, no_halt, not_opened, stopped_after}
use Rattle.run_report.proofs.InOrder.{never_halts}
use Rattle.avtp_tool.specs.Run.{CanEndWith}

-- without a read fault, no read fault ended the run
pub never_ends_with : (request : Request) (files : Files) (cause : FaultPlace → Type 0) (halt : Halt) → ((place : FaultPlace) → cause place → ⊥) → CanEndWith request files cause halt → halt ≡ no_halt
never_ends_with (show limit file) files cause halt none can = never_halts limit (file ∷ []) files cause halt none can
never_ends_with (check limit names) files cause halt none can = never_halts limit names files cause halt none can
never_ends_with (listen asked) files cause halt none can = never_halts asked.listener.limit asked.files files cause halt none can
never_ends_with (talk asked) files cause no_halt none can = refl
never_ends_with (talk asked) files cause (not_opened place) none can = absurd (none can.0 can.1)
never_ends_with (talk asked) files cause (stopped_after place after) none can = absurd (none can.0 can.1)
never_ends_with (soak packets) files cause halt none can = can
never_ends_with (agree asked) files cause halt none can = never_halts asked.listener.limit (asked.a ∷ asked.b ∷ []) files cause halt none can
never_ends_with (gateway asked) files cause halt none can = never_halts asked.listener.limit (asked.input ∷ asked.input ∷ []) files cause halt none can

-- each run can end without a read fault
pub can_end : (request : Request) (files : Files) (cause : FaultPlace → Type 0) → CanEndWith request files cause no_halt
can_end (show limit file) files cause = tt
can_end (check limit names) files cause = tt
can_end (listen asked) files cause = tt
can_end (talk asked) files cause = tt
can_end (soak packets) files cause = refl
can_end (agree asked) files cause = tt
can_end (gateway asked) files cause = tt
