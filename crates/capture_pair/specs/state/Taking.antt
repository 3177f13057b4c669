-- Only private functions and proofs use these definitions. A listener of records that is given a
-- record, or closed.
use Rattle.std.specs.Prelude.{◌≡◌, ℕ, ◌+◌, ◌^◌, ◌<◌, false, true, List, [], ◌∷◌, ◌++◌}
use Rattle.pcap_frames.specs.Capture.{Record}
use Rattle.listener.specs.declared.plan.ListenPlan.{ListenPlan}
use Rattle.listener.specs.Listening.{IsIdle, ListenState, StandsFor as IsGiven, is_closed}
use Rattle.listener_pair.specs.declared.difference.Which.{Which}
use Rattle.listener_pair.specs.declared.difference.Which.TheVariants.{A, B}
use Rattle.capture_pair.specs.declared.source.RecordSource.{RecordSource}

-- A listener was given no record, and is open.
pub record IsBegun (wanted : ListenPlan) (source : RecordSource) : Type 0 where
  pub stands : IsGiven [] 0 source.listener
  pub plan : source.listener.plan ≡ wanted
  pub opened : is_closed source.listener ≡ false
  pub idle : IsIdle source.listener
  pub none : source.listener.counts.frames ≡ 0

-- A listener is open and idle, so closing it is permitted.
pub record IsQuiet (listener : ListenState) : Type 0 where
  pub opened : is_closed listener ≡ false
  pub idle : IsIdle listener

-- A listener is open and idle, and took fewer than 2^61 records, so giving it a record is permitted.
pub record IsReady (listener : ListenState) : Type 0 where
  pub opened : is_closed listener ≡ false
  pub idle : IsIdle listener
  pub few : listener.counts.frames < 2 ^ 61

-- the listener of side `which` is ready: giving it a record is permitted
abbrev pub IsReadyOn : Which → ListenState → ListenState → Type 0
IsReadyOn A a b = IsReady a
IsReadyOn B a b = IsReady b

-- the listener of side `which` is open and idle, so closing it is permitted
abbrev pub IsQuietOn : Which → ListenState → ListenState → Type 0
IsQuietOn A a b = IsQuiet a
IsQuietOn B a b = IsQuiet b

-- A listener was given a record.
pub record Took (r : Record) (old new : ListenState) : Type 0 where
  pub stands : (records : List Record) (n : ℕ) → IsGiven records n old → IsGiven (records ++ r ∷ []) n new
  pub plan : new.plan ≡ old.plan
  pub opened : is_closed new ≡ false
  pub frames : new.counts.frames ≡ old.counts.frames + 1

-- A listener was closed.
pub record Closed (old new : ListenState) : Type 0 where
  pub stands : (records : List Record) (n : ℕ) → IsGiven records n old → IsGiven records n new
  pub plan : new.plan ≡ old.plan
  pub closed : is_closed new ≡ true
  pub frames : new.counts.frames ≡ old.counts.frames

-- the listener of side `which` was given a record, and the other listener is unchanged
abbrev pub TookOn : Which → Record → ListenState → ListenState → ListenState → ListenState → Type 0
TookOn A r a b then_a then_b = Took r a then_a × (then_b ≡ b)
TookOn B r a b then_a then_b = Took r b then_b × (then_a ≡ a)

-- the listener of side `which` was closed, and the other listener is unchanged
abbrev pub ClosedOn : Which → ListenState → ListenState → ListenState → ListenState → Type 0
ClosedOn A a b then_a then_b = Closed a then_a × (then_b ≡ b)
ClosedOn B a b then_a then_b = Closed b then_b × (then_a ≡ a)
