-- Only private functions and proofs use these definitions. A listener of bytes that is fed a piece, or
-- ended.
use Rattle.std.specs.Prelude.{◌≡◌, ◌↔◌, ℕ, ◌+◌, ◌^◌, ◌≤◌, true, false, List, [], ◌++◌, length, take, Option, Some, None, option_map, Result, Err, IfOk}
use Rattle.avtp_base.specs.declared.refusal.Refusal.{Refusal}
use Rattle.pcap_frames.specs.Capture.{first_refusal}
use Rattle.pcap_frames.specs.Layout.{certain}
use Rattle.pcap_frames.specs.Reading.{taken}
use Rattle.listener.specs.declared.listener.ListenFault.{ListenFault}
use Rattle.listener.specs.declared.listener.ListenFault.TheVariants.{Refused, Memory}
use Rattle.listener.specs.declared.plan.ListenPlan.{ListenPlan}
use Rattle.listener.specs.Feeding.{Feeding, IsQuiet, StandsFor as IsFed, bytes_after, is_ended, is_memory}
use Rattle.listener_pair.specs.declared.difference.Which.{Which}
use Rattle.listener_pair.specs.declared.difference.Which.TheVariants.{A, B}
use Rattle.capture_pair.specs.declared.source.ByteSource.{ByteSource}

-- A listener was fed nothing, and is open.
pub record IsBegun (wanted : ListenPlan) (source : ByteSource) : Type 0 where
  pub stands : IsFed [] 0 source.listener
  pub plan : source.listener.listener.plan ≡ wanted
  pub opened : is_ended source.listener ≡ false
  pub quiet : IsQuiet source.listener
  pub none : taken source.listener.reader ≡ 0
  pub memory : source.listener.out_of_memory ≡ false

-- A listener is open and quiet, so feeding and ending it are permitted.
pub record IsOpen (fed : Feeding) : Type 0 where
  pub opened : is_ended fed ≡ false
  pub quiet : IsQuiet fed

-- the listener of side `which` is open and quiet, so feeding and ending it are permitted
abbrev pub IsOpenOn : Which → Feeding → Feeding → Type 0
IsOpenOn A a b = IsOpen a
IsOpenOn B a b = IsOpen b

-- after n more bytes, the listener of side `which` has taken at most 2^62 bytes
abbrev pub IsBoundedOn : Which → ℕ → Feeding → Feeding → Type 0
IsBoundedOn A n a b = taken a.reader + n ≤ 2 ^ 62
IsBoundedOn B n a b = taken b.reader + n ≤ 2 ^ 62

-- A listener was fed a piece, and `feed` returned `result`.
pub record FedBy (piece : List ℕ) (result : Result ℕ ListenFault) (old new : Feeding) : Type 0 where
  pub stands : (bytes : List ℕ) (n : ℕ) → IsFed bytes n old → IsFed (bytes_after bytes piece result) n new
  pub within : IfOk result (λ n. n ≤ length piece)
  pub nothing : IfOk result (λ n. (n ≡ 0) ↔ (length piece ≡ 0))
  pub uncertain : IfOk result (λ k. (bytes : List ℕ) (n : ℕ) → IsFed bytes n old → certain (first_refusal (bytes ++ take k piece)) ≡ None)
  pub refused : (refusal : Refusal) → result ≡ Err (Refused refusal) → (bytes more : List ℕ) (n : ℕ) → IsFed bytes n old → first_refusal ((bytes ++ piece) ++ more) ≡ Some refusal
  pub plan : new.listener.plan ≡ old.listener.plan
  pub opened : is_ended new ≡ false
  pub memory : new.out_of_memory ≡ is_memory result
  pub lasting : old.out_of_memory ≡ true → result ≡ Err Memory
  pub taken : taken new.reader ≤ taken old.reader + length piece

-- `end` was called for a listener, and returned `fault`; `None` means that it returned no fault.
pub record EndedBy (fault : Option ListenFault) (old new : Feeding) : Type 0 where
  pub stands : (bytes : List ℕ) (n : ℕ) → IsFed bytes n old → IsFed bytes n new
  pub refused : old.out_of_memory ≡ false → (bytes : List ℕ) (n : ℕ) → IsFed bytes n old → fault ≡ option_map Refused (first_refusal bytes)
  pub ended : old.out_of_memory ≡ false → is_ended new ≡ true
  pub lasting : old.out_of_memory ≡ true → (fault ≡ Some Memory) × (new ≡ old)
  pub plan : new.listener.plan ≡ old.listener.plan

-- the listener of side `which` was fed a piece, and the other listener is unchanged
abbrev pub FedOn : Which → List ℕ → Result ℕ ListenFault → Feeding → Feeding → Feeding → Feeding → Type 0
FedOn A piece result a b then_a then_b = FedBy piece result a then_a × (then_b ≡ b)
FedOn B piece result a b then_a then_b = FedBy piece result b then_b × (then_a ≡ a)

-- `end` was called for the listener of side `which`, and the other listener is unchanged
abbrev pub EndedOn : Which → Option ListenFault → Feeding → Feeding → Feeding → Feeding → Type 0
EndedOn A fault a b then_a then_b = EndedBy fault a then_a × (then_b ≡ b)
EndedOn B fault a b then_a then_b = EndedBy fault b then_b × (then_a ≡ a)
