-- Only private functions and proofs use these definitions.
use Rattle.time_unfold.specs.declared.stamp.Stamp.{Stamp}
use Rattle.time_unfold.specs.declared.stamp.Want.{Want}
use Rattle.time_unfold.specs.Limits.{IsStamp, IsWant}

-- A stamp is tried for a packet without a timestamp. The numbers of the stamp and of the packet are within their limits.
pub record IsTried (tried : Stamp) (wanted : Want) : Type 0 where
  pub stamp : IsStamp tried
  pub want : IsWant wanted
