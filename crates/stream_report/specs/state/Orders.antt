-- Only private functions and proofs use these definitions. How a packet that is ahead of all others is
-- counted.
use Rattle.std.specs.Prelude.{◌≡◌, ℕ, ◌%◌, List, ◌∷◌, ◌+◌, ◌-◌, ◌^◌, max, min}
use Rattle.stream_report.specs.declared.order.Order.{Order}
use Rattle.stream_report.specs.Sequence.{Passes, StandsFor}

-- a packet that is ahead of the newest was counted; `missing` is the number of packets that are missing before it
pub record Passed (old new : Order) (missing : ℕ) : Type 0 where
  pub lost : new.lost.count ≡ min (old.lost.count + missing) (2 ^ 64 - 1)
  pub most_lost : new.most_lost ≡ max old.most_lost missing
  pub repeated : new.repeated.count ≡ old.repeated.count
  pub late : new.late.count ≡ old.late.count

-- a packet that is ahead of the newest was counted, and the window has its sequence number `seq`
pub record PassesBy (old new : Order) (seq missing : ℕ) : Type 0 where
  pub stands : (first : ℕ) (later : List ℕ) (number : ℕ) → StandsFor old.window first later → Passes first later number → number % 256 ≡ seq
      → StandsFor new.window first (number ∷ later)
  pub passed : Passed old new missing
