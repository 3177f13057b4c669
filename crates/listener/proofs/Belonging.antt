-- Records that belong to a stream or to its clock.
use Rattle.std.proofs.Common.{◌≡◌, ℕ, Bool, true, false, List, Some, None, refl, sym, ap, if◌then◌else◌}
use Rattle.avtp_header.specs.declared.header.Peeked.{Peeked}
use Rattle.avtp_header.specs.Header.{peeked_of}
use Rattle.packet_journal.specs.Deliveries.{belongs, is_avtp, is_wanted, packet_in, stream_kinds}

pub none_if : {X : Type 0} (b : Bool) (y : X) → b ≡ false → None ≡ (if b then Some y else None)
none_if true y e = absurd cc
none_if false y e = refl

pub of_stream : (stream : ℕ) (bytes : List ℕ) (peeked : Peeked) → is_avtp bytes ≡ true → peeked ≡ peeked_of (packet_in bytes) → belongs stream_kinds stream bytes ≡ is_wanted stream_kinds stream peeked
of_stream stream bytes peeked avtp e = rw avtp (ap (is_wanted stream_kinds stream) (sym e))
