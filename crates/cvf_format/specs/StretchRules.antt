-- The definition of a stretch in terms of the rules (RFC 6184, 5.8).
use Rattle.std.specs.Prelude.{◌≡◌, ◌≢◌, ◌+◌, ◌%◌, true, false, ℤ, List, [], ◌∷◌, ◌++◌, map}
use Rattle.std.specs.List.{All}
use Rattle.std.specs.Option.{IfSome}
use Rattle.cvf_format.specs.WholeOrBroken.{Fragment, Event, packet, begins, goes_on, completes, sequence_numbers}

-- The packet `after` continues the unit of the packet `before`. `after` carries a middle or last fragment, and `before`
-- did not complete the unit. Both packets carry the same first byte of the unit. The sequence number of `after` follows
-- that of `before`.
pub record GoesOn (before after : Fragment) : Type 0 where
  pub incomplete : completes before.part ≡ false
  pub part : goes_on after.part ≡ true
  pub nal : after.nal ≡ before.nal
  pub seq : after.mark.seq ≡ (before.mark.seq + 1) % sequence_numbers

-- The packets are a stretch. The first packet begins a unit. Each later packet continues the unit of the packet before
-- it. All packets with a timestamp have the same instant.
pub record IsStretch (packets : List Fragment) : Type 0 where
  pub some : packets ≢ []
  pub first : (first : Fragment) (rest : List Fragment) → packets ≡ first ∷ rest → begins first.part ≡ true
  pub others : (front : List Fragment) (before after : Fragment) (rest : List Fragment) → packets ≡ front ++ before ∷ (after ∷ rest) → GoesOn before after
  pub one_instant : (instant : ℤ) × All (λ (f : Fragment). IfSome f.instant (λ stamp. stamp ≡ instant)) packets

-- The last events of the list are the packets `stretch`, and no cut is among or after these packets. The packets are a
-- stretch.
pub record EndsWith (events : List Event) (stretch : List Fragment) : Type 0 where
  pub front : List Event
  pub is : events ≡ front ++ map packet stretch
  pub stretches : IsStretch stretch
