-- What is printed of the records of a capture, in order.
use Rattle.std.specs.Prelude.{List, [], ◌∷◌, ◌++◌}
use Rattle.pcap_frames.specs.Capture.{Record}

-- What `one` makes of each record of the list `records`, given all records before this record. The list `earlier` has
-- the records before the first record of `records`.
unfoldable pub after : {A : Type 0} → (List Record → Record → List A) → List Record → List Record → List A
after one earlier [] = []
after one earlier (r ∷ records) = one earlier r ++ after one (earlier ++ r ∷ []) records

-- what `one` makes of each record of a capture, given all records before this record
abbrev pub of_each : {A : Type 0} → (List Record → Record → List A) → List Record → List A
of_each one records = after one [] records
