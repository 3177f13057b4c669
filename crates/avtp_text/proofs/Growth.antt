-- What a sink holds only grows.
use Rattle.std.proofs.Common.{ℕ, List, [], ◌++◌, Option}
use Rattle.avtp_base.proofs.Told.{Appends-nil, Appends-trans}
use Rattle.avtp_base.specs.Told.{Appends}
use Rattle.avtp_text.specs.Written.{Grows}

pub grows_by : (before now : Option (List ℕ)) (bytes : List ℕ) → Appends before now bytes → Grows before now
grows_by before now bytes appends = record { more = bytes; appends = appends }

pub grows_none : (held : Option (List ℕ)) → Grows held held
grows_none held = grows_by held held [] (Appends-nil held)

pub grows_further : (before mid now : Option (List ℕ)) → Grows before mid → Grows mid now → Grows before now
grows_further before mid now first second =
    grows_by before now (first.more ++ second.more) (Appends-trans before mid now first.more second.more first.appends second.appends)
