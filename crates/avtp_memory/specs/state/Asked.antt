-- Only private functions and proofs use these definitions. The names that a shelf was asked for, in order. A shelf in
-- memory keeps the names that it was asked for. If there is no memory for a name, the shelf keeps neither this name nor
-- any later name.
use Rattle.std.specs.Prelude.{◌≡◌, ℕ, Bool, true, false, List, [], ◌∷◌, ◌++◌}
use Rattle.avtp_memory.specs.declared.asked_names.AskedNames.{AskedNames}
use Rattle.avtp_base.specs.States.{Account}
use Rattle.avtp_memory.specs.Asked.{names_kept}

-- the account of the names that were kept
abbrev pub account_of : AskedNames → Account
account_of asked = record { kept = names_kept asked; all = asked.all }

-- the name was appended, or there was no memory for it
abbrev pub NamePushed : Bool → List (List ℕ) → List (List ℕ) → List ℕ → Type 0
NamePushed true old new name = new ≡ old ++ name ∷ []
NamePushed false old new name = new ≡ old
