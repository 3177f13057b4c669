-- The state of a talker after the frame that it lent was given back.
use Rattle.std.specs.Prelude.{[], ⊤}
use Rattle.std.specs.Borrow.{follows_so, MutBor, Fml}
use mathlib.Core.Option.{none}
use mir.Syntax.{named}
use Rattle.talker.specs.declared.talker.Talker.{Talker}
use Rattle.talker.specs.contracts.talker.Talker.{the_row}

-- When the frame that a talker lent is given back, `P` holds for the talker. `named 0` is the input's lifetime in the
-- signature.
abbrev pub EndsAs : MutBor Talker → (Talker → Type 0) → Fml
EndsAs talker P =
    let row = the_row (record { mir = named 0; lft = [] }) in
    follows_so row row talker.ghost_name none (λ _ _. ⊤) P
