-- The state of a gateway after the frame that it lent is given back.
use Rattle.std.specs.Prelude.{⊤}
use Rattle.std.specs.Borrow.{follows_so, MutBor, Fml}
use mathlib.Core.Option.{none}
use Rattle.am824_gateway.specs.declared.gateway.Gateway.{Gateway}
use Rattle.am824_gateway.specs.contracts.gateway.Gateway.{the_row}

-- P holds for the gateway after the borrowed frame is returned to the gateway
abbrev pub EndsAs : MutBor Gateway → (Gateway → Type 0) → Fml
EndsAs gateway P = follows_so the_row the_row gateway.ghost_name none (λ _ _. ⊤) P
