-- Three packets that keep the rules.
use Rattle.std.proofs.Common.{◌≡◌, ◌↔◌, ℕ, ◌+◌, ◌*◌, ◌≤◌, pos, Some, refl, arith}
use Rattle.std.proofs.lemmas.Int.{ints}
use Rattle.stream_journal.specs.Clocks.{no_clock}
use Rattle.time_unfold.specs.declared.head_rule.Head.{Head}
use Rattle.stream_journal.specs.Journal.{Journal, head_of, nominal_instant}
use Rattle.stream_journal.specs.Conforming.{AgreesWithClock, Conforms, IsAudio, IsClock}
use Rattle.stream_journal.specs.Regular.{IsRegularClock}
use Rattle.stream_journal.specs.Examples.{three_packets}

-- a clock without packets keeps every rule
pub no_clock-is : IsClock no_clock
no_clock-is = record {
  interval = omega arith;
  some = λ n h. absurd (omega arith);
  spaced = λ p q f. let h = f.first in absurd (omega arith);
  even = λ p q f o. let h = f.first in absurd (omega arith);
}

pub no_clock-regular : IsRegularClock no_clock
no_clock-regular = record {
  base = omega arith;
  pull = omega arith;
  instants = λ p is. absurd (omega arith);
  steady = λ p q r f g o u. let h = f.first in absurd (omega arith);
  renewed = λ p q r f g o u. let h = f.first in absurd (omega arith);
  holds = λ n k e h g. absurd (omega arith);
}

-- every stream agrees with a clock without packets, because such a clock covers no timestamp
pub no_clock-agrees : (j : Journal) → j.clock.packets ≡ 0 → AgreesWithClock j
no_clock-agrees j none = record {
  one = λ n i p q r s a b. let h = a.joined.follows.first in absurd (omega arith);
  exact = λ n i p q a o. let h = a.joined.follows.first in absurd (omega arith);
}

first_of : (spacing n : ℕ) (head : Head) → head_of (three_packets spacing) n ≡ Some head → pos (1002000000 + n * spacing) ≡ nominal_instant (three_packets spacing) head 0
first_of spacing n head e =
    let same : record { instant = pos (1002000000 + n * spacing); first = pos 0 } ≡ head = cc in
    rw (← same) (omega (arith, ints))

three_audio : (spacing : ℕ) → 93750 ≤ spacing → IsAudio (three_packets spacing)
three_audio spacing wide = record {
  rate_from = omega arith;
  rate_to = omega arith;
  some = omega arith;
  stamps = λ n h. refl;
  blocks = tt;
  spacing = λ n h. omega arith;
  first_instants = λ n head h e. first_of spacing n head e;
}

three : (spacing : ℕ) → 93750 ≤ spacing → Conforms (three_packets spacing)
three spacing wide = record {
  kind = (three_audio spacing wide, no_clock-agrees (three_packets spacing) refl);
  holds = λ n k e h g. refl;
  clock = no_clock-is;
}

apart : (spacing : ℕ) → Conforms (three_packets spacing) → 93750 ≤ spacing
apart spacing is = let h = is.kind.0.spacing 0 (omega arith) in omega arith

pub three_conform : (spacing : ℕ) → Conforms (three_packets spacing) ↔ 93750 ≤ spacing
three_conform spacing = (apart spacing, three spacing)
