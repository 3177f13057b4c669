-- Pseudo-random numbers, the same in each run. The numbers come from the linear congruential generator that the C
-- standard gives as an example, with 31 bits of state. The 31 bits of state are this project's own choice.
use Rattle.std.specs.Prelude.{ℕ, zero, suc, ◌+◌, ◌*◌, ◌/◌, ◌%◌, ◌^◌}

-- the number of states; each state is less than this number
abbrev pub states : ℕ
states = 2 ^ 31

-- the factor of the generator, as in the C standard
abbrev pub multiplier : ℕ
multiplier = 1103515245

-- the summand of the generator, as in the C standard
abbrev pub increment : ℕ
increment = 12345

-- the state that follows `state`
abbrev pub next_state : ℕ → ℕ
next_state state = (state * multiplier + increment) % states

-- the number that is drawn in this state: the state's upper bits
abbrev pub drawn : ℕ → ℕ
drawn state = state / 2 ^ 16

-- the state before the first number is drawn from a seed
abbrev pub first_state : ℕ → ℕ
first_state seed = seed % states

-- the state after this many numbers were drawn from a seed
unfoldable pub state_after : ℕ → ℕ → ℕ
state_after seed zero = first_state seed
state_after seed (suc draws) = next_state (state_after seed draws)

-- the number that is drawn from a seed after this many other numbers
abbrev pub draw_after : ℕ → ℕ → ℕ
draw_after seed draws = drawn (next_state (state_after seed draws))
