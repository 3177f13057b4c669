-- Accepted items, sorted by their first instants.
use Rattle.std.specs.Prelude.{false, if◌then◌else◌, ℤ, int_lt, int_le, List, [], ◌∷◌, filter, fold}
use Rattle.sample_schedule.specs.declared.accepted.Accepted.{Accepted}

-- the accepted items whose first instants have not passed
abbrev pub standing : ℤ → List Accepted → List Accepted
standing now accepted = filter (λ a. int_le now a.instant) accepted

-- the accepted items whose first instant is at least `from` and before `to`
abbrev pub between : ℤ → ℤ → List Accepted → List Accepted
between from to accepted = filter (λ a. if int_le from a.instant then int_lt a.instant to else false) accepted

-- puts an item into a list that is sorted by first instant, after all items with earlier or equal first instants
abbrev pub put_behind : List Accepted → Accepted → List Accepted
put_behind [] a = a ∷ []
put_behind (b ∷ bs) a = if int_lt a.instant b.instant then a ∷ b ∷ bs else b ∷ put_behind bs a

-- accepted items, sorted by first instant; items with equal first instants are in the order in which they were accepted
unfoldable pub by_instant : List Accepted → List Accepted
by_instant accepted = fold put_behind [] accepted

-- the beginning of a list that is sorted by first instant: the items whose instants have passed
abbrev pub due_of : ℤ → List Accepted → List Accepted
due_of now [] = []
due_of now (a ∷ rest) = if int_lt a.instant now then a ∷ due_of now rest else []

-- the end of a list that is sorted by first instant: the items whose instants have not passed
abbrev pub left_of : ℤ → List Accepted → List Accepted
left_of now [] = []
left_of now (a ∷ rest) = if int_lt a.instant now then left_of now rest else a ∷ rest
