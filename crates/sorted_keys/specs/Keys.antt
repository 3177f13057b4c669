-- Keys, sorted by instant.
use Rattle.std.specs.Prelude.{◌≡◌, ℕ, ◌≤◌, ◌==◌, Bool, false, if◌then◌else◌, ℤ, int_le, int_lt, List, [], ◌∷◌, ◌++◌, Option, IfNone}
use Rattle.std.specs.Option.{option_to_list}
use Rattle.sorted_keys.specs.declared.key.Key.{Key}

-- two instants are equal
abbrev pub same_instant : ℤ → ℤ → Bool
same_instant x y = if int_le x y then int_le y x else false

-- the sorted list of keys, and the number of keys for which memory is reserved
pub record KeyList : Type 0 where
  pub list : List Key
  pub room : ℕ

-- the list is new: it has no keys, and memory is reserved for at least `keys` keys
pub record IsNew (keys : ℕ) (sorted : KeyList) : Type 0 where
  pub none : sorted.list ≡ []
  pub room : keys ≤ sorted.room

-- the first key was removed from the list; `first` is `None` if there was no key
pub record TakesFirst (old : KeyList) (first : Option Key) (new : KeyList) : Type 0 where
  pub taken : old.list ≡ option_to_list first ++ new.list
  pub none : IfNone first (old.list ≡ [])
  pub room : new.room ≡ old.room

-- puts a key into a sorted list, after all keys with earlier or equal instants
abbrev pub put_key : List Key → Key → List Key
put_key [] key = key ∷ []
put_key (other ∷ rest) key = if int_lt key.instant other.instant then key ∷ other ∷ rest else other ∷ put_key rest key

-- the key has this instant and this sequence number
abbrev pub is_key : ℤ → ℕ → Key → Bool
is_key instant seq key = if same_instant key.instant instant then key.seq == seq else false
