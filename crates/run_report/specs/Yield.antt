-- What a run yields: the text that it prints, and the items that it gives to devices.
use Rattle.std.specs.Prelude.{ℕ, List, [], ◌++◌, ◌≡◌, Option}
use mathlib.Core.List.{IsPrefix}
use Rattle.sample_schedule.specs.declared.shown.Shown.{Shown}
use Rattle.avtp_base.specs.Told.{Appends}
use Rattle.avtp_text.specs.Written.{AppendsPrefix}

-- What a run yields: the text that it prints, and the items that it gives to devices. A `Yield` holds the text and the
-- items together, because both must come from the same prefix of a file.
pub record Yield : Type 0 where
  pub text : List ℕ
  pub items : List Shown

-- the yield of a run that prints this text and gives no item to devices
abbrev pub says : List ℕ → Yield
says text = record { text = text; items = [] }

-- the yield `first`, followed by the yield `more`
abbrev pub with_more : Yield → Yield → Yield
with_more first more = record { text = first.text ++ more.text; items = first.items ++ more.items }

-- From the state `old` to the state `new`, the devices got exactly these items. `handed` says which items devices got
-- between two states.
abbrev pub HandsOn : {D : Type 0} → (D → D → List Shown → Type 0) → D → D → List Shown → Type 0
HandsOn {D} handed old new items = (begun : D) (earlier : List Shown) → handed begun old earlier → handed begun new (earlier ++ items)

-- no item is given to devices
abbrev pub HandsNothing : List Shown → Type 0
HandsNothing items = items ≡ []

-- The known bytes grew by the text, and the devices got the items. `handed` says which items the devices got.
pub record Gives (handed : List Shown → Type 0) (before now : Option (List ℕ)) (yields : Yield) : Type 0 where
  pub text : Appends before now yields.text
  pub items : handed yields.items

-- The known bytes grew by a prefix of the text, and the devices got a prefix of the items.
pub record GivesPart (handed : List Shown → Type 0) (before now : Option (List ℕ)) (yields : Yield) : Type 0 where
  pub text : AppendsPrefix before now yields.text
  pub front : List Shown
  pub first : IsPrefix front yields.items
  pub items : handed front
