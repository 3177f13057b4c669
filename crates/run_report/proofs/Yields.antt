-- What the parts of a run yield, one after another.
use Rattle.std.proofs.Common.{◌≡◌, [], refl, append_assoc, List, ◌++◌, sym, subst, ℕ, Option, ap, ◌∙◌}
use Rattle.std.proofs.lemmas.List.{append-nil}
use Rattle.sample_schedule.specs.declared.shown.Shown.{Shown}
use Rattle.avtp_base.proofs.Told.{Appends-trans}
use Rattle.avtp_text.proofs.Printing.{prefix_after, prefix_before, prefix_whole, prefix_none}
use Rattle.avtp_text.specs.Written.{AppendsPrefix}
use Rattle.avtp_base.specs.Told.{Keeps}
use Rattle.run_report.specs.Yield.{says, with_more, Yield, HandsOn, Gives, GivesPart}

pub more_none : (y : Yield) → with_more y (says []) ≡ y
more_none y = rw (append-nil y.text, append-nil y.items) refl

pub more_more : (a b c : Yield) → with_more (with_more a b) c ≡ with_more a (with_more b c)
more_more a b c = rw (append_assoc a.text b.text c.text, append_assoc a.items b.items c.items) refl

-- If the first part of a run gave `xs` to devices and the second part gave `ys`, the whole run gave `xs ++ ys`.
abbrev pub Joins : (List Shown → Type 0) → (List Shown → Type 0) → (List Shown → Type 0) → Type 0
Joins first second all = (xs ys : List Shown) → first xs → second ys → all (xs ++ ys)

pub hands_nothing : {D : Type 0} (handed : D → D → List Shown → Type 0) (devices : D) → HandsOn handed devices devices []
hands_nothing handed devices begun earlier so = subst (handed begun devices) (sym (append-nil earlier)) so

pub hands_both : {D : Type 0} (handed : D → D → List Shown → Type 0) (a b c : D) → Joins (HandsOn handed a b) (HandsOn handed b c) (HandsOn handed a c)
hands_both handed a b c xs ys first second begun earlier so = subst (handed begun c) (append_assoc earlier xs ys) (second begun (earlier ++ xs) (first begun earlier so))

pub gives_then : {first second all : List Shown → Type 0} {before mid now : Option (List ℕ)} → Joins first second all → (y z : Yield) → Gives first before mid y → Gives second mid now z → Gives all before now (with_more y z)
gives_then {before = before} {mid} {now} join y z a b = record { text = Appends-trans before mid now y.text z.text a.text b.text; items = join y.items z.items a.items b.items }

pub part_then : {first second all : List Shown → Type 0} {before mid now : Option (List ℕ)} → Joins first second all → (y z : Yield) → Gives first before mid y → GivesPart second mid now z → GivesPart all before now (with_more y z)
part_then {before = before} {mid} {now} join y z a b = record {
  text = prefix_after before mid now y.text z.text a.text b.text;
  front = y.items ++ b.front;
  first = (b.first.0, append_assoc y.items b.front b.first.0 ∙ ap (λ (l : List Shown). y.items ++ l) b.first.1);
  items = join y.items b.front a.items b.items;
}

pub part_before : {handed : List Shown → Type 0} {before now : Option (List ℕ)} (y more : Yield) → GivesPart handed before now y → GivesPart handed before now (with_more y more)
part_before {before = before} {now} y more p = record {
  text = prefix_before before now y.text more.text p.text;
  front = p.front;
  first = (p.first.0 ++ more.items, sym (append_assoc p.front p.first.0 more.items) ∙ ap (λ (l : List Shown). l ++ more.items) p.first.1);
  items = p.items;
}

pub part_whole : {handed : List Shown → Type 0} {before now : Option (List ℕ)} (y : Yield) → Gives handed before now y → GivesPart handed before now y
part_whole {before = before} {now} y g = record { text = prefix_whole before now y.text g.text; front = y.items; first = ([], append-nil y.items); items = g.items }

pub part_text : {handed : List Shown → Type 0} {before now : Option (List ℕ)} → handed [] → (y : Yield) → AppendsPrefix before now y.text → GivesPart handed before now y
part_text none y prefix = record { text = prefix; front = []; first = (y.items, refl); items = none }

pub part_none : {handed : List Shown → Type 0} {before now : Option (List ℕ)} → handed [] → (y : Yield) → Keeps before now → GivesPart handed before now y
part_none {before = before} {now} none y keeps = part_text none y (prefix_none before now y.text keeps)

pub gives_as : {a b : List Shown → Type 0} {before now : Option (List ℕ)} → ((items : List Shown) → a items → b items) → (y : Yield) → Gives a before now y → Gives b before now y
gives_as on y g = record { text = g.text; items = on y.items g.items }

pub part_as : {a b : List Shown → Type 0} {before now : Option (List ℕ)} → ((items : List Shown) → a items → b items) → (y : Yield) → GivesPart a before now y → GivesPart b before now y
part_as on y p = record { text = p.text; front = p.front; first = p.first; items = on p.front p.items }
