-- What two successive calls do to the files and slots of a shelf.
use Rattle.std.proofs.Common.{◌≡◌, ℕ, List, ◌++◌, Option, Some, None, inl, inr, refl, sym, ap, subst, ◌∙◌}
use Rattle.std.specs.Prelude.{IsSome, option_map, option_and_then}
use Rattle.std.proofs.lemmas.Bool.Decides.{eqb_tells}
use Rattle.avtp_base.specs.Files.{Files, Open, Slots, file_of, name_in, AppendsTo, KeepsFiles, KeepsOthers, KeepsOtherFiles, KeepsSlots, PutsFile}

-- ---- files

pub KeepsFiles-refl : (files : Option Files) → KeepsFiles files files
KeepsFiles-refl None = tt
KeepsFiles-refl (Some files) = λ name. refl

pub KeepsFiles-trans : (a b c : Option Files) → KeepsFiles a b → KeepsFiles b c → KeepsFiles a c
KeepsFiles-trans None None c p q = q
KeepsFiles-trans None (Some b) c p q = absurd p
KeepsFiles-trans (Some a) b None p q = tt
KeepsFiles-trans (Some a) None (Some c) p q = absurd q
KeepsFiles-trans (Some a) (Some b) (Some c) p q = λ name. q name ∙ p name

pub KeepsFiles-puts : (a b c : Option Files) (name bytes : List ℕ) → KeepsFiles a b → PutsFile b c name bytes → PutsFile a c name bytes
KeepsFiles-puts None None None name bytes p q = tt
KeepsFiles-puts None None (Some c) name bytes p q = absurd q
KeepsFiles-puts None (Some b) c name bytes p q = absurd p
KeepsFiles-puts (Some a) b None name bytes p q = tt
KeepsFiles-puts (Some a) None (Some c) name bytes p q = absurd q
KeepsFiles-puts (Some a) (Some b) (Some c) name bytes p q = (q.0, λ other differs. q.1 other differs ∙ p other)

pub PutsFile-kept : (a b c : Option Files) (name bytes : List ℕ) → PutsFile a b name bytes → KeepsFiles b c → PutsFile a c name bytes
PutsFile-kept None None None name bytes p q = tt
PutsFile-kept None None (Some c) name bytes p q = absurd q
PutsFile-kept None (Some b) c name bytes p q = absurd p
PutsFile-kept (Some a) b None name bytes p q = tt
PutsFile-kept (Some a) None (Some c) name bytes p q = absurd q
PutsFile-kept (Some a) (Some b) (Some c) name bytes p q = (q name ∙ p.0, λ other differs. q other ∙ p.1 other differs)

pub PutsFile-again : (a b c : Option Files) (name before bytes : List ℕ) → PutsFile a b name before → PutsFile b c name bytes → PutsFile a c name bytes
PutsFile-again None None None name before bytes p q = tt
PutsFile-again None None (Some c) name before bytes p q = absurd q
PutsFile-again None (Some b) c name before bytes p q = absurd p
PutsFile-again (Some a) b None name before bytes p q = tt
PutsFile-again (Some a) None (Some c) name before bytes p q = absurd q
PutsFile-again (Some a) (Some b) (Some c) name before bytes p q = (q.0, λ other differs. q.1 other differs ∙ p.1 other differs)

more_of : (b c : Files) (name held bytes : List ℕ) → b name ≡ Some held → AppendsTo (Some b) (Some c) (Some name) bytes → PutsFile (Some b) (Some c) name (held ++ bytes)
more_of b c name held bytes has more =
    let one : Some more.0 ≡ Some held = sym more.1 ∙ has in
    let same : more.0 ≡ held = cc in
    (more.2.0 ∙ ap (λ (x : List ℕ). Some (x ++ bytes)) same, more.2.1)

pub PutsFile-appends : (a b c : Option Files) (name held bytes : List ℕ) (of : Option (List ℕ)) → (IsSome a → of ≡ Some name) → PutsFile a b name held → AppendsTo b c of bytes → PutsFile a c name (held ++ bytes)
PutsFile-appends None None None name held bytes of named p q = tt
PutsFile-appends None None (Some c) name held bytes of named p q = absurd q
PutsFile-appends None (Some b) c name held bytes of named p q = absurd p
PutsFile-appends (Some a) b None name held bytes of named p q = tt
PutsFile-appends (Some a) None (Some c) name held bytes of named p q = absurd q
PutsFile-appends (Some a) (Some b) (Some c) name held bytes of named p q =
    let more : AppendsTo (Some b) (Some c) (Some name) bytes = subst (λ (o : Option (List ℕ)). AppendsTo (Some b) (Some c) o bytes) (named refl) q in
    PutsFile-again (Some a) (Some b) (Some c) name held (held ++ bytes) p (more_of b c name held bytes p.0 more)

-- ---- slots

pub KeepsOthers-trans : (a b c : Slots) (k : ℕ) → KeepsOthers a b k → KeepsOthers b c k → KeepsOthers a c k
KeepsOthers-trans a b c k p q = λ j differs. q j differs ∙ p j differs

-- if a free slot k is filled and then freed again, every slot is unchanged
pub KeepsOthers-closed : (a b c : Slots) (k : ℕ) → a k ≡ None → KeepsOthers a b k → KeepsOthers b c k → c k ≡ None → KeepsSlots a c
KeepsOthers-closed a b c k free p q closed j =
    elim (eqb_tells j k) [
      | inl same ↦ subst (λ (n : ℕ). c n ≡ a n) (sym same.1) (closed ∙ sym free)
      | inr other ↦ q j other.1 ∙ p j other.1
    ]

pub named_as : (a b : Option Open) → option_map file_of b ≡ option_map file_of a → option_and_then (λ (o : Open). o.name) b ≡ option_and_then (λ (o : Open). o.name) a
named_as None None same = refl
named_as None (Some b) same = absurd cc
named_as (Some a) None same = absurd cc
named_as (Some a) (Some b) same = let e : file_of b ≡ file_of a = cc in ap (λ (p : _). p.1) e

pub KeepsOtherFiles-trans : (a b c : Slots) (k : ℕ) → KeepsOtherFiles a b (name_in a k) → KeepsOtherFiles b c (name_in b k) → KeepsOtherFiles a c (name_in a k)
KeepsOtherFiles-trans a b c k p q = record {
  same = λ j. q.same j ∙ p.same j;
  left = λ j differs. q.left j (λ e. differs (sym (named_as (a j) (b j) (p.same j)) ∙ (e ∙ named_as (a k) (b k) (p.same k)))) ∙ p.left j differs;
}
