-- The known part of a merged list.
use Rattle.std.proofs.Common.{◌≡◌, Bool, true, false, cond, ◌&&◌, ◌||◌, inl, inr, List, [], ◌∷◌, ◌++◌, Option, Some, None, refl, sym, ap, ◌∙◌, subst, append_assoc}
use Rattle.std.specs.Prelude.{int_lt, is_some}
use Rattle.std.specs.List.{list_any}
use Rattle.std.specs.Option.{option_to_list}
use Rattle.sample_schedule.specs.Batches.{Presented}
use Rattle.sample_schedule.specs.Verdicts.{first_instant}
use Rattle.listener_pair.specs.declared.difference.Which.{Which}
use Rattle.listener_pair.specs.declared.difference.Which.TheVariants.{A, B}
use Rattle.listener_pair.specs.Merged.{Sided, is_settled, is_side, known}
use Rattle.listener_pair.specs.Matching.{EndsOn, batches_of, lacks, nexts, of_side}
use Rattle.listener_pair.specs.state.Window.{first_side}

pub known-nil : (ea eb : Bool) → known ea eb [] ≡ []
unfolding known
known-nil ea eb = refl

pub known-cons : (ea eb : Bool) (x : Sided) (rest : List Sided) → known ea eb (x ∷ rest) ≡ cond (is_settled ea A (x ∷ rest) && is_settled eb B (x ∷ rest)) (x ∷ known ea eb rest) []
unfolding known
known-cons ea eb x rest = refl

or-more : (e b r : Bool) → (e || r) ≡ true → (e || (b || r)) ≡ true
or-more true b r h = refl
or-more false true r h = refl
or-more false false r h = h

pub settled-more : (e : Bool) (s : Which) (xs ys : List Sided) → is_settled e s ys ≡ true → is_settled e s (xs ++ ys) ≡ true
settled-more e s [] ys h = h
settled-more e s (x ∷ xs) ys h = or-more e (is_side s x.side) (list_any (λ y. is_side s y.side) (xs ++ ys)) (settled-more e s xs ys h)

pub known-here : (ea eb : Bool) (x : Sided) (rest : List Sided) → is_settled ea A (x ∷ rest) ≡ true → is_settled eb B (x ∷ rest) ≡ true → known ea eb (x ∷ rest) ≡ x ∷ known ea eb rest
known-here ea eb x rest a b =
    known-cons ea eb x rest
    ∙ ap (λ v. cond (v && is_settled eb B (x ∷ rest)) (x ∷ known ea eb rest) []) a
    ∙ ap (λ v. cond v (x ∷ known ea eb rest) []) b

-- if `is_settled` is true for both sides and the list `ys`, all batches before `ys` are known
known-before : (ea eb : Bool) (xs ys : List Sided) → is_settled ea A ys ≡ true → is_settled eb B ys ≡ true → known ea eb (xs ++ ys) ≡ xs ++ known ea eb ys
known-before ea eb [] ys a b = refl
known-before ea eb (x ∷ xs) ys a b =
    known-here ea eb x (xs ++ ys) (settled-more ea A (x ∷ xs) ys a) (settled-more eb B (x ∷ xs) ys b)
    ∙ ap (λ (l : List Sided). x ∷ l) (known-before ea eb xs ys a b)

pub settled-a : (ea : Bool) (na nb : Option Presented) → lacks ea na ≡ false → is_settled ea A (nexts na nb) ≡ true
settled-a true na nb h = refl
settled-a false None nb h = absurd (cc)
settled-a false (Some a) None h = refl
settled-a false (Some a) (Some b) h = elim (int_lt (first_instant b) (first_instant a)) as (λ v. is_settled false A (cond v (of_side B b ∷ of_side A a ∷ []) (of_side A a ∷ of_side B b ∷ [])) ≡ true) [
  | true ↦ refl
  | false ↦ refl
]

pub settled-b : (eb : Bool) (na nb : Option Presented) → lacks eb nb ≡ false → is_settled eb B (nexts na nb) ≡ true
settled-b true na nb h = refl
settled-b false na None h = absurd (cc)
settled-b false None (Some b) h = refl
settled-b false (Some a) (Some b) h = elim (int_lt (first_instant b) (first_instant a)) as (λ v. is_settled false B (cond v (of_side B b ∷ of_side A a ∷ []) (of_side A a ∷ of_side B b ∷ [])) ≡ true) [
  | true ↦ refl
  | false ↦ refl
]

own-here : (e : Bool) (r : Bool) → (e || (true || r)) ≡ true
own-here true r = refl
own-here false r = refl

-- If the list `done` ends with x, and `is_settled` is true for both sides and the list `x ∷ ys`, all of `done` is
-- known.
known-ends : (ea eb : Bool) (done front ys : List Sided) (x : Sided) → done ≡ front ++ x ∷ [] → is_settled ea A (x ∷ ys) ≡ true → is_settled eb B (x ∷ ys) ≡ true → known ea eb (done ++ ys) ≡ done ++ known ea eb ys
known-ends ea eb done front ys x e a b =
    ap (λ (d : List Sided). known ea eb (d ++ ys)) e
    ∙ ap (known ea eb) (append_assoc front (x ∷ []) ys)
    ∙ known-before ea eb front (x ∷ ys) a b
    ∙ ap (λ (l : List Sided). front ++ l) (known-here ea eb x ys a b)
    ∙ sym (append_assoc front (x ∷ []) (known ea eb ys))
    ∙ ap (λ (d : List Sided). d ++ known ea eb ys) (sym e)

none-done : (ea eb : Bool) (done ys : List Sided) → done ≡ [] → known ea eb (done ++ ys) ≡ done ++ known ea eb ys
none-done ea eb done ys e = ap (λ (d : List Sided). known ea eb (d ++ ys)) e ∙ ap (λ (d : List Sided). d ++ known ea eb ys) (sym e)

ends-a : (ea eb : Bool) (done ys : List Sided) → EndsOn A done → is_settled eb B ys ≡ true → known ea eb (done ++ ys) ≡ done ++ known ea eb ys
ends-a ea eb done ys (inl none) b = none-done ea eb done ys none
ends-a ea eb done ys (inr (front, z, e)) b = known-ends ea eb done front ys (of_side A z) e (own-here ea (list_any (λ y. is_side A y.side) ys)) (settled-more eb B (of_side A z ∷ []) ys b)

ends-b : (ea eb : Bool) (done ys : List Sided) → EndsOn B done → is_settled ea A ys ≡ true → known ea eb (done ++ ys) ≡ done ++ known ea eb ys
ends-b ea eb done ys (inl none) a = none-done ea eb done ys none
ends-b ea eb done ys (inr (front, z, e)) a = known-ends ea eb done front ys (of_side B z) e (settled-more ea A (of_side B z ∷ []) ys a) (own-here eb (list_any (λ y. is_side B y.side) ys))

-- If each side that lacks its next batch has presented the last batch of the list `done`, all batches of `done` are
-- known. If both sides lack their next batch, `done` is required to be empty.
pub known-done : (ea eb : Bool) (na nb : Option Presented) (done : List Sided) (la lb : Bool) → lacks ea na ≡ la → lacks eb nb ≡ lb → (lacks ea na ≡ true → EndsOn A done) → (lacks eb nb ≡ true → EndsOn B done)
    → (lacks ea na ≡ true → lacks eb nb ≡ true → done ≡ []) → known ea eb (done ++ nexts na nb) ≡ done ++ known ea eb (nexts na nb)
known-done ea eb na nb done true true e f a b none = none-done ea eb done (nexts na nb) (none e f)
known-done ea eb na nb done true false e f a b none = ends-a ea eb done (nexts na nb) (a e) (settled-b eb na nb f)
known-done ea eb na nb done false true e f a b none = ends-b ea eb done (nexts na nb) (b f) (settled-a ea na nb e)
known-done ea eb na nb done false false e f a b none = known-before ea eb done (nexts na nb) (settled-a ea na nb e) (settled-b eb na nb f)

-- ---- the next batches

pub batches-next-a : (na nb : Option Presented) → batches_of A (nexts na nb) ≡ option_to_list na
batches-next-a None None = refl
batches-next-a None (Some b) = refl
batches-next-a (Some a) None = refl
batches-next-a (Some a) (Some b) = elim (int_lt (first_instant b) (first_instant a)) as (λ v. batches_of A (cond v (of_side B b ∷ of_side A a ∷ []) (of_side A a ∷ of_side B b ∷ [])) ≡ a ∷ []) [
  | true ↦ refl
  | false ↦ refl
]

pub batches-next-b : (na nb : Option Presented) → batches_of B (nexts na nb) ≡ option_to_list nb
batches-next-b None None = refl
batches-next-b None (Some b) = refl
batches-next-b (Some a) None = refl
batches-next-b (Some a) (Some b) = elim (int_lt (first_instant b) (first_instant a)) as (λ v. batches_of B (cond v (of_side B b ∷ of_side A a ∷ []) (of_side A a ∷ of_side B b ∷ [])) ≡ b ∷ []) [
  | true ↦ refl
  | false ↦ refl
]

first-a-at : (a b : Presented) (v : Bool) → cond v (Some B) (Some A) ≡ Some A → cond v (of_side B b ∷ of_side A a ∷ []) (of_side A a ∷ of_side B b ∷ []) ≡ of_side A a ∷ of_side B b ∷ []
first-a-at a b true e = absurd (cc)
first-a-at a b false e = refl

first-b-at : (a b : Presented) (v : Bool) → cond v (Some B) (Some A) ≡ Some B → cond v (of_side B b ∷ of_side A a ∷ []) (of_side A a ∷ of_side B b ∷ []) ≡ of_side B b ∷ of_side A a ∷ []
first-b-at a b true e = refl
first-b-at a b false e = absurd (cc)

-- if `first_side` is A, the first of the next batches is the next batch of A
pub nexts-a : (na nb : Option Presented) (a : Presented) → first_side na nb ≡ Some A → na ≡ Some a → nexts na nb ≡ of_side A a ∷ nexts None nb
nexts-a na nb a f e = subst (λ (n : Option Presented). nexts n nb ≡ of_side A a ∷ nexts None nb) (sym e) (nexts-a-at nb a (ap (λ (n : Option Presented). first_side n nb) (sym e) ∙ f))
  where
    nexts-a-at : (nb : Option Presented) (a : Presented) → first_side (Some a) nb ≡ Some A → nexts (Some a) nb ≡ of_side A a ∷ nexts None nb
    nexts-a-at None a f = refl
    nexts-a-at (Some b) a f = first-a-at a b (int_lt (first_instant b) (first_instant a)) f

pub nexts-b : (na nb : Option Presented) (b : Presented) → first_side na nb ≡ Some B → nb ≡ Some b → nexts na nb ≡ of_side B b ∷ nexts na None
nexts-b na nb b f e = subst (λ (n : Option Presented). nexts na n ≡ of_side B b ∷ nexts na None) (sym e) (nexts-b-at na b (ap (λ (n : Option Presented). first_side na n) (sym e) ∙ f))
  where
    nexts-b-at : (na : Option Presented) (b : Presented) → first_side na (Some b) ≡ Some B → nexts na (Some b) ≡ of_side B b ∷ nexts na None
    nexts-b-at None b f = refl
    nexts-b-at (Some a) b f = first-b-at a b (int_lt (first_instant b) (first_instant a)) f

unsettled-a : (eb : Bool) (nb : Option Presented) → known false eb (nexts None nb) ≡ []
unsettled-a eb None = known-nil false eb
unsettled-a eb (Some b) = known-cons false eb (of_side B b) []

unsettled-b : (ea : Bool) (na : Option Presented) → known ea false (nexts na None) ≡ []
unsettled-b ea None = known-nil ea false
unsettled-b ea (Some a) = known-cons ea false (of_side A a) [] ∙ not-both (is_settled ea A (of_side A a ∷ []))
  where
    not-both : (u : Bool) → cond (u && false) (of_side A a ∷ known ea false []) [] ≡ []
    not-both true = refl
    not-both false = refl

some-first : {P : Type 0} (v : Bool) → cond v (Some B) (Some A) ≡ None → P
some-first true h = absurd (cc)
some-first false h = absurd (cc)

-- no next batch is known if a side lacks its next batch, or if both sides have ended and no batch is left
pub idle-at : (ea eb : Bool) (na nb : Option Presented) → cond (is_some (cond (lacks ea na) (Some A) (cond (lacks eb nb) (Some B) None))) None (first_side na nb) ≡ None → known ea eb (nexts na nb) ≡ []
idle-at false eb None nb h = unsettled-a eb nb
idle-at true false na None h = unsettled-b true na
idle-at false false (Some a) None h = unsettled-b false (Some a)
idle-at true eb None None h = known-nil true eb
idle-at true true (Some a) None h = absurd (cc)
idle-at false true (Some a) None h = absurd (cc)
idle-at true true None (Some b) h = absurd (cc)
idle-at true false None (Some b) h = absurd (cc)
idle-at true true (Some a) (Some b) h = some-first (int_lt (first_instant b) (first_instant a)) h
idle-at true false (Some a) (Some b) h = some-first (int_lt (first_instant b) (first_instant a)) h
idle-at false true (Some a) (Some b) h = some-first (int_lt (first_instant b) (first_instant a)) h
idle-at false false (Some a) (Some b) h = some-first (int_lt (first_instant b) (first_instant a)) h
