-- What holds for each place of a rack after items were given, one after another.
use Rattle.std.proofs.Common.{◌≡◌, ◌≢◌, ℕ, zero, suc, ◌-◌, ◌==◌, ◌<◌, ◌≤◌, ◌⊎◌, ◌↔◌, Bool, true, false, cond, not, inl, inr, List, [], ◌∷◌, ◌++◌, length, get_or, Any, Contains, MatchBool, Option, None, Some, IfSome, refl, sym, ap, subst, ◌∙◌, arith, append_assoc, append-nil, true≢false, ne_eqb}
use Rattle.std.specs.Global.{Global}
use Rattle.std.specs.List.{AllZip}
use Rattle.std.specs.declared.dyn_box.DynBox.{DynBox}
use Rattle.avtp_base.specs.Faults.{Rose}
use Rattle.sample_schedule.specs.declared.shown.Shown.{Shown}
use Rattle.device_rack.specs.Devices.{later}
use Rattle.device_rack.specs.Handed.{AreHanded, HandsAll, WasHandedAll}
use Rattle.device_rack.specs.Racks.{IsHanded, WasHanded}
use Rattle.device_rack.specs.declared.place.Place.{Place}

-- ---- list elements that satisfy `P`

module _ {X : Type 0} (P : X → Type 0) where
  any_here : (x : X) (xs : List X) → P x → Any P (x ∷ xs)
  any_here x xs p = (0, x, omega arith, refl, p)

  any_there : (x : X) (xs : List X) → Any P xs → Any P (x ∷ xs)
  any_there x xs a = (suc a.0, a.1, omega (arith, a.2), a.3, a.4)

  any_cases : (x : X) (xs : List X) → Any P (x ∷ xs) → P x ⊎ Any P xs
  any_cases x xs a = by a.0 a.1 a.2 a.3 a.4
    where
      by : (k : ℕ) (y : X) → k < length (x ∷ xs) → get_or (x ∷ xs) k y ≡ y → P y → P x ⊎ Any P xs
      by zero y below is p = inl (subst P (sym is) p)
      by (suc k) y below is p = inr (k, y, omega (arith, below), is, p)

-- the number of a call is from 1 to n
abbrev IsWithin : ℕ → ℕ → Type 0
IsWithin n k = (1 ≤ k) × (k ≤ n)

contains_first : (n : ℕ) (ks : List ℕ) → Contains ks 1 → Any (IsWithin (suc n)) ks
contains_first n ks c = (c.0, 1, c.1, c.2, (omega arith, omega arith))

none_within : (ks : List ℕ) → ¬ Any (IsWithin 0) ks
none_within ks a = omega (arith, a.4.0, a.4.1)

later_within : (n : ℕ) (ks : List ℕ) → Any (IsWithin n) (later 1 ks) → Any (IsWithin (suc n)) ks
later_within n [] a = absurd (omega (arith, a.2))
later_within n (k ∷ ks) a = either (k - 1 == 0) (later_within n ks) a
  where
    either : (b : Bool) → (Any (IsWithin n) (later 1 ks) → Any (IsWithin (suc n)) ks) → Any (IsWithin n) (cond (not b) ((k - 1) ∷ later 1 ks) (later 1 ks)) → Any (IsWithin (suc n)) (k ∷ ks)
    either true others rest = any_there (IsWithin (suc n)) k ks (others rest)
    either false others all =
        elim (any_cases (IsWithin n) (k - 1) (later 1 ks) all) [
          | inl here ↦ any_here (IsWithin (suc n)) k ks (omega (arith, here.0), omega (arith, here.0, here.1))
          | inr rest ↦ any_there (IsWithin (suc n)) k ks (others rest)
        ]

within_later : (n : ℕ) (ks : List ℕ) → ¬ Contains ks 1 → Any (IsWithin (suc n)) ks → Any (IsWithin n) (later 1 ks)
within_later n [] none a = absurd (omega (arith, a.2))
within_later n (k ∷ ks) none a =
    elim (any_cases (IsWithin (suc n)) k ks a) [
      | inl here ↦ first here.0 here.1
      | inr rest ↦ behind (k - 1 == 0) (within_later n ks (λ c. none (suc c.0, omega (arith, c.1), c.2)) rest)
    ]
  where
    behind : (b : Bool) → Any (IsWithin n) (later 1 ks) → Any (IsWithin n) (cond (not b) ((k - 1) ∷ later 1 ks) (later 1 ks))
    behind true rest = rest
    behind false rest = any_there (IsWithin n) (k - 1) (later 1 ks) rest

    first : 1 ≤ k → k ≤ suc n → Any (IsWithin n) (cond (not (k - 1 == 0)) ((k - 1) ∷ later 1 ks) (later 1 ks))
    first low high =
        let other : k ≢ 1 = λ e. none (0, omega arith, e) in
        let later_still : (k - 1 == 0) ≡ false = ne_eqb (k - 1) 0 (λ e. other (omega (arith, e, low))) in
        rw later_still (any_here (IsWithin n) (k - 1) (later 1 ks) (above other low, omega (arith, high)))
      where
        above : k ≢ 1 → 1 ≤ k → 1 ≤ k - 1
        above other low = omega (arith, other, low)

-- ---- a device

module _ {Device : Type 0} (took : Device → List Shown → Type 0) (faults : Device → ℕ) (failing : Device → Option (List ℕ)) where
  -- giving no item changes nothing
  none_handed : (device : Device) → WasHandedAll took faults failing [] device device true
  none_handed device = record {
    takes = λ live earlier t. subst (took device) (sym (append-nil earlier)) t;
    quiet = λ live. refl;
    stops = λ live. absurd (true≢false live);
    counts = λ live. absurd (true≢false live);
    told = by (failing device);
  }
    where
      by : (o : Option (List ℕ)) → IfSome o (λ numbers. true ≡ false ↔ Any (IsWithin 0) numbers)
      by None = tt
      by (Some numbers) = (λ live. absurd (true≢false live), λ a. absurd (none_within numbers a))

  -- if a device does not take the first item, it is given no later item
  turned : (shown : Shown) (items : List Shown) (before after : Device) → WasHanded took faults failing shown before after false → WasHandedAll took faults failing (shown ∷ items) before after false
  turned shown items before after was = record {
    takes = λ live. absurd (true≢false (sym live));
    quiet = λ live. absurd (true≢false (sym live));
    stops = λ live. ([], shown ∷ items, refl, omega arith, λ earlier t. subst (took after) (sym (append-nil earlier)) (was.refuses refl earlier t));
    counts = was.counts;
    told = by (failing before) was.told;
  }
    where
      by : (o : Option (List ℕ)) → IfSome o (λ numbers. (false ≡ false ↔ Contains numbers 1) × (failing after ≡ Some (later 1 numbers)))
          → IfSome o (λ numbers. false ≡ false ↔ Any (IsWithin (suc (length items))) numbers)
      by None told = tt
      by (Some numbers) told = (λ live. contains_first (length items) numbers (told.0.0 refl), λ a. refl)

  -- if a device takes the first item, it is given the later items
  went_on : (shown : Shown) (items : List Shown) (before between after : Device) (live : Bool)
      → WasHanded took faults failing shown before between true → WasHandedAll took faults failing items between after live → WasHandedAll took faults failing (shown ∷ items) before after live
  went_on shown items before between after live was all = record {
    takes = λ lives earlier t. subst (took after) (append_assoc earlier (shown ∷ []) items) (all.takes lives (earlier ++ shown ∷ []) (was.takes refl earlier t));
    quiet = λ lives. all.quiet lives ∙ was.quiet refl;
    stops = λ failed.
        let part = all.stops failed in (
          shown ∷ part.0,
          part.1,
          ap (λ (xs : List Shown). shown ∷ xs) part.2,
          part.3,
          λ earlier t. subst (took after) (append_assoc earlier (shown ∷ []) part.0) (part.4 (earlier ++ shown ∷ []) (was.takes refl earlier t)),
        );
    counts = λ failed. subst (λ (n : ℕ). Rose n (faults after)) (was.quiet refl) (all.counts failed);
    told = by (failing before) (failing between) was.told all.told;
  }
    where
      by : (o p : Option (List ℕ)) → IfSome o (λ numbers. (true ≡ false ↔ Contains numbers 1) × (p ≡ Some (later 1 numbers)))
          → IfSome p (λ numbers. live ≡ false ↔ Any (IsWithin (length items)) numbers) → IfSome o (λ numbers. live ≡ false ↔ Any (IsWithin (suc (length items))) numbers)
      by None p first rest = tt
      by (Some numbers) p first rest =
          let others : live ≡ false ↔ Any (IsWithin (length items)) (later 1 numbers) =
          subst (λ (q : Option (List ℕ)). IfSome q (λ numbers. live ≡ false ↔ Any (IsWithin (length items)) numbers)) first.1 rest in (
            λ failed. later_within (length items) numbers (others.0 failed),
            λ a. others.1 (within_later (length items) numbers (λ c. true≢false (first.0.1 c)) a),
          )

-- ---- lists side by side

all_same : {X : Type 0} (R : X → X → Type 0) → ((x : X) → R x x) → (xs : List X) → AllZip R xs xs
all_same R same [] = tt
all_same R same (x ∷ xs) = (same x, all_same R same xs)

all_join : {X : Type 0} (R S T : X → X → Type 0) → ((x y z : X) → R x y → S y z → T x z) → (xs ys zs : List X) → AllZip R xs ys → AllZip S ys zs → AllZip T xs zs
all_join R S T join [] [] [] r s = tt
all_join R S T join [] [] (z ∷ zs) r s = absurd s
all_join R S T join [] (y ∷ ys) zs r s = absurd r
all_join R S T join (x ∷ xs) [] zs r s = absurd r
all_join R S T join (x ∷ xs) (y ∷ ys) [] r s = absurd s
all_join R S T join (x ∷ xs) (y ∷ ys) (z ∷ zs) r s = (join x y z r.0 s.0, all_join R S T join xs ys zs r.1 s.1)

-- ---- places

module _ {Kind : Type 0} {Value : Kind → Type 0} (took : DynBox Kind Global Value → List Shown → Type 0) (faults : DynBox Kind Global Value → ℕ) (failing : DynBox Kind Global Value → Option (List ℕ)) where
  place_same : (place : Place Kind Value) → AreHanded took faults failing [] place place
  place_same place = by place.live refl
    where
      by : (live : Bool) → place.live ≡ live → MatchBool live (WasHandedAll took faults failing [] place.device place.device place.live) (place ≡ place)
      by true is = subst (WasHandedAll took faults failing [] place.device place.device) (sym is) (none_handed took faults failing place.device)
      by false is = refl

  place_next : (shown : Shown) (items : List Shown) (x y z : Place Kind Value) → IsHanded took faults failing shown x y → AreHanded took faults failing items y z → AreHanded took faults failing (shown ∷ items) x z
  place_next shown items x y z first rest = by x.live refl y.live refl first rest
    where
      by : (was : Bool) → x.live ≡ was → (is : Bool) → y.live ≡ is
          → MatchBool was (WasHanded took faults failing shown x.device y.device y.live) (y ≡ x)
          → MatchBool is (WasHandedAll took faults failing items y.device z.device z.live) (z ≡ y)
          → MatchBool was (WasHandedAll took faults failing (shown ∷ items) x.device z.device z.live) (z ≡ x)
      by true was true is first rest = went_on took faults failing shown items x.device y.device z.device z.live (subst (WasHanded took faults failing shown x.device y.device) is first) rest
      by true was false is first rest =
          subst (λ (place : Place Kind Value). WasHandedAll took faults failing (shown ∷ items) x.device place.device place.live) (sym rest)
          (subst (WasHandedAll took faults failing (shown ∷ items) x.device y.device) (sym is)
          (turned took faults failing shown items x.device y.device (subst (WasHanded took faults failing shown x.device y.device) is first)))
      by false was true is first rest = absurd (true≢false (sym is ∙ ap (λ (place : Place Kind Value). place.live) first ∙ was))
      by false was false is first rest = rest ∙ first

  pub hands_one : (shown : Shown) (before after : List (Place Kind Value)) → AllZip (IsHanded took faults failing shown) before after → HandsAll took faults failing (shown ∷ []) before after
  unfolding HandsAll
  hands_one shown before after handed = (after, handed, refl)

  pub hands_join : (xs ys : List Shown) (a b c : List (Place Kind Value)) → HandsAll took faults failing xs a b → HandsAll took faults failing ys b c → HandsAll took faults failing (xs ++ ys) a c
  unfolding HandsAll
  hands_join [] ys a b c first rest = subst (λ (places : List (Place Kind Value)). HandsAll took faults failing ys places c) first rest
  hands_join (x ∷ xs) ys a b c first rest = (first.0, first.1, hands_join xs ys first.0 b c first.2 rest)

  pub hands_each : (items : List Shown) (before after : List (Place Kind Value)) → HandsAll took faults failing items before after → AllZip (AreHanded took faults failing items) before after
  unfolding HandsAll
  hands_each [] before after handed =
      subst (AllZip (AreHanded took faults failing []) before) (sym handed) (all_same (AreHanded took faults failing []) place_same before)
  hands_each (shown ∷ items) before after handed =
      all_join (IsHanded took faults failing shown) (AreHanded took faults failing items) (AreHanded took faults failing (shown ∷ items)) (place_next shown items)
      before handed.0 after handed.1 (hands_each items handed.0 after handed.2)
