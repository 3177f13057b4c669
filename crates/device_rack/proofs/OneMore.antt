-- A device was given items, and is given one more item.
use Rattle.std.proofs.Common.{◌≡◌, ℕ, Bool, true, false, List, [], ◌∷◌, ◌++◌, MatchBool, Option, None, Some, refl, sym, ap, subst, ◌∙◌, arith, append_assoc, length-append, true≢false}
use Rattle.avtp_base.specs.Faults.{Rose}
use Rattle.sample_schedule.specs.declared.shown.Shown.{Shown}
use Rattle.device_rack.specs.Handed.{WasHandedAll}
use Rattle.device_rack.specs.Outlets.{AreHandedTo, Both, IsHandedTo}
use Rattle.device_rack.specs.Racks.{WasHanded}
use Rattle.device_rack.specs.declared.outlet.Outlet.{Outlet}

-- a device that does not report its failing calls
module _ {D : Type 0} (took : D → List Shown → Type 0) (faults : D → ℕ) where
  taken_more : (items : List Shown) (shown : Shown) (a b c : D) (live : Bool) → WasHandedAll took faults (λ d. None) items a b true → WasHanded took faults (λ d. None) shown b c live
      → WasHandedAll took faults (λ d. None) (items ++ shown ∷ []) a c live
  taken_more items shown a b c live all one = record {
    takes = λ is earlier t. subst (took c) (append_assoc earlier items (shown ∷ [])) (one.takes is (earlier ++ items) (all.takes refl earlier t));
    quiet = λ is. one.quiet is ∙ all.quiet refl;
    stops = λ is. (items, shown ∷ [], refl, omega arith, λ earlier t. one.refuses is (earlier ++ items) (all.takes refl earlier t));
    counts = λ is. subst (λ (n : ℕ). Rose n (faults c)) (all.quiet refl) (one.counts is);
    told = tt;
  }

  stopped_before : (items : List Shown) (shown : Shown) (a b : D) → WasHandedAll took faults (λ d. None) items a b false → WasHandedAll took faults (λ d. None) (items ++ shown ∷ []) a b false
  stopped_before items shown a b all = record {
    takes = λ live. absurd (true≢false (sym live));
    quiet = λ live. absurd (true≢false (sym live));
    stops = λ is.
        let part = all.stops refl in (
          part.0,
          part.1 ++ shown ∷ [],
          ap (λ (xs : List Shown). xs ++ shown ∷ []) part.2 ∙ append_assoc part.0 part.1 (shown ∷ []),
          rw (length-append part.1 (shown ∷ [])) (omega arith),
          part.4,
        );
    counts = all.counts;
    told = tt;
  }

  outlet_more : (items : List Shown) (shown : Shown) (x y z : Outlet D) → AreHandedTo took faults (λ d. None) items x y → IsHandedTo took faults (λ d. None) shown y z → AreHandedTo took faults (λ d. None) (items ++ shown ∷ []) x z
  outlet_more items shown x y z all one = by x.live refl y.live refl all one
    where
      by : (was : Bool) → x.live ≡ was → (is : Bool) → y.live ≡ is
          → MatchBool was (WasHandedAll took faults (λ d. None) items x.device y.device y.live) (y ≡ x)
          → MatchBool is (WasHanded took faults (λ d. None) shown y.device z.device z.live) (z ≡ y)
          → MatchBool was (WasHandedAll took faults (λ d. None) (items ++ shown ∷ []) x.device z.device z.live) (z ≡ x)
      by true was true is all one = taken_more items shown x.device y.device z.device z.live (subst (WasHandedAll took faults (λ d. None) items x.device y.device) is all) one
      by true was false is all one =
          subst (λ (o : Outlet D). WasHandedAll took faults (λ d. None) (items ++ shown ∷ []) x.device o.device o.live) (sym one)
          (subst (WasHandedAll took faults (λ d. None) (items ++ shown ∷ []) x.device y.device) (sym is)
          (stopped_before items shown x.device y.device (subst (WasHandedAll took faults (λ d. None) items x.device y.device) is all)))
      by false was true is all one = absurd (true≢false (sym is ∙ ap (λ (o : Outlet D). o.live) all ∙ was))
      by false was false is all one = one ∙ all

  pub both_more : (items : List Shown) (shown : Shown) (x y z : Option (Outlet D)) → Both (AreHandedTo took faults (λ d. None) items) x y → Both (IsHandedTo took faults (λ d. None) shown) y z
      → Both (AreHandedTo took faults (λ d. None) (items ++ shown ∷ [])) x z
  both_more items shown None None None all one = tt
  both_more items shown None None (Some z) all one = absurd one
  both_more items shown None (Some y) z all one = absurd all
  both_more items shown (Some x) None z all one = absurd all
  both_more items shown (Some x) (Some y) None all one = absurd one
  both_more items shown (Some x) (Some y) (Some z) all one = outlet_more items shown x y z all one
