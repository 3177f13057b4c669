-- How the reading of a file ends.
use Rattle.std.proofs.Common.{◌≡◌, ℕ, ◌+◌, ◌-◌, ◌≤◌, ◌<◌, List, ◌++◌, length, take, Option, Some, None, refl, sym, ap, subst, ◌∙◌, arith, inl, inr}
use Rattle.std.proofs.lemmas.Bool.{cases_lt, le-leb, lt-leb}
use Rattle.std.proofs.lemmas.List.{take_all}
use Rattle.std.proofs.Math.Seq.{take-append-add}
use Rattle.avtp_base.specs.declared.failed.FaultPlace.{FaultPlace}
use Rattle.avtp_base.specs.declared.refusal.Refusal.{Refusal}
use Rattle.pcap_frames.specs.Capture.{Record}
use Rattle.capture_io.specs.declared.end.End.{End}
use Rattle.capture_io.specs.declared.end.End.TheVariants as end
use Rattle.capture_io.specs.Ends.{EndsAt, at_end, at_limit, end_of}
use Rattle.capture_io.specs.Formats.{refusal_in, certain_in}
use Rattle.capture_io.specs.Source.{EndsAfter}
use Rattle.capture_io.proofs.Formats.{certain_first}

pub at_end_is : (limit : ℕ) (bytes : List ℕ) → length bytes ≤ limit → end_of limit bytes ≡ at_end (refusal_in bytes)
unfolding end_of
at_end_is limit bytes fits = rw (le-leb (length bytes) limit fits) refl

pub at_limit_is : (limit : ℕ) (bytes : List ℕ) → limit < length bytes → end_of limit bytes ≡ at_limit (certain_in (take limit bytes))
unfolding end_of
at_limit_is limit bytes more = rw (lt-leb (length bytes) limit more) refl

-- `EndsAt` still holds if `fault` is replaced by a statement that follows from `fault`
pub ends_weaker : (limit : ℕ) (told : Option (List ℕ)) (fault fault' : FaultPlace → Type 0) (how : End) (prefix : List ℕ) → ((place : FaultPlace) → fault place → fault' place) → EndsAt limit told fault how prefix → EndsAt limit told fault' how prefix
ends_weaker limit None fault fault' how prefix make ends = ends
ends_weaker limit (Some bytes) fault fault' end.Whole prefix make ends = ends
ends_weaker limit (Some bytes) fault fault' (end.Refused r) prefix make ends = ends
ends_weaker limit (Some bytes) fault fault' end.ReadFault prefix make ends = (ends.0, ends.1, make _ ends.2, ends.3, ends.4)
ends_weaker limit (Some bytes) fault fault' end.Limit prefix make ends = ends

pub after_weaker : (limit : ℕ) (bytes : List ℕ) (fault fault' : FaultPlace → Type 0) (how : End) (records : List Record) → ((place : FaultPlace) → fault place → fault' place) → EndsAfter limit bytes fault how records → EndsAfter limit bytes fault' how records
after_weaker limit bytes fault fault' how records make ends =
    record { prefix = ends.prefix; ends = ends_weaker limit (Some bytes) fault fault' how ends.prefix make ends.ends; whole = ends.whole }

pub ends_by : (x : Option Refusal) (limit : ℕ) (bytes prefix : List ℕ) (fault : FaultPlace → Type 0) → at_end x ≡ end_of limit bytes → prefix ≡ take limit bytes → EndsAt limit (Some bytes) fault (at_end x) prefix
ends_by None limit bytes prefix fault e f = (e, f)
ends_by (Some r) limit bytes prefix fault e f = (e, f)

-- if the whole file was read and is within the limit, its reading ends as `at_end` says
pub ends_whole : (limit : ℕ) (bytes prefix : List ℕ) (fault : FaultPlace → Type 0) (how : End) → bytes ≡ prefix → length prefix ≤ limit → how ≡ at_end (refusal_in prefix) → EndsAt limit (Some bytes) fault how prefix
ends_whole limit bytes prefix fault how all fits is =
    let chosen : at_end (refusal_in prefix) ≡ end_of limit bytes = sym (at_end_is limit prefix fits) ∙ ap (end_of limit) (sym all) in
    let whole : prefix ≡ take limit bytes = sym (take_all limit prefix fits) ∙ ap (take limit) (sym all) in
    subst (λ h. EndsAt limit (Some bytes) fault h prefix) (sym is) (ends_by (refusal_in prefix) limit bytes prefix fault chosen whole)

-- if the bytes up to the limit show a refusal that no later bytes can change, the reading ends at that refusal
pub ends_refused : (limit : ℕ) (bytes : List ℕ) (fault : FaultPlace → Type 0) (r : Refusal) → certain_in (take limit bytes) ≡ Some r → EndsAt limit (Some bytes) fault (end.Refused r) (take limit bytes)
ends_refused limit bytes fault r is =
    elim (cases_lt limit (length bytes)) [
      | inl more ↦ (sym (at_limit_is limit bytes more ∙ ap at_limit is), refl)
      | inr fits ↦ (sym (at_end_is limit bytes fits ∙ ap at_end (certain_first bytes r (subst (λ b. certain_in b ≡ Some r) (take_all limit bytes fits) is))), refl)
    ]

-- if a file is longer than the limit and nothing before the limit is refused, the reading ends at the limit
pub ends_limit : (limit : ℕ) (bytes prefix : List ℕ) (fault : FaultPlace → Type 0) → limit < length bytes → take limit bytes ≡ prefix → certain_in prefix ≡ None → EndsAt limit (Some bytes) fault end.Limit prefix
ends_limit limit bytes prefix fault more is none = (sym (at_limit_is limit bytes more ∙ ap (λ b. at_limit (certain_in b)) is ∙ ap at_limit none), sym is)

pub limited : (bytes prefix rest : List ℕ) (limit : ℕ) → bytes ≡ prefix ++ rest → length prefix ≤ limit → prefix ++ take (limit - length prefix) rest ≡ take limit bytes
limited bytes prefix rest limit split fits =
    let sum : length prefix + (limit - length prefix) ≡ limit = omega arith in
    sym (take-append-add prefix rest (limit - length prefix)) ∙ ap (λ n. take n (prefix ++ rest)) sum ∙ ap (take limit) (sym split)

-- ---- without a fault of reading

ends_limited : (x : Option Refusal) (limit : ℕ) (bytes : List ℕ) (fault : FaultPlace → Type 0) → at_limit x ≡ end_of limit bytes → EndsAt limit (Some bytes) fault (at_limit x) (take limit bytes)
ends_limited None limit bytes fault e = (e, refl)
ends_limited (Some r) limit bytes fault e = (e, refl)

-- if no read fails, the reading ends as `end_of` says
pub ends_here : (limit : ℕ) (bytes : List ℕ) (fault : FaultPlace → Type 0) → EndsAt limit (Some bytes) fault (end_of limit bytes) (take limit bytes)
ends_here limit bytes fault =
    elim (cases_lt limit (length bytes)) [
      | inl more ↦
          let is = at_limit_is limit bytes more in
          subst (λ h. EndsAt limit (Some bytes) fault h (take limit bytes)) (sym is) (ends_limited (certain_in (take limit bytes)) limit bytes fault (sym is))
      | inr fits ↦
          let is = at_end_is limit bytes fits in
          subst (λ h. EndsAt limit (Some bytes) fault h (take limit bytes)) (sym is) (ends_by (refusal_in bytes) limit bytes (take limit bytes) fault (sym is) refl)
    ]
