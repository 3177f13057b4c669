-- Four packets of H.264 that keep the rules.
use Rattle.std.proofs.Common.{◌≡◌, ◌⊎◌, inl, inr, ◌↔◌, ℕ, suc, Bool, true, false, Some, None, is_some, refl, subst, arith}
use Rattle.std.specs.Prelude.{◌==◌, if◌then◌else◌}
use Rattle.stream_journal.specs.Journal.{Part, First, Middle, Last}
use Rattle.stream_journal.specs.Conforming.{Begins, Conforms, Ends, IsVideo}
use Rattle.stream_journal.specs.Examples.{video, video_part}
use Rattle.stream_journal.proofs.Worked.{no_clock-is}
use Rattle.stream_journal.proofs.Restarted.{Each, each_below}

no_end : (part : Part) → (part ≡ First) ⊎ (part ≡ Middle) → ¬ Ends part
no_end part (inl e) (inl f) = cc
no_end part (inl e) (inr f) = cc
no_end part (inr e) (inl f) = cc
no_end part (inr e) (inr f) = cc

no_start : (part : Part) → (part ≡ Last) ⊎ (part ≡ Middle) → ¬ Begins part
no_start part (inl e) (inl f) = cc
no_start part (inl e) (inr f) = cc
no_start part (inr e) (inl f) = cc
no_start part (inr e) (inr f) = cc

abbrev StampsEnd : ℕ → Type 0
StampsEnd n = (is_some (video.stamp n) ≡ true) ↔ Ends (video_part n)

each_stamp : Each StampsEnd 4
each_stamp = (
  (
    (
      (
        tt,
        ((λ e. inl refl), (λ e. refl)),
      ),
      ((λ e. absurd cc), (λ e. absurd (no_end First (inl refl) e))),
    ),
    ((λ e. absurd cc), (λ e. absurd (no_end Middle (inr refl) e))),
  ),
  ((λ e. inr refl), (λ e. refl)),
)

abbrev IsBeside : ℕ → Type 0
IsBeside n = Ends (video_part n) ↔ Begins (video_part (suc n))

each_beside : Each IsBeside 3
each_beside = (
  (
    (
      tt,
      ((λ e. inr refl), (λ e. inl refl)),
    ),
    ((λ e. absurd (no_end First (inl refl) e)), (λ e. absurd (no_start Middle (inr refl) e))),
  ),
  ((λ e. absurd (no_end Middle (inr refl) e)), (λ e. absurd (no_start Last (inl refl) e))),
)

abbrev IsOfUnit : ℕ → Type 0
IsOfUnit n = ¬ Ends (video_part n) → video.due (suc n) ≡ video.due n

each_unit : Each IsOfUnit 3
each_unit = (((tt, (λ e. absurd (e (inl refl)))), (λ e. refl)), (λ e. refl))

last_of : (n : ℕ) → 4 ≡ suc n → Ends (video_part n)
last_of n e = let three : 3 ≡ n = omega arith in subst (λ (m : ℕ). Ends (video_part m)) three (inr refl)

stamp_due : (n instant : ℕ) → video.stamp n ≡ Some instant → instant ≡ video.due n
stamp_due n instant e = by (n == 0) (n == 3) e
  where
    by : (a b : Bool) → (if a then Some 1002000000 else if b then Some 1035333333 else None) ≡ Some instant → instant ≡ (if a then 1002000000 else 1035333333)
    by true b e = cc
    by false true e = cc
    by false false e = absurd cc

is_video : IsVideo video video_part
is_video = record {
  stamps = inr (λ n h. each_below StampsEnd 4 each_stamp n h);
  one_instant = λ n i h e. stamp_due n i e;
  first = λ h. inl refl;
  last = last_of;
  beside = λ n h. each_below IsBeside 3 each_beside n (omega arith);
  unit = λ n h e. each_below IsOfUnit 3 each_unit n (omega arith) e;
  few = λ n m h e. omega arith;
}

pub conforms : Conforms video
conforms = record {
  kind = is_video;
  holds = λ n k e h g. refl;
  clock = no_clock-is;
}
