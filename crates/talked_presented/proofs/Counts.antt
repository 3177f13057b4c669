-- How many items are presented and flagged, if exactly the packets of a list are presented.
use Rattle.std.proofs.Common.{◌≡◌, ℕ, Bool, List, [], ◌∷◌, length, refl, arith}
use Rattle.std.specs.Prelude.{cond, count_by}
use Rattle.std.proofs.lemmas.List.Sums.{sum_by-cons}
use Rattle.sample_schedule.specs.declared.shown.Shown.{Shown}
use Rattle.sample_schedule.specs.declared.shown.Shown.TheVariants.{Present, Flag}
use Rattle.packet_journal.specs.Packets.{PacketJournal}
use Rattle.listener.specs.Heard.{is_flag, is_present}
use Rattle.talked_presented.specs.Whole.{ArePresented}

pub count_presented : (by : Bool) (p : PacketJournal) (packets : List ℕ) (list : List Shown) → ArePresented by p packets list → count_by is_present list ≡ length packets
count_presented by p [] [] are = refl
count_presented by p [] (s ∷ rest) are = absurd are
count_presented by p (n ∷ packets) [] are = absurd are
count_presented by p (n ∷ packets) (Present batch ∷ rest) are = omega (arith, sum_by-cons (λ (s : Shown). cond (is_present s) 1 0) (Present batch) rest, count_presented by p packets rest are.1)
count_presented by p (n ∷ packets) (Flag frame seq reason ∷ rest) are = absurd are

pub count_flagged : (by : Bool) (p : PacketJournal) (packets : List ℕ) (list : List Shown) → ArePresented by p packets list → count_by is_flag list ≡ 0
count_flagged by p [] [] are = refl
count_flagged by p [] (s ∷ rest) are = absurd are
count_flagged by p (n ∷ packets) [] are = absurd are
count_flagged by p (n ∷ packets) (Present batch ∷ rest) are = omega (arith, sum_by-cons (λ (s : Shown). cond (is_flag s) 1 0) (Present batch) rest, count_flagged by p packets rest are.1)
count_flagged by p (n ∷ packets) (Flag frame seq reason ∷ rest) are = absurd are
