-- What is printed of the records of a capture, in order.
use Rattle.std.proofs.Common.{◌≡◌, List, [], refl, ◌∷◌, ◌++◌, sym, ap, ◌∙◌, append_assoc, append-nil, ℕ, Option, take, subst}
use Rattle.pcap_frames.specs.Capture.{Record}
use Rattle.avtp_base.specs.Told.{Appends, Keeps}
use Rattle.avtp_base.proofs.Told.{Appends-kept}
use Rattle.avtp_text.specs.Written.{AppendsPrefix}
use Rattle.avtp_text.proofs.Printing.{prefix_whole, prefix_before}
use Rattle.capture_io.specs.Formats.{records_in}
use Rattle.capture_io.specs.Source.{HasGiven, Sourcing}
use Rattle.capture_io.proofs.Giving.{given_first}
use Rattle.run_report.specs.Lines.{after, of_each}

pub each_none : {A : Type 0} (one : List Record → Record → List A) → of_each one [] ≡ []
unfolding after
each_none one = refl

after_more : {A : Type 0} (one : List Record → Record → List A) (earlier records : List Record) (r : Record) → after one earlier (records ++ r ∷ []) ≡ after one earlier records ++ one (earlier ++ records) r
unfolding after
after_more one earlier [] r = append-nil (one earlier r) ∙ ap (λ (rs : List Record). one rs r) (sym (append-nil earlier))
after_more one earlier (x ∷ records) r =
    ap (λ rest. one earlier x ++ rest) (after_more one (earlier ++ x ∷ []) records r ∙ ap (λ (rs : List Record). after one (earlier ++ x ∷ []) records ++ one rs r) (append_assoc earlier (x ∷ []) records))
    ∙ sym (append_assoc (one earlier x) (after one (earlier ++ x ∷ []) records) (one (earlier ++ x ∷ records) r))

pub each_more : {A : Type 0} (one : List Record → Record → List A) (records : List Record) (r : Record) → of_each one (records ++ r ∷ []) ≡ of_each one records ++ one records r
each_more one records r = after_more one [] records r

after_first : {A : Type 0} (one : List Record → Record → List A) (earlier records others : List Record) → (rest : List A) × (after one earlier (records ++ others) ≡ after one earlier records ++ rest)
unfolding after
after_first one earlier [] others = (after one earlier others, refl)
after_first one earlier (r ∷ records) others =
    let more = after_first one (earlier ++ r ∷ []) records others in
    (more.0, ap (λ rest. one earlier r ++ rest) more.1 ∙ sym (append_assoc (one earlier r) (after one (earlier ++ r ∷ []) records) more.0))

-- what is printed of the first records is a prefix of what is printed of all records
pub each_first : {A : Type 0} (one : List Record → Record → List A) (records others : List Record) → (rest : List A) × (of_each one (records ++ others) ≡ of_each one records ++ rest)
each_first one records others = after_first one [] records others

pub prefix_kept : (before mid now : Option (List ℕ)) (text : List ℕ) → Appends before mid text → Keeps mid now → AppendsPrefix before now text
prefix_kept before mid now text appends keeps = prefix_whole before now text (Appends-kept before mid now text appends keeps)

-- the text of the first records is a prefix of the text of all records
pub some_first : {limit : ℕ} {bytes : List ℕ} {remains : Option (List ℕ)} {source : Sourcing} {before now : Option (List ℕ)} {records : List Record} (text : List Record → List ℕ)
    → ((first others : List Record) → (rest : List ℕ) × (text (first ++ others) ≡ text first ++ rest)) → HasGiven limit bytes remains source records → AppendsPrefix before now (text records) → AppendsPrefix before now (text (records_in (take limit bytes)))
some_first {limit} {bytes} {remains} {source} {before} {now} {records} text longer given prefix =
    let first = given_first limit bytes remains source records given in
    let after = longer records first.0 in
    subst (AppendsPrefix before now) (sym (ap text first.1 ∙ after.1)) (prefix_before before now (text records) after.0 prefix)
