-- What two successive calls do to the bytes that an object shows, and to the bytes that a buffer still holds for the
-- object.
use Rattle.std.proofs.Common.{◌≡◌, ℕ, List, [], ◌++◌, Option, None, Some, refl, sym, ap, ◌∙◌, append_assoc, append-nil}
use Rattle.avtp_base.specs.Told.{Keeps, Appends, append_known}

pub Keeps-refl : (a : Option (List ℕ)) → Keeps a a
Keeps-refl None = tt
Keeps-refl (Some x) = refl

pub Appends-nil : (a : Option (List ℕ)) → Appends a a []
Appends-nil None = tt
Appends-nil (Some x) = sym (append-nil x)

pub Appends-trans : (a b c : Option (List ℕ)) (bs cs : List ℕ) → Appends a b bs → Appends b c cs → Appends a c (bs ++ cs)
Appends-trans None None None bs cs p q = tt
Appends-trans None None (Some z) bs cs p q = absurd q
Appends-trans None (Some y) c bs cs p q = absurd p
Appends-trans (Some x) b None bs cs p q = tt
Appends-trans (Some x) None (Some z) bs cs p q = absurd q
Appends-trans (Some x) (Some y) (Some z) bs cs p q = q ∙ ap (λ l. l ++ cs) p ∙ append_assoc x bs cs

pub Appends-kept : (a b c : Option (List ℕ)) (bs : List ℕ) → Appends a b bs → Keeps b c → Appends a c bs
Appends-kept None None None bs p q = tt
Appends-kept None None (Some z) bs p q = absurd q
Appends-kept None (Some y) c bs p q = absurd p
Appends-kept (Some x) b None bs p q = tt
Appends-kept (Some x) None (Some z) bs p q = absurd q
Appends-kept (Some x) (Some y) (Some z) bs p q = q ∙ p

pub Keeps-appends : (a b c : Option (List ℕ)) (bs : List ℕ) → Keeps a b → Appends b c bs → Appends a c bs
Keeps-appends None None None bs p q = tt
Keeps-appends None None (Some z) bs p q = absurd q
Keeps-appends None (Some y) c bs p q = absurd p
Keeps-appends (Some x) b None bs p q = tt
Keeps-appends (Some x) None (Some z) bs p q = absurd q
Keeps-appends (Some x) (Some y) (Some z) bs p q = q ∙ ap (λ l. l ++ bs) p

-- if the bytes are unchanged, nothing was appended
pub Keeps-none : (a b : Option (List ℕ)) → Keeps a b → Appends a b []
Keeps-none a b p = Keeps-appends a b b [] p (Appends-nil b)

-- ---- a buffer of bytes to be written

-- if `front` moves from the buffer to the writer, the written bytes followed by the buffered bytes are the same as
-- before
pub append_known-moved : (a b : Option (List ℕ)) (front rest all : List ℕ) → Appends a b front → all ≡ front ++ rest → Keeps (append_known a all) (append_known b rest)
append_known-moved None None front rest all p e = tt
append_known-moved None (Some y) front rest all p e = absurd p
append_known-moved (Some x) None front rest all p e = tt
append_known-moved (Some x) (Some y) front rest all p e = ap (λ l. l ++ rest) p ∙ append_assoc x front rest ∙ ap (λ l. x ++ l) (sym e)
