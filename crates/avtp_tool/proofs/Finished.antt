-- What the sink holds after the pending text was written.
use Rattle.std.proofs.Common.{◌≡◌, ℕ, List, [], Option, Some, None, refl, ap, subst, ◌++◌, sym, ◌∙◌, append_assoc, ◌≤◌, Result, Ok, Err, arith}
use Rattle.std.proofs.lemmas.List.{append-nil, append_cancel_left}
use Rattle.std.specs.Prelude.{IsErr}
use Rattle.avtp_text.specs.Written.{written, AppendsPrefix, Grows}
use Rattle.avtp_base.specs.Told.{Appends, Keeps}
use Rattle.avtp_base.proofs.Told.{Appends-kept}
use Rattle.avtp_base.specs.declared.failed.Failed.{Failed}
use Rattle.avtp_base.specs.Faults.{IsCounted, Rose}
use Rattle.run_report.specs.declared.status.Status.{Status}

written_none : (held : Option (List ℕ)) → written held [] ≡ held
written_none None = refl
written_none (Some xs) = ap (λ t. Some t) (append-nil xs)

-- If no text was pending before the call and no text is pending after the call, the sink got the whole text.
pub flushed : (old mid new : Option (List ℕ)) (start last text : List ℕ) → start ≡ [] → last ≡ [] → Appends (written old start) mid text → Keeps mid (written new last) → Appends old new text
flushed old mid new start last text none ended appends keeps =
    let whole = Appends-kept (written old start) mid (written new last) text appends keeps in
    let from = subst (λ s. Appends (written old s) (written new last) text) none whole in
    let to = subst (λ l. Appends (written old []) (written new l) text) ended from in
    subst (λ h. Appends h new text) (written_none old) (subst (λ h. Appends (written old []) h text) (written_none new) to)

prefix_of : (old mid new : Option (List ℕ)) (waits text prefix rest more : List ℕ) → text ≡ prefix ++ rest → Appends (written old []) mid prefix → Keeps mid (written new waits) → Appends old new more → AppendsPrefix old new text
prefix_of None mid None waits text prefix rest more split appends keeps grew = record { prefix = []; rest = text; split = refl; appends = tt }
prefix_of None mid (Some ys) waits text prefix rest more split appends keeps grew = absurd grew
prefix_of (Some xs) mid None waits text prefix rest more split appends keeps grew = record { prefix = []; rest = text; split = refl; appends = tt }
prefix_of (Some xs) None (Some ys) waits text prefix rest more split appends keeps grew = absurd keeps
prefix_of (Some xs) (Some ms) (Some ys) waits text prefix rest more split appends keeps grew =
    let written : ys ++ waits ≡ xs ++ prefix = keeps ∙ (appends ∙ ap (λ b. b ++ prefix) (append-nil xs)) in
    let gained : more ++ waits ≡ prefix =
    append_cancel_left xs (more ++ waits) prefix (sym (append_assoc xs more waits) ∙ (ap (λ b. b ++ waits) (sym grew) ∙ written)) in
    record {
      prefix = more;
      rest = waits ++ rest;
      split = split ∙ (ap (λ b. b ++ rest) (sym gained) ∙ append_assoc more waits rest);
      appends = grew;
    }

-- If no text was pending before the call, the sink got a prefix of the text.
pub gains_prefix : (old mid new : Option (List ℕ)) (start waits text : List ℕ) → start ≡ [] → AppendsPrefix (written old start) mid text → Keeps mid (written new waits) → Grows old new → AppendsPrefix old new text
gains_prefix old mid new start waits text none p keeps grows =
    prefix_of old mid new waits text p.prefix p.rest grows.more p.split (subst (λ s. Appends (written old s) mid p.prefix) none p.appends) keeps grows.appends

pub rose_later : (before mid after : ℕ) (r : Result Status Failed) → IsErr r → IsCounted before mid r → mid ≤ after → Rose before after
rose_later before mid after (Ok s) err counted more = absurd cc
rose_later before mid after (Err f) err counted more = omega (arith, counted.failed)
