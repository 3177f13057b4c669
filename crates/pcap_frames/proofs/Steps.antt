-- How a reader takes bytes, step by step.
use Rattle.std.proofs.Common.{◌≡◌, ℕ, ◌+◌, ◌-◌, ◌<◌, false, cond, List, [], ◌++◌, length, take, drop, Option, Some, None, IsSome, Result, Ok, Err, refl, sym, ap, subst, ◌∙◌, arith, is_none, inl, inr, append_assoc, length-append}
use Rattle.std.specs.Prelude.{◌≤◌, IfSome, option_to_list}
use Rattle.std.proofs.lemmas.List.{append-nil, take_all, take-append-drop, length-drop}
use Rattle.std.proofs.Math.Seq.{take-add}
use Rattle.avtp_base.specs.declared.refusal.Refusal.{Refusal}
use Rattle.pcap_frames.specs.declared.style.Style.{Style}
use Rattle.pcap_frames.specs.Layout.{style_at, file_refusal, record_refusal}
use Rattle.pcap_frames.specs.Capture.{Record, style_of}
use Rattle.pcap_frames.specs.Readers.{Meaning, Progress, GoesOn, Feeds, Releases}
use Rattle.pcap_frames.specs.state.Readers.{Steps, Advances, IsSure}
use Rattle.pcap_frames.specs.Reading.{Reading, HasRead, IsReading}
use Rattle.pcap_frames.proofs.Append.{file_stays, record_stays, style_at_stays}
use Rattle.pcap_frames.proofs.Fields.{file_whole, file_style, file_header_is, record_begins, header_begins}

abbrev pub reading : Option Refusal → Option Style → ℕ → List ℕ → Reading
reading refusal style start part = record { style = style; start = start; part = part; refusal = refusal }

-- if bytes have a style, nothing in their file header is refused
style_by : (x : Option Refusal) (style : Option Style) (s : Style) → cond (is_none x) style None ≡ Some s → (x ≡ None) × (style ≡ Some s)
style_by None style s e = (refl, e)
style_by (Some r) style s e = absurd (cc)

pub style_stays : (bytes more : List ℕ) (s : Style) → style_of bytes ≡ Some s → style_of (bytes ++ more) ≡ Some s
style_stays bytes more s e =
    let both = style_by (file_refusal bytes) (style_at bytes) s e in
    let long = file_whole bytes both.0 in
    rw (file_stays bytes more None both.0 refl, style_at_stays bytes more (omega arith)) both.1

pub header_goes_on : (refusal : Option Refusal) (style : Option Style) (start : ℕ) (part more bytes : List ℕ) (records : List Record) (why : Refusal)
    → refusal ≡ None → style ≡ None → file_refusal (part ++ more) ≡ Some why → IsReading refusal style start (part ++ more)
    → HasRead (reading refusal style start part) bytes records → HasRead (reading refusal style start (part ++ more)) (bytes ++ more) records
header_goes_on refusal style start part more bytes records why ref sty e keeps h =
    let s = rw (ref, sty) at h.stands in
    record { style = rw (sty, s.1, e) refl; stands = rw (ref, sty) (s.0, ap (λ (b : List ℕ). b ++ more) s.1); reading = keeps }

pub header_ends : (refusal : Option Refusal) (old style : Option Style) (start : ℕ) (part more next bytes : List ℕ) (records : List Record)
    → refusal ≡ None → old ≡ None → file_refusal (part ++ more) ≡ None → length (part ++ more) ≡ 24 → style ≡ style_at (part ++ more) → next ≡ []
    → HasRead (reading refusal old start part) bytes records → HasRead (reading refusal style 24 next) (bytes ++ more) records
header_ends (Some r) old style start part more next bytes records ref sty e size is none h = absurd (cc)
header_ends None (Some s) style start part more next bytes records ref sty e size is none h = absurd (cc)
header_ends None None None start part more next bytes records ref sty e size is none h =
    let some = file_style (part ++ more) e in
    absurd (cc)
header_ends None None (Some s) start part more next bytes records ref sty e size is none h =
    let whole : bytes ++ more ≡ part ++ more = ap (λ (b : List ℕ). b ++ more) h.stands.1 in
    record {
      style = rw (whole, e) is;
      stands = record {
        front = part ++ more;
        whole = rw (none, whole) (sym (append-nil (part ++ more)));
        capture = record {
          header = part ++ more;
          body = [];
          whole = sym (append-nil (part ++ more));
          is_header = file_header_is (part ++ more) s e size (sym is);
          spelled = rw h.stands.0 refl;
        };
        begins = size;
      };
      reading = record_begins s.order 24 next none;
    }

pub header_refuses : (refusal : Option Refusal) (style : Option Style) (start : ℕ) (part more rest bytes : List ℕ) (records : List Record) (why : Refusal) (left : List ℕ)
    → refusal ≡ None → style ≡ None → file_refusal (part ++ more) ≡ Some why → why.short ≡ false
    → HasRead (reading refusal style start part) bytes records → HasRead (reading (Some why) style start left) (bytes ++ (more ++ rest)) records
header_refuses refusal style start part more rest bytes records why left ref sty e long h =
    let s = rw (ref, sty) at h.stands in
    let whole : bytes ++ (more ++ rest) ≡ (part ++ more) ++ rest = ap (λ (b : List ℕ). b ++ (more ++ rest)) s.1 ∙ sym (append_assoc part more rest) in
    let stays : file_refusal (bytes ++ (more ++ rest)) ≡ Some why = rw whole (file_stays (part ++ more) rest (Some why) e long) in
    record { style = rw (sty, stays) refl; stands = inl (s.0, stays); reading = long }

pub record_goes_on : (refusal : Option Refusal) (style : Option Style) (s : Style) (start : ℕ) (part more bytes : List ℕ) (records : List Record)
    → refusal ≡ None → style ≡ Some s → IsReading refusal style start (part ++ more)
    → HasRead (reading refusal style start part) bytes records → HasRead (reading refusal style start (part ++ more)) (bytes ++ more) records
record_goes_on refusal style s start part more bytes records ref sty keeps h =
    let f = rw (ref, sty) at h.stands in
    record {
      style = sty ∙ sym (style_stays bytes more s (sym h.style ∙ sty));
      stands = rw (ref, sty) (record { front = f.front; whole = ap (λ (b : List ℕ). b ++ more) f.whole ∙ append_assoc f.front part more; capture = f.capture; begins = f.begins });
      reading = keeps;
    }

pub record_refuses : (refusal : Option Refusal) (style : Option Style) (s : Style) (start : ℕ) (part more rest bytes : List ℕ) (records : List Record) (why : Refusal) (left : List ℕ)
    → refusal ≡ None → style ≡ Some s → record_refusal s.order start (part ++ more) ≡ Some why → why.short ≡ false → 0 < length (part ++ more)
    → HasRead (reading refusal style start part) bytes records → HasRead (reading (Some why) style start left) (bytes ++ (more ++ rest)) records
record_refuses refusal style s start part more rest bytes records why left ref sty e long some h =
    let f = rw (ref, sty) at h.stands in
    let stays : record_refusal s.order start ((part ++ more) ++ rest) ≡ Some why = record_stays s.order start (part ++ more) rest (Some why) e long in
    record {
      style = sty ∙ sym (style_stays bytes (more ++ rest) s (sym h.style ∙ sty));
      stands = inr (record {
        style = s;
        front = f.front;
        rest = (part ++ more) ++ rest;
        whole = ap (λ (b : List ℕ). b ++ (more ++ rest)) f.whole ∙ (append_assoc f.front part (more ++ rest) ∙ ap (λ (b : List ℕ). f.front ++ b) (sym (append_assoc part more rest)));
        capture = f.capture;
        some = rw length-append (omega arith);
        refused = rw f.begins stays;
      });
      reading = long;
    }

rest_is : (n : ℕ) (piece : List ℕ) → take (length piece - n) (drop n piece) ≡ drop n piece
rest_is n piece = take_all (length piece - n) (drop n piece) (omega (arith, length-drop n piece))

pub rest_long : (n : ℕ) (piece : List ℕ) → length (take (length piece - n) (drop n piece)) ≡ length piece - n
rest_long n piece = ap length (rest_is n piece) ∙ length-drop n piece

-- taking n bytes of a piece and then m further bytes takes the first n + m bytes of the piece
pub two_steps : (bytes : List ℕ) (n m : ℕ) (piece : List ℕ) → (bytes ++ take n piece) ++ take m (take (length piece - n) (drop n piece)) ≡ bytes ++ take (n + m) piece
two_steps bytes n m piece =
    ap (λ (p : List ℕ). (bytes ++ take n piece) ++ take m p) (rest_is n piece)
    ∙ (append_assoc bytes (take n piece) (take m (drop n piece)) ∙ ap (λ (p : List ℕ). bytes ++ p) (sym (take-add n m piece)))

-- taking n bytes of a piece and then all other bytes takes the whole piece
pub all_steps : (bytes : List ℕ) (n : ℕ) (piece : List ℕ) → (bytes ++ take n piece) ++ take (length piece - n) (drop n piece) ≡ bytes ++ piece
all_steps bytes n piece =
    ap (λ (p : List ℕ). (bytes ++ take n piece) ++ p) (rest_is n piece)
    ∙ (append_assoc bytes (take n piece) (drop n piece) ∙ ap (λ (p : List ℕ). bytes ++ p) (take-append-drop n piece))

-- ---- steps in either layout

pub goes_on_twice : (a b c : Progress) (n m : ℕ) (piece : List ℕ) → GoesOn a (take n piece) b → GoesOn b (take m (take (length piece - n) (drop n piece))) c
    → GoesOn a (take (n + m) piece) c
goes_on_twice a b c n m piece first then bytes records h =
    subst (λ (p : List ℕ). c.has_read p records) (two_steps bytes n m piece) (then _ _ (first bytes records h))

pub goes_on_whole : (a b c : Progress) (n : ℕ) (piece : List ℕ) → GoesOn a (take n piece) b → GoesOn b (take (length piece - n) (drop n piece)) c → GoesOn a piece c
goes_on_whole a b c n piece first then bytes records h =
    subst (λ (p : List ℕ). c.has_read p records) (all_steps bytes n piece) (then _ _ (first bytes records h))

pub steps_none : (r : Progress) (piece : List ℕ) → r.refusal ≡ None → Steps r piece (Ok 0) r
steps_none r piece none = record {
  within = omega arith;
  counted = omega arith;
  bounded = omega arith;
  read = λ bytes records h. subst (λ (p : List ℕ). r.has_read p records) (sym (append-nil bytes)) h;
  accepted = none;
  refused = tt;
  stopped = tt;
}

-- if a step is followed by further steps in the rest of the piece, all of these together count as one step
pub steps_on : (a b c : Progress) (n m : ℕ) (piece : List ℕ) → Steps a piece (Ok n) b → Steps b (take (length piece - n) (drop n piece)) (Ok m) c
    → Steps a piece (Ok (n + m)) c
steps_on a b c n m piece first then = record {
  within = omega (arith, first.within, then.within, rest_long n piece);
  counted = omega (arith, first.counted, then.counted);
  bounded = omega (arith, first.counted, first.within, then.bounded, rest_long n piece);
  read = goes_on_twice a b c n m piece first.read then.read;
  accepted = then.accepted;
  refused = tt;
  stopped = tt;
}

pub steps_refused : (a b c : Progress) (n : ℕ) (piece : List ℕ) (why : Refusal) → Steps a piece (Ok n) b → Steps b (take (length piece - n) (drop n piece)) (Err why) c
    → Steps a piece (Err why) c
steps_refused a b c n piece why first then = record {
  within = tt;
  counted = tt;
  bounded = omega (arith, first.counted, first.within, then.bounded, rest_long n piece);
  read = tt;
  accepted = tt;
  refused = then.refused;
  stopped = goes_on_whole a b c n piece first.read then.stopped;
}

-- if the reader has a refusal after the piece, it returns this refusal
feeds_refused : (meaning : Meaning) (old new : Progress) (piece : List ℕ) (why : Refusal) → IfSome old.refusal (λ r. ◌≡◌ {A = Result ℕ Refusal} (Err why) (Err r)) → new.refusal ≡ Some why
    → GoesOn old piece new → new.taken ≤ old.taken + length piece → IsSure meaning new → Feeds meaning old piece (Err why) new
feeds_refused meaning old new piece why lasting is goes bounded sure = record {
  within = tt;
  nothing = tt;
  end = tt;
  read = tt;
  uncertain = tt;
  refused = λ bytes more records h. sure.refused why is _ more records (goes bytes records h);
  lasting = lasting;
  stays_refused = is;
  stays_accepted = tt;
  stopped = goes;
  taken = tt;
  bounded = bounded;
}

-- if a reader without a refusal advances in the piece, `Feeds` holds
pub feeds : (meaning : Meaning) (old new : Progress) (piece : List ℕ) (result : Result ℕ Refusal) → old.refusal ≡ None → Advances old piece result new → IsSure meaning new
    → Feeds meaning old piece result new
feeds meaning old new piece (Ok n) none fed sure = record {
  within = fed.steps.within;
  nothing = fed.nothing;
  end = fed.end;
  read = fed.steps.read;
  uncertain = λ bytes records h. sure.uncertain fed.steps.accepted _ records (fed.steps.read bytes records h);
  refused = tt;
  lasting = rw none tt;
  stays_refused = tt;
  stays_accepted = fed.steps.accepted;
  stopped = tt;
  taken = fed.steps.counted;
  bounded = fed.steps.bounded;
}
feeds meaning old new piece (Err why) none fed sure = feeds_refused meaning old new piece why (rw none tt) fed.steps.refused fed.steps.stopped fed.steps.bounded sure

-- a reader with a refusal returns the refusal again
pub feeds_again : (meaning : Meaning) (r : Progress) (piece : List ℕ) (why : Refusal) → r.refusal ≡ Some why → GoesOn r piece r → IsSure meaning r
    → Feeds meaning r piece (Err why) r
feeds_again meaning r piece why is goes sure = feeds_refused meaning r r piece why (rw is refl) is goes (omega arith) sure

pub none_some : {X : Type 0} (o : Option X) → o ≡ None → IsSome o → ⊥
none_some None none some = absurd cc
none_some (Some x) none some = absurd cc

-- if no record is held, releasing changes nothing
pub releases_none : (r : Progress) → r.held ≡ None → Releases r r
releases_none r none = record {
  given_up = λ bytes records h. subst (r.has_read bytes) (sym (ap (λ (x : Option Record). records ++ option_to_list x) none ∙ append-nil records)) h;
  free = none;
  counted = refl;
  refusal = refl;
}

-- a reader that has taken nothing has read no bytes
pub read_nothing : (part : List ℕ) → part ≡ [] → HasRead (reading None None 0 part) [] []
unfolding file_refusal
read_nothing part e = record { style = refl; stands = (refl, sym e); reading = header_begins part e }
