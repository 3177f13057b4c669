-- How a reader of captures in either layout takes bytes.
use Rattle.std.proofs.Common.{◌≡◌, ◌↔◌, ◌⊎◌, ℕ, ◌+◌, ◌≤◌, ◌<◌, Bool, true, false, nat_lt, if◌then◌else◌, List, [], ◌∷◌, ◌++◌, length, take, drop, Option, Some, None, Ok, Err, IsSome, refl, sym, ap, subst, ◌∙◌, arith, inl, inr, append_assoc, length-append, take-append-drop}
use Rattle.std.specs.Prelude.{Result, is_none, is_some, cond, option_to_list}
use Rattle.std.specs.Result.{result_err}
use Rattle.std.proofs.lemmas.Bool.{cases_lt, lt-ltb}
use Rattle.std.proofs.lemmas.List.{append-nil, length-take-le, take_all}
use Rattle.avtp_base.specs.declared.refusal.Refusal.{Refusal}
use Rattle.avtp_base.specs.declared.field.Field.TheVariants.{Magic}
use Rattle.pcap_frames.specs.declared.style.RecordView.{RecordView}
use Rattle.pcap_frames.specs.Layout.{file_refusal, style_at}
use Rattle.pcap_frames.specs.Capture.{Record}
use Rattle.pcap_frames.specs.Capture as captures
use Rattle.pcap_frames.specs.Readers as readers
use Rattle.pcap_frames.specs.Readers.{Ends, FindsNext, Views}
use Rattle.pcap_frames.specs.Reading as classic
use Rattle.pcap_frames.proofs.Ends.{gives_up}
use Rattle.pcap_frames.proofs.Fields.{file_whole}
use Rattle.pcap_frames.proofs.Filling.{styleless}
use Rattle.pcap_frames.proofs.Firsts.{records_first}
use Rattle.pcap_frames.proofs.Steps.{none_some, read_nothing as begun_classic, releases_none}
use Rattle.pcapng_blocks.specs.Blocks as ng
use Rattle.pcapng_frames.specs.Reading as reading
use Rattle.pcapng_frames.proofs.Moves.{read_nothing as begun_pcapng}
use Rattle.pcapng_blocks.proofs.Places.{size_some, unroll}
use Rattle.capture_io.specs.declared.capture_reader.Format.{Format}
use Rattle.capture_io.specs.declared.capture_reader.Format.TheVariants.{Classic, Pcapng}
use Rattle.capture_io.specs.Formats.{format_in, meaning_of, records_in, certain_in}
use Rattle.capture_io.specs.Reader.{CaptureReading, HasRead, StandsFor, held, held_by, progress_by}
use Rattle.capture_io.specs.state.Reader.{EndsHere, Feeds, GoesOn, IsFront, IsNext, IsNextBy, KeepsOther, RefusedAfter, Releases, nothing_read}
use Rattle.capture_io.proofs.Formats.{certain_by, format_longer, records_by, refusal_by, short_certain, short_records, short_refusal}

pub read_nothing : HasRead nothing_read [] []
read_nothing = record { stands = (refl, omega arith, refl); uncertain = λ none. short_certain [] (omega arith) }

-- ---- a record that is held

held_rest : (refusal : Option Refusal) (whole : Bool) (r : reading.Reading) (x : Record) (more : List ℕ) → reading.held_by refusal whole r.place.packet ≡ Some x
    → reading.rest_by refusal whole r more ≡ ng.and_then (Some x) (ng.contents_at (ng.after_trailer r.place) more)
held_rest (Some why) whole r x more e = absurd cc
held_rest None true r x more e = ap (λ (p : Option Record). ng.and_then p (ng.contents_at (ng.after_trailer r.place) more)) e
held_rest None false r x more e = absurd cc

if_none : (b : Bool) (x y : ng.Contents) → x.records ≡ [] → y.records ≡ [] → (if b then x else y).records ≡ []
if_none true x y e f = e
if_none false x y e f = f

cut_none : (x : Option Refusal) (b : Bool) (p : ng.Place) (bytes : List ℕ) (rest : ng.Contents) → b ≡ true → (ng.refused_or x (if b then ng.cut_short p bytes else rest)).records ≡ []
cut_none (Some why) b p bytes rest is = refl
cut_none None b p bytes rest is = rw is (if_none (ng.ends_at p.stage p.order p.start (length bytes)) (ng.ends None) (ng.ends (Some (ng.cut_by p.stage p bytes))) refl refl)

-- fewer than four bytes contain no whole packet
few_none : (bytes : List ℕ) → length bytes < 4 → (ng.contents bytes).records ≡ []
unfolding ng.contents
few_none bytes short =
    let p = ng.first_place in
    ap (λ (x : ng.Contents). x.records) (unroll p bytes)
    ∙ cut_none (ng.refusal_here p bytes) (nat_lt (length bytes) (ng.size_here p bytes)) p bytes _ (lt-ltb (length bytes) (ng.size_here p bytes) (omega (arith, size_some p bytes, short)))

no_cons : (xs : List Record) (x : Record) (ys : List Record) → xs ++ (x ∷ ys) ≡ [] → ⊥
no_cons [] x ys e = absurd cc
no_cons (z ∷ xs) x ys e = absurd cc

free_by : (r : reading.Reading) (h : Option Record) (bytes : List ℕ) (records : List Record) → reading.held r ≡ h → reading.HasRead r bytes records → length bytes < 4 → h ≡ None
free_by r None bytes records is read short = refl
free_by r (Some x) bytes records is read short =
    let all = read.read [] ∙ ap (reading.after_all records) (held_rest r.refusal r.whole r x [] is) in
    let none = few_none (bytes ++ []) (omega (arith, short, length-append bytes [])) in
    absurd (no_cons records x _ (sym (ap (λ (c : ng.Contents). c.records) all) ∙ none))

style_short : (bytes : List ℕ) (x : Option Refusal) → file_refusal bytes ≡ x → length bytes < 24 → cond (is_none x) (style_at bytes) None ≡ None
style_short bytes None e short = absurd (omega (arith, short, file_whole bytes e))
style_short bytes (Some why) e short = refl

-- a reader that has taken fewer than four bytes holds no record
free : (format : Format) (c : classic.Reading) (n : reading.Reading) (bytes : List ℕ) (records : List Record) → (progress_by format c n).has_read bytes records
    → length bytes < 4 → (progress_by format c n).held ≡ None
free Classic c n bytes records read short = styleless c.refusal c.style c.start c.part (read.style ∙ style_short bytes (file_refusal bytes) refl (omega (arith, short)))
free Pcapng c n bytes records read short = free_by n (reading.held n) bytes records refl read short

-- ---- the reader of one layout

begun : (format : Format) (c : classic.Reading) (n : reading.Reading) → c ≡ classic.nothing_read → n ≡ reading.nothing_read → (progress_by format c n).has_read [] []
begun Classic c n e g = subst (λ (r : classic.Reading). classic.HasRead r [] []) (sym e) (begun_classic [] refl)
begun Pcapng c n e g = begun_pcapng n g

none_taken : (format : Format) (c : classic.Reading) (n : reading.Reading) → c ≡ classic.nothing_read → n ≡ reading.nothing_read → (progress_by format c n).taken ≡ 0
none_taken Classic c n e g = ap classic.taken e
none_taken Pcapng c n e g = ap reading.taken g

-- ---- bytes that are held back

-- If `front` has four bytes and no record can be held before all four are taken, the reader took all four.
all_taken : (front : List ℕ) (k : ℕ) (h : Option Record) → length front ≡ 4 → k ≤ length front → (k < length front → IsSome h) → (length (take k front) < 4 → h ≡ None) → take k front ≡ front
all_taken front k h size within end free = elim (cases_lt k (length front)) [
  | inl less ↦ absurd (none_some h (free (omega (arith, size, less, length-take-le k front within))) (end less))
  | inr all ↦ take_all k front all
]

-- while fewer than four bytes have arrived, they are held back
front_on : (front front' more : List ℕ) (c : classic.Reading) (n : reading.Reading) → front' ≡ front ++ more → length front' < 4
    → GoesOn (record { format = None; front = front; classic = c; ng = n }) more (record { format = None; front = front'; classic = c; ng = n })
front_on front front' more c n is short bytes records h =
    let all : bytes ++ more ≡ front' = ap (λ (b : List ℕ). b ++ more) h.stands.0 ∙ sym is in
    let few : length (bytes ++ more) < 4 = omega (arith, short, ap length all) in
    record { stands = (all, few, h.stands.2); uncertain = λ none. short_certain (bytes ++ more) few }

-- if four bytes have arrived, the reader of their layout has taken all four
front_first : (format : Format) (front front' more : List ℕ) (c c' : classic.Reading) (n n' : reading.Reading) → front' ≡ front ++ more → length front' ≡ 4 → format_in front' ≡ format
    → (progress_by format c' n').has_read front' [] → (meaning_of format).certain front' ≡ None
    → GoesOn (record { format = None; front = front; classic = c; ng = n }) more (record { format = Some format; front = front'; classic = c'; ng = n' })
front_first format front front' more c c' n n' is size told read sure bytes records h =
    let all : front' ≡ bytes ++ more = is ∙ ap (λ (b : List ℕ). b ++ more) (sym h.stands.0) in
    let has = (progress_by format c' n').has_read in
    record {
      stands = (subst (λ (b : List ℕ). has b records) all (subst (has front') (sym h.stands.2) read), omega (arith, size, ap length all), ap format_in (sym all) ∙ told);
      uncertain = λ e. ap certain_in (sym all) ∙ (certain_by format front' told ∙ sure);
    }

-- ---- a refusal

refused_by : (format : Format) (bytes : List ℕ) (records : List Record) (why : Refusal) → format_in bytes ≡ format → readers.IsRefusedAfter (meaning_of format) bytes records why
    → RefusedAfter bytes records why
refused_by format bytes records why told r = record { all = records_by format bytes told ∙ r.all; certain = certain_by format bytes told ∙ r.certain }

-- ---- feeding

not_zero : (n : ℕ) (piece : List ℕ) (h : Option Record) → ((n ≡ 0) ↔ ((length piece ≡ 0) ⊎ IsSome h)) → 0 < length piece → h ≡ None → 0 < n
not_zero n piece h nothing more free = elim (cases_lt 0 n) [
  | inl some ↦ some
  | inr none ↦ elim (nothing.0 (omega (arith, none))) [
    | inl empty ↦ absurd (omega (arith, empty, more))
    | inr held ↦ absurd (none_some h free held)
  ]
]

pub format_feeds : (format : Format) (front : List ℕ) (c c' : classic.Reading) (n n' : reading.Reading) (piece : List ℕ) (result : Result ℕ Refusal)
    → readers.Feeds (meaning_of format) (progress_by format c n) piece result (progress_by format c' n')
    → Feeds (record { format = Some format; front = front; classic = c; ng = n }) piece result (record { format = Some format; front = front; classic = c'; ng = n' })
format_feeds format front c c' n n' piece (Ok k) fed = record {
  within = fed.within;
  some = not_zero k piece (progress_by format c n).held fed.nothing;
  counted = fed.taken;
  bounded = fed.bounded;
  read = λ bytes records h.
      let told = format_longer bytes (take k piece) h.stands.1 ∙ h.stands.2 in
      record {
        stands = (fed.read bytes records h.stands.0, omega (arith, h.stands.1, length-append bytes (take k piece)), told);
        uncertain = λ e. certain_by format (bytes ++ take k piece) told ∙ fed.uncertain bytes records h.stands.0;
      };
  accepted = fed.stays_accepted;
  refused = tt;
}
format_feeds format front c c' n n' piece (Err why) fed = record {
  within = tt;
  some = tt;
  counted = tt;
  bounded = fed.bounded;
  read = tt;
  accepted = tt;
  refused = λ bytes more records h.
      let told = format_longer (bytes ++ piece) more (omega (arith, h.stands.1, length-append bytes piece)) ∙ (format_longer bytes piece h.stands.1 ∙ h.stands.2) in
      refused_by format ((bytes ++ piece) ++ more) records why told (fed.refused bytes more records h.stands.0);
}

pub longer : (front front' piece : List ℕ) (k : ℕ) → k ≤ length piece → front' ≡ front ++ take k piece → length front' ≡ length front + k
longer front front' piece k within is = ap length is ∙ (length-append front (take k piece) ∙ ap (λ (m : ℕ). length front + m) (length-take-le k piece within))

-- if fewer than four bytes have arrived, feeding holds them back
pub front_feeds : (front front' piece : List ℕ) (c : classic.Reading) (n : reading.Reading) (k : ℕ) → k ≤ length piece → (0 < length piece → 0 < k) → front' ≡ front ++ take k piece → length front' < 4
    → Feeds (record { format = None; front = front; classic = c; ng = n }) piece (Ok k) (record { format = None; front = front'; classic = c; ng = n })
front_feeds front front' piece c n k within some is short =
    let size = longer front front' piece k within is in
    record {
      within = within;
      some = λ more free. some more;
      counted = size;
      bounded = omega (arith, size, within);
      read = front_on front front' (take k piece) c n is short;
      accepted = refl;
      refused = tt;
    }

-- if four bytes have arrived, feeding hands them to the reader of their layout
pub front_handed : (format : Format) (front front' piece : List ℕ) (c c' : classic.Reading) (n n' : reading.Reading) (k j : ℕ) → k ≤ length piece → (0 < length piece → 0 < k) → front' ≡ front ++ take k piece → length front' ≡ 4
    → format_in front' ≡ format → c ≡ classic.nothing_read → n ≡ reading.nothing_read → readers.Feeds (meaning_of format) (progress_by format c n) front' (Ok j) (progress_by format c' n')
    → Feeds (record { format = None; front = front; classic = c; ng = n }) piece (Ok k) (record { format = Some format; front = front'; classic = c'; ng = n' })
front_handed format front front' piece c c' n n' k j within some is size told unused unused' fed =
    let added = longer front front' piece k within is in
    let before = begun format c n unused unused' in
    let after = fed.read [] [] before in
    let all = all_taken front' j (progress_by format c' n').held size fed.within fed.end (λ short. free format c' n' (take j front') [] after short) in
    let whole : length (take j front') ≡ j = length-take-le j front' fed.within in
    let now : (progress_by format c' n').taken ≡ length front + k = omega (arith, fed.taken, none_taken format c n unused unused', whole, ap length all, added) in
    record {
      within = within;
      some = λ more free. some more;
      counted = now;
      bounded = omega (arith, now, within);
      read = front_first format front front' (take k piece) c c' n n' is size told (subst (λ (b : List ℕ). (progress_by format c' n').has_read b []) all after)
          (ap (meaning_of format).certain (sym all) ∙ fed.uncertain [] [] before);
      accepted = fed.stays_accepted;
      refused = tt;
    }

joins : (front front' bytes piece more : List ℕ) (k : ℕ) → bytes ≡ front → front' ≡ front ++ take k piece → front' ++ (drop k piece ++ more) ≡ (bytes ++ piece) ++ more
joins front front' bytes piece more k same is =
    ap (λ (b : List ℕ). b ++ (drop k piece ++ more)) is
    ∙ (append_assoc front (take k piece) (drop k piece ++ more)
    ∙ (ap (λ (b : List ℕ). front ++ b) (sym (append_assoc (take k piece) (drop k piece) more) ∙ ap (λ (b : List ℕ). b ++ more) (take-append-drop k piece))
    ∙ (sym (append_assoc front piece more) ∙ ap (λ (b : List ℕ). (b ++ piece) ++ more) (sym same))))

-- If four bytes have arrived and the reader of their layout refuses them, feeding refuses them.
pub front_rejected : (format : Format) (front front' piece : List ℕ) (c c' : classic.Reading) (n n' : reading.Reading) (k : ℕ) (why : Refusal) → k ≤ length piece → front' ≡ front ++ take k piece → length front' ≡ 4
    → format_in front' ≡ format → c ≡ classic.nothing_read → n ≡ reading.nothing_read → readers.Feeds (meaning_of format) (progress_by format c n) front' (Err why) (progress_by format c' n')
    → Feeds (record { format = None; front = front; classic = c; ng = n }) piece (Err why) (record { format = Some format; front = front'; classic = c'; ng = n' })
front_rejected format front front' piece c c' n n' k why within is size told unused unused' fed = record {
  within = tt;
  some = tt;
  counted = tt;
  bounded = omega (arith, fed.bounded, none_taken format c n unused unused', longer front front' piece k within is, within);
  read = tt;
  accepted = tt;
  refused = λ bytes more records h.
      let rest : List ℕ = drop k piece ++ more in
      let here = refused_by format (front' ++ rest) [] why (format_longer front' rest (omega (arith, size)) ∙ told) (fed.refused [] rest [] (begun format c n unused unused')) in
      subst (λ (b : List ℕ). RefusedAfter b records why) (joins front front' bytes piece more k h.stands.0 is) (subst (λ (rs : List Record). RefusedAfter (front' ++ rest) rs why) (sym h.stands.2) here);
}

pub feeds_as : (f f' g g' : Option Format) (front front' : List ℕ) (c c' : classic.Reading) (n n' : reading.Reading) (old : CaptureReading) (piece : List ℕ) (result : Result ℕ Refusal) → f ≡ g → f' ≡ g' → record { format = f; front = front; classic = c; ng = n } ≡ old
    → Feeds (record { format = g; front = front; classic = c; ng = n }) piece result (record { format = g'; front = front'; classic = c'; ng = n' }) → Feeds old piece result (record { format = f'; front = front'; classic = c'; ng = n' })
feeds_as f f' g g' front front' c c' n n' old piece result e e' is fed =
    subst (λ (r : CaptureReading). Feeds r piece result (record { format = f'; front = front'; classic = c'; ng = n' })) is
    (subst (λ (h : Option Format). Feeds (record { format = h; front = front; classic = c; ng = n }) piece result (record { format = f'; front = front'; classic = c'; ng = n' })) (sym e)
    (subst (λ (h : Option Format). Feeds (record { format = g; front = front; classic = c; ng = n }) piece result (record { format = h; front = front'; classic = c'; ng = n' })) (sym e') fed))

-- ---- the reader of a layout that the capture does not have

pub front_kept : (format : Format) (front : List ℕ) (c c' : classic.Reading) (n n' : reading.Reading) → c ≡ classic.nothing_read → n ≡ reading.nothing_read → KeepsOther format c c' n n'
    → IsFront (Some format) front c' n'
front_kept Classic front c c' n n' e g kept = kept ∙ g
front_kept Pcapng front c c' n n' e g kept = kept ∙ e

pub front_still : (format : Format) (front : List ℕ) (c c' : classic.Reading) (n n' : reading.Reading) → IsFront (Some format) front c n → KeepsOther format c c' n n' → IsFront (Some format) front c' n'
front_still Classic front c c' n n' unused kept = kept ∙ unused
front_still Pcapng front c c' n n' unused kept = kept ∙ unused

abbrev pub capture : Option Format → List ℕ → classic.Reading → reading.Reading → CaptureReading
capture format front c n = record { format = format; front = front; classic = c; ng = n }

-- if the reader of classic captures holds a record, the reader of captures holds the same record
pub held_classic : (format : Option Format) (front : List ℕ) (c : classic.Reading) (n : reading.Reading) → IsFront format front c n → IsSome (classic.held c) → classic.held c ≡ held (capture format front c n)
held_classic None front c n unused some = absurd (none_some (classic.held c) (ap classic.held unused.1) some)
held_classic (Some Classic) front c n unused some = refl
held_classic (Some Pcapng) front c n unused some = absurd (none_some (classic.held c) (ap classic.held unused) some)

-- if the reader of classic captures holds no record, the reader of captures holds what the pcapng reader holds
pub held_pcapng : (format : Option Format) (front : List ℕ) (c : classic.Reading) (n : reading.Reading) → IsFront format front c n → classic.held c ≡ None → reading.held n ≡ held (capture format front c n)
held_pcapng None front c n unused none = ap reading.held unused.2
held_pcapng (Some Classic) front c n unused none = ap reading.held unused ∙ sym none
held_pcapng (Some Pcapng) front c n unused none = refl

pub views_some : (h : Option Record) (view : RecordView) → Views h (Some view) → IsSome h
views_some None view v = absurd (let no = v.exact in cc)
views_some (Some r) view v = refl

pub finds_next : (format : Option Format) (r : CaptureReading) (piece : List ℕ) (result : Option ℕ) → r.format ≡ format → FindsNext (IsNextBy format r) piece result → FindsNext (IsNext r) piece result
finds_next format r piece result is finds = subst (λ (f : Option Format). FindsNext (IsNextBy f r) piece result) (sym is) finds

-- ---- releasing

pub format_releases : (format : Format) (front : List ℕ) (c c' : classic.Reading) (n n' : reading.Reading) → readers.Releases (progress_by format c n) (progress_by format c' n')
    → Releases (capture (Some format) front c n) (capture (Some format) front c' n')
format_releases format front c c' n n' gone = record {
  given_up = λ bytes records h. record { stands = (gone.given_up bytes records h.stands.0, h.stands.1, h.stands.2); uncertain = λ none. h.uncertain (sym gone.refusal ∙ none) };
  free = gone.free;
  counted = gone.counted;
  refusal = gone.refusal;
}

pub still : {R : Type 0} (old new : R) (answer : Bool) (h : Option Record) → answer ≡ is_some h → (answer ≡ false → new ≡ old) → h ≡ None → new ≡ old
still old new answer h is same none = same (is ∙ ap is_some none)

-- if the readers of both layouts release what they hold, the reader of captures releases its held record
pub both_release : (format : Option Format) (front : List ℕ) (c c' : classic.Reading) (n n' : reading.Reading) → IsFront format front c n → readers.Releases (classic.progress c) (classic.progress c')
    → readers.Releases (reading.progress n) (reading.progress n') → (classic.held c ≡ None → c' ≡ c) → (reading.held n ≡ None → n' ≡ n) → Releases (capture format front c n) (capture format front c' n')
both_release None front c c' n n' unused first second same same' =
    subst (λ (r : classic.Reading). Releases (capture None front c n) (capture None front r n')) (sym (same (ap classic.held unused.1)))
    (subst (λ (r : reading.Reading). Releases (capture None front c n) (capture None front c r)) (sym (same' (ap reading.held unused.2))) (releases_none _ refl))
both_release (Some Classic) front c c' n n' unused first second same same' = format_releases Classic front c c' n n' first
both_release (Some Pcapng) front c c' n n' unused first second same same' = format_releases Pcapng front c c' n n' second

pub both_kept : (format : Option Format) (front : List ℕ) (c c' : classic.Reading) (n n' : reading.Reading) → IsFront format front c n → (classic.held c ≡ None → c' ≡ c) → (reading.held n ≡ None → n' ≡ n)
    → IsFront format front c' n'
both_kept None front c c' n n' unused same same' = (unused.0, same (ap classic.held unused.1) ∙ unused.1, same' (ap reading.held unused.2) ∙ unused.2)
both_kept (Some Classic) front c c' n n' unused same same' = same' (ap reading.held unused) ∙ unused
both_kept (Some Pcapng) front c c' n n' unused same same' = same (ap classic.held unused) ∙ unused

-- ---- the end

pub front_ends : (front : List ℕ) (c : classic.Reading) (n : reading.Reading) (bytes : List ℕ) (records : List Record) → HasRead (record { format = None; front = front; classic = c; ng = n }) bytes records
    → EndsHere (record { format = None; front = front; classic = c; ng = n }) bytes records (Some (record { field = Magic; at = 0; short = true }))
front_ends front c n bytes records h = record {
  all = short_records bytes h.stands.1 ∙ sym (append-nil records ∙ h.stands.2);
  first = sym (short_refusal bytes h.stands.1);
}

pub format_ends : (format : Format) (front : List ℕ) (c : classic.Reading) (n : reading.Reading) (bytes : List ℕ) (records : List Record) (result : Result Unit Refusal) → Ends (meaning_of format) (progress_by format c n) result
    → HasRead (record { format = Some format; front = front; classic = c; ng = n }) bytes records → EndsHere (record { format = Some format; front = front; classic = c; ng = n }) bytes records (result_err result)
format_ends format front c n bytes records result ends h = record {
  all = records_by format bytes h.stands.2 ∙ sym (ends.records bytes records h.stands.0);
  first = ends.refusal bytes records h.stands.0 ∙ sym (refusal_by format bytes h.stands.2);
}

pub ends_as : (f g : Option Format) (front : List ℕ) (c : classic.Reading) (n : reading.Reading) (r : CaptureReading) (bytes : List ℕ) (records : List Record) (x : Option Refusal) → f ≡ g → record { format = f; front = front; classic = c; ng = n } ≡ r
    → (HasRead (record { format = g; front = front; classic = c; ng = n }) bytes records → EndsHere (record { format = g; front = front; classic = c; ng = n }) bytes records x) → HasRead r bytes records → EndsHere r bytes records x
ends_as f g front c n r bytes records x e is ends =
    subst (λ (s : CaptureReading). HasRead s bytes records → EndsHere s bytes records x) is (subst (λ (h : Option Format). HasRead (record { format = h; front = front; classic = c; ng = n }) bytes records → EndsHere (record { format = h; front = front; classic = c; ng = n }) bytes records x) (sym e) ends)

-- ---- the released records and the held record

-- the released records and the held record are the first records of the capture, whatever bytes follow
classic_begun : (r : classic.Reading) (h : Option Record) (bytes more : List ℕ) (before : List Record) → classic.held r ≡ h → classic.HasRead r bytes before
    → (others : List Record) × (captures.whole_records (bytes ++ more) ≡ (before ++ option_to_list h) ++ others)
classic_begun r None bytes more before is read =
    let first = records_first r bytes more before read in
    (first.0, first.1 ∙ ap (λ (rs : List Record). rs ++ first.0) (sym (append-nil before)))
classic_begun r (Some x) bytes more before is read =
    let first = records_first _ bytes more _ (gives_up r.refusal r.style r.start r.part [] bytes before (ap is_some is) refl read) in
    (first.0, first.1 ∙ ap (λ (h : Option Record). (before ++ option_to_list h) ++ first.0) is)

pcapng_begun : (r : reading.Reading) (h : Option Record) (bytes more : List ℕ) (before : List Record) → reading.held r ≡ h → reading.HasRead r bytes before
    → (others : List Record) × (ng.whole_records (bytes ++ more) ≡ (before ++ option_to_list h) ++ others)
unfolding ng.whole_records
pcapng_begun r None bytes more before is read =
    let rest = (reading.rest_of r more).records in
    (rest, ap (λ (c : ng.Contents). c.records) (read.read more) ∙ ap (λ (rs : List Record). rs ++ rest) (sym (append-nil before)))
pcapng_begun r (Some x) bytes more before is read =
    let rest = (ng.contents_at (ng.after_trailer r.place) more).records in
    (rest, ap (λ (c : ng.Contents). c.records) (read.read more ∙ ap (reading.after_all before) (held_rest r.refusal r.whole r x more is)) ∙ sym (append_assoc before (x ∷ []) rest))

format_begun : (format : Format) (c : classic.Reading) (n : reading.Reading) (bytes more : List ℕ) (before : List Record) → (progress_by format c n).has_read bytes before
    → (others : List Record) × ((meaning_of format).records (bytes ++ more) ≡ (before ++ option_to_list (progress_by format c n).held) ++ others)
format_begun Classic c n bytes more before read = classic_begun c (classic.held c) bytes more before refl read
format_begun Pcapng c n bytes more before read = pcapng_begun n (reading.held n) bytes more before refl read

begun_by : (format : Option Format) (r : CaptureReading) (bytes more : List ℕ) (before : List Record) → StandsFor format r bytes before
    → (others : List Record) × (records_in (bytes ++ more) ≡ (before ++ option_to_list (held_by format r)) ++ others)
begun_by None r bytes more before stands = (records_in (bytes ++ more), ap (λ (rs : List Record). (rs ++ []) ++ records_in (bytes ++ more)) (sym stands.2))
begun_by (Some format) r bytes more before stands =
    let first = format_begun format r.classic r.ng bytes more before stands.0 in
    (first.0, records_by format (bytes ++ more) (format_longer bytes more stands.1 ∙ stands.2) ∙ first.1)

pub first_held : (r : CaptureReading) (bytes more : List ℕ) (before : List Record) → HasRead r bytes before → (others : List Record) × (records_in (bytes ++ more) ≡ (before ++ option_to_list (held r)) ++ others)
first_held r bytes more before h = begun_by r.format r bytes more before h.stands
