-- A record that is lent: it is shown in the piece, and is not copied into the reader.
use Rattle.std.proofs.Common.{◌≡◌, ℕ, ◌+◌, ◌*◌, ◌≤◌, ◌<◌, List, ◌++◌, length, take, drop, Option, Some, None, Ok, IsSome, refl, sym, ap, subst, ◌∙◌, arith, append_assoc, length-append, take-append-drop}
use Rattle.std.specs.Prelude.{true, false, is_some, IfSome, option_to_list}
use Rattle.std.proofs.lemmas.List.{append-nil, length-drop, length-take-le}
use Rattle.avtp_base.specs.States.{ShelfState}
use Rattle.pcap_frames.specs.Capture.{Record}
use Rattle.pcap_frames.specs.Readers as readers
use Rattle.pcap_frames.specs.Reading as classic
use Rattle.pcap_frames.proofs.Lent.{next_feeds as classic_feeds, next_long as classic_long, next_releases as classic_releases}
use Rattle.pcap_frames.specs.declared.style.RecordView.{RecordView}
use Rattle.pcap_frames.specs.Readers.{IsView}
use Rattle.pcapng_frames.specs.Reading as ng
use Rattle.pcapng_frames.proofs.Lent.{next_feeds as ng_feeds, next_held as ng_held, next_releases as ng_releases}
use Rattle.capture_io.specs.declared.capture_reader.Format.{Format}
use Rattle.capture_io.specs.declared.capture_reader.Format.TheVariants.{Classic, Pcapng}
use Rattle.capture_io.specs.declared.end.End.{End}
use Rattle.capture_io.specs.Ends.{CountsFault}
use Rattle.capture_io.specs.Pieces.{Piecing}
use Rattle.capture_io.specs.Reader.{CaptureReading, held, held_by, progress_by}
use Rattle.capture_io.specs.state.Reader.{Feeds, IsFront, IsNext, IsNextBy, KeepsOther, Releases, taken, with_by, with_record}
use Rattle.capture_io.specs.Reads.{ReadsSlot}
use Rattle.capture_io.specs.Source.{Sourcing, Advances, GivesNext, HasFed, HasGivenOf, held_in, remains_of, slot_of, to_do}
use Rattle.capture_io.specs.state.Source.{GivesUp, LiesAhead, ReadsOn, holding, lending}
use Rattle.capture_io.proofs.Giving.{gives_next, if_some, released}
use Rattle.capture_io.proofs.Leaving.{reads_nothing}
use Rattle.capture_io.proofs.Reader.{capture, feeds_as, format_feeds, format_releases, front_still}

-- ---- the reader

-- taking the next record as a whole has the effect of feeding the record's bytes
feeds_by : (format : Option Format) (r : CaptureReading) (piece : List ℕ) (size : ℕ) → r.format ≡ format → size ≤ length piece → IsNextBy format r (take size piece) → Feeds r piece (Ok size) (with_by format r (take size piece))
feeds_by None r piece size is within next = absurd next
feeds_by (Some Classic) r piece size is within next =
    feeds_as r.format r.format (Some Classic) (Some Classic) r.front r.front r.classic (classic.with_part r.classic (take size piece)) r.ng r.ng r piece (Ok size) is is refl
    (format_feeds Classic r.front r.classic (classic.with_part r.classic (take size piece)) r.ng r.ng piece (Ok size) (classic_feeds r.classic piece size within next))
feeds_by (Some Pcapng) r piece size is within next =
    feeds_as r.format r.format (Some Pcapng) (Some Pcapng) r.front r.front r.classic r.classic r.ng (ng.with_block r.ng (take size piece)) r piece (Ok size) is is refl
    (format_feeds Pcapng r.front r.classic r.classic r.ng (ng.with_block r.ng (take size piece)) piece (Ok size) (ng_feeds r.ng piece size within next))

next_feeds : (r : CaptureReading) (piece : List ℕ) (size : ℕ) → size ≤ length piece → IsNext r (take size piece) → Feeds r piece (Ok size) (with_record r (take size piece))
next_feeds r piece size within next = feeds_by r.format r piece size refl within next

-- after the reader took the next record, it holds that record
held_as : (format : Option Format) (r : CaptureReading) (bytes : List ℕ) → r.format ≡ format → IsNextBy format r bytes → IsSome (held (with_by format r bytes))
held_as None r bytes is next = absurd next
held_as (Some Classic) r bytes is next = subst (λ (f : Option Format). IsSome (held_by f (with_by (Some Classic) r bytes))) (sym is) next.whole
held_as (Some Pcapng) r bytes is next = subst (λ (f : Option Format). IsSome (held_by f (with_by (Some Pcapng) r bytes))) (sym is) (ng_held r.ng bytes next)

next_held : (r : CaptureReading) (bytes : List ℕ) → IsNext r bytes → IsSome (held (with_record r bytes))
next_held r bytes next = held_as r.format r bytes refl next

-- the next record has at least 16 bytes
long_by : (format : Option Format) (r : CaptureReading) (bytes : List ℕ) → IsNextBy format r bytes → 16 ≤ length bytes
long_by None r bytes next = absurd next
long_by (Some Classic) r bytes next = classic_long r.classic bytes next
long_by (Some Pcapng) r bytes next = omega (arith, next.packet.long)

next_long : (r : CaptureReading) (bytes : List ℕ) → IsNext r bytes → 16 ≤ length bytes
next_long r bytes next = long_by r.format r bytes next

pub classic_next : (f : Option Format) (front : List ℕ) (c : classic.Reading) (n : ng.Reading) (bytes : List ℕ) → f ≡ Some Classic → IsNext (capture f front c n) bytes → classic.IsNext c bytes
classic_next f front c n bytes is next = subst (λ (g : Option Format). IsNext (capture g front c n) bytes) is next

pub ng_next : (f : Option Format) (front : List ℕ) (c : classic.Reading) (n : ng.Reading) (bytes : List ℕ) → f ≡ Some Pcapng → IsNext (capture f front c n) bytes → ng.IsNext n bytes
ng_next f front c n bytes is next = subst (λ (g : Option Format). IsNext (capture g front c n) bytes) is next

pub taken_as : (f : Option Format) (format : Format) (front : List ℕ) (c : classic.Reading) (n : ng.Reading) → f ≡ Some format → taken (capture f front c n) ≡ (progress_by format c n).taken
taken_as f format front c n is = ap (λ (g : Option Format). taken (capture g front c n)) is

pub front_as : (f : Option Format) (format : Format) (front : List ℕ) (c c' : classic.Reading) (n n' : ng.Reading) → f ≡ Some format → IsFront f front c n → KeepsOther format c c' n n' → IsFront f front c' n'
front_as f format front c c' n n' is unused kept =
    subst (λ (g : Option Format). IsFront g front c' n') (sym is) (front_still format front c c' n n' (subst (λ (g : Option Format). IsFront g front c n) is unused) kept)

pub classic_lends : (f : Option Format) (front : List ℕ) (c : classic.Reading) (n : ng.Reading) (bytes : List ℕ) (view : RecordView) → f ≡ Some Classic → IsView (classic.held (classic.with_part c bytes)) view → IsView (held (with_record (capture f front c n) bytes)) view
classic_lends f front c n bytes view is shows = subst (λ (g : Option Format). IsView (held (with_record (capture g front c n) bytes)) view) (sym is) shows

pub ng_lends : (f : Option Format) (front : List ℕ) (c : classic.Reading) (n : ng.Reading) (bytes : List ℕ) (view : RecordView) → f ≡ Some Pcapng → IsView (ng.held (ng.with_block n bytes)) view → IsView (held (with_record (capture f front c n) bytes)) view
ng_lends f front c n bytes view is shows = subst (λ (g : Option Format). IsView (held (with_record (capture g front c n) bytes)) view) (sym is) shows

-- Skipping the next record has the effect of taking the record and then releasing it.
pub classic_passes : (f : Option Format) (front : List ℕ) (c c' : classic.Reading) (n : ng.Reading) (bytes : List ℕ) → f ≡ Some Classic → IsNext (capture f front c n) bytes → c' ≡ record c { start = c.start + length bytes }
    → Releases (with_record (capture f front c n) bytes) (capture f front c' n)
classic_passes f front c c' n bytes is ahead new =
    let next = classic_next f front c n bytes is ahead in
    subst (λ (g : Option Format). Releases (with_record (capture g front c n) bytes) (capture g front c' n)) (sym is)
    (format_releases Classic front (classic.with_part c bytes) c' n n
    (subst (λ (x : classic.Reading). readers.Releases (classic.progress (classic.with_part c bytes)) (classic.progress x)) (sym new) (classic_releases c bytes next)))

pub ng_passes : (f : Option Format) (front : List ℕ) (c : classic.Reading) (n n' : ng.Reading) (bytes : List ℕ) → f ≡ Some Pcapng → IsNext (capture f front c n) bytes → n' ≡ ng.passing n bytes
    → Releases (with_record (capture f front c n) bytes) (capture f front c n')
ng_passes f front c n n' bytes is ahead new =
    let next = ng_next f front c n bytes is ahead in
    subst (λ (g : Option Format). Releases (with_record (capture g front c n) bytes) (capture g front c n')) (sym is)
    (format_releases Pcapng front c c (ng.with_block n bytes) n'
    (subst (λ (x : ng.Reading). readers.Releases (ng.progress (ng.with_block n bytes)) (ng.progress x)) (sym new) (ng_releases n bytes next)))

-- ---- the source

-- `HasFed` still holds after the reader took the bytes of the next record.
fed_more : (limit : ℕ) (bytes : List ℕ) (remains : Option (List ℕ)) (source : Sourcing) (size : ℕ) (records : List Record) → LiesAhead source size → HasFed limit bytes remains source records → HasFed limit bytes remains (holding source size) records
fed_more limit bytes remains source size records ahead fed =
    let waiting = source.pieces.waiting in
    let feeds = next_feeds source.reader waiting size ahead.within ahead.next in
    let long : length (take size waiting) ≡ size = length-take-le size waiting ahead.within in
    let all : (fed.prefix ++ take size waiting) ++ drop size waiting ≡ fed.prefix ++ waiting = append_assoc fed.prefix (take size waiting) (drop size waiting) ∙ ap (λ (w : List ℕ). fed.prefix ++ w) (take-append-drop size waiting) in
    record {
      prefix = fed.prefix ++ take size waiting;
      taken = record {
        rest = fed.taken.rest;
        split = fed.taken.split ∙ ap (λ (w : List ℕ). w ++ fed.taken.rest) (sym all);
        ahead = fed.taken.ahead;
        count = omega (arith, fed.taken.count, ahead.within, long, length-append fed.prefix (take size waiting), length-drop size waiting);
      };
      accepted = feeds.accepted;
      read = feeds.read fed.prefix records fed.read;
    }

reads_ahead : (shelf : ShelfState) (source : Sourcing) (size : ℕ) → IsSome (shelf.slots (slot_of source)) → LiesAhead source size → ReadsOn shelf shelf source (holding source size) None
reads_ahead shelf source size live ahead =
    let waiting = source.pieces.waiting in
    let some = next_long source.reader (take size waiting) ahead.next in
    let long : length (take size waiting) ≡ size = length-take-le size waiting ahead.within in
    record {
      more = λ none limit bytes records fed. fed_more limit bytes (remains_of shelf source) source size records ahead fed;
      ends = tt;
      less = λ none. omega (arith, some, long, ahead.within, length-drop size waiting);
      counted = refl;
      reads = reads_nothing shelf (slot_of source) live;
    }

-- once the held record was released, lending the next record counts as delivering that record
lends_next : (shelf : ShelfState) (old mid : Sourcing) (size : ℕ) → IsSome (shelf.slots (slot_of old)) → GivesUp old mid → LiesAhead mid size → GivesNext shelf shelf old (holding mid size) None
lends_next shelf old mid size live gone ahead =
    let here = subst (λ (p : Piecing). IsSome (shelf.slots p.slot)) (sym gone.pieces) live in
    let some : IsSome (held_in (holding mid size)) = next_held mid.reader (take size mid.pieces.waiting) ahead.next in
    subst (λ (e : Option End). GivesNext shelf shelf old (record (holding mid size) { ended = e }) None) (sym ahead.going)
    (gives_next shelf shelf old mid (holding mid size) None (sym gone.ended ∙ ahead.going) gone.pieces gone.reader (reads_ahead shelf mid size here ahead) (λ none. some))

-- releasing the held record does not change which records were delivered
still_given : (shelf : ShelfState) (old mid : Sourcing) → GivesUp old mid → (limit : ℕ) (bytes : List ℕ) (records : List Record) → HasGivenOf limit bytes shelf old records → HasGivenOf limit bytes shelf mid records
still_given shelf old mid gone limit bytes records given = record {
  going = gone.ended ∙ given.going;
  before = records;
  fed = released shelf old mid gone.pieces gone.reader limit bytes records given;
  given = sym (ap (λ (h : Option Record). records ++ option_to_list h) gone.reader.free ∙ append-nil records);
}

-- Reading the next record does the same whether or not the held record was released before.
gives_after : (before after : ShelfState) (old mid next : Sourcing) (result : Option End) → GivesUp old mid → GivesNext before after mid next result → GivesNext before after old next result
gives_after before after old mid next result gone gives = record {
  given = λ none limit bytes records given. gives.given none limit bytes records (still_given before old mid gone limit bytes records given);
  ends = if_some result (λ how ends limit bytes records given. ends limit bytes records (still_given before old mid gone limit bytes records given)) gives.ends;
  held = gives.held;
  less = λ none. subst (λ (p : Piecing). to_do next < 2 * p.left + length p.waiting) gone.pieces (gives.less none);
  ended = gives.ended;
  lasting = subst (λ (x : Option End). IfSome x (λ (h : End). result ≡ Some h)) gone.ended gives.lasting;
  counted = subst (λ (x : Option End). CountsFault x result before.reading_faults after.reading_faults) gone.ended gives.counted;
  reads = subst (λ (p : Piecing). ReadsSlot before after p.slot (slot_of next)) gone.pieces gives.reads;
}

pub lent_by : (shelf : ShelfState) (old mid : Sourcing) (o : Option ℕ) → IsSome (shelf.slots (slot_of old)) → GivesUp old mid → IfSome o (λ size. LiesAhead mid size) → is_some o ≡ true → GivesNext shelf shelf old (lending o mid) None
lent_by shelf old mid None live gone ahead some = absurd cc
lent_by shelf old mid (Some size) live gone ahead some = lends_next shelf old mid size live gone ahead

pub read_by : (before after : ShelfState) (old mid next : Sourcing) (o : Option ℕ) (result : Option End) → GivesUp old mid → is_some o ≡ false → GivesNext before after mid next result → GivesNext before after old (lending o next) result
read_by before after old mid next None result gone none gives = gives_after before after old mid next result gone gives
read_by before after old mid next (Some size) result gone none gives = absurd cc

-- A source advances if two things hold: it releases the held record, and it then lends the next record, if there is
-- one.
pub advances : (old mid : Sourcing) (o : Option ℕ) → GivesUp old mid → IfSome o (λ size. LiesAhead mid size) → Advances old (lending o mid) (is_some o)
advances old mid None gone ahead = record {
  given = λ some. absurd cc;
  further = λ none before after next result gives. gives_after before after old mid next result gone gives;
  slot = ap (λ (p : Piecing). p.slot) gone.pieces;
}
advances old mid (Some size) gone ahead = record {
  given = λ some shelf live. lends_next shelf old mid size live gone ahead;
  further = λ none. absurd cc;
  slot = ap (λ (p : Piecing). p.slot) gone.pieces;
}
