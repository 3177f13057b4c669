-- The records of a capture, one after the other.
use Rattle.std.proofs.Common.{◌≡◌, ℕ, ◌-◌, ◌*◌, ◌+◌, ◌<◌, ◌≤◌, true, List, [], ◌∷◌, ◌++◌, length, take, Option, Some, None, refl, sym, ap, subst, ◌∙◌, arith, append_assoc, length-append}
use Rattle.std.specs.Prelude.{IfSome, IsSome, is_some, option_to_list}
use Rattle.std.proofs.lemmas.List.{append-nil}
use Rattle.avtp_base.specs.declared.refusal.Refusal.{Refusal}
use Rattle.avtp_base.specs.Faults.{FailsAt, ReadingFaults}
use Rattle.avtp_base.specs.declared.failed.FaultPlace.{FaultPlace}
use Rattle.avtp_base.specs.Files.{left_in}
use Rattle.avtp_base.specs.States.{ShelfState}
use Rattle.pcap_frames.specs.Capture.{Record}
use Rattle.capture_io.specs.declared.end.End.{End}
use Rattle.capture_io.specs.declared.end.End.TheVariants as end
use Rattle.capture_io.specs.declared.end.Stop.{Stop}
use Rattle.capture_io.specs.declared.end.Stop.TheVariants as stop
use Rattle.capture_io.specs.Contents.{IsContents}
use Rattle.capture_io.specs.Ends.{CountsFault, CountsStop, at_end, end_at}
use Rattle.capture_io.specs.Formats.{records_in}
use Rattle.capture_io.specs.Pieces.{Piecing, HasTaken}
use Rattle.capture_io.specs.Reader.{CaptureReading, HasRead, held, refusal_of}
use Rattle.capture_io.specs.state.Reader.{EndsHere, RefusedAfter, Releases, nothing_read}
use Rattle.capture_io.specs.Reads.{ReadsSlot}
use Rattle.capture_io.specs.Source.{Sourcing, EndsAfter, GivesNext, HasFed, HasGiven, HasGivenOf, held_in, remains_of, slot_of, to_do}
use Rattle.capture_io.specs.state.Source.{HasFedOf, ReadsOn}
use Rattle.capture_io.proofs.Ending.{ends_limit, ends_refused, ends_whole, limited}
use Rattle.capture_io.proofs.Leaving.{reads_nothing}
use Rattle.capture_io.proofs.Reader.{first_held, read_nothing}

-- if the reader refused the buffered bytes, the reading ends at that refusal, after the released records
pub refused_end : (limit : ℕ) (bytes : List ℕ) (remains : Option (List ℕ)) (source : Sourcing) (records : List Record) (fault : FaultPlace → Type 0) (r : Refusal) (piece : List ℕ)
    → HasFed limit bytes remains source records → piece ≡ source.pieces.waiting
    → ((bytes more : List ℕ) (records : List Record) → HasRead source.reader bytes records → RefusedAfter ((bytes ++ piece) ++ more) records r)
    → EndsAfter limit bytes fault (end.Refused r) records
refused_end limit bytes remains source records fault r piece fed is refused =
    let front : List ℕ = fed.prefix ++ piece in
    let same : fed.prefix ++ source.pieces.waiting ≡ front = ap (λ (w : List ℕ). fed.prefix ++ w) (sym is) in
    let len : length front ≤ limit = omega (arith, fed.taken.count, ap length same, length-append fed.prefix source.pieces.waiting) in
    let all = limited bytes front fed.taken.rest limit (fed.taken.split ∙ ap (λ (w : List ℕ). w ++ fed.taken.rest) same) len in
    let here : RefusedAfter (take limit bytes) records r = subst (λ (b : List ℕ). RefusedAfter b records r) all (refused fed.prefix _ records fed.read) in
    record { prefix = take limit bytes; ends = ends_refused limit bytes fault r here.certain; whole = here.all }

-- if no record is held, the released records are all records of the bytes taken
all_given : (r : CaptureReading) (prefix : List ℕ) (records : List Record) (x : Option Refusal) → EndsHere r prefix records x → held r ≡ None → records_in prefix ≡ records
all_given r prefix records x here free = here.all ∙ (ap (λ (h : Option Record). records ++ option_to_list h) free ∙ append-nil records)

-- If the reading of the file stopped at `halt`, the reading of the capture ends at `end_at halt x`, after the released
-- records.
pub stopped : (limit : ℕ) (bytes : List ℕ) (remains : Option (List ℕ)) (source : Sourcing) (records : List Record) (fault : FaultPlace → Type 0) (halt : Stop) (x : Option Refusal) → (fed : HasFed limit bytes remains source records) → held_in source ≡ None
    → IsContents limit bytes fault halt fed.prefix → EndsHere source.reader fed.prefix records x → EndsAfter limit bytes fault (end_at halt x) records
stopped limit bytes remains source records fault stop.End x fed free is here =
    record { prefix = fed.prefix; ends = ends_whole limit bytes fed.prefix fault (at_end x) is.0 is.1 (ap at_end here.first); whole = all_given source.reader fed.prefix records x here free }
stopped limit bytes remains source records fault stop.Fault x fed free is here =
    record { prefix = fed.prefix; ends = (is.0, is.1, is.2, is.3, fed.read.uncertain fed.accepted); whole = all_given source.reader fed.prefix records x here free }
stopped limit bytes remains source records fault stop.Limit x fed free is here =
    record { prefix = fed.prefix; ends = ends_limit limit bytes fed.prefix fault is.0 (sym is.1) (fed.read.uncertain fed.accepted); whole = all_given source.reader fed.prefix records x here free }

-- ---- delivered records

-- a source that has taken no byte has delivered no record
pub nothing_given : (limit : ℕ) (bytes : List ℕ) (remains : Option (List ℕ)) (source : Sourcing) → HasTaken limit bytes remains source.pieces [] → source.reader ≡ nothing_read → source.ended ≡ None → HasGiven limit bytes remains source []
nothing_given limit bytes remains source taken is going = record {
  going = going;
  before = [];
  fed = record { prefix = []; taken = taken; accepted = ap refusal_of is; read = subst (λ (r : CaptureReading). HasRead r [] []) (sym is) read_nothing };
  given = ap (λ (r : CaptureReading). [] ++ option_to_list (held r)) (sym is);
}

-- the delivered records are the first records of the capture
pub given_first : (limit : ℕ) (bytes : List ℕ) (remains : Option (List ℕ)) (source : Sourcing) (records : List Record) → HasGiven limit bytes remains source records
    → (others : List Record) × (records_in (take limit bytes) ≡ records ++ others)
given_first limit bytes remains source records given =
    let fed = given.fed in
    let rest : List ℕ = source.pieces.waiting ++ fed.taken.rest in
    let split : bytes ≡ fed.prefix ++ rest = fed.taken.split ∙ append_assoc fed.prefix source.pieces.waiting fed.taken.rest in
    let len : length fed.prefix ≤ limit = omega (arith, fed.taken.count) in
    let all = limited bytes fed.prefix rest limit split len in
    let first = first_held source.reader fed.prefix (take (limit - length fed.prefix) rest) given.before fed.read in
    (first.0, ap records_in (sym all) ∙ (first.1 ∙ ap (λ (rs : List Record). rs ++ first.0) (sym given.given)))

-- If a source has delivered `records` and then releases the held record, its reader has released all of `records`.
pub released : (shelf : ShelfState) (old new : Sourcing) → new.pieces ≡ old.pieces → Releases old.reader new.reader → (limit : ℕ) (bytes : List ℕ) (records : List Record) → HasGivenOf limit bytes shelf old records → HasFedOf limit bytes shelf new records
released shelf old new same releases limit bytes records given =
    subst (λ (p : Piecing). HasFed limit bytes (left_in shelf.slots p.slot) new records) (sym same)
    (record {
      prefix = given.fed.prefix;
      taken = subst (λ (p : Piecing). HasTaken limit bytes (remains_of shelf old) p given.fed.prefix) (sym same) given.fed.taken;
      accepted = releases.refusal ∙ given.fed.accepted;
      read = subst (HasRead new.reader given.fed.prefix) (sym given.given) (releases.given_up given.fed.prefix given.before given.fed.read);
    })

holds_next_by : (limit : ℕ) (bytes : List ℕ) (remains : Option (List ℕ)) (source : Sourcing) (records : List Record) (h : Option Record) → held_in source ≡ h → IsSome h → source.ended ≡ None → HasFed limit bytes remains source records
    → (next : Record) × (h ≡ Some next) × HasGiven limit bytes remains source (records ++ next ∷ [])
holds_next_by limit bytes remains source records None is some going fed = absurd cc
holds_next_by limit bytes remains source records (Some next) is some going fed =
    (next, refl, record { going = going; before = records; fed = fed; given = ap (λ (h : Option Record). records ++ option_to_list h) (sym is) })

pub holds_next : (limit : ℕ) (bytes : List ℕ) (remains : Option (List ℕ)) (source : Sourcing) (records : List Record) → IsSome (held_in source) → source.ended ≡ None → HasFed limit bytes remains source records
    → (next : Record) × (held_in source ≡ Some next) × HasGiven limit bytes remains source (records ++ next ∷ [])
holds_next limit bytes remains source records some going fed = holds_next_by limit bytes remains source records (held_in source) refl some going fed

-- ---- reading on

pub ended_so : {before after : ShelfState} {old new : Sourcing} {result : Option End} (how : End) → result ≡ Some how
    → ((limit : ℕ) (bytes : List ℕ) (records : List Record) → HasFed limit bytes (remains_of before old) old records → EndsAfter limit bytes (FailsAt before.reading_faults after.reading_faults) how records)
    → CountsFault None (Some how) before.reading_faults after.reading_faults → ReadsSlot before after (slot_of old) (slot_of new) → ReadsOn before after old new result
ended_so {before} {after} {old} {new} how is ends counted reads =
    subst (ReadsOn before after old new) (sym is) (record { more = λ none. absurd cc; ends = ends; less = λ none. absurd cc; counted = counted; reads = reads })

pub stop_counted : (before after : ReadingFaults) (halt : Stop) (x : Option Refusal) → CountsStop (Some halt) before after → CountsFault None (Some (end_at halt x)) before after
stop_counted before after stop.End None counted = counted
stop_counted before after stop.End (Some refusal) counted = counted
stop_counted before after stop.Fault x counted = counted
stop_counted before after stop.Limit x counted = counted

-- ---- the next record

-- once the reading has ended, `next` returns the same end again
pub gives_again : (shelf : ShelfState) (s : Sourcing) (e : Option End) → IsSome (shelf.slots (slot_of s)) → s.ended ≡ e → is_some e ≡ true → GivesNext shelf shelf s s e
gives_again shelf s None live is some = absurd cc
gives_again shelf s (Some how) live is some = record {
  given = λ none. absurd cc;
  ends = λ limit bytes records given. absurd (let t : None ≡ Some how = sym given.going ∙ is in cc);
  held = λ none. absurd cc;
  less = λ none. absurd cc;
  ended = is;
  lasting = subst (λ (x : Option End). IfSome x (λ (h : End). Some how ≡ Some h)) (sym is) refl;
  counted = subst (λ (x : Option End). CountsFault x (Some how) shelf.reading_faults shelf.reading_faults) (sym is) refl;
  reads = reads_nothing shelf (slot_of s) live;
}

pub if_some : {A : Type 0} {P Q : A → Type 0} (o : Option A) → ((x : A) → P x → Q x) → IfSome o P → IfSome o Q
if_some None more p = tt
if_some (Some x) more p = more x p

-- if a call releases the held record and then reads on, `GivesNext` holds for that call
pub gives_next : (before after : ShelfState) (old mid next : Sourcing) (result : Option End) → old.ended ≡ None → mid.pieces ≡ old.pieces → Releases old.reader mid.reader → ReadsOn before after mid next result
    → (result ≡ None → IsSome (held_in next)) → GivesNext before after old (record next { ended = result }) result
gives_next before after old mid next result going same releases on some = record {
  given = λ none limit bytes records given.
      let fed = on.more none limit bytes records (released before old mid same releases limit bytes records given) in
      holds_next limit bytes (remains_of after next) (record next { ended = result }) records (some none) none (record { prefix = fed.prefix; taken = fed.taken; accepted = fed.accepted; read = fed.read });
  ends = if_some result (λ how ends limit bytes records given. ends limit bytes records (released before old mid same releases limit bytes records given)) on.ends;
  held = some;
  less = λ none. subst (λ (p : Piecing). to_do next < 2 * p.left + length p.waiting) same (on.less none);
  ended = refl;
  lasting = subst (λ (x : Option End). IfSome x (λ (h : End). result ≡ Some h)) (sym going) tt;
  counted = subst (λ (x : Option End). CountsFault x result before.reading_faults after.reading_faults) (sym going) on.counted;
  reads = subst (λ (p : Piecing). ReadsSlot before after p.slot (slot_of next)) same on.reads;
}
