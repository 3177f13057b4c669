-- What a reader returns if no bytes follow.
use Rattle.std.proofs.Common.{◌≡◌, ℕ, ◌+◌, ◌≤◌, ◌<◌, Bool, true, false, nat_lt, nat_le, ◌&&◌, if◌then◌else◌, List, [], ◌++◌, length, drop, Option, Some, None, is_some, inl, inr, refl, ap, sym, ◌∙◌, arith}
use Rattle.std.proofs.lemmas.Bool.{cases_lt}
use Rattle.std.specs.Option.{option_to_list}
use Rattle.std.proofs.lemmas.Bool.Decides.{nat_tests}
use Rattle.std.proofs.lemmas.List.{append-nil}
use Rattle.std.proofs.Math.Seq.{drop-nil}
use Rattle.avtp_base.specs.declared.refusal.Refusal.{Refusal}
use Rattle.avtp_base.specs.declared.field.Field.TheVariants.{BlockType, BlockLength, BlockBody, Interfaces}
use Rattle.pcapng_blocks.specs.Fields.{refusal_at}
use Rattle.pcap_frames.specs.Capture.{Record}
use Rattle.pcap_frames.specs.declared.style.Order.{Order}
use Rattle.pcapng_frames.specs.declared.cursor.Cursor.{Cursor}
use Rattle.pcapng_frames.specs.declared.cursor.PacketHead.{PacketHead}
use Rattle.pcapng_blocks.specs.declared.interface.Interface.{Interface}
use Rattle.pcapng_blocks.specs.declared.block.Stage.{Stage}
use Rattle.pcapng_blocks.specs.declared.block.Stage.TheVariants as stage
use Rattle.pcapng_blocks.specs.Blocks.{Place, Contents, Ending, short_at, is_interface, kind_at, contents, settled, whole_records, first_refusal, refusal_of, refusal_here, size_here, refused_or, and_then, packet_by, next_place, cut_short, cut_by, ends_at, ends, after_trailer, order_or_little, contents_at}
use Rattle.std.specs.Prelude.{IfSome, Result, Err}
use Rattle.std.specs.Result.{result_err}
use Rattle.pcap_frames.specs.Readers.{Ends, GoesOn, IsRefusedAfter}
use Rattle.pcap_frames.specs.state.Readers.{IsSure}
use Rattle.pcapng_frames.specs.Reading.{Reading, HasRead, contents_past, rest_of, after_all, refused_after, held, held_by, meaning, progress}
use Rattle.pcapng_frames.specs.state.Reading.{IsReading, IsPart, IsAhead, lacks_by, HasHead, packet_of, place_of}
use Rattle.pcapng_blocks.proofs.Places.{unroll, size_some}
use Rattle.pcapng_frames.proofs.Moves.{goes_on, reading}
use Rattle.pcapng_blocks.proofs.Blocks.{at_block, size_at_block}
use Rattle.pcapng_blocks.proofs.Options.{at_option_place, option_lacks, size_at_option, size_at_trailer}
use Rattle.pcapng_blocks.proofs.Needs.{block_lacks}
use Rattle.pcapng_blocks.proofs.Choices.{long_enough}
use Rattle.pcapng_frames.proofs.Feeding.{need_in_block, need_in_option, need_in_trailer, none_refused, refused_rest, is_whole}

settled_if : (b : Bool) (e : Ending) → e.cut ≡ true → settled (if b then ends None else ends (Some e)).ending ≡ None
settled_if true e h = refl
settled_if false e h = rw h refl

cut_is : (b c d : Bool) (x y z w : Ending) → x.cut ≡ true → y.cut ≡ true → z.cut ≡ true → w.cut ≡ true → (if b then x else if c then (if d then y else z) else w).cut ≡ true
cut_is true c d x y z w ex ey ez ew = ex
cut_is false true true x y z w ex ey ez ew = ey
cut_is false true false x y z w ex ey ez ew = ez
cut_is false false d x y z w ex ey ez ew = ew

cut_stage : (s : Stage) (p : Place) (bytes : List ℕ) → (cut_by s p bytes).cut ≡ true
cut_stage stage.Block p bytes = cut_is (nat_lt (length bytes) 4) (nat_lt (length bytes) 8) (nat_le 256 (length p.interfaces) && is_interface (kind_at p.order bytes)) (short_at BlockType p.start) (record { refusal = refusal_at Interfaces p.start; cut = true }) (short_at BlockLength (p.start + 4)) (short_at BlockBody (p.start + 8)) refl refl refl refl
cut_stage stage.Option p bytes = refl
cut_stage stage.Trailer p bytes = refl

-- if bytes are missing, later bytes can still change the ending
settled_cut : (p : Place) (bytes : List ℕ) → settled (cut_short p bytes).ending ≡ None
settled_cut p bytes = settled_if (ends_at p.stage p.order p.start (length bytes)) (cut_by p.stage p bytes) (cut_stage p.stage p bytes)

less_true : {X : Type 0} (n m : ℕ) (x y : X) → n < m → (if nat_lt n m then x else y) ≡ x
less_true n m x y h = grind (arith, nat_tests)

-- if nothing at a place is refused and the bytes end before the next place, `cut_short` gives the contents from the
-- place on
pub cut_at : (p : Place) (bytes : List ℕ) → refusal_here p bytes ≡ None → length bytes < size_here p bytes → contents_at p bytes ≡ cut_short p bytes
cut_at p bytes none short =
    unroll p bytes
    ∙ (ap (λ (x : Option Refusal). refused_or x (if nat_lt (length bytes) (size_here p bytes) then cut_short p bytes else and_then (packet_by p.stage p.packet) (contents_at (next_place p bytes) (drop (size_here p bytes) bytes)))) none
    ∙ less_true (length bytes) (size_here p bytes) _ _ short)

four_left : (s : Stage) (skip left total : ℕ) → s ≡ stage.Option → IsAhead s skip left total → 4 ≤ left
four_left stage.Block skip left total is h = absurd (cc)
four_left stage.Option skip left total is h = omega (arith, h.0, h.1)
four_left stage.Trailer skip left total is h = absurd (cc)

lacks_by_stage : (s : Stage) (p : Place) (skip : ℕ) (bytes : List ℕ) → p.stage ≡ s → IsPart p skip bytes → length bytes < size_here p bytes
lacks_by_stage stage.Block p skip bytes is h =
    let need = need_in_block p.stage p.order bytes is in
    omega (arith, size_at_block p bytes is, block_lacks p.order p.interfaces p.start bytes (sym (at_block p bytes is) ∙ h.accepted) (omega (arith, h.partial, need)))
lacks_by_stage stage.Option p skip bytes is h =
    let need = need_in_option p.stage p.order bytes is in
    let left = four_left p.stage skip p.left p.total is h.ahead in
    omega (arith, size_at_option p bytes is, option_lacks (order_or_little p.order) _ p.left bytes left (sym (at_option_place p bytes is) ∙ h.accepted) (omega (arith, h.partial, need)))
lacks_by_stage stage.Trailer p skip bytes is h = omega (arith, size_at_trailer p bytes is, h.partial, need_in_trailer p.stage p.order bytes is)

pub lacks_some : (p : Place) (skip : ℕ) (bytes : List ℕ) → IsPart p skip bytes → length bytes < size_here p bytes
lacks_some p skip bytes h = lacks_by_stage p.stage p skip bytes refl h

none_follow : (p : Place) (skip : ℕ) (part : List ℕ) → contents_at p (part ++ drop skip []) ≡ contents_at p part
none_follow p skip part = ap (λ (b : List ℕ). contents_at p (part ++ b)) (drop-nil skip) ∙ ap (contents_at p) (append-nil part)

settled_past : (b : Bool) (short : Ending) (rest : Contents) → short.cut ≡ true → settled rest.ending ≡ None → settled (if b then ends (Some short) else rest).ending ≡ None
settled_past true short rest h e = rw h refl
settled_past false short rest h e = e

settled_by : (refusal : Option Refusal) (whole : Bool) (p : Place) (skip : ℕ) (part : List ℕ) → refusal ≡ None → IsReading refusal whole p skip part → settled (rest_of (reading p skip part whole refusal) []).ending ≡ None
settled_by (Some r) whole p skip part none h = absurd (cc)
settled_by None true p skip part none h =
    let q : Place = after_trailer p in
    ap (λ (x : Contents). settled x.ending) (cut_at q [] (none_refused q) (omega (arith, size_some q []))) ∙ settled_cut q []
settled_by None false p skip part none h =
    settled_past (nat_lt 0 skip) _ (contents_at p (part ++ drop skip [])) refl
    (ap (λ (x : Contents). settled x.ending) (none_follow p skip part ∙ cut_at p part h.accepted (lacks_some p skip part h)) ∙ settled_cut p part)

-- if a reader has no refusal, later bytes can still change the ending of the bytes taken
uncertain : (r : Reading) (bytes : List ℕ) (records : List Record) → r.refusal ≡ None → IsReading r.refusal r.whole r.place r.skip r.part → HasRead r bytes records → settled (contents bytes).ending ≡ None
uncertain r bytes records none keeps h =
    ap (λ (b : List ℕ). settled (contents b).ending) (sym (append-nil bytes))
    ∙ (ap (λ (x : Contents). settled x.ending) (h.read []) ∙ settled_by r.refusal r.whole r.place r.skip r.part none keeps)

nothing_after : (records : List Record) (r : Refusal) → after_all records (ends (Some (record { refusal = r; cut = false }))) ≡ refused_after records r
nothing_after records r = ap (λ (rs : List Record). refused_after rs r) (append-nil records)

-- the refusal of a reader is the first refusal of the capture, whatever bytes follow
refused_for_good : (r : Reading) (why : Refusal) (bytes more : List ℕ) (records : List Record) → r.refusal ≡ Some why → HasRead r bytes records → IsRefusedAfter meaning (bytes ++ more) records why
unfolding whole_records
refused_for_good r why bytes more records e h =
    let all = h.read more ∙ (ap (after_all records) (refused_rest r why more e) ∙ nothing_after records why) in
    record { all = ap (λ (x : Contents). x.records) all; certain = ap (λ (x : Contents). settled x.ending) all }

pub refused_goes_on : (r : Reading) (why : Refusal) (more : List ℕ) → r.refusal ≡ Some why → GoesOn (progress r) more (progress r)
refused_goes_on r why more e = goes_on r r more (record { same = λ rest. refused_rest r why (more ++ rest) e ∙ sym (refused_rest r why rest e) })

pub sure : (r : Reading) → r.refusal ≡ None → IsReading r.refusal r.whole r.place r.skip r.part → IsSure meaning (progress r)
sure r none keeps = record {
  uncertain = λ accepted bytes records h. uncertain r bytes records accepted keeps h;
  refused = λ why is. absurd (let no : None ≡ Some why = sym none ∙ is in cc);
}

pub sure_refused : (r : Reading) (why : Refusal) → r.refusal ≡ Some why → IsSure meaning (progress r)
sure_refused r why e = record {
  uncertain = λ accepted. absurd (let no : None ≡ Some why = sym accepted ∙ e in cc);
  refused = λ other is bytes more records h. refused_for_good r other bytes more records is h;
}

pub both_not : {X : Type 0} (b : Bool) → b ≡ true → b ≡ false → X
both_not true t f = absurd (cc)
both_not false t f = absurd (cc)

records_if : (b : Bool) (e : Option Ending) → (if b then ends None else ends e).records ≡ []
records_if true e = refl
records_if false e = refl

refusal_if : (b : Bool) (e : Ending) → refusal_of (if b then ends None else ends (Some e)).ending ≡ (if b then None else Some e.refusal)
refusal_if true e = refl
refusal_if false e = refl

-- What a reader holds, and what the capture lacks if it ends after the bytes taken.
pub record IsEnd (rest : Contents) (packet : Option Record) (lack : Option Refusal) : Type 0 where
  pub records : rest.records ≡ option_to_list packet
  pub refusal : refusal_of rest.ending ≡ lack

end_cut : (p : Place) (bytes : List ℕ) → IsEnd (cut_short p bytes) None (lacks_by false p bytes)
end_cut p bytes = record {
  records = records_if (ends_at p.stage p.order p.start (length bytes)) (Some (cut_by p.stage p bytes));
  refusal = refusal_if (ends_at p.stage p.order p.start (length bytes)) (cut_by p.stage p bytes);
}

skip_inside : (s : Stage) (p : Place) (skip : ℕ) (bytes : List ℕ) → 0 < skip → IsAhead s skip p.left p.total → (if ends_at s p.order p.start (length bytes) then None else Some (cut_by s p bytes).refusal) ≡ Some (short_at BlockBody (p.start + 8)).refusal
skip_inside stage.Block p skip bytes some h = absurd (omega (arith, some, h))
skip_inside stage.Option p skip bytes some h = refl
skip_inside stage.Trailer p skip bytes some h = refl

end_past : (p : Place) (skip : ℕ) (part : List ℕ) → IsPart p skip part → IsEnd (contents_past skip p part []) None (lacks_by false p part)
end_past p skip part h = elim (cases_lt 0 skip) [
  | inl some ↦ record {
    records = ap (λ (x : Contents). x.records) (less_true 0 skip _ _ some);
    refusal = ap (λ (x : Contents). refusal_of x.ending) (less_true 0 skip _ _ some) ∙ sym (skip_inside p.stage p skip part some h.ahead);
  }
  | inr none ↦
      let same : contents_past skip p part [] ≡ cut_short p part = long_enough 0 skip _ _ none ∙ (none_follow p skip part ∙ cut_at p part h.accepted (lacks_some p skip part h)) in
      let e = end_cut p part in
      record {
        records = ap (λ (x : Contents). x.records) same ∙ e.records;
        refusal = ap (λ (x : Contents). refusal_of x.ending) same ∙ e.refusal;
      }
]

whole_cut : (order : Option Order) (start : ℕ) → is_some order ≡ true → ends_at stage.Block order start 0 ≡ true
whole_cut None start h = absurd (cc)
whole_cut (Some order) start h = refl

end_whole : (p : Place) → is_some p.order ≡ true → IsEnd (and_then p.packet (contents_at (after_trailer p) [])) p.packet None
end_whole p opened =
    let q : Place = after_trailer p in
    let cut : contents_at q [] ≡ cut_short q [] = cut_at q [] (none_refused q) (omega (arith, size_some q [])) in
    let none : cut_short q [] ≡ ends None = ap (λ (b : Bool). if b then ends None else ends (Some (cut_by stage.Block q []))) (whole_cut p.order q.start opened) in
    record {
      records = ap (λ (x : Contents). option_to_list p.packet ++ x.records) (cut ∙ none) ∙ append-nil (option_to_list p.packet);
      refusal = ap (λ (x : Contents). refusal_of x.ending) (cut ∙ none);
    }

head_opened : (order : Option Order) (packet : Option PacketHead) (part : List ℕ) → is_some (packet_of packet part) ≡ true → HasHead order packet part → is_some order ≡ true
head_opened order None part some h = absurd (cc)
head_opened order (Some head) part some h = h.2

end_by : (refusal : Option Refusal) (whole : Bool) (p : Place) (skip : ℕ) (part : List ℕ) → refusal ≡ None → IsReading refusal whole p skip part → (whole ≡ true → is_some p.order ≡ true)
    → IsEnd (rest_of (reading p skip part whole refusal) []) (held_by refusal whole p.packet) (lacks_by whole p part)
end_by (Some r) whole p skip part none h opened = absurd (cc)
end_by None true p skip part none h opened = end_whole p (opened refl)
end_by None false p skip part none h opened = end_past p skip part h

whole_opened : (refusal : Option Refusal) (whole : Bool) (c : Cursor) (interfaces : List Interface) (held : List ℕ) (skip : ℕ) (part : List ℕ) → refusal ≡ None → IsReading refusal whole (place_of c interfaces held) skip part → HasHead c.order c.packet held → whole ≡ true → is_some c.order ≡ true
whole_opened refusal whole c interfaces held skip part none h head is =
    let w = is_whole refusal whole (place_of c interfaces held) skip part none is h in
    head_opened c.order c.packet held w.some head

pub ends_so : (c : Cursor) (interfaces : List Interface) (held : List ℕ) (skip : ℕ) (part : List ℕ) (whole : Bool) (refusal : Option Refusal) → refusal ≡ None → IsReading refusal whole (place_of c interfaces held) skip part → HasHead c.order c.packet held
    → IsEnd (rest_of (reading (place_of c interfaces held) skip part whole refusal) []) (held_by refusal whole (packet_of c.packet held)) (lacks_by whole (place_of c interfaces held) part)
ends_so c interfaces held skip part whole refusal none h head =
    end_by refusal whole (place_of c interfaces held) skip part none h (λ is. whole_opened refusal whole c interfaces held skip part none h head is)

all_of : (bytes : List ℕ) (records : List Record) (rest : Contents) → contents (bytes ++ []) ≡ after_all records rest → contents bytes ≡ after_all records rest
all_of bytes records rest e = ap contents (sym (append-nil bytes)) ∙ e

records_so : (bytes : List ℕ) (records : List Record) (rest : Contents) (packet : Option Record) (lack : Option Refusal) → contents (bytes ++ []) ≡ after_all records rest → IsEnd rest packet lack → records ++ option_to_list packet ≡ whole_records bytes
unfolding whole_records
records_so bytes records rest packet lack e end = sym (ap (λ (x : Contents). x.records) (all_of bytes records rest e) ∙ ap (λ (rs : List Record). records ++ rs) end.records)

refusal_so : (bytes : List ℕ) (records : List Record) (rest : Contents) (packet : Option Record) (lack : Option Refusal) → contents (bytes ++ []) ≡ after_all records rest → IsEnd rest packet lack → lack ≡ first_refusal bytes
unfolding first_refusal
refusal_so bytes records rest packet lack e end = sym (ap (λ (x : Contents). refusal_of x.ending) (all_of bytes records rest e) ∙ end.refusal)

none_held : (refusal : Option Refusal) (whole : Bool) (packet : Option Record) (why : Refusal) → refusal ≡ Some why → held_by refusal whole packet ≡ None
none_held refusal whole packet why e = rw e refl

pub end_refused : (r : Reading) (why : Refusal) → r.refusal ≡ Some why → IsEnd (rest_of r []) (held r) (Some why)
end_refused r why e = record {
  records = ap (λ (x : Contents). x.records) (refused_rest r why [] e) ∙ sym (ap option_to_list (none_held r.refusal r.whole r.place.packet why e));
  refusal = ap (λ (x : Contents). refusal_of x.ending) (refused_rest r why [] e);
}

-- if a reader returns what the capture lacks, it returns the first refusal of the bytes
pub ends_now : (r : Reading) (result : Result Unit Refusal) (lack : Option Refusal) → IsEnd (rest_of r []) (held r) lack → result_err result ≡ lack → IfSome r.refusal (λ why. result ≡ Err why) → Ends meaning (progress r) result
ends_now r result lack end is lasting = record {
  records = λ bytes records h. records_so bytes records (rest_of r []) (held r) lack (h.read []) end;
  refusal = λ bytes records h. is ∙ refusal_so bytes records (rest_of r []) (held r) lack (h.read []) end;
  lasting = lasting;
}
