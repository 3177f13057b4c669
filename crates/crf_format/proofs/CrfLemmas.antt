-- Bytes spell at most one packet, and a packet that is written is read back.
use Rattle.std.proofs.Common.{◌≡◌, ℕ, zero, suc, ◌+◌, ◌%◌, ◌<◌, ◌≤◌, Bool, false, not, ltb, eqb, List, [], ◌++◌, length, take, drop, None, refl, sym, ap, ◌∙◌, inl, inr, append_assoc, arith}
use Rattle.std.specs.Prelude.{◌||◌}
use Rattle.std.proofs.lemmas.Bool.{cases_lt, le-ltb, lt-ltb, or_parts}
use Rattle.std.proofs.lemmas.List.{length-append, length-drop, length-take, take_all, take_at}
use Rattle.avtp_base.specs.Octets.{AreBytes, bits, flag}
use Rattle.avtp_base.specs.Rows.{first_row, or_else}
use Rattle.avtp_base.specs.Layout.{Fits, Spells, spelling, first_short}
use Rattle.avtp_base.proofs.BitLemmas.{bit_of_flag, bit_shown, bits-below}
use Rattle.avtp_base.proofs.RowLemmas.{or_else-none, rows_passed, passed_rows, not_other, or_else-accepted, same_not_other, unequal}
use Rattle.avtp_base.proofs.HoldLemmas.{held_spells, spelled_holds}
use Rattle.avtp_base.proofs.OnlySpelling.{only_spelling}
use Rattle.avtp_base.proofs.LayoutLemmas.{Holds, IsLaid, holds_spelled, unset_spelled}
use Rattle.crf_format.specs.Crf.{Crf, IsWritableCrf, SpellsCrf, clock_rows, crf_layout, crf_of, crf_refusal, crf_spelling, crf_subtype, last_pull, misses_timestamps, plain_crf, shared_rows}

-- ---- what follows if no row refuses the bytes

not_below : (n least : ℕ) → ltb n least ≡ false → least ≤ n
not_below n least e = elim (cases_lt n least) [
  | inl below ↦ let t = lt-ltb n least below in absurd cc
  | inr above ↦ above
]

some_number : (n : ℕ) → eqb n 0 ≡ false → 0 < n
some_number zero e = absurd cc
some_number (suc n) e = omega arith

-- What is known of bytes that no row refuses.
record Accepted (bytes : List ℕ) : Type 0 where
  subtype : bits 0 0 8 bytes ≡ crf_subtype
  version : bits 1 1 3 bytes ≡ 0
  pull : bits 12 0 3 bytes ≤ last_pull
  frequency : 0 < bits 12 3 29 bytes
  some : 0 < bits 16 0 16 bytes
  whole : bits 16 0 16 bytes % 8 ≡ 0
  long : 20 + bits 16 0 16 bytes ≤ length bytes
  interval : 0 < bits 18 0 16 bytes

accepted_so : (bytes : List ℕ) → crf_refusal bytes ≡ None → Accepted bytes
accepted_so bytes e =
    let start = or_else-none (first_short crf_layout (length bytes)) (or_else (first_row (shared_rows bytes)) (first_row (clock_rows bytes))) e in
    let rows = or_else-none (first_row (shared_rows bytes)) (first_row (clock_rows bytes)) start.1 in
    let shared = rows_passed (shared_rows bytes) rows.0 in
    let clock = rows_passed (clock_rows bytes) rows.1 in
    let stated : ℕ = bits 16 0 16 bytes in
    let far = or_parts (eqb stated 0 || not (eqb (stated % 8) 0)) (ltb (length bytes) (20 + stated)) clock.1.1.0 in
    let points = or_parts (eqb stated 0) (not (eqb (stated % 8) 0)) far.0 in
    record {
      subtype = not_other (bits 0 0 8 bytes) crf_subtype shared.0;
      version = not_other (bits 1 1 3 bytes) 0 shared.1.0;
      pull = not_below last_pull (bits 12 0 3 bytes) clock.0;
      frequency = some_number (bits 12 3 29 bytes) clock.1.0;
      some = some_number stated points.0;
      whole = not_other (stated % 8) 0 points.1;
      long = not_below (length bytes) (20 + stated) far.1;
      interval = some_number (bits 18 0 16 bytes) clock.1.1.1.0;
    }

pub crf_spelled : (bytes : List ℕ) → crf_refusal bytes ≡ None → SpellsCrf bytes (crf_of bytes)
crf_spelled bytes e =
    let known = accepted_so bytes e in
    let size : bits 16 0 16 bytes ≡ length (take (bits 16 0 16 bytes) (drop 20 bytes)) =
    omega (arith, length-take (bits 16 0 16 bytes) (drop 20 bytes), length-drop 20 bytes, known.long) in
    record {
      accepted = e;
      fields = (
        (known.subtype, tt),
        (
          (bit_shown 1 0 bytes, (known.version, (bit_shown 1 4 bytes, (tt, (bit_shown 1 6 bytes, (bit_shown 1 7 bytes, tt)))))),
          (
            (refl, tt),
            (
              (refl, tt),
              (
                (refl, tt),
                (
                  (refl, (refl, tt)),
                  ((size, tt), ((refl, tt), tt)),
                ),
              ),
            ),
          ),
        ),
      );
      payload = refl;
      reserved = refl;
    }

-- The fields of a packet, as bits of the bytes that spell it.
record Fields (bytes : List ℕ) (v : Crf) : Type 0 where
  subtype : bits 0 0 8 bytes ≡ crf_subtype
  sv : bits 1 0 1 bytes ≡ flag v.sv
  version : bits 1 1 3 bytes ≡ 0
  mr : bits 1 4 1 bytes ≡ flag v.mr
  fs : bits 1 6 1 bytes ≡ flag v.fs
  tu : bits 1 7 1 bytes ≡ flag v.tu
  seq : bits 2 0 8 bytes ≡ v.seq
  kind : bits 3 0 8 bytes ≡ v.kind
  stream_id : bits 4 0 64 bytes ≡ v.stream_id
  pull : bits 12 0 3 bytes ≡ v.pull
  base_frequency : bits 12 3 29 bytes ≡ v.base_frequency
  stated : bits 16 0 16 bytes ≡ length v.payload
  interval : bits 18 0 16 bytes ≡ v.interval

fields_of : (bytes : List ℕ) (v : Crf) → Spells crf_layout v bytes → Fields bytes v
fields_of bytes v ((subtype, _), ((sv, (version, (mr, (_, (fs, (tu, _)))))), ((seq, _), ((kind, _), ((stream_id, _), ((pull, (base_frequency, _)), ((stated, _), ((interval, _), _)))))))) = record {
  subtype = subtype;
  sv = sv;
  version = version;
  mr = mr;
  fs = fs;
  tu = tu;
  seq = seq;
  kind = kind;
  stream_id = stream_id;
  pull = pull;
  base_frequency = base_frequency;
  stated = stated;
  interval = interval;
}

pub crf_writable : (bytes : List ℕ) (v : Crf) → SpellsCrf bytes v → IsWritableCrf v
crf_writable bytes v s =
    let known = accepted_so bytes s.accepted in
    let f = fields_of bytes v s.fields in
    record {
      pull = rw (← f.pull) known.pull;
      some_frequency = rw (← f.base_frequency) known.frequency;
      base_frequency = rw (← f.base_frequency) (bits-below 12 3 29 bytes);
      some_interval = rw (← f.interval) known.interval;
      some_points = rw (← f.stated) known.some;
      whole_points = rw (← f.stated) known.whole;
      data_length = rw (← f.stated) (bits-below 16 0 16 bytes);
    }

-- ---- packets with equal fields are equal

abbrev packet : Bool → Bool → Bool → Bool → ℕ → ℕ → ℕ → ℕ → ℕ → ℕ → List ℕ → Bool → Crf
packet sv mr fs tu seq kind stream_id pull base_frequency interval payload reserved = record {
  sv = sv;
  mr = mr;
  fs = fs;
  tu = tu;
  seq = seq;
  kind = kind;
  stream_id = stream_id;
  pull = pull;
  base_frequency = base_frequency;
  interval = interval;
  payload = payload;
  reserved = reserved;
}

same_packet : (a a' b b' c c' d d' : Bool) (e e' f f' g g' h h' i i' j j' : ℕ) (k k' : List ℕ) (l l' : Bool)
    → a ≡ a' → b ≡ b' → c ≡ c' → d ≡ d' → e ≡ e' → f ≡ f' → g ≡ g' → h ≡ h' → i ≡ i' → j ≡ j' → k ≡ k' → l ≡ l'
    → packet a b c d e f g h i j k l ≡ packet a' b' c' d' e' f' g' h' i' j' k' l'
same_packet a a' b b' c c' d d' e e' f f' g g' h h' i i' j j' k k' l l' m n o p q r s t u v w x =
    rw (m, n, o, p, q, r, s, t, u, v, w, x) refl

pub one_packet : (bytes : List ℕ) (v : Crf) → SpellsCrf bytes v → v ≡ crf_of bytes
one_packet bytes v s =
    let f = fields_of bytes v s.fields in
    same_packet _ _ _ _ _ _ _ _ _ _ _ _ _ _ _ _ _ _ _ _ _ _ _ _
    (sym (bit_of_flag (bits 1 0 1 bytes) v.sv f.sv))
    (sym (bit_of_flag (bits 1 4 1 bytes) v.mr f.mr))
    (sym (bit_of_flag (bits 1 6 1 bytes) v.fs f.fs))
    (sym (bit_of_flag (bits 1 7 1 bytes) v.tu f.tu))
    (sym f.seq)
    (sym f.kind)
    (sym f.stream_id)
    (sym f.pull)
    (sym f.base_frequency)
    (sym f.interval)
    s.payload
    s.reserved

crf_laid : IsLaid 0 crf_layout
crf_laid = (refl, refl, (refl, refl, (refl, refl, (refl, refl, (refl, refl, (refl, refl, (refl, refl, (refl, refl, tt))))))))

-- ---- a packet that was written is read back, whatever follows it

header_whole : (n : ℕ) → 20 ≤ n → first_short crf_layout n ≡ None
header_whole n long =
    rw (
      le-ltb n 1 (omega arith),
      le-ltb n 2 (omega arith),
      le-ltb n 3 (omega arith),
      le-ltb n 4 (omega arith),
      le-ltb n 12 (omega arith),
      le-ltb n 16 (omega arith),
      le-ltb n 18 (omega arith),
      le-ltb n 20 (omega arith),
    ) refl

some_not_zero : (n : ℕ) → 0 < n → eqb n 0 ≡ false
some_not_zero n some = unequal n 0 (λ e. omega arith)

timestamps_there : (stated n : ℕ) → 0 < stated → stated % 8 ≡ 0 → 20 + stated ≤ n → misses_timestamps stated n ≡ false
timestamps_there stated n some whole long =
    rw (some_not_zero stated some, same_not_other (stated % 8) 0 whole, le-ltb n (20 + stated) long) refl

accepted_again : (bytes : List ℕ) (v : Crf) → IsWritableCrf v → Fields bytes (plain_crf v) → 20 + length v.payload ≤ length bytes → crf_refusal bytes ≡ None
accepted_again bytes v whole j long =
    let start = header_whole (length bytes) (omega arith) in
    let shared : first_row (shared_rows bytes) ≡ None =
    passed_rows (shared_rows bytes) (same_not_other (bits 0 0 8 bytes) crf_subtype j.subtype, (same_not_other (bits 1 1 3 bytes) 0 j.version, tt)) in
    let clock : first_row (clock_rows bytes) ≡ None =
    passed_rows (clock_rows bytes) (
      rw (j.pull) (le-ltb last_pull v.pull whole.pull),
      (
        rw (j.base_frequency) (some_not_zero v.base_frequency whole.some_frequency),
        (
          rw (j.stated) (timestamps_there (length v.payload) (length bytes) whole.some_points whole.whole_points long),
          (rw (j.interval) (some_not_zero v.interval whole.some_interval), tt),
        ),
      ),
    ) in
    or_else-accepted _ _ start (or_else-accepted _ _ shared clock)

-- If bytes hold the header as the writer writes it, and then the payload, the bytes spell the packet. The reserved bit
-- of the spelled packet is 0.
held : (bytes : List ℕ) (v : Crf) → IsWritableCrf v → Holds crf_layout v bytes → 20 + length v.payload ≤ length bytes
    → v.payload ≡ take (length v.payload) (drop 20 bytes) → SpellsCrf bytes (plain_crf v)
held bytes v whole f long payload =
    let spells : Spells crf_layout (plain_crf v) bytes = held_spells crf_layout (plain_crf v) bytes refl f in
    let fields = fields_of bytes (plain_crf v) spells in
    record {
      accepted = accepted_again bytes v whole fields long;
      fields = spells;
      payload = payload ∙ ap (λ (n : ℕ). take n (drop 20 bytes)) (sym fields.stated);
      reserved = sym (unset_spelled crf_layout v bytes f);
    }

pub crf_again : (v : Crf) (rest : List ℕ) → IsWritableCrf v → Fits crf_layout v → SpellsCrf (crf_spelling v ++ rest) (plain_crf v)
crf_again v rest whole fits =
    let regrouped : crf_spelling v ++ rest ≡ spelling crf_layout v ++ (v.payload ++ rest) = append_assoc (spelling crf_layout v) v.payload rest in
    let f : Holds crf_layout v (spelling crf_layout v ++ (v.payload ++ rest)) = holds_spelled crf_layout v 0 [] (v.payload ++ rest) refl crf_laid fits in
    let long : 20 + length v.payload ≤ length (spelling crf_layout v ++ (v.payload ++ rest)) =
    omega (arith, length-append (spelling crf_layout v) (v.payload ++ rest), length-append v.payload rest) in
    rw regrouped (held (spelling crf_layout v ++ (v.payload ++ rest)) v whole f long (sym (take_at v.payload rest (length v.payload) refl)))

-- ---- if bytes spell a packet, set no reserved bit and end with the packet, they are exactly the bytes that are
-- written for the packet

pub crf_only : (bytes : List ℕ) (v : Crf) → AreBytes bytes → SpellsCrf bytes v → v.reserved ≡ false → length bytes ≡ 20 + length v.payload
    → bytes ≡ crf_spelling v
crf_only bytes v fits s plain len =
    let h : Holds crf_layout v bytes = spelled_holds crf_layout v bytes refl s.fields (sym s.reserved ∙ plain) in
    let stated : bits 16 0 16 bytes ≡ length v.payload = (fields_of bytes v s.fields).stated in
    let rest : v.payload ≡ drop 20 bytes =
    s.payload ∙ take_all (bits 16 0 16 bytes) (drop 20 bytes) (omega (arith, length-drop 20 bytes, stated, len)) in
    only_spelling crf_layout v bytes 20 crf_laid refl fits (omega arith) h ∙ ap (λ (xs : List ℕ). spelling crf_layout v ++ xs) (sym rest)
