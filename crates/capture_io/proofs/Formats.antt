-- The layout of a capture, and what its bytes mean in that layout.
use Rattle.std.proofs.Common.{◌≡◌, ℕ, ◌≤◌, ◌<◌, true, false, List, [], ◌++◌, length, Option, Some, None, refl, sym, ap, ◌∙◌, arith, inl, inr, length-append}
use Rattle.std.proofs.lemmas.Bool.{cases_Bool, le-leb}
use Rattle.std.proofs.lemmas.Bool.Decides.{nat_tests}
use Rattle.avtp_base.specs.declared.refusal.Refusal.{Refusal}
use Rattle.avtp_base.specs.declared.field.Field.TheVariants.{Magic}
use Rattle.pcap_frames.specs.declared.style.Order.TheVariants.{Little}
use Rattle.pcap_frames.specs.Layout.{certain, file_refusal}
use Rattle.pcap_frames.specs.Capture as classic
use Rattle.pcap_frames.proofs.Append.{number_stays}
use Rattle.pcap_frames.proofs.Fields.{certain_is}
use Rattle.pcapng_blocks.specs.Blocks as ng
use Rattle.capture_io.specs.declared.capture_reader.Format.{Format}
use Rattle.capture_io.specs.declared.capture_reader.Format.TheVariants.{Classic, Pcapng}
use Rattle.capture_io.specs.Formats.{is_pcapng, format_in, meaning_of, records_in, refusal_in, certain_in}

-- the first four bytes determine the layout, whatever bytes follow
format_stays : (bytes more : List ℕ) → 4 ≤ length bytes → is_pcapng (bytes ++ more) ≡ is_pcapng bytes
unfolding is_pcapng
format_stays bytes more long =
    rw (le-leb 4 (length bytes) long, le-leb 4 (length (bytes ++ more)) (omega (arith, long, length-append bytes more)), number_stays Little 0 4 bytes more long) refl

few : (bytes : List ℕ) → length bytes < 4 → is_pcapng bytes ≡ false
unfolding is_pcapng
few bytes short = grind (arith, nat_tests)

-- ---- a capture in one layout

pub is_classic : (bytes : List ℕ) → is_pcapng bytes ≡ false → format_in bytes ≡ Classic
is_classic bytes is = rw is refl

pub is_ng : (bytes : List ℕ) → is_pcapng bytes ≡ true → format_in bytes ≡ Pcapng
is_ng bytes is = rw is refl

format_short : (bytes : List ℕ) → length bytes < 4 → format_in bytes ≡ Classic
format_short bytes short = is_classic bytes (few bytes short)

pub format_longer : (bytes more : List ℕ) → 4 ≤ length bytes → format_in (bytes ++ more) ≡ format_in bytes
format_longer bytes more long = rw (format_stays bytes more long) refl

pub records_by : (format : Format) (bytes : List ℕ) → format_in bytes ≡ format → records_in bytes ≡ (meaning_of format).records bytes
unfolding records_in
records_by format bytes is = ap (λ (f : Format). (meaning_of f).records bytes) is

pub refusal_by : (format : Format) (bytes : List ℕ) → format_in bytes ≡ format → refusal_in bytes ≡ (meaning_of format).refusal bytes
unfolding refusal_in
refusal_by format bytes is = ap (λ (f : Format). (meaning_of f).refusal bytes) is

pub certain_by : (format : Format) (bytes : List ℕ) → format_in bytes ≡ format → certain_in bytes ≡ (meaning_of format).certain bytes
unfolding certain_in
certain_by format bytes is = ap (λ (f : Format). (meaning_of f).certain bytes) is

-- ---- fewer than four bytes

magic_short : (bytes : List ℕ) → length bytes < 4 → file_refusal bytes ≡ Some (record { field = Magic; at = 0; short = true })
unfolding file_refusal
magic_short bytes short = grind (arith, nat_tests)

style_none : (bytes : List ℕ) → length bytes < 4 → classic.style_of bytes ≡ None
style_none bytes short = rw (magic_short bytes short) refl

pub short_records : (bytes : List ℕ) → length bytes < 4 → records_in bytes ≡ []
unfolding classic.whole_records
short_records bytes short = records_by Classic bytes (format_short bytes short) ∙ rw (style_none bytes short) refl

first_short : (bytes : List ℕ) → length bytes < 4 → classic.first_refusal bytes ≡ Some (record { field = Magic; at = 0; short = true })
unfolding classic.first_refusal
first_short bytes short = rw (style_none bytes short) (magic_short bytes short)

pub short_refusal : (bytes : List ℕ) → length bytes < 4 → refusal_in bytes ≡ Some (record { field = Magic; at = 0; short = true })
short_refusal bytes short = refusal_by Classic bytes (format_short bytes short) ∙ first_short bytes short

pub short_certain : (bytes : List ℕ) → length bytes < 4 → certain_in bytes ≡ None
short_certain bytes short = certain_by Classic bytes (format_short bytes short) ∙ ap certain (first_short bytes short)

-- ---- a pcapng capture read as classic pcap

magic_other : (bytes : List ℕ) → is_pcapng bytes ≡ true → file_refusal bytes ≡ Some (record { field = Magic; at = 0; short = false })
unfolding is_pcapng file_refusal
magic_other bytes is = grind (arith, nat_tests)

first_other : (bytes : List ℕ) → is_pcapng bytes ≡ true → classic.first_refusal bytes ≡ Some (record { field = Magic; at = 0; short = false })
unfolding classic.first_refusal
first_other bytes is = let refused = magic_other bytes is in rw refused refused

pub accepted_classic : (bytes : List ℕ) → classic.first_refusal bytes ≡ None → is_pcapng bytes ≡ false
accepted_classic bytes none = elim (cases_Bool (is_pcapng bytes)) [
  | inl is ↦ absurd (let t : None ≡ Some (record { field = Magic; at = 0; short = false }) = sym none ∙ first_other bytes is in cc)
  | inr is ↦ is
]

-- ---- a refusal that no later bytes can change is the first refusal

settled_first : (x : Option ng.Ending) (r : Refusal) → ng.settled x ≡ Some r → ng.refusal_of x ≡ Some r
settled_first None r e = absurd cc
settled_first (Some ending) r e = elim (cases_Bool ending.cut) [
  | inl cut ↦ absurd (let t : None ≡ Some r = sym (rw cut refl) ∙ e in cc)
  | inr sure ↦ (sym (rw sure refl) ∙ e)
]

pcapng_first : (bytes : List ℕ) (r : Refusal) → ng.settled (ng.contents bytes).ending ≡ Some r → ng.first_refusal bytes ≡ Some r
unfolding ng.first_refusal
pcapng_first bytes r e = settled_first (ng.contents bytes).ending r e

pub certain_first : (bytes : List ℕ) (r : Refusal) → certain_in bytes ≡ Some r → refusal_in bytes ≡ Some r
certain_first bytes r e = elim (cases_Bool (is_pcapng bytes)) [
  | inl is ↦ refusal_by Pcapng bytes (is_ng bytes is) ∙ pcapng_first bytes r (sym (certain_by Pcapng bytes (is_ng bytes is)) ∙ e)
  | inr is ↦ refusal_by Classic bytes (is_classic bytes is) ∙ (certain_is (classic.first_refusal bytes) r (sym (certain_by Classic bytes (is_classic bytes is)) ∙ e)).0
]
