-- Two headers of a fragment hold the first byte of its NAL unit. A fragment's own reserved bit is tested after the bits
-- that all packets share.
use Rattle.std.proofs.Common.{◌≡◌, ℕ, ◌+◌, ◌*◌, ◌%◌, ◌^◌, ◌<◌, Bool, true, false, cond, not, eqb, ◌⊎◌, inl, inr, List, [], ◌∷◌, ◌++◌, bit_or, refl, ◌∙◌, arith}
use Rattle.std.proofs.lemmas.Nat.{or_shifted}
use Rattle.avtp_base.specs.Octets.{Range, range, any_set, bits}
use Rattle.avtp_base.specs.Layout.{reserved_ranges}
use Rattle.avtp_base.proofs.BitLemmas.{bits-below}
use Rattle.cvf_format.specs.declared.cvf.NalPart.{NalPart}
use Rattle.cvf_format.specs.declared.cvf.NalPart.TheVariants.{First, Middle, Last}
use Rattle.cvf_format.specs.Cvf.{cvf_layout, fragment_headers, sets_reserved}
use Rattle.avtp_base.proofs.LayoutLemmas.{unset-first}

pub joined : (at : ℕ) (xs : List ℕ) → bit_or (bits 28 0 3 xs * 32 % 256) (bits at 3 5 xs) ≡ bits 28 0 3 xs * 32 + bits at 3 5 xs
joined at xs =
    let a : bits 28 0 3 xs < 8 = bits-below 28 0 3 xs in
    let b : bits at 3 5 xs < 32 = bits-below at 3 5 xs in
    let whole : bits 28 0 3 xs * 32 % 256 ≡ bits 28 0 3 xs * 2 ^ 5 = omega arith in
    rw whole (or_shifted (bits 28 0 3 xs) 5 (bits at 3 5 xs) b)

-- if no bit of the ranges `xs` is set, a bit of `xs ++ ys` is set if and only if a bit of `ys` is set
unset_before : (xs ys : List Range) (bytes : List ℕ) → any_set xs bytes ≡ false → any_set (xs ++ ys) bytes ≡ any_set ys bytes
unset_before [] ys bytes unset = refl
unset_before (x ∷ xs) ys bytes unset =
    let parts = unset-first (eqb (bits x.at x.first x.width bytes) 0) (any_set xs bytes) unset in
    rw (parts.0) (unset_before xs ys bytes parts.1)

not_unset : (unset : Bool) → cond unset false true ≡ not unset
not_unset true = refl
not_unset false = refl

-- if the reserved bits that all packets share are 0, a fragment sets a reserved bit if and only if the reserved bit of
-- its FU header is set
pub fragment_reserved : (part : NalPart) (bytes : List ℕ) → (part ≡ First) ⊎ ((part ≡ Middle) ⊎ (part ≡ Last))
    → any_set (reserved_ranges (cvf_layout [])) bytes ≡ false → sets_reserved part bytes ≡ not (eqb (bits 29 2 1 bytes) 0)
fragment_reserved part bytes is unset =
    let here : any_set (reserved_ranges (cvf_layout fragment_headers)) bytes ≡ not (eqb (bits 29 2 1 bytes) 0) =
    unset_before (reserved_ranges (cvf_layout [])) (range 29 2 1 ∷ []) bytes unset ∙ not_unset (eqb (bits 29 2 1 bytes) 0) in
    elim is [
      | inl first ↦ rw first here
      | inr more ↦ elim more [ inl middle ↦ rw middle here | inr last ↦ rw last here ]
    ]
