-- Only private functions and proofs use these definitions. The common stream header (IEEE 1722-2016,
-- 4.4.4).
use Rattle.std.specs.Prelude.{ℕ, [], ◌∷◌}
use Rattle.avtp_base.specs.declared.field.Field.TheVariants.{FormatData, FormatFlags}
use Rattle.avtp_base.specs.Layout.{Layout, part, holds}
use Rattle.avtp_header.specs.declared.header.StreamHeader.{StreamHeader}
use Rattle.avtp_header.specs.Header.{stream_layout}

-- the table of a stream header whose format-specific bits hold these numbers
abbrev pub filled_layout : ℕ → ℕ → ℕ → Layout StreamHeader
filled_layout format_bits format_data format_flags = stream_layout (λ h. h)
    (holds 2 (λ h. format_bits) ∷ [])
    (part FormatData 16 (holds 32 (λ h. format_data) ∷ []) ∷ [])
    (part FormatFlags 22 (holds 16 (λ h. format_flags) ∷ []) ∷ [])
