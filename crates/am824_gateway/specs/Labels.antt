-- Values of 24 bits with and without the label of AM824 (IEC 61883-6). A quadlet is a label byte and 24 bits. The most
-- significant byte of a value comes first, as in PCM of 24 bits.
use Rattle.std.specs.Prelude.{ℕ, zero, suc, ◌*◌, ◌+◌, ◌/◌, ◌==◌, Bool, true, ◌&&◌, List, [], ◌∷◌, ◌++◌, length, get_or, take, drop}
use Rattle.am824_gateway.specs.declared.scan.To.{To}
use Rattle.am824_gateway.specs.declared.scan.To.TheVariants.{Aaf, Am824}

-- the label of linear audio of 24 bits (IEC 61883-6)
abbrev pub linear_label : ℕ
linear_label = 0x40

-- the first n quadlets have the label of linear audio of 24 bits
abbrev pub first_are_linear : ℕ → List ℕ → Bool
first_are_linear zero quadlets = true
first_are_linear (suc n) quadlets = first_are_linear n quadlets && (get_or quadlets (4 * n) 0 == linear_label)

-- each quadlet has the label of linear audio of 24 bits
abbrev pub are_linear : List ℕ → Bool
are_linear quadlets = first_are_linear (length quadlets / 4) quadlets

-- n values of 24 bits as quadlets, each with the label of linear audio of 24 bits before the value
abbrev pub labelled : ℕ → List ℕ → List ℕ
labelled zero values = []
labelled (suc n) values = labelled n values ++ (linear_label ∷ take 3 (drop (3 * n) values))

-- n quadlets as values of 24 bits, each without its label
abbrev pub unlabelled : ℕ → List ℕ → List ℕ
unlabelled zero quadlets = []
unlabelled (suc n) quadlets = unlabelled n quadlets ++ take 3 (drop (4 * n + 1) quadlets)

-- The number of bytes of a value of 24 bits before it is converted to this format. A value in PCM has 3 bytes. A value
-- in AM824 has 4 bytes, because of its label.
abbrev pub value_in : To → ℕ
value_in Am824 = 3
value_in Aaf = 4

-- the number of bytes of a value of 24 bits after it is converted to this format
abbrev pub value_out : To → ℕ
value_out Am824 = 4
value_out Aaf = 3

-- n values of 24 bits in this format: with labels in AM824, without labels in PCM
abbrev pub turned : To → ℕ → List ℕ → List ℕ
turned Am824 n values = labelled n values
turned Aaf n quadlets = unlabelled n quadlets
