-- The test vectors as hexadecimal text.
use Rattle.std.specs.Prelude.{ℕ, List, ◌==◌, ◌++◌, if◌then◌else◌, codes}

-- A capture of one AAF packet, as classic pcap: six sample frames of two channels at 48 kHz, due at 1.002 s.
abbrev pub v1 : List ℕ
v1 =
    codes "4d3cb2a102000400000000000000000000000400010000000100000000000000420000004200000091e0f000fe000200" ++
    codes "000000018100600222f00281000002000000000100013bb94e8004500210001800000001ffff0002fffe0003fffd0004" ++
    codes "fffc0005fffb0006fffa"

-- An IEC 61883-6 packet of six data blocks of two AM824 quadlets.
abbrev pub v2 : List ℕ
v2 =
    codes "0081000002000000000100013bb94e800000000000385fa03f0200009002ffff40000000400000004000000040000000" ++
    codes "4000000040000000400000004000000040000000400000004000000040000000"

-- A CVF packet of one H.264 NAL unit, a sequence parameter set of four bytes.
abbrev pub v3 : List ℕ
v3 =
    codes "0381000002000000000100013bb94e8002010000000830003bb94e806742000a"

-- A CRF packet with one timestamp of a 48 kHz audio clock.
abbrev pub v4 : List ℕ
v4 =
    codes "0480000102000000000100020000bb8000080060000000003bb94e80"

-- The capture of the first vector, as a pcapng file.
abbrev pub v5 : List ℕ
v5 =
    codes "0a0d0d0a1c0000004d3c2b1a01000000ffffffffffffffff1c0000000100000020000000010000000000040009000100" ++
    codes "0900000000000000200000000600000064000000000000000000000000ca9a3b420000004200000091e0f000fe000200" ++
    codes "000000018100600222f00281000002000000000100013bb94e8004500210001800000001ffff0002fffe0003fffd0004" ++
    codes "fffc0005fffb0006fffa000064000000"

-- The vector with this number, 1 to 5.
abbrev pub published : ℕ → List ℕ
published n =
    if n == 1 then v1 else
    if n == 2 then v2 else
    if n == 3 then v3 else
    if n == 4 then v4 else v5
