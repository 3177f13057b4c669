-- The headers of a frame, made from those of a frame without samples.
use Rattle.std.proofs.Common.{◌≡◌, ℕ, ◌+◌, ◌%◌, ◌<◌, ℤ, pos, List, [], ◌∷◌, ◌++◌, length, take, drop, refl, ◌∙◌, arith, append-nil, drop_of_length-le}
use Rattle.byteorder.specs.Endian.{big_bytes}
use Rattle.talk_plan.specs.Ethernet.{packet_bytes}
use Rattle.am824_gateway.specs.declared.piece.Piece.{Piece}
use Rattle.am824_gateway.specs.declared.scan.Shape.{Shape}
use Rattle.am824_gateway.specs.declared.scan.To.TheVariants.{Aaf, Am824}
use Rattle.am824_gateway.specs.Packets.{packet_of, timestamp_at}
use Rattle.am824_gateway.specs.state.Streams.{no_samples, stated_of}

-- if `xs` replaces all elements of a list, the new list is `xs`
pub put_all : (o new xs : List ℕ) (n : ℕ) → length o ≡ n → new ≡ take 0 o ++ (xs ++ drop (0 + n) o) → new ≡ xs
put_all o new xs n size e =
    let none : drop (0 + n) o ≡ [] = drop_of_length-le o {i = 0 + n} (omega arith) in
    e ∙ rw none (append-nil xs)

-- If the sequence number, the timestamp, the length and the block count are written into the headers of an AM824 packet
-- without samples, the headers are those of packet n.
pub am824_headers : (shape : Shape) (id n : ℕ) (instant : ℤ) (p : Piece) (samples o1 o2 o3 o4 o5 : List ℕ) (seq timestamp stated : ℕ)
    → o1 ≡ packet_bytes (packet_of Am824 shape id 0 (pos 0) no_samples [])
    → o2 ≡ take 20 o1 ++ ((seq ∷ []) ++ drop 21 o1) → o3 ≡ take 30 o2 ++ (big_bytes 4 timestamp ++ drop 34 o2)
    → o4 ≡ take 38 o3 ++ (big_bytes 2 stated ++ drop 40 o3) → o5 ≡ take 45 o4 ++ ((p.block ∷ []) ++ drop 46 o4)
    → seq ≡ n % 256 → timestamp ≡ timestamp_at instant → stated ≡ stated_of Am824 shape p → p.block < 256
    → o5 ++ samples ≡ packet_bytes (packet_of Am824 shape id n instant p samples)
unfolding packet_bytes
am824_headers shape id n instant p samples o1 o2 o3 o4 o5 seq timestamp stated e1 e2 e3 e4 e5 s t l few =
    let third : n % 256 % 256 ≡ n % 256 = omega arith in
    let block : p.block % 256 ≡ p.block = omega arith in
    rw (e5, e4, e3, e2, e1, s, t, l, third, block) refl

-- If the sequence number, the timestamp and the length are written into the headers of a PCM packet without samples,
-- the headers are those of packet n.
pub aaf_headers : (shape : Shape) (id n : ℕ) (instant : ℤ) (p : Piece) (samples o1 o2 o3 o4 : List ℕ) (seq timestamp stated : ℕ)
    → o1 ≡ packet_bytes (packet_of Aaf shape id 0 (pos 0) no_samples [])
    → o2 ≡ take 20 o1 ++ ((seq ∷ []) ++ drop 21 o1) → o3 ≡ take 30 o2 ++ (big_bytes 4 timestamp ++ drop 34 o2)
    → o4 ≡ take 38 o3 ++ (big_bytes 2 stated ++ drop 40 o3)
    → seq ≡ n % 256 → timestamp ≡ timestamp_at instant → stated ≡ stated_of Aaf shape p
    → o4 ++ samples ≡ packet_bytes (packet_of Aaf shape id n instant p samples)
unfolding packet_bytes
aaf_headers shape id n instant p samples o1 o2 o3 o4 seq timestamp stated e1 e2 e3 e4 s t l =
    let third : n % 256 % 256 ≡ n % 256 = omega arith in
    rw (e4, e3, e2, e1, s, t, l, third) refl
