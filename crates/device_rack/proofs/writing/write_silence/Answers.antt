use Rattle.std.proofs.Common.{◌≡◌, ℕ, ◌+◌, ◌-◌, ◌*◌, ◌/◌, ◌%◌, ◌<◌, ◌≤◌, List, ◌++◌, take, ap, ◌∙◌, arith}
use Rattle.std.proofs.Math.Nat.{div-add-mod, mul-le-mul_left}
use Rattle.device_rack.specs.RawOutput.{silence_of}
use Rattle.device_rack.proofs.Silences.{piece_and_more, pieces_more, silence_front}
use Rattle.device_rack.proofs.Writings.{HasWritten-cut, HasWritten-none, HasWritten-same, HasWritten-then}
use Rattle.device_rack.proofs.writing.write_silence.Goals as goal

pub loop-init : goal.loop-init
loop-init g c = HasWritten-none (g.S.Sink.state c.args.sink.now) tt

pub loop-preserved : goal.loop-preserved
loop-preserved g c =
    let before = silence_of c.args.silence (c.loop.counter * 1024) in
    let all : before ++ c.piece-piece.result ≡ silence_of c.args.silence ((c.loop.counter + 1) * 1024) =
    ap (λ (xs : List ℕ). before ++ xs) c.piece-piece.ensures ∙ pieces_more c.args.silence c.loop.counter 1024 ∙ ap (silence_of c.args.silence) (omega arith) in
    HasWritten-same _ _ all (HasWritten-then before c.piece-piece.result c.loop.invariant c.in_ok-write_all.ensures)

pub returns-in_err-write_all : goal.returns-in_err-write_all
returns-in_err-write_all g c =
    let count = c.args.count in
    let pieces = c.loop.counter in
    let more : pieces + 1 ≤ count / 1024 = let below : pieces < count / 1024 = c.loop-test.true in omega arith in
    let enough : 1024 * (pieces + 1) ≤ 1024 * (count / 1024) = mul-le-mul_left 1024 more in
    let rest : ℕ = count - (pieces * 1024 + 1024) in
    let is : count ≡ pieces * 1024 + 1024 + rest = omega (arith, div-add-mod count 1024, enough) in
    let before = silence_of c.args.silence (pieces * 1024) in
    HasWritten-same ((before ++ c.piece-piece.result) ++ silence_of c.args.silence rest) (silence_of c.args.silence count)
    (ap (λ (xs : List ℕ). (before ++ xs) ++ silence_of c.args.silence rest) c.piece-piece.ensures ∙ piece_and_more c.args.silence pieces rest count is)
    (HasWritten-cut _ _ (HasWritten-then before c.piece-piece.result c.loop.invariant c.in_err-write_all.ensures) c.from_residual.ensures.0)

pub returns : goal.returns
returns g c =
    let count = c.args.count in
    let rest = count % 1024 in
    let before = silence_of c.args.silence (c.loop.counter * 1024) in
    let ended : c.loop.counter ≡ count / 1024 = omega arith in
    let all : c.loop.counter * 1024 + rest ≡ count = omega (arith, div-add-mod count 1024) in
    let front : take rest c.piece-piece.result ≡ silence_of c.args.silence rest = ap (take rest) c.piece-piece.ensures ∙ silence_front c.args.silence 1024 rest (omega arith) in
    HasWritten-same (before ++ take rest c.piece-piece.result) (silence_of c.args.silence count)
    (ap (λ (xs : List ℕ). before ++ xs) front ∙ pieces_more c.args.silence c.loop.counter rest ∙ ap (silence_of c.args.silence) all)
    (HasWritten-then before (take rest c.piece-piece.result) c.loop.invariant c.write_all-2.ensures)
