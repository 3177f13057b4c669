-- A noted packet has three cases: its stream is tracked already; its stream becomes tracked; or its stream is not
-- tracked because 1,024 other streams are tracked.
use Rattle.std.proofs.Common.{◌≡◌, ℕ, ◌+◌, ◌<◌, ◌≤◌, List, length, Option, Some, None, sym, ap, ◌∙◌, subst, arith, rules}
use Rattle.std.specs.Prelude.{if◌then◌else◌, is_some}
use Rattle.std.specs.HashMap.{HashMap}
use Rattle.std.specs.Map.{lookup}
use Rattle.sequence_track.specs.declared.stream.StreamKey.{StreamKey}
use Rattle.sequence_track.specs.declared.stream.StreamState.{StreamState}
use Rattle.sequence_track.specs.Findings.{stream_of, same_stream, most_streams}
use Rattle.sequence_track.specs.Tracking.{StandsFor}
use Rattle.sequence_track.proofs.Noted.{noted-known, found-known, noted-full, found-full, noted-new, found-new, Puts}
use Rattle.sequence_track.proofs.tracker.Tracker.note.Goals as goal

-- contracts see the state that the tracker's map holds for the packet's stream
view : (entries shown : List (StreamKey × StreamState)) (a b : StreamKey) (o : Option StreamState) → entries ≡ shown → a ≡ b
    → o ≡ lookup (same_stream a) entries → lookup (same_stream b) entries ≡ o
view entries shown a b o e s is = ap (λ (x : StreamKey). lookup (same_stream x) entries) (sym s) ∙ sym is

pub returns-in-Some-clause-noted : goal.returns-in-Some-clause-noted
returns-in-Some-clause-noted c notes stands =
    let before : StandsFor c.self.inside.streams.entries notes = subst (λ (l : List (StreamKey × StreamState)). StandsFor l notes) (sym c.self.view_is) stands in
    let puts : Puts c.self.inside.streams.entries (c.get_mut.follows.lender c.after.result).entries c.stream-stream.result c.after.result =
    ((c.get_mut.follows.holds c.after.result).3 (search rules)).0 in
    noted-known c.self.inside.streams.entries (c.get_mut.follows.lender c.after.result).entries notes c.args.seen c.in-Some.state.now c.after.result
    before
    (view c.self.inside.streams.entries c.args.self.now c.stream-stream.result (stream_of c.args.seen) (Some c.in-Some.state.now) c.self.view_is c.stream-stream.ensures c.in-Some.ensures.value)
    (subst (λ (s : StreamKey). Puts c.self.inside.streams.entries (c.get_mut.follows.lender c.after.result).entries s c.after.result) c.stream-stream.ensures puts)
    (c.get_mut.follows.holds c.after.result).2
    c.after.ensures

pub returns-in-Some-clause-found : goal.returns-in-Some-clause-found
returns-in-Some-clause-found c notes stands =
    let before : StandsFor c.self.inside.streams.entries notes = subst (λ (l : List (StreamKey × StreamState)). StandsFor l notes) (sym c.self.view_is) stands in
    found-known c.self.inside.streams.entries notes c.args.seen c.in-Some.state.now c.findings-findings.result before
    (view c.self.inside.streams.entries c.args.self.now c.stream-stream.result (stream_of c.args.seen) (Some c.in-Some.state.now) c.self.view_is c.stream-stream.ensures c.in-Some.ensures.value)
    c.findings-findings.ensures

pub returns-then-len-eq-MOST_STREAMS-clause-noted : goal.returns-then-len-eq-MOST_STREAMS-clause-noted
returns-then-len-eq-MOST_STREAMS-clause-noted c notes stands =
    let same : c.get_mut.follows.lender-at-none.entries ≡ c.self.inside.streams.entries = ap (λ (m : HashMap StreamKey StreamState _). m.entries) c.get_mut.follows.holds-at-none in
    let before : StandsFor c.get_mut.follows.lender-at-none.entries notes = subst (λ (l : List (StreamKey × StreamState)). StandsFor l notes) (sym (same ∙ c.self.view_is)) stands in
    let none : lookup (same_stream (stream_of c.args.seen)) c.get_mut.follows.lender-at-none.entries ≡ None =
    ap (λ (l : List (StreamKey × StreamState)). lookup (same_stream (stream_of c.args.seen)) l) same
    ∙ view c.self.inside.streams.entries c.args.self.now c.stream-stream.result (stream_of c.args.seen) None c.self.view_is c.stream-stream.ensures c.in_default.ensures.value in
    noted-full c.get_mut.follows.lender-at-none.entries notes c.args.seen before none (sym c.len.ensures.len ∙ c.if-len-eq-MOST_STREAMS.true)

pub returns-then-len-eq-MOST_STREAMS-clause-found : goal.returns-then-len-eq-MOST_STREAMS-clause-found
returns-then-len-eq-MOST_STREAMS-clause-found c notes stands =
    let same : c.get_mut.follows.lender-at-none.entries ≡ c.self.inside.streams.entries = ap (λ (m : HashMap StreamKey StreamState _). m.entries) c.get_mut.follows.holds-at-none in
    let before : StandsFor c.get_mut.follows.lender-at-none.entries notes = subst (λ (l : List (StreamKey × StreamState)). StandsFor l notes) (sym (same ∙ c.self.view_is)) stands in
    let none : lookup (same_stream (stream_of c.args.seen)) c.get_mut.follows.lender-at-none.entries ≡ None =
    ap (λ (l : List (StreamKey × StreamState)). lookup (same_stream (stream_of c.args.seen)) l) same
    ∙ view c.self.inside.streams.entries c.args.self.now c.stream-stream.result (stream_of c.args.seen) None c.self.view_is c.stream-stream.ensures c.in_default.ensures.value in
    c.of_untracked.ensures ∙ found-full c.get_mut.follows.lender-at-none.entries notes c.args.seen before none (sym c.len.ensures.len ∙ c.if-len-eq-MOST_STREAMS.true)

few : (len n : ℕ) → len ≡ n → (len ≡ 1024 → ⊥) → n ≤ most_streams → n < most_streams
few len n e ne h = omega arith

pub returns-clause-noted : goal.returns-clause-noted
returns-clause-noted c notes stands =
    let same : c.get_mut.follows.lender-at-none.entries ≡ c.self.inside.streams.entries = ap (λ (m : HashMap StreamKey StreamState _). m.entries) c.get_mut.follows.holds-at-none in
    let before : StandsFor c.get_mut.follows.lender-at-none.entries notes = subst (λ (l : List (StreamKey × StreamState)). StandsFor l notes) (sym (same ∙ c.self.view_is)) stands in
    let none : lookup (same_stream (stream_of c.args.seen)) c.get_mut.follows.lender-at-none.entries ≡ None =
    ap (λ (l : List (StreamKey × StreamState)). lookup (same_stream (stream_of c.args.seen)) l) same
    ∙ view c.self.inside.streams.entries c.args.self.now c.stream-stream.result (stream_of c.args.seen) None c.self.view_is c.stream-stream.ensures c.in_default.ensures.value in
    let old : c.in-Ok.field-0 ≡ None = c.in-Ok.ensures.old
    ∙ ap (λ (x : StreamKey). lookup (same_stream x) c.get_mut.follows.lender-at-none.entries) c.stream-stream.ensures ∙ none in
    let puts : Puts c.get_mut.follows.lender-at-none.entries c.insert.new.self.entries c.stream-stream.result c.first.result = c.in-Ok.ensures.updates.0 in
    noted-new c.get_mut.follows.lender-at-none.entries c.insert.new.self.entries notes c.args.seen c.first.result before none
    (few _ _ c.len.ensures.len c.if-len-eq-MOST_STREAMS.false (subst (λ (l : List (StreamKey × StreamState)). length l ≤ most_streams) (sym same) c.self.invariant.0))
    (subst (λ (s : StreamKey). Puts c.get_mut.follows.lender-at-none.entries c.insert.new.self.entries s c.first.result) c.stream-stream.ensures puts)
    (c.in-Ok.ensures.len ∙ ap (λ (o : Option StreamState). length c.get_mut.follows.lender-at-none.entries + (if is_some o then 0 else 1)) old)
    c.first.ensures

pub returns-clause-found : goal.returns-clause-found
returns-clause-found c notes stands =
    let same : c.get_mut.follows.lender-at-none.entries ≡ c.self.inside.streams.entries = ap (λ (m : HashMap StreamKey StreamState _). m.entries) c.get_mut.follows.holds-at-none in
    let before : StandsFor c.get_mut.follows.lender-at-none.entries notes = subst (λ (l : List (StreamKey × StreamState)). StandsFor l notes) (sym (same ∙ c.self.view_is)) stands in
    let none : lookup (same_stream (stream_of c.args.seen)) c.get_mut.follows.lender-at-none.entries ≡ None =
    ap (λ (l : List (StreamKey × StreamState)). lookup (same_stream (stream_of c.args.seen)) l) same
    ∙ view c.self.inside.streams.entries c.args.self.now c.stream-stream.result (stream_of c.args.seen) None c.self.view_is c.stream-stream.ensures c.in_default.ensures.value in
    c.first_findings.ensures ∙ found-new c.get_mut.follows.lender-at-none.entries notes c.args.seen before none
    (few _ _ c.len.ensures.len c.if-len-eq-MOST_STREAMS.false (subst (λ (l : List (StreamKey × StreamState)). length l ≤ most_streams) (sym same) c.self.invariant.0))
