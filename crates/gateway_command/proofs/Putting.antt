-- A batch that is put: its packets were written, or it was skipped.
use Rattle.std.proofs.Common.{◌≡◌, ℕ, length, List, Some, sym, ap, ◌+◌, ◌≤◌, Option, [], None, refl, arith, subst, ◌∷◌, ◌++◌, ◌∙◌, take_all, Ok, take, Err, append-nil}
use Rattle.std.specs.Prelude.{slice_get, map, flat_map}
use Rattle.std.proofs.Math.Seq.{take-append-add}
use Rattle.std.proofs.lemmas.List.{take-map}
use Rattle.talker.specs.declared.turn.Turn.{Turn}
use Rattle.am824_gateway.specs.Gateways.{Gating, IsPieceTurn, given_out}
use Rattle.talker.specs.Turns.{frame_in}
use Rattle.sample_schedule.specs.Batches.{Presented}
use Rattle.talker.specs.Frames.{SentFrame, record_of}
use Rattle.am824_gateway.specs.declared.scan.Shape.{Shape}
use Rattle.am824_gateway.specs.declared.skip.Skip.{Skip}
use Rattle.am824_gateway.specs.Packets.{frames_with}
use Rattle.am824_gateway.specs.Pieces.{given_with, skip_of, unless, Given}
use Rattle.am824_gateway.specs.declared.scan.To.{To}
use Rattle.avtp_base.specs.Files.{Files}
use Rattle.avtp_base.specs.States.{ShelfState, SinkState}
use Rattle.pcap_frames.specs.Capture.{Record}
use Rattle.capture_io.specs.CaptureWriting.{HoldsCapture}
use Rattle.capture_io.specs.Writing.{Writing}
use Rattle.avtp_base.specs.Told.{Appends}
use Rattle.avtp_base.proofs.Told.{Appends-nil}
use Rattle.avtp_text.specs.Written.{written, Prints}
use Rattle.avtp_base.specs.declared.failed.Failed.{Failed}
use Rattle.avtp_files.specs.ShelfCalls.{IsMadeIn}
use Rattle.run_report.proofs.Sending.{turned_size, writes_err, writes_nothing}
use Rattle.run_report.specs.Made.{frame_bytes, WritesFrames}
use Rattle.run_report.proofs.Outcomes.{sink_still, sink_err, sink_ok, sink_printed}
use Rattle.gateway_command.specs.state.Turning.{piece_bytes, HasPut, given_over, records_for, HoldsFirst, PutsBatch}
use Rattle.gateway_command.specs.Gateway.{given_next, skipped_at, skipped_line}
use Rattle.gateway_command.proofs.PutBatches.{frames_for, given_over_more, records_more}
use Rattle.gateway_command.specs.declared.turning.Output.{Output}
use Rattle.gateway_command.specs.declared.turning.Put.TheVariants as did

-- ---- the frames of a batch

pub piece_size : (g : Gating) (i : ℕ) (turn : Turn) → IsPieceTurn g i turn → length (piece_bytes g i) ≡ turn.size
piece_size g i turn is = turned_size (slice_get g.frames i) turn is.is

pub piece_written : (g : Gating) (i : ℕ) (turn : Turn) (bytes : List ℕ) → slice_get g.frames i ≡ Some (frame_in turn bytes) → bytes ≡ piece_bytes g i
piece_written g i turn bytes is = sym (ap frame_bytes is)

-- ---- a batch that is put

-- The gateway `g` took a batch from a stream whose shape is `shape`, and became `next`. The batch adds the frames
-- `added`.
record IsNext (shape : Option Shape) (g next : Gating) (batch : Presented) (added : List SentFrame) : Type 0 where
  pub to_is : next.to ≡ g.to
  pub shape_is : next.shape ≡ g.shape
  pub id_is : next.id ≡ g.id
  pub given : next.given ≡ given_next g.to shape g.given batch
  pub frames : frames_for g.to shape g.id g.given batch ≡ added
  pub few : next.given.batches ≤ g.given.batches + 1

taken_by : (shape : Option Shape) (g : Gating) (batch : Presented) → skip_of g.to shape g.given batch ≡ None → IsNext shape g (given_out shape g batch) batch (given_out shape g batch).frames
taken_by None g batch none = absurd cc
taken_by (Some s) g batch none = record {
  to_is = refl;
  shape_is = refl;
  id_is = refl;
  given = sym (ap (λ (k : Option Skip). unless k (given_with g.to s g.given batch) g.given) none);
  frames = ap (λ (k : Option Skip). unless k (frames_with g.to s g.id g.given batch) []) none;
  few = omega arith;
}

taken : (g next : Gating) (batch : Presented) → skip_of g.to g.shape g.given batch ≡ None → next ≡ given_out g.shape g batch → IsNext g.shape g next batch next.frames
taken g next batch none is = subst (λ (x : Gating). IsNext g.shape g x batch x.frames) (sym is) (taken_by g.shape g batch none)

skipped_by : (shape : Option Shape) (g : Gating) (batch : Presented) (why : Skip) → skip_of g.to shape g.given batch ≡ Some why → IsNext shape g g batch []
skipped_by None g batch why some = record { to_is = refl; shape_is = refl; id_is = refl; given = refl; frames = refl; few = omega arith }
skipped_by (Some s) g batch why some = record {
  to_is = refl;
  shape_is = refl;
  id_is = refl;
  given = sym (ap (λ (k : Option Skip). unless k (given_with g.to s g.given batch) g.given) some);
  frames = ap (λ (k : Option Skip). unless k (frames_with g.to s g.id g.given batch) []) some;
  few = omega arith;
}

module _ {g next : Gating} {batch : Presented} {added : List SentFrame} (after : IsNext g.shape g next batch added) (to : To) (shape : Option Shape) (id : ℕ) (batches : List Presented) (has : HasPut to shape id batches g) where
  put_next : HasPut to shape id (batches ++ batch ∷ []) next
  put_next = record {
    to_is = after.to_is ∙ has.to_is;
    shape_is = after.shape_is ∙ has.shape_is;
    id_is = after.id_is ∙ has.id_is;
    given = after.given ∙ ap (λ (t : To). given_next t g.shape g.given batch) has.to_is ∙ ap (λ (s : Option Shape). given_next to s g.given batch) has.shape_is ∙ ap (λ (x : Given). given_next to shape x batch) has.given
        ∙ sym (given_over_more to shape batches batch);
  }

  frames_next : frames_for to shape id (given_over to shape batches) batch ≡ added
  frames_next =
      sym (ap (λ (t : To). frames_for t g.shape g.id g.given batch) has.to_is ∙ ap (λ (s : Option Shape). frames_for to s g.id g.given batch) has.shape_is ∙ ap (λ (i : ℕ). frames_for to shape i g.given batch) has.id_is
      ∙ ap (λ (x : Given). frames_for to shape id x batch) has.given)
      ∙ after.frames

  records_next : records_for to shape id (batches ++ batch ∷ []) ≡ records_for to shape id batches ++ map record_of added
  records_next = records_more to shape id batches batch ∙ ap (λ (fs : List SentFrame). records_for to shape id batches ++ map record_of fs) frames_next

-- a file that holds all these records holds a prefix of them
holds_all : (files : Option Files) (s : ShelfState) (w : Writing) (name : List ℕ) (records : List Record) → HoldsCapture files s w name records → HoldsFirst files s w name records
holds_all files s w name records holds = record { count = length records; holds = subst (HoldsCapture files s w name) (sym (take_all (length records) records (omega arith))) holds }

pub puts_written : {s t : ShelfState} {old new : Output} {number : ℕ} (batch : Presented) (out : SinkState) (waits : List ℕ) → skip_of old.gateway.to old.gateway.shape old.gateway.given batch ≡ None → new.gateway ≡ given_out old.gateway.shape old.gateway batch
    → number ≡ length new.gateway.frames → WritesFrames new.gateway.frames number s t old.writer new.writer (Ok tt) → PutsBatch batch s t old new out out waits waits (Ok did.Done)
puts_written {s} {t} {old} {new} {number} batch out waits none is all wrote = record {
  put = λ done to shape id batches has. put_next after to shape id batches has;
  frames = λ done to shape id batches files name has holds. whole to shape id batches files name has holds;
  part = λ to shape id batches files name has holds. holds_all files t new.writer name (records_for to shape id (batches ++ batch ∷ [])) (whole to shape id batches files name has holds);
  lines = subst (λ (k : Option Skip). Appends (written out.held waits) (written out.held waits) (flat_map skipped_line (skipped_at batch.frame k))) (sym none) (Appends-nil (written out.held waits));
  cut = tt;
  writes = wrote.writes;
  few = after.few;
  sink = sink_still out did.Done;
} where
  after : IsNext old.gateway.shape old.gateway new.gateway batch new.gateway.frames
  after = taken old.gateway new.gateway batch none is

  whole : (to : To) (shape : Option Shape) (id : ℕ) (batches : List Presented) (files : Option Files) (name : List ℕ) → HasPut to shape id batches old.gateway → HoldsCapture files s old.writer name (records_for to shape id batches)
      → HoldsCapture files t new.writer name (records_for to shape id (batches ++ batch ∷ []))
  whole to shape id batches files name has holds =
      subst (HoldsCapture files t new.writer name)
      (ap (λ (fs : List SentFrame). records_for to shape id batches ++ map record_of fs) (take_all number new.gateway.frames (omega (arith, all))) ∙ sym (records_next after to shape id batches has))
      (wrote.added files name (records_for to shape id batches) holds)

pub puts_part : {s t : ShelfState} {old new : Output} {number : ℕ} {e : Failed} (batch : Presented) (out : SinkState) (waits : List ℕ) → skip_of old.gateway.to old.gateway.shape old.gateway.given batch ≡ None → new.gateway ≡ given_out old.gateway.shape old.gateway batch
    → WritesFrames new.gateway.frames number s t old.writer new.writer (Err e) → PutsBatch batch s t old new out out waits waits (Ok did.Unwritten)
puts_part {s} {t} {old} {new} {number} batch out waits none is wrote = record {
  put = λ done. absurd cc;
  frames = λ done. absurd cc;
  part = λ to shape id batches files name has holds. first to shape id batches files name has (wrote.part files name (records_for to shape id batches) holds);
  lines = subst (λ (k : Option Skip). Appends (written out.held waits) (written out.held waits) (flat_map skipped_line (skipped_at batch.frame k))) (sym none) (Appends-nil (written out.held waits));
  cut = tt;
  writes = writes_err wrote.writes;
  few = after.few;
  sink = sink_still out did.Unwritten;
} where
  after : IsNext old.gateway.shape old.gateway new.gateway batch new.gateway.frames
  after = taken old.gateway new.gateway batch none is

  first : (to : To) (shape : Option Shape) (id : ℕ) (batches : List Presented) (files : Option Files) (name : List ℕ) → HasPut to shape id batches old.gateway
      → (n : ℕ) × HoldsCapture files t new.writer name (records_for to shape id batches ++ map record_of (take n new.gateway.frames)) → HoldsFirst files t new.writer name (records_for to shape id (batches ++ batch ∷ []))
  first to shape id batches files name has some =
      let before : List Record = records_for to shape id batches in
      let more : List Record = map record_of new.gateway.frames in
      record {
        count = length before + some.0;
        holds = subst (HoldsCapture files t new.writer name)
            (ap (λ (rs : List Record). before ++ rs) (sym (take-map record_of some.0 new.gateway.frames)) ∙ sym (take-append-add before more some.0) ∙ ap (take (length before + some.0)) (sym (records_next after to shape id batches has)))
            some.1;
      }

-- a batch was skipped, and nothing was written
module _ (old : Output) (next : Gating) (batch : Presented) (why : Skip) (some : skip_of old.gateway.to old.gateway.shape old.gateway.given batch ≡ Some why) (same : next ≡ old.gateway) where
  after : IsNext old.gateway.shape old.gateway next batch []
  after = subst (λ (x : Gating). IsNext old.gateway.shape old.gateway x batch []) (sym same) (skipped_by old.gateway.shape old.gateway batch why some)

  unchanged : (s : ShelfState) (to : To) (shape : Option Shape) (id : ℕ) (batches : List Presented) (files : Option Files) (name : List ℕ) → HasPut to shape id batches old.gateway → HoldsCapture files s old.writer name (records_for to shape id batches)
      → HoldsCapture files s old.writer name (records_for to shape id (batches ++ batch ∷ []))
  unchanged s to shape id batches files name has holds =
      subst (HoldsCapture files s old.writer name) (sym (records_next after to shape id batches has ∙ append-nil (records_for to shape id batches))) holds

  module _ {s : ShelfState} {out out' : SinkState} {waits waits' : List ℕ} (made : IsMadeIn s.slots old.writer.slot) where
    pub puts_skipped : {x : Unit} → Prints out out' waits waits' (Ok x) (skipped_line (record { frame = batch.frame; why = why })) → PutsBatch batch s s old (record old { gateway = next }) out out' waits waits' (Ok did.Done)
    puts_skipped prints = record {
      put = λ done to shape id batches has. put_next after to shape id batches has;
      frames = λ done to shape id batches files name has holds. unchanged s to shape id batches files name has holds;
      part = λ to shape id batches files name has holds. holds_all files s old.writer name (records_for to shape id (batches ++ batch ∷ [])) (unchanged s to shape id batches files name has holds);
      lines = subst (λ (k : Option Skip). Appends (written out.held waits) (written out'.held waits') (flat_map skipped_line (skipped_at batch.frame k))) (sym some)
          (subst (Appends (written out.held waits) (written out'.held waits')) (sym (append-nil (skipped_line (record { frame = batch.frame; why = why })))) prints.written);
      cut = tt;
      writes = writes_nothing s old.writer made;
      few = after.few;
      sink = sink_ok did.Done (sink_printed prints);
    }

    pub puts_unsaid : {e e' : Failed} {line : List ℕ} → Prints out out' waits waits' (Err e) line → PutsBatch batch s s old (record old { gateway = next }) out out' waits waits' (Err e')
    puts_unsaid prints = record {
      put = λ done. absurd cc;
      frames = λ done. absurd cc;
      part = λ to shape id batches files name has holds. holds_all files s old.writer name (records_for to shape id (batches ++ batch ∷ [])) (unchanged s to shape id batches files name has holds);
      lines = tt;
      cut = prints.written;
      writes = writes_nothing s old.writer made;
      few = after.few;
      sink = sink_err (sink_printed prints);
    }
