use Rattle.std.proofs.Common.{◌≡◌, refl, sym, ap, subst}
use Rattle.am824_gateway.specs.declared.content.Content.TheVariants.{Silent, Video, Audio}
use Rattle.am824_gateway.specs.declared.scan.ScanFault.TheVariants.{Kind}
use Rattle.am824_gateway.specs.Content.{content}
use Rattle.am824_gateway.specs.Scan.{Scanning}
use Rattle.am824_gateway.proofs.ScanLemmas.{audio_fault, audio_scanned, fault_found, scanned_more, silent_kept}
use Rattle.am824_gateway.proofs.Scanned.{IsCounted, counted}
use Rattle.am824_gateway.proofs.scan.Scan.note.Goals as goal

pub note_samples-requires : goal.note_samples-requires
note_samples-requires c = subst IsCounted (sym c.in-Audio.ensures) (counted c.self.inside.stream c.args.bytes.now)

pub returns-in-Silent-clause-scanned : goal.returns-in-Silent-clause-scanned
returns-in-Silent-clause-scanned c to stream records r is has =
    let now = c.args.self.now in
    let st = ap (λ (s : Scanning). s.stream) c.self.view_is in
    let here : content now.stream r.bytes ≡ Silent = rw (is, ← st) (sym c.in-Silent.ensures) in
    scanned_more to stream records now now r Silent here has refl refl (silent_kept now.shape) refl

pub returns-in-Video-clause-fault : goal.returns-in-Video-clause-fault
returns-in-Video-clause-fault c to stream records others r is has =
    let now = c.args.self.now in
    let st = ap (λ (s : Scanning). s.stream) c.self.view_is in
    let here : content now.stream r.bytes ≡ Video = rw (is, ← st) (sym c.in-Video.ensures) in
    fault_found to stream records others now r Video Kind here has refl

pub returns-in-Audio-clause-scanned : goal.returns-in-Audio-clause-scanned
returns-in-Audio-clause-scanned c =
    let now = c.args.self.now in
    let st = ap (λ (s : Scanning). s.stream) c.self.view_is in
    let here : content now.stream c.args.bytes.now ≡ Audio c.in-Audio.samples = rw (← st) (sym c.in-Audio.ensures) in
    let noted = c.note_samples.ensures in
    audio_scanned c.note_samples.result now c.note_samples.new.self c.args.bytes.now (Audio c.in-Audio.samples) here noted.to noted.stream noted.shape noted.none

pub returns-in-Audio-clause-fault : goal.returns-in-Audio-clause-fault
returns-in-Audio-clause-fault c =
    let now = c.args.self.now in
    let st = ap (λ (s : Scanning). s.stream) c.self.view_is in
    let here : content now.stream c.args.bytes.now ≡ Audio c.in-Audio.samples = rw (← st) (sym c.in-Audio.ensures) in
    audio_fault c.note_samples.result now c.args.bytes.now (Audio c.in-Audio.samples) here c.note_samples.ensures.fault
