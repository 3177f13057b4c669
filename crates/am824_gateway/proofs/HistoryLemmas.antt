-- The frames and the history of a gateway after one more batch.
use Rattle.std.proofs.Common.{◌≡◌, ℕ, List, [], ◌∷◌, ◌++◌, Option, Some, None, refl, ap, ◌∙◌, sym, append_assoc}
use Rattle.std.proofs.lemmas.List.{append-nil}
use Rattle.sample_schedule.specs.Batches.{Presented}
use Rattle.talker.specs.Frames.{SentFrame}
use Rattle.am824_gateway.specs.declared.scan.Shape.{Shape}
use Rattle.am824_gateway.specs.declared.scan.To.{To}
use Rattle.am824_gateway.specs.declared.skip.Skip.{Skip}
use Rattle.am824_gateway.specs.Packets.{frames_after, frames_with}
use Rattle.am824_gateway.specs.Pieces.{Given, given_by, given_with, skip_by, unless}

-- The frames of one batch; none if it is skipped. `given` is the gateway's history before this batch.
abbrev frames_of : To → Shape → ℕ → Given → Presented → List SentFrame
frames_of to shape id given batch = unless (skip_by to shape given batch) (frames_with to shape id given batch) []

first_batch : (skip : Option Skip) (here given skipped : List SentFrame) → unless skip (here ++ given) skipped ≡ unless skip here [] ++ unless skip given skipped
first_batch None here given skipped = refl
first_batch (Some skip) here given skipped = refl

taken : (skip : Option Skip) (to : To) (shape : Shape) (id : ℕ) (a b : Given) (batches : List Presented) → unless skip (frames_after to shape id a batches) (frames_after to shape id b batches) ≡ frames_after to shape id (unless skip a b) batches
taken None to shape id a b batches = refl
taken (Some skip) to shape id a b batches = refl

first_of_more : (to : To) (shape : Shape) (id : ℕ) (given : Given) (b : Presented) (batches : List Presented)
    → frames_after to shape id given (b ∷ batches) ≡ frames_of to shape id given b ++ frames_after to shape id (unless (skip_by to shape given b) (given_with to shape given b) given) batches
first_of_more to shape id given b batches =
    first_batch (skip_by to shape given b) (frames_with to shape id given b) (frames_after to shape id (given_with to shape given b) batches) (frames_after to shape id given batches)
    ∙ ap (λ (rest : List SentFrame). frames_of to shape id given b ++ rest) (taken (skip_by to shape given b) to shape id (given_with to shape given b) given batches)

pub frames_more : (to : To) (shape : Shape) (id : ℕ) (given : Given) (batches : List Presented) (batch : Presented)
    → frames_after to shape id given (batches ++ batch ∷ [])
    ≡ frames_after to shape id given batches ++ unless (skip_by to shape (given_by to shape given batches) batch) (frames_with to shape id (given_by to shape given batches) batch) []
frames_more to shape id given [] batch = first_of_more to shape id given batch [] ∙ append-nil (frames_of to shape id given batch)
frames_more to shape id given (b ∷ batches) batch =
    let next : Given = unless (skip_by to shape given b) (given_with to shape given b) given in
    let rest = frames_more to shape id next batches batch in
    first_of_more to shape id given b (batches ++ batch ∷ [])
    ∙ (ap (λ (l : List SentFrame). frames_of to shape id given b ++ l) rest
    ∙ (sym (append_assoc (frames_of to shape id given b) (frames_after to shape id next batches) (frames_of to shape id (given_by to shape next batches) batch))
    ∙ ap (λ (l : List SentFrame). l ++ frames_of to shape id (given_by to shape next batches) batch) (sym (first_of_more to shape id given b batches))))

pub given_more : (to : To) (shape : Shape) (given : Given) (batches : List Presented) (batch : Presented) → given_by to shape given (batches ++ batch ∷ []) ≡ given_by to shape (given_by to shape given batches) (batch ∷ [])
given_more to shape given [] batch = refl
given_more to shape given (b ∷ batches) batch = given_more to shape (unless (skip_by to shape given b) (given_with to shape given b) given) batches batch
