-- How two batches differ.
use Rattle.std.specs.Prelude.{ℕ, zero, suc, ◌*◌, ◌/◌, ◌==◌, if◌then◌else◌, List, length, take, drop, Option, None, Some}
use Rattle.std.specs.Str.{bytes_eq}
use Rattle.sample_schedule.specs.Batches.{Presented, sample_instant}
use Rattle.sample_schedule.specs.Verdicts.{same_instant}
use Rattle.listener_pair.specs.declared.difference.Way.{Way}
use Rattle.listener_pair.specs.declared.difference.Way.TheVariants.{Count, At, Bytes}

-- the number of bytes of each sample of a batch
abbrev pub sample_size : Presented → ℕ
sample_size batch = length batch.bytes / batch.count

-- the bytes of sample j of a batch; each sample has an equal share of the batch's bytes
abbrev pub sample_bytes : Presented → ℕ → List ℕ
sample_bytes batch j = take (sample_size batch) (drop (j * sample_size batch) batch.bytes)

-- how sample j differs between a batch of A and a batch of B: in its instant or, if the instants are equal, in its
-- bytes
unfoldable pub sample_way : Presented → Presented → ℕ → Option Way
sample_way a b j =
    if same_instant (sample_instant a j) (sample_instant b j)
    then (if bytes_eq (sample_bytes a j) (sample_bytes b j) then None else Some (Bytes j))
    else Some (At j (sample_instant a j) (sample_instant b j))

-- the first way if there is one, and otherwise the second
abbrev pub or_way : Option Way → Option Way → Option Way
or_way (Some way) other = Some way
or_way None other = other

-- how the first differing sample among the first n samples differs; none if no sample differs
unfoldable pub first_way : Presented → Presented → ℕ → Option Way
first_way a b zero = None
first_way a b (suc n) = or_way (first_way a b n) (sample_way a b n)

-- How a batch of A and a batch of B differ; none if they do not differ. If the two batches have different numbers of
-- samples, the result is `Count` with both numbers. If the numbers of samples are equal, the first sample that differs
-- decides. If the two instants of that sample differ, the result is `At` with both instants; otherwise the result is
-- `Bytes`.
unfoldable pub way_of : Presented → Presented → Option Way
way_of a b = if a.count == b.count then first_way a b a.count else Some (Count a.count b.count)
