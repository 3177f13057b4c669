use Rattle.std.proofs.Common.{◌≡◌, ◌<◌, ◌≤◌, true, false, List, ℕ, suc, length, rules, subst, sym, arith, ◌-◌}
use Rattle.std.specs.Prelude.{nat_le}
use Rattle.std.specs.List.Sorted.{IsPartitionPoint, IsPartitionedBy}
use Rattle.std.proofs.lemmas.List.Sorted.{IsPartitionPoint-from_clause}
use Rattle.cvf_format.specs.AnnexB.{nal_units}
use Rattle.talk_video.specs.declared.units.NalUnit.{NalUnit}
use Rattle.talk_video.specs.declared.video.VideoStream.{VideoStream}
use Rattle.talk_video.specs.Streams.{IsVideo}
use Rattle.talk_video.specs.state.Listing.{IsCarried, place_in}
use Rattle.talk_video.proofs.AccessLemmas.{unit_known}
use Rattle.talk_video.proofs.VideoLists.{carried, listed_all, parted, searched, unit_is}
use Rattle.talk_video.proofs.video.VideoStream.unit_of.Goals as goal

parted_in : (v : VideoStream) (n : ℕ) (xs : List NalUnit) → xs ≡ v.units.items → IsVideo v → IsPartitionedBy (λ (u : NalUnit). nat_le u.first n) xs
parted_in v n xs e is = subst (λ (xs : List NalUnit). IsPartitionedBy (λ (u : NalUnit). nat_le u.first n) xs) (sym e) (parted v n is)

searched_in : (v : VideoStream) (n r : ℕ) (xs : List NalUnit) → xs ≡ v.units.items → IsVideo v → n < v.packets → r ≤ length xs
    → IsPartitionPoint (λ (u : NalUnit). nat_le u.first n ≡ true) (λ (u : NalUnit). nat_le u.first n ≡ false) xs r → r ≡ suc (place_in v n).unit
searched_in v n r xs e is known within point =
    let there : r ≤ length v.units.items = rw (← e) within in
    searched v n r is known there (subst (λ (xs : List NalUnit). IsPartitionPoint (λ (u : NalUnit). nat_le u.first n ≡ true)
    (λ (u : NalUnit). nat_le u.first n ≡ false) xs r) e point)

pub overflow_sub-place : goal.overflow_sub-place
overflow_sub-place c =
    let v = c.args.self.now in
    let same : c.as_slice.result.now ≡ v.units.items = search rules in
    let point = IsPartitionPoint-from_clause (λ (u : NalUnit). nat_le u.first c.args.n) _ _ c.partition_point-place.ensures.partitioned
    (parted_in v c.args.n c.as_slice.result.now same c.requires.video) (λ a r q k. search rules) in
    let is = searched_in v c.args.n c.partition_point-place.result c.as_slice.result.now same c.requires.video c.requires.known (search rules) point in
    omega arith

pub index-requires : goal.index-requires
index-requires c =
    let v = c.args.self.now in
    let same : c.as_slice.result.now ≡ v.units.items = search rules in
    let point = IsPartitionPoint-from_clause (λ (u : NalUnit). nat_le u.first c.args.n) _ _ c.partition_point-place.ensures.partitioned
    (parted_in v c.args.n c.as_slice.result.now same c.requires.video) (λ a r q k. search rules) in
    let is = searched_in v c.args.n c.partition_point-place.result c.as_slice.result.now same c.requires.video c.requires.known (search rules) point in
    let known = unit_known (nal_units v.input.now) c.args.n (omega (arith, c.requires.video.packets, c.requires.known)) in
    let all = listed_all v c.requires.video in
    omega arith

pub returns : goal.returns
returns c =
    let v = c.args.self.now in
    let same : c.as_slice.result.now ≡ v.units.items = search rules in
    let point = IsPartitionPoint-from_clause (λ (u : NalUnit). nat_le u.first c.args.n) _ _ c.partition_point-place.ensures.partitioned
    (parted_in v c.args.n c.as_slice.result.now same c.requires.video) (λ a r q k. search rules) in
    let is = searched_in v c.args.n c.partition_point-place.result c.as_slice.result.now same c.requires.video c.requires.known (search rules) point in
    let at = unit_is v c.args.n (c.partition_point-place.result - 1) c.index.result.now c.requires.video c.requires.known (omega arith) c.index.ensures in
    record {
      packet = c.requires;
      value = at.same;
      carried = subst (λ (u : NalUnit). IsCarried v.input.now u c.args.n) (sym at.same) (carried v c.args.n c.requires.video c.requires.known);
      few = at.few;
    }
