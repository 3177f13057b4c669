use Rattle.std.proofs.Common.{◌≡◌, refl, arith, w64, to_z, of_z}
use Rattle.std.proofs.lemmas.Int.{ints}
use Rattle.am824_gateway.proofs.HeaderLemmas.{aaf_headers, am824_headers}
use Rattle.am824_gateway.proofs.packet.Stream.write_headers.Goals as goal

pub returns-in-Am824 : goal.returns-in-Am824
returns-in-Am824 c samples =
    let s = c.args.self.now in
    let first = rw c.in-Am824.is at c.write_first.ensures in
    let stated = rw c.in-Am824.is at c.requires.stated in
    let stamped = rw c.to_be_bytes.ensures at c.put_bytes-2.ensures in
    let same : to_z w64 (of_z w64 c.args.instant) ≡ c.args.instant = omega (arith, ints) in
    let stamp = rw same at c.timestamp_of-timestamp.ensures in
    let sized = rw c.to_be_bytes-2.ensures at c.put_bytes-3.ensures in
    rw c.in-Am824.is (am824_headers s.shape s.id c.args.n c.args.instant c.args.piece samples c.write_first.new.out c.put_bytes.new.out c.put_bytes-2.new.out c.put_bytes-3.new.out c.put_bytes-in-Am824.new.out _ _ _
    first c.put_bytes.ensures stamped sized c.put_bytes-in-Am824.ensures refl stamp stated (omega arith))

pub returns-in-Aaf : goal.returns-in-Aaf
returns-in-Aaf c samples =
    let s = c.args.self.now in
    let first = rw c.in-Aaf.is at c.write_first.ensures in
    let stated = rw c.in-Aaf.is at c.requires.stated in
    let stamped = rw c.to_be_bytes.ensures at c.put_bytes-2.ensures in
    let same : to_z w64 (of_z w64 c.args.instant) ≡ c.args.instant = omega (arith, ints) in
    let stamp = rw same at c.timestamp_of-timestamp.ensures in
    let sized = rw c.to_be_bytes-2.ensures at c.put_bytes-3.ensures in
    rw c.in-Aaf.is (aaf_headers s.shape s.id c.args.n c.args.instant c.args.piece samples c.write_first.new.out c.put_bytes.new.out c.put_bytes-2.new.out c.put_bytes-3.new.out _ _ _
    first c.put_bytes.ensures stamped sized refl stamp stated)
