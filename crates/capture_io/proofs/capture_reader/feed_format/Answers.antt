use Rattle.std.proofs.Common.{refl}
use Rattle.capture_io.proofs.capture_reader.feed_format.Goals as goal

pub returns-in-Classic : goal.returns-in-Classic
returns-in-Classic c = rw c.in-Classic.is (record { fed = c.feed.ensures; other = refl })

pub returns-in-Pcapng : goal.returns-in-Pcapng
returns-in-Pcapng c = rw c.in-Pcapng.is (record { fed = c.feed-in-Pcapng.ensures; other = refl })
