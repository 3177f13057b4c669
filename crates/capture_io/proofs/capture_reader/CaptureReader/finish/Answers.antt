use Rattle.std.proofs.Common.{◌∙◌, Some, ap}
use Rattle.capture_io.specs.declared.capture_reader.Format.TheVariants.{Classic, Pcapng}
use Rattle.capture_io.proofs.Reader.{ends_as, format_ends, front_ends}
use Rattle.capture_io.proofs.capture_reader.CaptureReader.finish.Goals as goal

pub returns-in-None : goal.returns-in-None
returns-in-None c bytes records = rw c.cut_off.ensures (ends_as _ _ _ _ _ _ bytes records _ c.in-None.is c.self.view_is (front_ends _ _ _ bytes records))

pub returns-in-Classic : goal.returns-in-Classic
returns-in-Classic c bytes records = ends_as _ _ _ _ _ _ bytes records _ (c.in-Some.is ∙ ap Some c.in-Classic.is) c.self.view_is (format_ends Classic _ _ _ bytes records _ c.finish.ensures.ends)

pub returns-in-Pcapng : goal.returns-in-Pcapng
returns-in-Pcapng c bytes records = ends_as _ _ _ _ _ _ bytes records _ (c.in-Some.is ∙ ap Some c.in-Pcapng.is) c.self.view_is (format_ends Pcapng _ _ _ bytes records _ c.finish-in-Pcapng.ensures)
