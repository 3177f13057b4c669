use Rattle.std.proofs.Common.{◌∙◌, sym, subst, ◌++◌, Option}
use Rattle.std.specs.Option.{option_to_list}
use Rattle.avtp_base.specs.declared.refusal.Refusal.{Refusal}
use Rattle.pcap_frames.specs.Capture.{Holds}
use Rattle.pcap_frames.specs.Reading.{held}
use Rattle.pcap_frames.proofs.Ends.{ends}
use Rattle.pcap_frames.proofs.Held.{ends_now}
use Rattle.pcap_frames.proofs.reader.Reader.finish.Goals as goal

pub returns-in-None : goal.returns-in-None
returns-in-None c = record {
  exact = λ bytes records h.
      subst (λ (x : Option Refusal). Holds bytes (records ++ option_to_list (held c.args.self.now)) x) (sym c.missing.ensures ∙ c.in-None.is) (ends _ _ _ h);
  ends = ends_now _ _ (sym c.in-None.is ∙ c.missing.ensures);
}

pub returns-in-Some : goal.returns-in-Some
returns-in-Some c = record {
  exact = λ bytes records h.
      subst (λ (x : Option Refusal). Holds bytes (records ++ option_to_list (held c.args.self.now)) x) (sym c.missing.ensures ∙ c.in-Some.is) (ends _ _ _ h);
  ends = ends_now _ _ (sym c.in-Some.is ∙ c.missing.ensures);
}
