use Rattle.std.proofs.Common.{◌≡◌, append_assoc, rules}
use Rattle.avtp_text.proofs.Names.{format_fits}
use Rattle.avtp_text.proofs.AafEnds.{is_end, spelled}
use Rattle.avtp_text.proofs.aaf_line.prepend_end.Goals as goal

pub returns : goal.returns
returns c = record {
  text = λ v same.
      let text : c.prepend_flag-4.new.self ≡ spelled c.args.end.now =
      rw (c.prepend_flag-4.ensures.text, c.prepend_flag-3.ensures.text, c.prepend_flag-2.ensures.text, c.prepend_flag.ensures.text, c.prepend_u32-6.ensures.text, c.prepend-2.ensures.text, c.prepend.ensures.text, c.format_name.ensures, c.prepend_u32-5.ensures.text, c.unwrap_or.ensures, c.rate_of.ensures, c.prepend_u32-4.ensures.text, c.prepend_u32-3.ensures.text, c.prepend_u32-2.ensures.text, c.prepend_u32.ensures.text, c.requires)
      (simp append_assoc) in
      rw text (is_end c.args.end.now v same);
  len = search (rules, format_fits);
}
