use Rattle.std.proofs.Common.{◌∙◌, arith, rules}
use Rattle.pcap_frames.proofs.Written.{no_header, written_header}
use Rattle.pcap_frames.proofs.writer.write_header.Goals as goal

pub returns : goal.returns
returns c =
    written_header c.args.style c.args.out.now c.put_u32-5.new.out (omega arith) (search rules)
    (c.put_u32-5.ensures.rest 24 (omega arith)
    ∙ (c.put_u32-4.ensures.rest 24 (omega arith)
    ∙ (c.put_u32-3.ensures.rest 24 (omega arith)
    ∙ (c.put_u32-2.ensures.rest 24 (omega arith)
    ∙ (c.put_u16-2.ensures.rest 24 (omega arith)
    ∙ (c.put_u16.ensures.rest 24 (omega arith)
    ∙ c.put_u32.ensures.rest 24 (omega arith)))))))

pub returns-then-found-lt-FILE_HEADER : goal.returns-then-found-lt-FILE_HEADER
returns-then-found-lt-FILE_HEADER c = no_header _ _ (omega arith)
