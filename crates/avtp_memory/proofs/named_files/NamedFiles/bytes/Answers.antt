use Rattle.std.proofs.Common.{Some, refl, sym, ap, ◌∙◌}
use Rattle.avtp_memory.proofs.Naming.{bytes_before, find_none}
use Rattle.avtp_memory.specs.NamedFiles.{has_name}
use Rattle.avtp_memory.proofs.named_files.NamedFiles.bytes.Goals as goal

pub returns-in-Some : goal.returns-in-Some
returns-in-Some c =
    let found = sym (rw c.deref.ensures.value at c.in-Some.ensures) in
    ap (λ b. Some b) c.as_slice.ensures.value ∙ sym (bytes_before c.args.self.now.entries.items c.in-Some.place c.args.name.now c.index.result.now found c.index.ensures)

pub returns-in-None : goal.returns-in-None
returns-in-None c =
    let none = sym (rw c.deref.ensures.value at c.in-None.ensures) in
    rw (find_none (has_name c.args.name.now) c.args.self.now.entries.items none) refl
