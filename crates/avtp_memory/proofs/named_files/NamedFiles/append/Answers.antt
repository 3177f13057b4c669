use Rattle.std.proofs.Common.{◌++◌, sym}
use Rattle.avtp_memory.proofs.Naming.{replaced, set_same, on_err}
use Rattle.avtp_memory.proofs.named_files.NamedFiles.append.Goals as goal

pub returns-clause-ok : goal.returns-clause-ok
returns-clause-ok c =
    let found = sym (rw c.deref.ensures.value at c.in-Some.ensures) in
    let replaces = replaced c.args.self.now.entries.items c.in-Some.place c.args.name.now c.index_mut-file.result.now c.extend_from_slice.new.self found c.index_mut-file.ensures.value in
    let before = c.index_mut-file.result.now.1.items in
    (before, replaces.had, replaces.sets (before ++ c.args.piece.now) c.in_ok-extend_from_slice.ensures.items)

pub returns-clause-capacity : goal.returns-clause-capacity
returns-clause-capacity c =
    let found = sym (rw c.deref.ensures.value at c.in-Some.ensures) in
    let replaces = replaced c.args.self.now.entries.items c.in-Some.place c.args.name.now c.index_mut-file.result.now c.extend_from_slice.new.self found c.index_mut-file.ensures.value in
    replaces.keeps c.in_ok-extend_from_slice.ensures.capacity

pub returns-in_err-extend_from_slice-clause-err : goal.returns-in_err-extend_from_slice-clause-err
returns-in_err-extend_from_slice-clause-err c =
    let found = sym (rw c.deref.ensures.value at c.in-Some.ensures) in
    let replaces = replaced c.args.self.now.entries.items c.in-Some.place c.args.name.now c.index_mut-file.result.now c.extend_from_slice.new.self found c.index_mut-file.ensures.value in
    let before = c.index_mut-file.result.now.1.items in
    on_err c.from_residual.result _ (set_same _ _ c.args.name.now before (replaces.sets before c.in_err-extend_from_slice.ensures.items) replaces.had)

pub returns-in_err-extend_from_slice-clause-capacity : goal.returns-in_err-extend_from_slice-clause-capacity
returns-in_err-extend_from_slice-clause-capacity c =
    let found = sym (rw c.deref.ensures.value at c.in-Some.ensures) in
    let replaces = replaced c.args.self.now.entries.items c.in-Some.place c.args.name.now c.index_mut-file.result.now c.extend_from_slice.new.self found c.index_mut-file.ensures.value in
    replaces.keeps c.in_err-extend_from_slice.ensures.capacity
