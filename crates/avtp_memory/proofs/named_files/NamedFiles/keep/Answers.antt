use Rattle.std.proofs.Common.{sym, ◌∙◌, arith}
use Rattle.avtp_memory.proofs.Naming.{capacity_before, no_bytes, replaced}
use Rattle.avtp_memory.proofs.named_files.NamedFiles.keep.Goals as goal

pub keep_within-requires : goal.keep_within-requires
keep_within-requires c =
    let found = sym (rw c.deref.ensures.value at c.in-Some.ensures) in
    let was = capacity_before c.args.self.now.entries.items c.in-Some.place c.args.name.now c.index_mut-file.result.now found c.index_mut-file.ensures.value in
    omega (arith, was, c.requires.roomy)

pub returns-clause-kept : goal.returns-clause-kept
returns-clause-kept c =
    let found = sym (rw c.deref.ensures.value at c.in-Some.ensures) in
    let replaces = replaced c.args.self.now.entries.items c.in-Some.place c.args.name.now c.index_mut-file.result.now c.keep_within.new.bytes found c.index_mut-file.ensures.value in
    record { before = c.index_mut-file.result.now.1.items; was = replaces.had; keeps = replaces.sets _ c.keep_within.ensures.kept; fitting = c.keep_within.ensures.fits }

pub returns-clause-capacity : goal.returns-clause-capacity
returns-clause-capacity c =
    let found = sym (rw c.deref.ensures.value at c.in-Some.ensures) in
    let replaces = replaced c.args.self.now.entries.items c.in-Some.place c.args.name.now c.index_mut-file.result.now c.keep_within.new.bytes found c.index_mut-file.ensures.value in
    replaces.keeps c.keep_within.ensures.capacity

pub returns-in_default-clause-kept : goal.returns-in_default-clause-kept
returns-in_default-clause-kept c =
    let none = no_bytes c.args.self.now.entries.items c.args.name.now (rw c.deref.ensures.value at (sym c.place_of.ensures ∙ c.in_default.is)) in
    let named = rw none at c.requires.named in
    absurd cc
