use Rattle.std.proofs.Common.{[], sym, arith}
use Rattle.avtp_memory.proofs.Naming.{replaced, add_named, capacity_none, capacity_set, keeps_capacity, set_same, sets_file, on_err}
use Rattle.avtp_memory.proofs.named_files.NamedFiles.empty.Goals as goal

pub returns-in_ok-empty_with_room-in-Some-clause-ok : goal.returns-in_ok-empty_with_room-in-Some-clause-ok
returns-in_ok-empty_with_room-in-Some-clause-ok c =
    let found = sym (rw c.deref.ensures.value at c.in-Some.ensures) in
    let replaces = replaced c.args.self.now.entries.items c.in-Some.place c.args.name.now c.index_mut-file.result.now c.empty_with_room.new.bytes found c.index_mut-file.ensures.value in
    replaces.sets [] c.in_ok-empty_with_room-in-Some.ensures.empty

pub returns-in_ok-empty_with_room-in-Some-clause-roomy : goal.returns-in_ok-empty_with_room-in-Some-clause-roomy
returns-in_ok-empty_with_room-in-Some-clause-roomy c =
    let found = sym (rw c.deref.ensures.value at c.in-Some.ensures) in
    let replaces = replaced c.args.self.now.entries.items c.in-Some.place c.args.name.now c.index_mut-file.result.now c.empty_with_room.new.bytes found c.index_mut-file.ensures.value in
    omega (arith, replaces.room, c.in_ok-empty_with_room-in-Some.ensures.roomy)

pub returns-in_ok-empty_with_room-in-Some-clause-capacity : goal.returns-in_ok-empty_with_room-in-Some-clause-capacity
returns-in_ok-empty_with_room-in-Some-clause-capacity c =
    let found = sym (rw c.deref.ensures.value at c.in-Some.ensures) in
    let replaces = replaced c.args.self.now.entries.items c.in-Some.place c.args.name.now c.index_mut-file.result.now c.empty_with_room.new.bytes found c.index_mut-file.ensures.value in
    replaces.keeps c.in_ok-empty_with_room-in-Some.ensures.capacity

pub returns-in_err-empty_with_room-in-Some-clause-err : goal.returns-in_err-empty_with_room-in-Some-clause-err
returns-in_err-empty_with_room-in-Some-clause-err c =
    let found = sym (rw c.deref.ensures.value at c.in-Some.ensures) in
    let replaces = replaced c.args.self.now.entries.items c.in-Some.place c.args.name.now c.index_mut-file.result.now c.empty_with_room.new.bytes found c.index_mut-file.ensures.value in
    let before = c.index_mut-file.result.now.1.items in
    on_err c.from_residual.result _ (set_same _ _ c.args.name.now before (replaces.sets before c.in_err-empty_with_room-in-Some.ensures.same) replaces.had)

pub returns-in_err-empty_with_room-in-Some-clause-capacity : goal.returns-in_err-empty_with_room-in-Some-clause-capacity
returns-in_err-empty_with_room-in-Some-clause-capacity c =
    let found = sym (rw c.deref.ensures.value at c.in-Some.ensures) in
    let replaces = replaced c.args.self.now.entries.items c.in-Some.place c.args.name.now c.index_mut-file.result.now c.empty_with_room.new.bytes found c.index_mut-file.ensures.value in
    replaces.keeps c.in_err-empty_with_room-in-Some.ensures.capacity

pub returns-in_ok-push-in-None-clause-ok : goal.returns-in_ok-push-in-None-clause-ok
returns-in_ok-push-in-None-clause-ok c =
    let none = sym (rw c.deref.ensures.value at c.in-None.ensures) in
    let adds = add_named c.args.self.now.entries.items c.args.name.now (c.in_ok-name-in-None.name, c.in_ok-file-in-None.file) none c.in_ok-name-in-None.ensures.ok in
    rw c.in_ok-push-in-None.ensures.items (sets_file _ _ c.args.name.now _ [] adds c.in_ok-file-in-None.ensures.items)

pub returns-in_ok-push-in-None-clause-roomy : goal.returns-in_ok-push-in-None-clause-roomy
returns-in_ok-push-in-None-clause-roomy c =
    let none = sym (rw c.deref.ensures.value at c.in-None.ensures) in
    let adds = add_named c.args.self.now.entries.items c.args.name.now (c.in_ok-name-in-None.name, c.in_ok-file-in-None.file) none c.in_ok-name-in-None.ensures.ok in
    let has = capacity_set _ _ c.args.name.now _ adds in
    rw c.in_ok-push-in-None.ensures.items (omega (arith, has, c.in_ok-file-in-None.ensures.exact))

pub returns-in_ok-push-in-None-clause-capacity : goal.returns-in_ok-push-in-None-clause-capacity
returns-in_ok-push-in-None-clause-capacity c =
    let none = sym (rw c.deref.ensures.value at c.in-None.ensures) in
    let adds = add_named c.args.self.now.entries.items c.args.name.now (c.in_ok-name-in-None.name, c.in_ok-file-in-None.file) none c.in_ok-name-in-None.ensures.ok in
    let had = capacity_none c.args.self.now.entries.items c.args.name.now none in
    rw c.in_ok-push-in-None.ensures.items (keeps_capacity _ _ c.args.name.now _ adds (omega (arith, had)))
