use Rattle.std.proofs.Common.{◌≡◌, Some, None, sym, ap, ◌∙◌, arith}
use Rattle.std.specs.Prelude.{position, is_some}
use Rattle.std.specs.Str.{bytes_eq}
use Rattle.fp_base.specs.declared.file_table.MemFile.{MemFile}
use Rattle.fp_base.specs.Files.{Files}
use Rattle.fp_base.specs.Memory.{Table}
use Rattle.fp_base.specs.MemoryFiles.{files_of, no_file}
use Rattle.fp_base.proofs.Places.{files_set, bytes_found, none_found}
use Rattle.fp_base.proofs.Kept.{kept_set, can_hold_found, can_hold_new}
use Rattle.fp_base.proofs.file_table.FileTable.set.Goals as goal

pub invariant_of-self : goal.invariant_of-self
invariant_of-self c =
    let place : position (λ (f : MemFile). bytes_eq c.args.name.now f.name.bytes) c.self.inside.used.items ≡ Some c.in-Some.index =
    sym (rw c.deref.ensures.value at c.in-Some.ensures) in
    rw (c.set_at.ensures.items, c.set_at.ensures.capacity)
    (kept_set c.self.inside.used.items c.self.inside.spare.items _ _ _ c.args.name.now c.args.bytes.now c.in-Some.index place c.self.invariant)

pub add-requires-clause-new : goal.add-requires-clause-new
add-requires-clause-new c =
    let place : position (λ (f : MemFile). bytes_eq c.args.name.now f.name.bytes) c.self.inside.used.items ≡ None =
    sym (rw c.deref.ensures.value at c.in-None.ensures) in
    rw (← c.self.view_is) (none_found c.self.inside.used.items c.args.name.now place)

pub returns-in-Some-clause-answer : goal.returns-in-Some-clause-answer
returns-in-Some-clause-answer c =
    let place : position (λ (f : MemFile). bytes_eq c.args.name.now f.name.bytes) c.self.inside.used.items ≡ Some c.in-Some.index =
    sym (rw c.deref.ensures.value at c.in-Some.ensures) in
    rw (← c.self.view_is)
    (can_hold_found _ c.args.name.now c.args.bytes.now (omega arith) (omega arith)
    (ap is_some (bytes_found c.self.inside.used.items c.args.name.now no_file c.in-Some.index place)))

pub returns-in-Some-clause-held : goal.returns-in-Some-clause-held
returns-in-Some-clause-held c =
    let place : position (λ (f : MemFile). bytes_eq c.args.name.now f.name.bytes) c.self.inside.used.items ≡ Some c.in-Some.index =
    sym (rw c.deref.ensures.value at c.in-Some.ensures) in
    let table : Files → Table = λ files. record { files = files; most = c.self.inside.most; room = c.self.inside.room } in
    rw (← c.self.view_is)
    (ap table (ap files_of c.set_at.ensures.items ∙ files_set c.self.inside.used.items c.args.name.now c.args.bytes.now no_file c.in-Some.index place))

pub returns-in-None-clause-answer : goal.returns-in-None-clause-answer
returns-in-None-clause-answer c =
    let place : position (λ (f : MemFile). bytes_eq c.args.name.now f.name.bytes) c.self.inside.used.items ≡ None =
    sym (rw c.deref.ensures.value at c.in-None.ensures) in
    c.add.ensures.answer ∙ rw (← c.self.view_is)
    (can_hold_new _ c.args.name.now c.args.bytes.now (omega arith) (omega arith) (none_found c.self.inside.used.items c.args.name.now place))
