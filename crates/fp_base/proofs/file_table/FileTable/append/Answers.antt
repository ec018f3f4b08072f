use Rattle.std.proofs.Common.{◌≡◌, Some, None, sym, ap, ◌∙◌, length}
use Rattle.std.specs.Prelude.{position, is_some}
use Rattle.std.specs.Str.{bytes_eq}
use Rattle.fp_base.specs.declared.file_table.MemFile.{MemFile}
use Rattle.fp_base.proofs.Places.{none_found}
use Rattle.fp_base.proofs.Kept.{kept_append, table_append, fits_append}
use Rattle.fp_base.proofs.file_table.FileTable.append.Goals as goal

pub unreachable-requires : goal.unreachable-requires
unreachable-requires c =
    let place : position (λ (f : MemFile). bytes_eq c.args.name.now f.name.bytes) c.self.inside.used.items ≡ None =
    sym (rw c.deref.ensures.value at c.in-None.ensures) in
    let none = none_found c.self.inside.used.items c.args.name.now place in
    let held = rw (← c.self.view_is) at c.requires in
    let two = sym held ∙ ap is_some none in
    cc two

pub invariant_of-self : goal.invariant_of-self
invariant_of-self c =
    let place : position (λ (f : MemFile). bytes_eq c.args.name.now f.name.bytes) c.self.inside.used.items ≡ Some c.in-Some.index =
    sym (rw c.deref.ensures.value at c.in-Some.ensures) in
    rw c.append_at.ensures.capacity
    (kept_append c.append_at.result c.self.inside.used.items c.append_at.new.files.items c.self.inside.spare.items _ _ _ c.args.name.now c.args.piece.now c.in-Some.index
    place c.append_at.ensures.held c.append_at.ensures.refused c.self.invariant)

pub returns-clause-answer : goal.returns-clause-answer
returns-clause-answer c =
    let place : position (λ (f : MemFile). bytes_eq c.args.name.now f.name.bytes) c.self.inside.used.items ≡ Some c.in-Some.index =
    sym (rw c.deref.ensures.value at c.in-Some.ensures) in
    c.append_at.ensures.answer ∙ rw (← c.self.view_is)
    (fits_append c.self.inside.used.items c.self.inside.spare.items _ _ _ c.args.name.now (length c.args.piece.now) c.in-Some.index place c.self.invariant)

pub returns-clause-held : goal.returns-clause-held
returns-clause-held c =
    let place : position (λ (f : MemFile). bytes_eq c.args.name.now f.name.bytes) c.self.inside.used.items ≡ Some c.in-Some.index =
    sym (rw c.deref.ensures.value at c.in-Some.ensures) in
    rw (← c.self.view_is)
    (table_append c.append_at.result c.self.inside.used.items c.append_at.new.files.items _ _ c.args.name.now c.args.piece.now c.in-Some.index place c.append_at.ensures.held)
