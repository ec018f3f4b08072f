use Rattle.std.proofs.Common.{◌≡◌, Some, None, sym, ap, ◌∙◌}
use Rattle.std.specs.Prelude.{position}
use Rattle.std.specs.Str.{bytes_eq}
use Rattle.fp_base.specs.declared.file_table.MemFile.{MemFile}
use Rattle.fp_base.proofs.Places.{bytes_found, none_found}
use Rattle.fp_base.proofs.file_table.FileTable.get.Goals as goal

pub returns-in_err-index : goal.returns-in_err-index
returns-in_err-index c =
    let place : position (λ (f : MemFile). bytes_eq c.args.name.now f.name.bytes) c.self.inside.used.items ≡ None =
    rw c.deref.ensures.value at (sym c.place_of.ensures ∙ c.in_err-index.was) in
    rw (c.from_residual.ensures, ← c.self.view_is) (sym (none_found c.self.inside.used.items c.args.name.now place))

pub returns : goal.returns
returns c =
    let place : position (λ (f : MemFile). bytes_eq c.args.name.now f.name.bytes) c.self.inside.used.items ≡ Some c.in_ok-index.index =
    rw c.deref.ensures.value at (sym c.place_of.ensures ∙ c.in_ok-index.was) in
    rw (← c.self.view_is) (ap Some (c.as_slice.ensures.value ∙ ap (λ (f : MemFile). f.bytes.bytes) c.index.ensures)
    ∙ sym (bytes_found c.self.inside.used.items c.args.name.now c.index.result.now c.in_ok-index.index place))
