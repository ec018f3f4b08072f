use Rattle.std.proofs.Common.{◌≡◌, ◌∙◌, ap, sym, subst, is_some, if◌then◌else◌}
use Rattle.fp_tech.specs.Book.{place_of, is_among}
use Rattle.fp_text.specs.Cursor.{word_of}
use Rattle.fp_text.specs.Reading.{GivesFault}
use Rattle.fp_text.specs.declared.fault.Kind.TheVariants.{Twice}
use Rattle.fp_text.specs.declared.fault.TextFault.TheVariants.{Wrong}
use Rattle.fp_netlist.specs.Netlist.{cell_names}
use Rattle.fp_contest_in.specs.Statements.{inst_next}
use Rattle.fp_contest_in.proofs.Additions.{inst_done, inst_behind, some_of}
use Rattle.fp_contest_in.proofs.insts.next_inst.Goals as goal

pub returns-in-Ok : goal.returns-in-Ok
returns-in-Ok c =
    inst_done c.add_inst.result c.args.builder.now c.add_inst.new.builder c.args.tokens.now c.keyword.new.self c.name.new.self c.known_lib.new.tokens c.in_ok-keyword.field-0 c.in-Ok.lib.0 (word_of c.in_ok-name.name)
    c.in_ok-keyword.ensures.gives c.in_ok-name.ensures.gives (rw c.dies.ensures at c.in-Ok.ensures) c.add_inst.ensures

pub returns-in-Err : goal.returns-in-Err
returns-in-Err c =
    subst (λ f. GivesFault f (inst_next c.args.builder.now.plan (cell_names c.args.builder.now) c.args.tokens.now)) (sym same)
    (inst_behind c.in-Err.fault c.args.builder.now c.args.tokens.now c.keyword.new.self c.name.new.self c.in_ok-keyword.field-0 (word_of c.in_ok-name.name)
    c.in_ok-keyword.ensures.gives c.in_ok-name.ensures.gives (rw c.dies.ensures at c.in-Err.ensures))
  where
    there : c.is_some-there.result ≡ is_among c.in_ok-name.name.text.now (cell_names c.args.builder.now)
    there = c.is_some-there.ensures ∙ ap is_some c.cell_named.ensures ∙ some_of _ (place_of c.in_ok-name.name.text.now (cell_names c.args.builder.now))

    same : c.fault_behind.result ≡ if is_among c.in_ok-name.name.text.now (cell_names c.args.builder.now) then Wrong c.in_ok-name.name.at Twice else c.in-Err.fault
    same = c.fault_behind.ensures ∙ ap (λ b. if b then Wrong c.in_ok-name.name.at Twice else c.in-Err.fault) there
