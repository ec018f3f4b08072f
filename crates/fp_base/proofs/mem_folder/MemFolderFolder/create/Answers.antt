use Rattle.std.proofs.Common.{ap}
use Rattle.std.specs.Prelude.{is_some}
use Rattle.fp_base.specs.FilesLaws.{bytes_set, bytes_others}
use Rattle.fp_base.proofs.mem_folder.MemFolderFolder.create.Goals as goal

pub invariant_of-self-2 : goal.invariant_of-self-2
invariant_of-self-2 c =
    rw (c.if-not-set.ensures.held, c.set-2.ensures, c.as_bytes.ensures.value, c.as_bytes-2.ensures.value)
    (record {
      name_room = c.self.invariant.name_room;
      held = λ _. ap is_some (bytes_set c.self.inside.table.files c.args.name.now _);
      gives = c.self.invariant.gives;
    })

pub returns-clause-others : goal.returns-clause-others
returns-clause-others c =
    rw (← c.self.view_is, c.if-not-set.ensures.held, c.as_bytes.ensures.value)
    (λ other apart. bytes_others c.self.inside.table.files c.args.name.now _ other apart)
