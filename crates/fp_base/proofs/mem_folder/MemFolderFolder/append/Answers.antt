use Rattle.fp_base.specs.FilesLaws.{bytes_others, held_later}
use Rattle.fp_base.proofs.mem_folder.MemFolderFolder.append.Goals as goal

pub invariant_of-self-2 : goal.invariant_of-self-2
invariant_of-self-2 c =
    rw c.if-not-append.ensures.held
    (record {
      name_room = c.self.invariant.name_room;
      held = λ made. held_later c.self.inside.table.files _ _ c.self.inside.made.bytes (c.self.invariant.held made);
      gives = c.self.invariant.gives;
    })

pub returns-clause-others : goal.returns-clause-others
returns-clause-others c =
    rw (← c.self.view_is, c.if-not-append.ensures.held, c.as_bytes.ensures.value)
    (λ other apart. bytes_others c.self.inside.table.files c.args.name.now _ other apart)
