use Rattle.std.proofs.Common.{◌≡◌, Bool, true, false}
use Rattle.std.specs.Bool.{OnTrue, OnFalse}
use Rattle.fp_base.specs.Memory.{Table, holding}
use Rattle.fp_base.specs.MemoryFolder.{IsSound}
use Rattle.fp_base.specs.declared.mem_folder.MemFolder.TheInside.{Inside}
use Rattle.fp_base.specs.FilesLaws.{held_later}
use Rattle.fp_base.proofs.mem_folder.MemFolder.put_file.Goals as goal

-- the name that is made is held after a file was set, or where nothing changed
sound_after : (r : Bool) (f : Inside) (table : Table) (name bytes : _) → OnTrue r (table ≡ holding f.table name bytes) → OnFalse r (table ≡ f.table)
    → IsSound f → IsSound (record f { table = table })
sound_after true f table name bytes held refused sound =
    rw held (record { name_room = sound.name_room; held = λ made. held_later f.table.files name bytes f.made.bytes (sound.held made); gives = sound.gives })
sound_after false f table name bytes held refused sound =
    rw refused (record { name_room = sound.name_room; held = sound.held; gives = sound.gives })

pub invariant_of-self : goal.invariant_of-self
invariant_of-self c = sound_after c.set.result c.self.inside c.set.new.self _ _ c.set.ensures.held c.set.ensures.refused c.self.invariant
