use Rattle.std.proofs.Common.{◌≡◌, ◌<◌, ◌++◌, ◌∷◌, [], None, refl, ap, ◌∙◌, arith, vec_len, vec_capacity}
use Rattle.fp_base.specs.Files.{Files, bytes_of}
use Rattle.fp_base.specs.declared.file_table.MemFile.{MemFile}
use Rattle.fp_base.specs.MemoryFiles.{files_of, filled}
use Rattle.fp_base.proofs.Places.{files_push}
use Rattle.fp_base.proofs.Kept.{kept_push, room_for_one}
use Rattle.fp_base.proofs.file_table.FileTable.add.Goals as goal

-- the push goes well, of the file with its name and bytes
pushed : (c : goal.Joined-push) → c.push.new.self.items ≡ c.self.inside.used.items ++ filled c.in-Some.file c.args.name.now c.args.bytes.now ∷ []
pushed c =
    let room : vec_len c.self.inside.used < vec_capacity c.self.inside.used =
    omega (arith, room_for_one c.self.inside.used.items c.self.inside.spare.items c.pop.new.self.items _ _ _ c.in-Some.file c.in-Some.ensures.items c.self.invariant, c.self.inside.used.ok.0) in
    let ok = c.push.ensures.succeeds room in
    let items = rw ok at c.push.ensures.items in
    items ∙ ap (λ (f : MemFile). c.self.inside.used.items ++ f ∷ []) (λ i. record { name = c.set.ensures i; bytes = c.set-2.ensures i })

new_name : (c : goal.Joined-push) → bytes_of (files_of c.self.inside.used.items) c.args.name.now ≡ None
new_name c = rw (← c.self.view_is) at c.requires.new

pub invariant_of-self-2 : goal.invariant_of-self-2
invariant_of-self-2 c =
    kept_push c.self.inside.used.items c.self.inside.spare.items c.pop.new.self.items c.push.new.self.items _ _ _ _ c.in-Some.file c.args.name.now c.args.bytes.now
    c.in-Some.ensures.items (pushed c) (new_name c) c.push.ensures.capacity c.self.invariant

pub returns-clause-held : goal.returns-clause-held
returns-clause-held c =
    rw (← c.self.view_is)
    (ap (λ (files : Files). record { files = files; most = c.self.inside.most; room = c.self.inside.room })
    (ap files_of (pushed c)
    ∙ files_push c.self.inside.used.items (filled c.in-Some.file c.args.name.now c.args.bytes.now) c.args.name.now c.args.bytes.now (new_name c) refl refl))
