use Rattle.std.proofs.Common.{◌≡◌, Ok, Err, subst, sym}
use Rattle.fp_contest_in.specs.Statements.{problem_of, GivesProblem}
use Rattle.faceplace.specs.Sources.{most_input, problem_read, problem_in}
use Rattle.faceplace.specs.Input.{GivesRead}
use Rattle.faceplace.proofs.Inputs.{was_read, was_wrong, netlist_ok, netlist_wrong}
use Rattle.faceplace.proofs.input.read_input.Goals as goal

pub returns-in-Ok-clause-gives : goal.returns-in-Ok-clause-gives
returns-in-Ok-clause-gives g c =
    let bytes = c.in_ok-bytes.bytes.items in
    let same : c.deref.result.now ≡ bytes = c.deref.ensures.value in
    let gives : GivesProblem (Ok c.in-Ok.problem) (problem_of bytes) = rw same at c.in-Ok.ensures.gives in
    was_read most_input problem_read (g.F.Folder.held c.args.folder.now) c.args.name.now bytes c.in-Ok.problem c.in_ok-bytes.ensures.gives
    (netlist_ok c.in-Ok.problem (problem_of bytes) gives)

pub returns-clause-gives : goal.returns-clause-gives
returns-clause-gives g c =
    let bytes = c.in_ok-bytes.bytes.items in
    let same : c.deref.result.now ≡ bytes = c.deref.ensures.value in
    subst (λ stop. GivesRead (λ p. p) (g.F.Folder.held c.args.folder.now) (problem_in c.args.name.now) (Err stop)) (sym c.stop_of.ensures)
    (was_wrong (λ p. p) most_input problem_read (g.F.Folder.held c.args.folder.now) c.args.name.now bytes c.in-Err.fault c.in_ok-bytes.ensures.gives
    (netlist_wrong c.in-Err.fault (problem_of bytes) (rw same at c.in-Err.ensures.gives)))
