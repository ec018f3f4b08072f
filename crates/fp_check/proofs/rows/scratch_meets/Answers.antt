use Rattle.std.proofs.Common.{◌+ℤ◌, refl, sym, subst}
use Rattle.std.specs.Prelude.{IsTrue, ◌↔◌}
use Rattle.fp_check.specs.declared.rows.Asked.{Asked}
use Rattle.fp_check.specs.declared.rows.Asked.TheVariants.{Order, Duals}
use Rattle.fp_check.specs.Rooms.{MeetsAt}
use Rattle.fp_check.proofs.Tryings.{starts_at, ends_at, row_at, met_at}
use Rattle.fp_check.proofs.rows.scratch_meets.Goals as goal

pub is_feasible-requires-clause-row : goal.is_feasible-requires-clause-row
is_feasible-requires-clause-row c =
    let cells = c.args.scratch.now.cells.items in
    let segment = c.args.segment.now in
    let room = c.requires.room in
    row_at c.deref.result.now cells _ segment.start _ (segment.start +ℤ segment.length) c.deref.ensures.value (starts_at cells segment room) (ends_at cells segment room) room

pub row_shown-requires-clause-row : goal.row_shown-requires-clause-row
row_shown-requires-clause-row c =
    let cells = c.args.scratch.now.cells.items in
    let segment = c.args.segment.now in
    let room = c.requires.room in
    row_at c.deref-in-Duals.result.now cells _ segment.start _ (segment.start +ℤ segment.length) c.deref-in-Duals.ensures.value (starts_at cells segment room) (ends_at cells segment room) room

pub returns-in-Duals : goal.returns-in-Duals
returns-in-Duals c =
    let scratch = c.args.scratch.now in
    let cells = scratch.cells.items in
    let segment = c.args.segment.now in
    let room = c.requires.room in
    subst (λ (asked : Asked). IsTrue c.row_shown.result ↔ MeetsAt asked cells segment.start (segment.start +ℤ segment.length) scratch.xs.items scratch.duals.items) (sym c.in-Duals.is)
    (met_at c.row_shown.result Duals c.deref-in-Duals.result.now cells _ segment.start _ (segment.start +ℤ segment.length)
    c.deref-in-Duals-2.result.now scratch.xs.items c.deref-in-Duals-3.result.now scratch.duals.items
    c.deref-in-Duals.ensures.value (starts_at cells segment room) (ends_at cells segment room) c.deref-in-Duals-2.ensures.value c.deref-in-Duals-3.ensures.value c.row_shown.ensures.shown)

pub returns-in-Order : goal.returns-in-Order
returns-in-Order c =
    let scratch = c.args.scratch.now in
    let cells = scratch.cells.items in
    let segment = c.args.segment.now in
    let room = c.requires.room in
    subst (λ (asked : Asked). IsTrue c.is_feasible.result ↔ MeetsAt asked cells segment.start (segment.start +ℤ segment.length) scratch.xs.items scratch.duals.items) (sym c.in-Order.is)
    (met_at c.is_feasible.result Order c.deref.result.now cells _ segment.start _ (segment.start +ℤ segment.length)
    c.deref-in-Order.result.now scratch.xs.items scratch.duals.items scratch.duals.items
    c.deref.ensures.value (starts_at cells segment room) (ends_at cells segment room) c.deref-in-Order.ensures.value refl c.is_feasible.ensures)
