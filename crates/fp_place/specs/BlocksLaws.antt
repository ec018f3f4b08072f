-- The law that a legal drawing keeps off blockages.
use Rattle.std.specs.Prelude.{◌≡◌, ℕ, ◌<◌, ◌≤◌, List, length, get_or, pos}
use Rattle.std.proofs.Common.{sym, arith, inl, inr}
use Rattle.std.proofs.lemmas.Bool.{leb-true}
use Rattle.std.proofs.lemmas.Int.{ints}
use Rattle.std.proofs.lemmas.Option.{slice_get-get_or}
use Rattle.fp_tech.specs.declared.dies.Block.{Block}
use Rattle.fp_tech.specs.Rows.{KeepsOff}
use Rattle.fp_tech.specs.Plan.{spec_of, IsPlan}
use Rattle.fp_tech.specs.PlanLaws.{segment_clear, inside_keeps_off}
use Rattle.fp_netlist.specs.Netlist.{Netlist}
use Rattle.fp_netlist.specs.Points.{width, height}
use Rattle.fp_place.specs.Places.{Place, place_at}
use Rattle.fp_place.specs.Drawing.{Drawing, places_in}
use Rattle.fp_place.specs.Legal.{StandsOnSegment, FitsItsDie, IsLegal}
use Rattle.fp_place.specs.Blocks.{OverlapsBlock, KeepsOffBlocks}

-- a cell that keeps off a blockage does not overlap it
off_overlaps_not : (p : Netlist) (places : List Place) (cell : ℕ) (block : Block)
    → KeepsOff (place_at places cell).x (place_at places cell).y (pos (width p cell (place_at places cell).die)) (pos (height p cell (place_at places cell).die)) block
    → OverlapsBlock p places cell block → ⊥
off_overlaps_not p places cell block (inl (inl before)) over = omega (arith, ints, before, over.right)
off_overlaps_not p places cell block (inl (inr behind)) over = omega (arith, ints, behind, over.left)
off_overlaps_not p places cell block (inr (inl below)) over = omega (arith, ints, below, over.high)
off_overlaps_not p places cell block (inr (inr above)) over = omega (arith, ints, above, over.low)

-- a cell on a segment of its die, not higher than its row, keeps off the die's blockages
stands_off : (p : Netlist) (places : List Place) (cell number : ℕ) (d : Block) → IsPlan p.plan → number < length p.plan.blocks
    → StandsOnSegment p places cell → FitsItsDie p places cell → (place_at places cell).die ≡ (get_or p.plan.blocks number d).die
    → KeepsOff (place_at places cell).x (place_at places cell).y (pos (width p cell (place_at places cell).die)) (pos (height p cell (place_at places cell).die)) (get_or p.plan.blocks number d)
stands_off p places cell number d is within on fit same_die =
    let place : Place = place_at places cell in
    let block : Block = get_or p.plan.blocks number d in
    let low : height p cell place.die ≤ (spec_of p.plan place.die).height = leb-true (height p cell place.die) (spec_of p.plan place.die).height fit in
    inside_keeps_off on.segment.start on.segment.y on.segment.length (pos (spec_of p.plan place.die).height) place.x place.y (pos (width p cell place.die)) (pos (height p cell place.die)) block
    on.stands.starts on.stands.ends (let row = on.stands.row in omega (arith, ints, row)) (let row = on.stands.row in omega (arith, ints, row, low))
    (segment_clear p.plan place.die on.number number on.segment block on.there (slice_get-get_or p.plan.blocks number d within) (sym same_die) (is.setup.blocks number d within).wide)

-- no cell of a legal drawing overlaps a blockage of its die
pub legal_keeps_off : (p : Netlist) (drawing : Drawing) → IsPlan p.plan → IsLegal p drawing → KeepsOffBlocks p drawing
legal_keeps_off p drawing is legal cell below number d within over =
    let places : List Place = places_in drawing (length p.cells) in
    off_overlaps_not p places cell (get_or p.plan.blocks number d)
    (stands_off p places cell number d is within (legal.on_segments cell below) (legal.heights cell below) over.same_die) over
