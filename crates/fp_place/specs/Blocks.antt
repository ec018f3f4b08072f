-- That cells keep off the blockages of their dies.
use Rattle.std.specs.Prelude.{◌≡◌, ℕ, ◌<◌, List, length, All, pos, ◌+ℤ◌, ◌<ℤ◌}
use Rattle.fp_tech.specs.declared.dies.Block.{Block}
use Rattle.fp_netlist.specs.Netlist.{Netlist}
use Rattle.fp_netlist.specs.Points.{width, height}
use Rattle.fp_place.specs.Places.{Place, place_at}
use Rattle.fp_place.specs.Drawing.{Drawing, places_in}

-- a cell overlaps a blockage of its die, as two cells of one die overlap
pub record OverlapsBlock (p : Netlist) (places : List Place) (cell : ℕ) (block : Block) : Type 0 where
  pub same_die : (place_at places cell).die ≡ block.die
  pub left : (place_at places cell).x <ℤ pos block.urx
  pub right : pos block.llx <ℤ ((place_at places cell).x +ℤ pos (width p cell (place_at places cell).die))
  pub low : (place_at places cell).y <ℤ pos block.ury
  pub high : pos block.lly <ℤ ((place_at places cell).y +ℤ pos (height p cell (place_at places cell).die))

-- no cell of a drawing overlaps a blockage of its die
abbrev pub KeepsOffBlocks : Netlist → Drawing → Type 0
KeepsOffBlocks p drawing = (cell : ℕ) → cell < length p.cells → All (λ block. OverlapsBlock p (places_in drawing (length p.cells)) cell block → ⊥) p.plan.blocks
