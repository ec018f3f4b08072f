use Rattle.std.proofs.Common.{◌≡◌, None, refl, arith}
use Rattle.std.proofs.lemmas.Grind.{common_steps}
use Rattle.fp_tech.specs.Book.{place_of, pin_names}
use Rattle.fp_tech.proofs.NameLemmas.{cell_grown}
use Rattle.fp_tech.proofs.library.LibCell.add_pin.Goals as goal

pub returns : goal.returns
returns c =
    let new : place_of c.args.name.now (pin_names c.args.self.now) ≡ None = grind (arith, common_steps) in (
      grind (arith, common_steps),
      refl,
      cell_grown c.self.inside.id.0 c.self.inside.width c.self.inside.height c.self.inside.pins.entries
          c.insert.new.self.entries c.in_ok-name.name c.args.name.now c.args.x c.args.y c.args.self.now c.self.view_is c.in_ok-insert.ensures.entries c.in_ok-name.ensures.items new,
    )
