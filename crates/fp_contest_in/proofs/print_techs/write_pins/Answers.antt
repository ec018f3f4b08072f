use Rattle.fp_tech.specs.Book.{pins_in}
use Rattle.fp_text.specs.WritingLaws.{in_turn, as_piece}
use Rattle.fp_contest_in.proofs.PrintedTechs.{pin_more}
use Rattle.fp_contest_in.proofs.print_techs.write_pins.Goals as goal

pub loop-pin-preserved : goal.loop-pin-preserved
loop-pin-preserved g c = record {
  adds = as_piece (pin_more (pins_in c.args.book.now c.args.tech.0 c.args.lib.0) c.loop-pin.pin c.pin_name.result.now c.offset_of-x.result.0 c.offset_of-x.result.1 c.pin_name.ensures c.offset_of-x.ensures)
      (in_turn c.loop-pin.invariant.adds c.write_named_line.ensures.adds);
  goes_on = c.write_named_line.ensures.goes_on;
}
