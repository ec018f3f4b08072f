use Rattle.fp_contest_in.specs.PrintedText.{pin_line}
use Rattle.fp_gen.specs.MakeText.{made_pin}
use Rattle.fp_gen.proofs.Growing.{more_mapped}
use Rattle.fp_gen.proofs.techs.push_pins.Goals as goal

pub loop-pin-preserved : goal.loop-pin-preserved
loop-pin-preserved c =
    more_mapped pin_line (made_pin c.args.width c.args.lift) c.loop-pin.pin c.args.text.now.items c.loop-pin.text.items _ c.loop-pin.invariant c.in_ok-push_pin.ensures
