use Rattle.fp_flow.specs.Steps.{AddsBoth}
use Rattle.fp_flow.proofs.Layouts.{both_best}
use Rattle.fp_flow.proofs.Laying.{once_best}
use Rattle.fp_flow.proofs.layout.place_both.Goals as goal

pub xs_of-requires : goal.xs_of-requires
xs_of-requires c =
    let p = c.args.problem.now in
    let adds : AddsBoth p c.args.targets.now c.args.top.now c.args.bottom.now c.args.trial.now c.place_lanes-2.new.trial =
    record { between = c.place_lanes.new.trial; tops = c.in_ok-place_lanes.ensures; bottoms = c.in_ok-place_lanes-2.ensures } in
    record {
      once = once_best p c.args.targets.now c.args.top.now c.args.bottom.now c.place_lanes-2.new.trial
          (both_best p c.args.targets.now c.args.top.now c.args.bottom.now c.args.trial.now c.place_lanes-2.new.trial c.requires.top_lanes c.requires.bottom_lanes c.requires.no_top c.requires.no_bottom adds)
          c.requires.once;
    }
