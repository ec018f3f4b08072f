use Rattle.std.proofs.Common.{◌<◌, length, FitsSigned, w64, rules, arith}
use Rattle.std.proofs.lemmas.Bool.Decides.{nat_tests}
use Rattle.std.proofs.lemmas.Int.{to_z-of_z}
use Rattle.fp_coarse.proofs.Halves.{is_lower_median}
use Rattle.fp_coarse.proofs.median.lower_median.Goals as goal

pub returns : goal.returns
returns c =
    let split = c.select_nth_unstable-median in
    let fits : FitsSigned w64 split.result.1.now = search rules in
    let some : 0 < length c.args.numbers.now = grind (arith, nat_tests) in
    simp to_z-of_z (is_lower_median c.args.numbers.now split.result.0.now split.result.2.now split.result.1.now split.ensures.permutation split.ensures.front_len some split.ensures.partitioned)
