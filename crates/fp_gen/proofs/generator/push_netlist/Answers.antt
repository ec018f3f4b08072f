use Rattle.std.proofs.Common.{flat_map, ap}
use Rattle.std.proofs.lemmas.Result.{IfOk-weaker}
use Rattle.rand_pcg.specs.Lcg.{Lcg}
use Rattle.fp_gen.specs.MakeText.{made_first, made_net}
use Rattle.fp_gen.specs.Written.{net_text}
use Rattle.fp_gen.proofs.Growing.{then_adds, as_piece}
use Rattle.fp_gen.proofs.generator.push_netlist.Goals as goal

pub returns : goal.returns
returns c =
    let cells = c.args.cells in
    IfOk-weaker c.push_nets.result _ _
    (λ x adds. then_adds (then_adds (then_adds c.in_ok-push_line.ensures c.in_ok-push_insts.ensures.text) c.in_ok-push_line-2.ensures)
    (as_piece (ap (λ (words : Lcg). flat_map net_text (made_first (made_net cells) cells words).0) c.in_ok-push_insts.ensures.words) adds))
    c.push_nets.ensures.text
