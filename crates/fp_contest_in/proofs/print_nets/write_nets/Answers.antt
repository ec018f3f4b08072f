use Rattle.std.specs.Prelude.{codes}
use Rattle.std.proofs.Common.{◌∙◌, ◌∷◌, ◌++◌, [], length, sym, ap, List, ℕ, arith}
use Rattle.std.proofs.lemmas.List.{append-nil}
use Rattle.fp_netlist.specs.Netlist.{cell_names}
use Rattle.fp_contest_in.specs.PrintedText.{line, numbers, net_lines, net_said, nets_said}
use Rattle.fp_text.specs.WritingLaws.{in_turn, as_piece}
use Rattle.fp_contest_in.proofs.Pieces.{piece_more, piece_all, element, behind}
use Rattle.fp_contest_in.proofs.PrintedNets.{length-nets_said, net_first}
use Rattle.fp_contest_in.proofs.print_nets.write_nets.Goals as goal

abbrev head : ℕ → List ℕ
head count = line (codes "NumNets") (numbers (count ∷ []))

pub loop-net-init : goal.loop-net-init
loop-net-init g c = record {
  adds = as_piece (ap head c.nets-nets.ensures.count ∙ sym (append-nil (head (length c.args.problem.now.nets)))) c.write_numbers_line.ensures.adds;
  goes_on = c.write_numbers_line.ensures.goes_on;
}

pub loop-net-preserved : goal.loop-net-preserved
loop-net-preserved g c =
    let p = c.args.problem.now in
    let net = element p.nets c.loop-net.net (omega (arith, c.nets-nets.ensures.count, c.loop-net-test.true)) in
    record {
      adds = as_piece (behind (head (length p.nets)) _ _ (piece_more (net_lines (cell_names p)) (nets_said p 0 p.nets) c.loop-net.net (net_said p c.loop-net.net net.0) (net_first p p.nets c.loop-net.net net.0 net.1)))
          (in_turn c.loop-net.invariant.adds (c.write_net.ensures.adds net.0 net.1));
      goes_on = c.write_net.ensures.goes_on;
    }

pub returns-clause-adds : goal.returns-clause-adds
returns-clause-adds g c =
    let p = c.args.problem.now in
    as_piece (λ i. line (codes "NumNets") (numbers (sym (length-nets_said p 0 p.nets) i ∷ []))
    ++ piece_all (net_lines (cell_names p)) (nets_said p 0 p.nets) c.loop-net.net (omega (arith, length-nets_said p 0 p.nets, c.nets-nets.ensures.count, c.loop-net-test.false)) i) c.loop-net.invariant.adds
