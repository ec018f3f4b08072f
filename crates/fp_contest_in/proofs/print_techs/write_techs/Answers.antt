use Rattle.std.specs.Prelude.{codes}
use Rattle.std.proofs.Common.{◌∙◌, ◌∷◌, ◌++◌, [], map, length, sym, ap, List, ℕ, arith}
use Rattle.std.proofs.lemmas.List.{append-nil, length-map}
use Rattle.fp_contest_in.specs.PrintedText.{line, numbers, tech_lines, tech_said}
use Rattle.fp_text.specs.WritingLaws.{in_turn, as_piece}
use Rattle.fp_contest_in.proofs.Pieces.{piece_more, piece_all, mapped_at, element, behind}
use Rattle.fp_contest_in.proofs.print_techs.write_techs.Goals as goal

abbrev head : ℕ → List ℕ
head count = line (codes "NumTechnologies") (numbers (count ∷ []))

pub loop-tech-init : goal.loop-tech-init
loop-tech-init g c = record {
  adds = as_piece (ap head c.techs-techs.ensures.count ∙ sym (append-nil (head (length c.args.book.now.techs)))) c.write_numbers_line.ensures.adds;
  goes_on = c.write_numbers_line.ensures.goes_on;
}

pub loop-tech-preserved : goal.loop-tech-preserved
loop-tech-preserved g c =
    let book = c.args.book.now in
    let tech = element book.techs c.loop-tech.tech (omega (arith, c.techs-techs.ensures.count, c.loop-tech-test.true)) in
    record {
      adds = as_piece (behind (head (length book.techs)) _ _ (piece_more tech_lines (map (tech_said book.names) book.techs) c.loop-tech.tech (tech_said book.names tech.0) (mapped_at (tech_said book.names) book.techs c.loop-tech.tech tech.0 tech.1)))
          (in_turn c.loop-tech.invariant.adds (c.write_tech.ensures.adds tech.0 tech.1));
      goes_on = c.write_tech.ensures.goes_on;
    }

pub returns-clause-adds : goal.returns-clause-adds
returns-clause-adds g c =
    let book = c.args.book.now in
    as_piece (λ i. line (codes "NumTechnologies") (numbers (sym (length-map book.techs (tech_said book.names)) i ∷ []))
    ++ piece_all tech_lines (map (tech_said book.names) book.techs) c.loop-tech.tech (omega (arith, length-map book.techs (tech_said book.names), c.techs-techs.ensures.count, c.loop-tech-test.false)) i) c.loop-tech.invariant.adds
