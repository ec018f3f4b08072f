-- The lines of the sections, and the names that a text says.
use Rattle.std.specs.Prelude.{codes}
use Rattle.std.proofs.Common.{◌≡◌, ◌==◌, if◌then◌else◌, Bool, true, false, ℕ, List, [], ◌∷◌, ◌++◌, map, flat_map, refl, sym, ap, ◌∙◌, append_assoc}
use Rattle.std.proofs.lemmas.Simd.{map-map}
use Rattle.std.proofs.lemmas.List.{append-nil}
use Rattle.fp_base.specs.declared.ids.Die.{Die}
use Rattle.fp_base.specs.declared.ids.Die.TheVariants.{Top, Bottom}
use Rattle.fp_tech.specs.declared.dies.DieSpec.{DieSpec}
use Rattle.fp_tech.specs.declared.dies.TermSpec.{TermSpec}
use Rattle.fp_tech.specs.Book.{Tech}
use Rattle.fp_tech.specs.Plan.{Plan, spec_of}
use Rattle.fp_netlist.specs.Netlist.{Cell}
use Rattle.fp_contest_in.specs.declared.section.Section.TheVariants.{DieSize, MaxUtil, Rows, Tech as TechName, TerminalSize, TerminalSpacing, TerminalCost}
use Rattle.fp_contest_in.specs.declared.section.Setup.{Setup}
use Rattle.fp_contest_in.specs.Text.{TechText, InstText, tech_name_list, inst_name_list}
use Rattle.fp_contest_in.specs.Grammar.{die_of}
use Rattle.fp_contest_in.specs.PrintedText.{line, numbers, section_line, sections_lines, usual_order, tech_said, inst_said, setup_said}

pub die_is : (plan : Plan) (die : Die) → spec_of plan die ≡ die_of (setup_said plan) die
die_is plan Top = refl
die_is plan Bottom = refl

abbrev pub rows_fields : DieSpec → List (List ℕ)
rows_fields spec = numbers (spec.start_x ∷ spec.start_y ∷ spec.length ∷ spec.height ∷ spec.repeat ∷ [])

abbrev pub terminal_lines : TermSpec → List ℕ
terminal_lines terminal = line (codes "TerminalSize") (numbers (terminal.size_x ∷ terminal.size_y ∷ [])) ++ line (codes "TerminalSpacing") (numbers (terminal.spacing ∷ []))

pub tech_names_said : (names : List (List ℕ)) (techs : List Tech) → tech_name_list (map (tech_said names) techs) ≡ map (λ tech. tech.name) techs
tech_names_said names techs = map-map (λ (t : TechText). t.name) (tech_said names) techs

pub inst_names_said : (names : List (List ℕ)) (cells : List Cell) → inst_name_list (map (inst_said names) cells) ≡ map (λ cell. cell.name) cells
inst_names_said names cells = map-map (λ (i : InstText). i.name) (inst_said names) cells

abbrev pub cost_lines : ℕ → List ℕ
cost_lines cost = if cost == 0 then [] else line (codes "TerminalCost") (numbers (cost ∷ []))

-- ---- the sections one after the other

abbrev before_terminal : List (List ℕ) → Setup → List ℕ → List ℕ
before_terminal techs setup terminal =
    section_line techs setup DieSize ++ (section_line techs setup (MaxUtil Top) ++ (section_line techs setup (MaxUtil Bottom)
    ++ (section_line techs setup (Rows Top) ++ (section_line techs setup (Rows Bottom) ++ (section_line techs setup (TechName Top) ++ (section_line techs setup (TechName Bottom) ++ terminal))))))

-- the pieces of the sections, of which the cost is told or not
pieces_are : (techs : List (List ℕ)) (setup : Setup) (zero : Bool)
    → before_terminal techs setup ((section_line techs setup TerminalSize ++ section_line techs setup TerminalSpacing) ++ (if zero then [] else section_line techs setup TerminalCost))
    ≡ flat_map (section_line techs setup) (if zero then usual_order else usual_order ++ TerminalCost ∷ [])
pieces_are techs setup true = ap (before_terminal techs setup) (append_assoc (section_line techs setup TerminalSize) (section_line techs setup TerminalSpacing) [])
pieces_are techs setup false =
    ap (before_terminal techs setup)
    (append_assoc (section_line techs setup TerminalSize) (section_line techs setup TerminalSpacing) (section_line techs setup TerminalCost)
    ∙ ap (λ t. section_line techs setup TerminalSize ++ (section_line techs setup TerminalSpacing ++ t)) (sym (append-nil (section_line techs setup TerminalCost))))

pub sections_are : (techs : List (List ℕ)) (setup : Setup)
    → before_terminal techs setup ((section_line techs setup TerminalSize ++ section_line techs setup TerminalSpacing) ++ cost_lines setup.terminal.cost) ≡ sections_lines techs setup
sections_are techs setup = pieces_are techs setup (setup.terminal.cost == 0)
