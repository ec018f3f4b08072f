-- The text of a certificate: single spaces, plain decimal, and a line feed behind each line.
use Rattle.std.specs.Prelude.{ℕ, ◌+◌, ◌==◌, if◌then◌else◌, List, [], ◌∷◌, ◌++◌, length, flat_map, codes, decimal, ℤ}
use Rattle.std.specs.Fmt.{signed_decimal}
use Rattle.fp_base.specs.declared.ids.CellId.{CellId}
use Rattle.fp_base.specs.declared.ids.Die.{Die}
use Rattle.fp_base.specs.declared.ids.Die.TheVariants.{Top, Bottom}
use Rattle.fp_cert.specs.declared.shown.CellShown.{CellShown}
use Rattle.fp_cert.specs.declared.shown.CutShown.{CutShown}
use Rattle.fp_cert.specs.declared.shown.Ending.{Ending}
use Rattle.fp_cert.specs.declared.shown.Ending.TheVariants.{Start, Better, NotBetter, NoRow}
use Rattle.fp_cert.specs.Shown.{ShownRow, ShownTrial, ShownRun}

-- a number behind a space, and a signed one
abbrev pub field : ℕ → List ℕ
field value = codes " " ++ decimal value

abbrev pub signed_field : ℤ → List ℕ
signed_field value = codes " " ++ signed_decimal value

-- a line of a word and a number, and of a word and two
abbrev pub number_line : List ℕ → ℕ → List ℕ
number_line word value = word ++ field value ++ codes "\n"

abbrev pub pair_line : List ℕ → ℕ → ℕ → List ℕ
pair_line word first second = word ++ field first ++ field second ++ codes "\n"

-- ---- the lines of a trial that placed its cells

-- a cell with its x, its target and its dual
abbrev pub cell_line : CellShown → List ℕ
cell_line cell =
    codes "Cell" ++ field cell.cell.0 ++ signed_field cell.x ++ signed_field cell.target.x ++ signed_field cell.target.y ++ field cell.dual ++ codes "\n"

-- a segment: how many cells it has, its first dual, and its cells
abbrev pub row_lines : ShownRow → List ℕ
row_lines row = pair_line (codes "Segment") (length row.cells) row.first ++ flat_map cell_line row.cells

abbrev pub die_word : Die → List ℕ
die_word Top = codes "TopSegments"
die_word Bottom = codes "BottomSegments"

-- the segments of a die
abbrev pub die_lines : Die → List ShownRow → List ℕ
die_lines die rows = number_line (die_word die) (length rows) ++ flat_map row_lines rows

-- a cut net with its slot and the slot's price
abbrev pub cut_line : CutShown → List ℕ
cut_line cut = codes "Cut" ++ field cut.net.0 ++ field cut.slot.0 ++ field cut.price ++ codes "\n"

abbrev pub cut_lines : List CutShown → List ℕ
cut_lines cuts = number_line (codes "Terminals") (length cuts) ++ flat_map cut_line cuts

-- from the top die's segments to the score
abbrev pub trial_lines : ShownTrial → List ℕ
trial_lines trial = die_lines Top trial.top ++ die_lines Bottom trial.bottom ++ cut_lines trial.cuts ++ number_line (codes "Score") trial.score

-- ---- the lines of a trial that found no row

abbrev pub top_line : CellId → List ℕ
top_line cell = number_line (codes "Cell") cell.0

abbrev pub top_lines : List CellId → List ℕ
top_lines cells = number_line (codes "TopCells") (length cells) ++ flat_map top_line cells

-- ---- the whole text

-- a trial's first line, by its number and how it ended
abbrev pub ending_line : ℕ → Ending → List ℕ
ending_line number Start = codes "Trial" ++ field number ++ codes " start\n"
ending_line number Better = codes "Trial" ++ field number ++ codes " better\n"
ending_line number NotBetter = codes "Trial" ++ field number ++ codes " kept\n"
ending_line number (NoRow cell) = codes "Trial" ++ field number ++ codes " norow" ++ field cell.0 ++ codes "\n"

abbrev pub shown_lines : Ending → ShownTrial → List ℕ
shown_lines Start trial = trial_lines trial
shown_lines Better trial = trial_lines trial
shown_lines NotBetter trial = trial_lines trial
shown_lines (NoRow cell) trial = top_lines trial.top_cells

abbrev pub trial_text : ℕ → ShownTrial → List ℕ
trial_text number trial = ending_line number trial.ending ++ shown_lines trial.ending trial

-- trials, which are numbered from here on
unfoldable pub trials_text : ℕ → List ShownTrial → List ℕ
trials_text number [] = []
trials_text number (trial ∷ trials) = trial_text number trial ++ trials_text (number + 1) trials

-- the first lines: the version, which is 2 exactly where there is a cost, and then the cost
abbrev pub version_lines : ℕ → List ℕ
version_lines cost = if cost == 0 then codes "FaceplaceCert 1\n" else (codes "FaceplaceCert 2\n" ++ number_line (codes "Cost") cost)

abbrev pub cert_text : ShownRun → List ℕ
cert_text run =
    version_lines run.cost ++ number_line (codes "Limit") run.limit ++ number_line (codes "Trials") (length run.trials) ++ trials_text 0 run.trials
    ++ number_line (codes "Answer") run.answer
