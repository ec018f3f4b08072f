-- The certificate file read from left to right, statement by statement, up to its first fault.
use Rattle.std.specs.Prelude.{◌≡◌, ℕ, ◌+◌, ◌-◌, nat_lt, ◌==◌, if◌then◌else◌, List, [], length, Result, Ok, Err, codes, ℤ, pos}
use Rattle.std.specs.Str.{bytes_eq}
use Rattle.fp_base.specs.declared.ids.CellId.{CellId}
use Rattle.fp_base.specs.declared.ids.Die.{Die}
use Rattle.fp_base.specs.declared.ids.Die.TheVariants.{Top, Bottom}
use Rattle.fp_base.specs.declared.ids.Point.{Point}
use Rattle.fp_text.specs.Numbers.{number_of, signed_of}
use Rattle.fp_text.specs.Reading.{Left, Read, Fault, fault, whole, ◌>>=◌, word_next, keyword_next, number_next, end_next, many_next, GivesFault}
use Rattle.fp_text.specs.declared.fault.Kind.{Kind}
use Rattle.fp_text.specs.declared.fault.Kind.TheVariants as kinds
use Rattle.fp_text.specs.declared.fault.TextFault.{TextFault}
use Rattle.fp_text.specs.declared.numbers.NumberFault.{NumberFault}
use Rattle.fp_tech.specs.Plan.{segments}
use Rattle.fp_netlist.specs.Netlist.{Netlist}
use Rattle.fp_cert.specs.declared.shown.CellShown.{CellShown}
use Rattle.fp_cert.specs.declared.shown.CutShown.{CutShown}
use Rattle.fp_cert.specs.declared.shown.Ending.{Ending}
use Rattle.fp_cert.specs.declared.shown.Ending.TheVariants.{Start, Better, NotBetter, NoRow}
use Rattle.fp_cert.specs.Shown.{ShownRow, ShownTrial, ShownRun, run_without}
use Rattle.fp_cert.specs.CertText.{die_word}
use Rattle.fp_cert.specs.OfProblem.{most_shown, most_lines, cells_in}
use Rattle.fp_cert.specs.CertGrammar.{most_number, most_target}

-- ---- one number

-- a value that a token stands for, else `Number` at its place
abbrev pub value_at : {A : Type 0} → Result A NumberFault → ℕ → Left → Read A
value_at (Ok value) at l = Ok (value, l)
value_at (Err e) at l = fault at kinds.Number

-- a number below a count; else `Range`
abbrev pub below_at : ℕ → Result ℕ NumberFault → ℕ → Left → Read ℕ
below_at count (Ok n) at l = if nat_lt n count then Ok (n, l) else fault at kinds.Range
below_at count (Err e) at l = fault at kinds.Number

unfoldable pub below_next : ℕ → Left → Read ℕ
below_next count l = do
  word ← word_next l
  below_at count (number_of most_number word.0.text) word.0.at word.1

-- a dual, a price or a score
unfoldable pub amount_next : Left → Read ℕ
amount_next l = do
  word ← word_next l
  value_at (number_of most_shown word.0.text) word.0.at word.1

-- a target's coordinate
unfoldable pub signed_next : Left → Read ℤ
signed_next l = do
  word ← word_next l
  value_at (signed_of most_target word.0.text) word.0.at word.1

unfoldable pub target_next : Left → Read Point
target_next l = do
  x ← signed_next l
  y ← signed_next x.1
  Ok (record { x = x.0; y = y.0 }, y.1)

-- `keyword n`, with the number in a range
unfoldable pub line_next : List ℕ → ℕ → ℕ → Kind → Left → Read ℕ
line_next word least most above l = do
  keyword ← keyword_next word l
  number_next least most above keyword.1

-- ---- a trial that placed its cells

-- `Cell cell x targetx targety dual`
unfoldable pub cell_next : Netlist → Left → Read CellShown
cell_next p l = do
  keyword ← keyword_next (codes "Cell") l
  cell ← below_next (length p.cells) keyword.1
  x ← number_next 0 most_number kinds.Number cell.1
  target ← target_next x.1
  dual ← amount_next target.1
  Ok (record { cell = record { 0 = cell.0 }; x = pos x.0; target = target.0; dual = dual.0 }, dual.1)

-- `Segment n dual` and n cells, where so many were taken by the segments before it
unfoldable pub row_next : Netlist → ℕ → Left → Read ShownRow
row_next p taken l = do
  count ← line_next (codes "Segment") 0 (most_lines - taken) kinds.Limit l
  first ← amount_next count.1
  cells ← many_next (λ before. cell_next p) count.0 [] first.1
  Ok (record { first = first.0; cells = cells.0 }, cells.1)

-- a segment behind others of its die
abbrev pub row_item : Netlist → ℕ → List ShownRow → Left → Read ShownRow
row_item p taken before = row_next p (taken + cells_in before)

-- `TopSegments a` or `BottomSegments a`, and a segments
unfoldable pub rows_next : Netlist → Die → ℕ → Left → Read (List ShownRow)
rows_next p die taken l = do
  count ← line_next (die_word die) (length (segments p.plan die)) (length (segments p.plan die)) kinds.Range l
  many_next (row_item p taken) count.0 [] count.1

-- `Cut net slot price`
unfoldable pub cut_next : Netlist → ℕ → Left → Read CutShown
cut_next p slots l = do
  keyword ← keyword_next (codes "Cut") l
  net ← below_next (length p.nets) keyword.1
  slot ← below_next slots net.1
  price ← amount_next slot.1
  Ok (record { net = record { 0 = net.0 }; slot = record { 0 = slot.0 }; price = price.0 }, price.1)

-- `keyword n` and n lines
unfoldable pub listed_next : {A : Type 0} → List ℕ → (Left → Read A) → Left → Read (List A)
listed_next word line l = do
  count ← line_next word 0 most_lines kinds.Limit l
  many_next (λ before. line) count.0 [] count.1

-- `Score s`
unfoldable pub score_next : Left → Read ℕ
score_next l = do
  keyword ← keyword_next (codes "Score") l
  amount_next keyword.1

-- from the top die's segments to the score
unfoldable pub lines_next : Netlist → ℕ → Ending → Left → Read ShownTrial
lines_next p slots ending l = do
  top ← rows_next p Top 0 l
  bottom ← rows_next p Bottom (cells_in top.0) top.1
  cuts ← listed_next (codes "Terminals") (cut_next p slots) bottom.1
  score ← score_next cuts.1
  Ok (record { ending = ending; top = top.0; bottom = bottom.0; cuts = cuts.0; score = score.0; top_cells = [] }, score.1)

-- ---- a trial that found no row for a cell

-- `Cell cell`
unfoldable pub top_next : Netlist → Left → Read CellId
top_next p l = do
  keyword ← keyword_next (codes "Cell") l
  cell ← below_next (length p.cells) keyword.1
  Ok (record { 0 = cell.0 }, cell.1)

-- the cells of the top die
unfoldable pub tops_next : Netlist → CellId → Left → Read ShownTrial
tops_next p cell l = do
  cells ← listed_next (codes "TopCells") (top_next p) l
  Ok (record { ending = NoRow cell; top = []; bottom = []; cuts = []; score = 0; top_cells = cells.0 }, cells.1)

-- ---- a trial

-- the cell without a row
unfoldable pub rowless_next : Netlist → Left → Read Ending
rowless_next p l = do
  cell ← below_next (length p.cells) l
  Ok (NoRow (record { 0 = cell.0 }), cell.1)

-- how a trial ended, by a word that was read
abbrev pub ending_by : Netlist → List ℕ → ℕ → Left → Read Ending
ending_by p text at l = if bytes_eq text (codes "start") then Ok (Start, l) else (if bytes_eq text (codes "better") then Ok (Better, l)
    else (if bytes_eq text (codes "kept") then Ok (NotBetter, l) else (if bytes_eq text (codes "norow") then rowless_next p l else fault at kinds.Word)))

unfoldable pub ending_next : Netlist → Left → Read Ending
ending_next p l = do
  word ← word_next l
  ending_by p word.0.text word.0.at word.1

-- what a trial shows that ended so
abbrev pub shown_next : Netlist → ℕ → Ending → Left → Read ShownTrial
shown_next p slots Start l = lines_next p slots Start l
shown_next p slots Better l = lines_next p slots Better l
shown_next p slots NotBetter l = lines_next p slots NotBetter l
shown_next p slots (NoRow cell) l = tops_next p cell l

-- the trial of a number
unfoldable pub trial_next : Netlist → ℕ → ℕ → Left → Read ShownTrial
trial_next p slots number l = do
  number ← line_next (codes "Trial") number number kinds.Range l
  ending ← ending_next p number.1
  shown_next p slots ending.0 ending.1

-- a trial behind others
abbrev pub trial_item : Netlist → ℕ → List ShownTrial → Left → Read ShownTrial
trial_item p slots before = trial_next p slots (length before)

-- ---- the whole file

-- the cost of a version
abbrev pub cost_next : ℕ → Left → Read ℕ
cost_next version l = if version == 1 then Ok (0, l) else line_next (codes "Cost") 1 most_number kinds.Range l

-- the version, and its cost
unfoldable pub version_next : Left → Read ℕ
version_next l = do
  version ← line_next (codes "FaceplaceCert") 1 2 kinds.Range l
  cost_next version.0 version.1

-- the trials of a run, and its answer
unfoldable pub trials_next : Netlist → ℕ → ShownRun → Left → Result ShownRun Fault
trials_next p slots run l = do
  count ← line_next (codes "Trials") 2 9 kinds.Range l
  trials ← many_next (trial_item p slots) count.0 [] count.1
  answer ← line_next (codes "Answer") 0 8 kinds.Range trials.1
  end ← end_next answer.1
  Ok (record run { trials = trials.0; answer = answer.0 })

-- the whole file from its first token on
unfoldable pub run_next : Netlist → ℕ → Left → Result ShownRun Fault
run_next p slots l = do
  cost ← version_next l
  limit ← line_next (codes "Limit") 1 8 kinds.Range cost.1
  trials_next p slots (run_without limit.0 cost.0) limit.1

-- the run of a whole file, or its first fault
abbrev pub cert_of : Netlist → ℕ → List ℕ → Result ShownRun Fault
cert_of p slots bytes = run_next p slots (whole bytes)

-- what a reader of the file returned is what is read: the run, or the first fault, unless memory ran out
abbrev pub GivesRun : Result ShownRun TextFault → Result ShownRun Fault → Type 0
GivesRun (Ok run) read = read ≡ Ok run
GivesRun (Err e) read = GivesFault e read
