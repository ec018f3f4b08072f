-- The certificate of a run of the problem has under 300 million bytes: the line of a cell has at most 67, that of a cut net 42 and that of
-- a segment 35, and a trial has at most 2^18 cells, 2^18 cut nets and 2^17 segments.
use Rattle.std.specs.Prelude.{◌≡◌, ℕ, suc, ◌+◌, ◌*◌, ◌^◌, ◌<◌, ◌≤◌, Bool, true, false, ◌==◌, if◌then◌else◌, List, [], ◌∷◌, ◌++◌, length, All, codes, decimal, ℤ, pos, negsuc, flat_map}
use Rattle.std.proofs.Common.{arith, length-append}
use Rattle.std.proofs.lemmas.Fmt.{length-decimal-le}
use Rattle.std.proofs.lemmas.Int.{ints}
use Rattle.std.proofs.lemmas.List.Concat.{length-flat_map}
use Rattle.std.proofs.lemmas.List.Elements.{All-weaker}
use Rattle.std.proofs.lemmas.List.Sums.{sum_by-le, sum_by-cons}
use Rattle.fp_base.specs.declared.ids.CellId.{CellId}
use Rattle.fp_base.specs.declared.ids.Die.{Die}
use Rattle.fp_base.specs.declared.ids.Die.TheVariants.{Top, Bottom}
use Rattle.fp_tech.specs.Plan.{segments}
use Rattle.fp_tech.specs.PlanLaws.{few_segments}
use Rattle.fp_netlist.specs.Netlist.{Netlist, IsSound}
use Rattle.fp_place.specs.Drawing.{IsCoordinate}
use Rattle.fp_cert.specs.declared.shown.CellShown.{CellShown}
use Rattle.fp_cert.specs.declared.shown.CutShown.{CutShown}
use Rattle.fp_cert.specs.declared.shown.Ending.{Ending}
use Rattle.fp_cert.specs.declared.shown.Ending.TheVariants.{Start, Better, NotBetter, NoRow}
use Rattle.fp_cert.specs.Shown.{ShownRow, ShownTrial, ShownRun}
use Rattle.fp_cert.specs.CertText.{field, signed_field, number_line, cell_line, row_lines, die_word, die_lines, cut_line, cut_lines, trial_lines, top_line, top_lines, ending_line, shown_lines, trial_text, trials_text, version_lines, cert_text}
use Rattle.fp_cert.specs.OfProblem.{IsTargetAt, IsCellOf, IsRowOf, IsCutOf, cells_in, IsPlacedTrialOf, IsRowlessTrialOf, IsEndedTrialOf, IsTrialOf, IsRunOf}

-- ---- fields

-- so many digits, behind a space
digits_short : (digits n : ℕ) → 1 ≤ digits → n < 10 ^ digits → n < 2 ^ 64 → length (field n) ≤ digits + 1
digits_short digits n some below fits = omega (arith, length-append (codes " ") (decimal n), length-decimal-le digits n some below fits)

field_short : (n : ℕ) → n ≤ 2 ^ 60 → length (field n) ≤ 20
field_short n most = digits_short 19 n (omega arith) (omega (arith, most)) (omega (arith, most))

-- a number of a cell or of a net
id_short : (n : ℕ) → n < 2 ^ 18 → length (field n) ≤ 7
id_short n below = digits_short 6 n (omega arith) (omega (arith, below)) (omega (arith, below))

number_short : (n : ℕ) → n ≤ 2 ^ 30 → length (field n) ≤ 11
number_short n most = digits_short 10 n (omega arith) (omega (arith, most)) (omega (arith, most))

coordinate_short : (at : ℤ) → IsCoordinate at → length (signed_field at) ≤ 11
coordinate_short (pos n) is = number_short n (omega (arith, ints, is.most))
coordinate_short (negsuc n) is = absurd (omega (arith, ints, is.least))

target_short : (at : ℤ) → IsTargetAt at → length (signed_field at) ≤ 12
target_short (pos n) is =
    let most : n ≤ 2 ^ 32 = omega (arith, ints, is.most) in
    omega (arith, digits_short 10 n (omega arith) (omega (arith, most)) (omega (arith, most)))
target_short (negsuc n) is =
    let most : suc n ≤ 2 ^ 32 = omega (arith, ints, is.least) in
    omega (arith, length-decimal-le 10 (suc n) (omega arith) (omega (arith, most)) (omega (arith, most)))

number_line_short : (word : List ℕ) (n : ℕ) → n ≤ 2 ^ 60 → length (number_line word n) ≤ length word + 21
number_line_short word n most = simp length-append (omega (arith, field_short n most))

-- ---- lines

cell_short : (p : Netlist) → length p.cells ≤ 2 ^ 18 → (cell : CellShown) → IsCellOf p cell → length (cell_line cell) ≤ 67
cell_short p few cell is =
    let within : cell.cell.0 < length p.cells = is.within in
    let number = id_short cell.cell.0 (omega arith) in
    let x = coordinate_short cell.x is.x in
    let target_x = target_short cell.target.x is.target_x in
    let target_y = target_short cell.target.y is.target_y in
    let dual = field_short cell.dual is.dual in
    parts (field cell.cell.0) (signed_field cell.x) (signed_field cell.target.x) (signed_field cell.target.y) (field cell.dual) number x target_x target_y dual
  where
    parts : (a b c d e : List ℕ) → length a ≤ 7 → length b ≤ 11 → length c ≤ 12 → length d ≤ 12 → length e ≤ 20 → length (codes "Cell" ++ a ++ b ++ c ++ d ++ e ++ codes "\n") ≤ 67
    parts a b c d e short_a short_b short_c short_d short_e = simp length-append (omega (arith, short_a, short_b, short_c, short_d, short_e))

cut_short : (p : Netlist) (slots : ℕ) → length p.nets ≤ 2 ^ 18 → slots ≤ 2 ^ 30 → (cut : CutShown) → IsCutOf p slots cut → length (cut_line cut) ≤ 42
cut_short p slots few few_slots cut is =
    let net_within : cut.net.0 < length p.nets = is.net in
    let slot_within : cut.slot.0 < slots = is.slot in
    let net = id_short cut.net.0 (omega arith) in
    let slot = number_short cut.slot.0 (omega arith) in
    let price = field_short cut.price is.price in
    parts (field cut.net.0) (field cut.slot.0) (field cut.price) net slot price
  where
    parts : (a b c : List ℕ) → length a ≤ 7 → length b ≤ 11 → length c ≤ 20 → length (codes "Cut" ++ a ++ b ++ c ++ codes "\n") ≤ 42
    parts a b c short_a short_b short_c = simp length-append (omega (arith, short_a, short_b, short_c))

top_short : (p : Netlist) → length p.cells ≤ 2 ^ 18 → (cell : CellId) → cell.0 < length p.cells → length (top_line cell) ≤ 25
top_short p few cell within = number_line_short (codes "Cell") cell.0 (omega arith)

-- so many lines, each of few bytes
lines_short : {A : Type 0} (text : A → List ℕ) (most : ℕ) (lines : List A) → All (λ line. length (text line) ≤ most) lines → length (flat_map text lines) ≤ length lines * most
lines_short text most lines short = omega (arith, length-flat_map text lines, sum_by-le (λ line. length (text line)) most lines short)

-- ---- segments

row_short : (p : Netlist) → length p.cells ≤ 2 ^ 18 → (row : ShownRow) → IsRowOf p row → length row.cells ≤ 2 ^ 18 → length (row_lines row) ≤ 35 + 67 * length row.cells
row_short p few row is small =
    let cells = lines_short cell_line 67 row.cells (All-weaker (IsCellOf p) (λ cell. length (cell_line cell) ≤ 67) (cell_short p few) row.cells is.cells) in
    parts (field (length row.cells)) (field row.first) (flat_map cell_line row.cells) (digits_short 6 (length row.cells) (omega arith) (omega (arith, small)) (omega (arith, small))) (field_short row.first is.first) cells
  where
    parts : (a b c : List ℕ) → length a ≤ 7 → length b ≤ 20 → length c ≤ length row.cells * 67 → length ((codes "Segment" ++ a ++ b ++ codes "\n") ++ c) ≤ 35 + 67 * length row.cells
    parts a b c short_a short_b short_c = simp length-append (omega (arith, short_a, short_b, short_c))

rows_short : (p : Netlist) → length p.cells ≤ 2 ^ 18 → (rows : List ShownRow) → All (IsRowOf p) rows → cells_in rows ≤ 2 ^ 18
    → length (flat_map row_lines rows) ≤ 35 * length rows + 67 * cells_in rows
rows_short p few [] all room = omega arith
rows_short p few (row ∷ rows) all room =
    let parts : cells_in (row ∷ rows) ≡ length row.cells + cells_in rows = sum_by-cons (λ (shown : ShownRow). length shown.cells) row rows in
    let one = row_short p few row (all 0 row (omega arith)) (omega (arith, parts, room)) in
    let others = rows_short p few rows (λ k d lt. all (suc k) d (omega arith)) (omega (arith, parts, room)) in
    omega (arith, parts, one, others, length-append (row_lines row) (flat_map row_lines rows))

die_short : (p : Netlist) → IsSound p → (die : Die) (rows : List ShownRow) → length rows ≡ length (segments p.plan die) → All (IsRowOf p) rows → cells_in rows ≤ 2 ^ 18
    → length (die_lines die rows) ≤ 35 * 2 ^ 16 + 67 * cells_in rows + 35
die_short p sound die rows many all room =
    let few = few_segments p.plan sound.plan die in
    let head = number_line_short (die_word die) (length rows) (omega (arith, many, few)) in
    omega (arith, many, few, head, word_short die, rows_short p sound.few_cells rows all room, length-append (number_line (die_word die) (length rows)) (flat_map row_lines rows))
  where
    word_short : (die : Die) → length (die_word die) ≤ 14
    word_short Top = omega arith
    word_short Bottom = omega arith

-- ---- a trial

placed_short : (p : Netlist) (slots : ℕ) → IsSound p → slots ≤ 2 ^ 30 → (trial : ShownTrial) → IsPlacedTrialOf p slots trial → length (trial_lines trial) ≤ 33162000
placed_short p slots sound few_slots trial is =
    let few : cells_in trial.top + cells_in trial.bottom ≤ 2 ^ 18 = is.few_cells in
    let top = die_short p sound Top trial.top (is.segments_are Top) (is.rows Top) (omega (arith, few)) in
    let bottom = die_short p sound Bottom trial.bottom (is.segments_are Bottom) (is.rows Bottom) (omega (arith, few)) in
    let head = number_line_short (codes "Terminals") (length trial.cuts) (omega (arith, is.few_cuts)) in
    let cuts = lines_short cut_line 42 trial.cuts (All-weaker (IsCutOf p slots) (λ cut. length (cut_line cut) ≤ 42) (cut_short p slots sound.few_nets few_slots) trial.cuts is.cuts) in
    let score = number_line_short (codes "Score") trial.score is.score in
    omega (
      arith,
      few,
      is.few_cuts,
      top,
      bottom,
      head,
      cuts,
      score,
      length-append (die_lines Top trial.top ++ die_lines Bottom trial.bottom ++ cut_lines trial.cuts) (number_line (codes "Score") trial.score),
      length-append (die_lines Top trial.top ++ die_lines Bottom trial.bottom) (cut_lines trial.cuts),
      length-append (die_lines Top trial.top) (die_lines Bottom trial.bottom),
      length-append (number_line (codes "Terminals") (length trial.cuts)) (flat_map cut_line trial.cuts),
    )

rowless_short : (p : Netlist) → IsSound p → (cell : ℕ) (trial : ShownTrial) → IsRowlessTrialOf p cell trial → length (top_lines trial.top_cells) ≤ 33162000
rowless_short p sound cell trial is =
    let head = number_line_short (codes "TopCells") (length trial.top_cells) (omega (arith, is.few_tops)) in
    let lines = lines_short top_line 25 trial.top_cells
    (All-weaker (λ (top : CellId). top.0 < length p.cells) (λ top. length (top_line top) ≤ 25) (top_short p sound.few_cells) trial.top_cells is.tops) in
    omega (arith, is.few_tops, head, lines, length-append (number_line (codes "TopCells") (length trial.top_cells)) (flat_map top_line trial.top_cells))

shown_short : (p : Netlist) (slots : ℕ) → IsSound p → slots ≤ 2 ^ 30 → (trial : ShownTrial) (ending : Ending) → IsEndedTrialOf p slots trial ending
    → length (shown_lines ending trial) ≤ 33162000
shown_short p slots sound few_slots trial Start is = placed_short p slots sound few_slots trial is
shown_short p slots sound few_slots trial Better is = placed_short p slots sound few_slots trial is
shown_short p slots sound few_slots trial NotBetter is = placed_short p slots sound few_slots trial is
shown_short p slots sound few_slots trial (NoRow cell) is = rowless_short p sound cell.0 trial is

ending_short : (p : Netlist) (slots : ℕ) → IsSound p → (number : ℕ) → number ≤ 9 → (trial : ShownTrial) (ending : Ending) → IsEndedTrialOf p slots trial ending
    → length (ending_line number ending) ≤ 60
ending_short p slots sound number few trial Start is = simp length-append (omega (arith, field_short number (omega (arith, few))))
ending_short p slots sound number few trial Better is = simp length-append (omega (arith, field_short number (omega (arith, few))))
ending_short p slots sound number few trial NotBetter is = simp length-append (omega (arith, field_short number (omega (arith, few))))
ending_short p slots sound number few trial (NoRow cell) is =
    let within : cell.0 < length p.cells = is.within in
    simp length-append (omega (arith, field_short number (omega (arith, few)), field_short cell.0 (omega (arith, within, sound.few_cells))))

trial_short : (p : Netlist) (slots : ℕ) → IsSound p → slots ≤ 2 ^ 30 → (number : ℕ) → number ≤ 9 → (trial : ShownTrial) → IsTrialOf p slots trial
    → length (trial_text number trial) ≤ 33163000
trial_short p slots sound few_slots number few trial is =
    omega (
      arith,
      ending_short p slots sound number few trial trial.ending is,
      shown_short p slots sound few_slots trial trial.ending is,
      length-append (ending_line number trial.ending) (shown_lines trial.ending trial),
    )

-- ---- the whole text

trials_short : (p : Netlist) (slots : ℕ) → IsSound p → slots ≤ 2 ^ 30 → (number : ℕ) (trials : List ShownTrial) → All (IsTrialOf p slots) trials → number + length trials ≤ 9
    → length (trials_text number trials) ≤ length trials * 33163000
unfolding trials_text
trials_short p slots sound few_slots number [] all few = omega arith
trials_short p slots sound few_slots number (trial ∷ trials) all few =
    let one = trial_short p slots sound few_slots number (omega arith) trial (all 0 trial (omega arith)) in
    let others = trials_short p slots sound few_slots (number + 1) trials (λ k d lt. all (suc k) d (omega arith)) (omega arith) in
    omega (arith, one, others, length-append (trial_text number trial) (trials_text (number + 1) trials))

version_short : (cost : ℕ) → cost ≤ 2 ^ 30 → length (version_lines cost) ≤ 60
version_short cost small = by (cost == 0)
  where
    by : (b : Bool) → length (if b then codes "FaceplaceCert 1\n" else (codes "FaceplaceCert 2\n" ++ number_line (codes "Cost") cost)) ≤ 60
    by true = omega arith
    by false = omega (arith, length-append (codes "FaceplaceCert 2\n") (number_line (codes "Cost") cost), number_line_short (codes "Cost") cost (omega (arith, small)))

pub cert_short : (p : Netlist) (slots : ℕ) → IsSound p → slots ≤ 2 ^ 30 → (run : ShownRun) → IsRunOf p slots run → length (cert_text run) < 300000000
cert_short p slots sound few_slots run is =
    let version = version_short run.cost is.cost in
    let limit = number_line_short (codes "Limit") run.limit (omega (arith, is.small_limit)) in
    let count = number_line_short (codes "Trials") (length run.trials) (omega (arith, is.few)) in
    let trials = trials_short p slots sound few_slots 0 run.trials is.trials (omega (arith, is.few)) in
    let answer = number_line_short (codes "Answer") run.answer (omega (arith, is.answer)) in
    parts (version_lines run.cost) (number_line (codes "Limit") run.limit) (number_line (codes "Trials") (length run.trials)) (trials_text 0 run.trials)
    (number_line (codes "Answer") run.answer) version limit count (omega (arith, trials, is.few)) answer
  where
    parts : (a b c d e : List ℕ) → length a ≤ 60 → length b ≤ 26 → length c ≤ 27 → length d ≤ 9 * 33163000 → length e ≤ 27 → length (a ++ b ++ c ++ d ++ e) < 300000000
    parts a b c d e short_a short_b short_c short_d short_e = simp length-append (omega (arith, short_a, short_b, short_c, short_d, short_e))
