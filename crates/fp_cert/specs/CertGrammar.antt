-- The grammar of the certificate file, as a relation between a run of a problem and the tokens that spell it: each statement takes the
-- first words, and the rest follow. Cells and nets are told by their numbers in the problem, slots by theirs in its grid.
use Rattle.std.specs.Prelude.{◌≡◌, ◌⊎◌, ℕ, ◌+◌, ◌-◌, ◌^◌, ◌<◌, List, [], ◌∷◌, length, Ok, codes, ℤ, pos}
use Rattle.fp_base.specs.declared.ids.CellId.{CellId}
use Rattle.fp_base.specs.declared.ids.Die.{Die}
use Rattle.fp_base.specs.declared.ids.Die.TheVariants.{Top, Bottom}
use Rattle.fp_text.specs.Words.{Word, words_of}
use Rattle.fp_text.specs.Numbers.{Spells, signed_of}
use Rattle.fp_text.specs.Items.{Each}
use Rattle.fp_tech.specs.Plan.{segments}
use Rattle.fp_netlist.specs.Netlist.{Netlist}
use Rattle.fp_cert.specs.declared.shown.CellShown.{CellShown}
use Rattle.fp_cert.specs.declared.shown.CutShown.{CutShown}
use Rattle.fp_cert.specs.declared.shown.Ending.{Ending}
use Rattle.fp_cert.specs.declared.shown.Ending.TheVariants.{Start, Better, NotBetter, NoRow}
use Rattle.fp_cert.specs.Shown.{ShownRow, ShownTrial, ShownRun}
use Rattle.fp_cert.specs.CertText.{die_word}
use Rattle.fp_cert.specs.OfProblem.{most_shown, most_lines, cells_in}

-- the greatest number that is no dual, price or score, and the greatest amount of a target's coordinate
abbrev pub most_number : ℕ
most_number = 2 ^ 30

abbrev pub most_target : ℕ
most_target = 2 ^ 32

-- ---- the first word

-- it is this keyword
abbrev pub Keyword : List ℕ → List Word → List Word → Type 0
Keyword keyword words rest = (word : Word) × (words ≡ word ∷ rest) × (word.text ≡ keyword)

-- it is a number in a range
abbrev pub Number : ℕ → ℕ → ℕ → List Word → List Word → Type 0
Number least most n words rest = (word : Word) × (words ≡ word ∷ rest) × Spells least most word.text n

-- it is a number below a count
abbrev pub Below : ℕ → ℕ → List Word → List Word → Type 0
Below count n words rest = Number 0 most_number n words rest × (n < count)

-- it is a coordinate
abbrev pub Coordinate : ℤ → List Word → List Word → Type 0
Coordinate at words rest = (n : ℕ) × (at ≡ pos n) × Number 0 most_number n words rest

-- it is a target's coordinate, which may have a `-`
abbrev pub TargetAt : ℤ → List Word → List Word → Type 0
TargetAt at words rest = (word : Word) × (words ≡ word ∷ rest) × (signed_of most_target word.text ≡ Ok at)

-- `keyword n`, with the number in a range
pub record IsNumberLine (keyword : List ℕ) (least most n : ℕ) (words rest : List Word) : Type 0 where
  pub after_keyword : List Word
  pub begins : Keyword keyword words after_keyword
  pub number : Number least most n after_keyword rest

-- ---- a trial that placed its cells

-- `Cell cell x targetx targety dual`
pub record IsCellLine (p : Netlist) (line : CellShown) (words rest : List Word) : Type 0 where
  pub after_keyword : List Word
  pub after_cell : List Word
  pub after_x : List Word
  pub after_target_x : List Word
  pub after_target_y : List Word
  pub begins : Keyword (codes "Cell") words after_keyword
  pub cell : Below (length p.cells) line.cell.0 after_keyword after_cell
  pub x : Coordinate line.x after_cell after_x
  pub target_x : TargetAt line.target.x after_x after_target_x
  pub target_y : TargetAt line.target.y after_target_x after_target_y
  pub dual : Number 0 most_shown line.dual after_target_y rest

-- `Segment n dual`, then n cells; with the trial's cells before them they are at most 2^18
pub record IsRowLines (p : Netlist) (taken : ℕ) (row : ShownRow) (words rest : List Word) : Type 0 where
  pub after_count : List Word
  pub after_first : List Word
  pub count : IsNumberLine (codes "Segment") 0 (most_lines - taken) (length row.cells) words after_count
  pub dual : Number 0 most_shown row.first after_count after_first
  pub lines : Each (λ before. IsCellLine p) [] row.cells after_first rest

-- `TopSegments a` or `BottomSegments a`, then a segments, as many as the die has
pub record IsDieLines (p : Netlist) (die : Die) (taken : ℕ) (rows : List ShownRow) (words rest : List Word) : Type 0 where
  pub after_count : List Word
  pub count : IsNumberLine (die_word die) (length (segments p.plan die)) (length (segments p.plan die)) (length rows) words after_count
  pub lines : Each (λ before. IsRowLines p (taken + cells_in before)) [] rows after_count rest

-- `Cut net slot price`
pub record IsCutLine (p : Netlist) (slots : ℕ) (line : CutShown) (words rest : List Word) : Type 0 where
  pub after_keyword : List Word
  pub after_net : List Word
  pub after_slot : List Word
  pub begins : Keyword (codes "Cut") words after_keyword
  pub net : Below (length p.nets) line.net.0 after_keyword after_net
  pub slot : Below slots line.slot.0 after_net after_slot
  pub price : Number 0 most_shown line.price after_slot rest

-- `keyword n`, then n lines
pub record IsListed {A : Type 0} (keyword : List ℕ) (stands : A → List Word → List Word → Type 0) (items : List A) (words rest : List Word) : Type 0 where
  pub after_count : List Word
  pub count : IsNumberLine keyword 0 most_lines (length items) words after_count
  pub lines : Each (λ before. stands) [] items after_count rest

-- from the top die's segments to `Score s`
pub record AreLines (p : Netlist) (slots : ℕ) (trial : ShownTrial) (words rest : List Word) : Type 0 where
  pub after_top : List Word
  pub after_bottom : List Word
  pub after_cuts : List Word
  pub tops : IsDieLines p Top 0 trial.top words after_top
  pub bottoms : IsDieLines p Bottom (cells_in trial.top) trial.bottom after_top after_bottom
  pub terminals : IsListed (codes "Terminals") (IsCutLine p slots) trial.cuts after_bottom after_cuts
  pub scored : IsNumberLine (codes "Score") 0 most_shown trial.score after_cuts rest
  pub no_tops : trial.top_cells ≡ []

-- ---- a trial that found no row for a cell

-- `Cell cell`
pub record IsTopLine (p : Netlist) (line : CellId) (words rest : List Word) : Type 0 where
  pub after_keyword : List Word
  pub begins : Keyword (codes "Cell") words after_keyword
  pub cell : Below (length p.cells) line.0 after_keyword rest

-- the cells of the top die, and nothing else
pub record AreTops (p : Netlist) (trial : ShownTrial) (words rest : List Word) : Type 0 where
  pub tops : IsListed (codes "TopCells") (IsTopLine p) trial.top_cells words rest
  pub no_top : trial.top ≡ []
  pub no_bottom : trial.bottom ≡ []
  pub no_cuts : trial.cuts ≡ []
  pub no_score : trial.score ≡ 0

-- ---- a trial

-- how it ended
abbrev pub IsEnding : Netlist → Ending → List Word → List Word → Type 0
IsEnding p Start words rest = Keyword (codes "start") words rest
IsEnding p Better words rest = Keyword (codes "better") words rest
IsEnding p NotBetter words rest = Keyword (codes "kept") words rest
IsEnding p (NoRow cell) words rest = (after_keyword : List Word) × Keyword (codes "norow") words after_keyword × Below (length p.cells) cell.0 after_keyword rest

-- what it shows, by how it ended
abbrev pub AreShown : Netlist → ℕ → Ending → ShownTrial → List Word → List Word → Type 0
AreShown p slots Start trial words rest = AreLines p slots trial words rest
AreShown p slots Better trial words rest = AreLines p slots trial words rest
AreShown p slots NotBetter trial words rest = AreLines p slots trial words rest
AreShown p slots (NoRow cell) trial words rest = AreTops p trial words rest

-- `Trial`, its number and how it ended, and then what it shows
pub record IsTrialText (p : Netlist) (slots number : ℕ) (trial : ShownTrial) (words rest : List Word) : Type 0 where
  pub after_number : List Word
  pub after_ending : List Word
  pub numbered : IsNumberLine (codes "Trial") number number number words after_number
  pub ended : IsEnding p trial.ending after_number after_ending
  pub shown : AreShown p slots trial.ending trial after_ending rest

-- ---- the whole file

-- `FaceplaceCert 1`, which says the cost 0; or `FaceplaceCert 2` and `Cost c`
abbrev pub IsVersion : ℕ → List Word → List Word → Type 0
IsVersion cost words rest = ((cost ≡ 0) × IsNumberLine (codes "FaceplaceCert") 1 1 1 words rest)
    ⊎ ((after_version : List Word) × IsNumberLine (codes "FaceplaceCert") 2 2 2 words after_version × IsNumberLine (codes "Cost") 1 most_number cost after_version rest)

-- the words of a whole file; the trials are numbered from 0
pub record IsCert (p : Netlist) (slots : ℕ) (run : ShownRun) (words : List Word) : Type 0 where
  pub after_version : List Word
  pub after_limit : List Word
  pub after_count : List Word
  pub after_trials : List Word
  pub version : IsVersion run.cost words after_version
  pub limited : IsNumberLine (codes "Limit") 1 8 run.limit after_version after_limit
  pub count : IsNumberLine (codes "Trials") 2 9 (length run.trials) after_limit after_count
  pub each : Each (λ before. IsTrialText p slots (length before)) [] run.trials after_count after_trials
  pub answered : IsNumberLine (codes "Answer") 0 8 run.answer after_trials []

-- the bytes are a certificate file that says this run
abbrev pub ReadsCert : Netlist → ℕ → List ℕ → ShownRun → Type 0
ReadsCert p slots bytes run = IsCert p slots run (words_of bytes)
