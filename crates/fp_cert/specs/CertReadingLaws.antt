-- Laws of reading a certificate file: what is read is in the grammar, what is in the grammar is read, and bytes say at most one run.
use Rattle.std.proofs.Common.{◌≡◌, ℕ, ◌+◌, ◌-◌, ◌^◌, ◌≤◌, List, [], ◌∷◌, ◌++◌, length, Ok, refl, sym, ap, subst, ◌∙◌, arith, length-append}
use Rattle.std.specs.Prelude.{codes, ◌↔◌}
use Rattle.fp_base.specs.declared.ids.CellId.{CellId}
use Rattle.fp_base.specs.declared.ids.Die.{Die}
use Rattle.fp_base.specs.declared.ids.Die.TheVariants.{Top, Bottom}
use Rattle.fp_text.specs.Words.{Word, words_of}
use Rattle.fp_text.specs.Items.{Each}
use Rattle.fp_text.specs.Reading.{Left, Read, whole, end_next, many_next}
use Rattle.fp_text.specs.ReadingLaws.{left_of, bind_ok, ok_is, end_ok, end_again, many_ok, many_again}
use Rattle.fp_text.specs.declared.fault.Kind.TheVariants as kinds
use Rattle.fp_tech.specs.Plan.{segments}
use Rattle.fp_tech.specs.PlanLaws.{few_segments}
use Rattle.fp_netlist.specs.Netlist.{Netlist, IsSound}
use Rattle.fp_cert.specs.declared.shown.CellShown.{CellShown}
use Rattle.fp_cert.specs.declared.shown.Ending.{Ending}
use Rattle.fp_cert.specs.declared.shown.Ending.TheVariants.{Start, Better, NotBetter, NoRow}
use Rattle.fp_cert.specs.Shown.{ShownRow, ShownTrial, ShownRun, run_without}
use Rattle.fp_cert.specs.CertText.{die_word}
use Rattle.fp_cert.specs.OfProblem.{most_lines, cells_in}
use Rattle.fp_cert.specs.CertGrammar.{IsNumberLine, IsCellLine, IsRowLines, IsDieLines, IsCutLine, IsListed, AreLines, IsTopLine, AreTops, IsEnding, AreShown, IsTrialText, IsVersion, ReadsCert}
use Rattle.fp_cert.specs.CertReading.{amount_next, line_next, cell_next, row_next, row_item, rows_next, cut_next, listed_next, score_next, lines_next, top_next, tops_next, ending_next, shown_next, trial_next, trial_item, version_next, trials_next, run_next, cert_of}
use Rattle.fp_cert.specs.CertTokensLaws.{Took, Takes, Stood, amount_ok, amount_again, line_ok, line_again, score_ok, score_again, cell_ok, cell_again, cut_ok, cut_again, top_ok, top_again, ending_ok, ending_again, version_ok, version_again}

-- ---- segments

pub row_ok : (p : Netlist) (taken : ℕ) → Took (IsRowLines p taken) (row_next p taken)
unfolding row_next
row_ok p taken l row r e =
    let n = bind_ok (line_next (codes "Segment") 0 (most_lines - taken) kinds.Limit l) _ _ e in
    let f = bind_ok (amount_next n.0.1) _ _ n.2 in
    let c = bind_ok (many_next (λ (before : List CellShown). cell_next p) n.0.0 [] f.0.1) _ _ f.2 in
    let count = line_ok (codes "Segment") 0 (most_lines - taken) kinds.Limit l n.0.0 n.0.1 n.1 in
    let first = amount_ok n.0.1 f.0.0 f.0.1 f.1 in
    let items = many_ok (λ before. cell_next p) (λ before. IsCellLine p) (λ before. cell_ok p) n.0.0 [] f.0.1 c.0.0 c.0.1 c.1 in
    let many : length c.0.0 ≡ n.0.0 = ap length items.whole ∙ items.count_is in
    let same = ok_is {A = ShownRow × Left} (record { first = f.0.0; cells = c.0.0 }, c.0.1) (row, r) c.2 in
    subst (Stood (IsRowLines p taken) l) same (
      record {
        after_count = n.0.1.words;
        after_first = f.0.1.words;
        count = subst (λ (k : ℕ). IsNumberLine (codes "Segment") 0 (most_lines - taken) k l.words n.0.1.words) (sym many) count.0;
        dual = first.0;
        lines = subst (λ (xs : List CellShown). Each (λ before. IsCellLine p) [] xs f.0.1.words c.0.1.words) (sym items.whole) items.each;
      },
      items.bytes ∙ first.1 ∙ count.1,
    )

row_again : (p : Netlist) (taken : ℕ) → Takes (IsRowLines p taken) (row_next p taken)
unfolding row_next
row_again p taken l row rest s =
    let count = line_again (codes "Segment") 0 (most_lines - taken) kinds.Limit (omega arith) l (length row.cells) s.after_count s.count in
    let first = amount_again (left_of l s.after_count) row.first s.after_first s.dual in
    let items = many_again (λ before. cell_next p) (λ before. IsCellLine p) (λ before. cell_again p) row.cells [] (left_of l s.after_first) rest s.lines in
    rw (count, first, items) refl

-- how many cells a segment has at most
pub row_few : (p : Netlist) (taken : ℕ) (l : Left) (row : ShownRow) (r : Left) → taken ≤ 2 ^ 18 → row_next p taken l ≡ Ok (row, r) → taken + length row.cells ≤ 2 ^ 18
row_few p taken l row r few e = let most : length row.cells ≤ most_lines - taken = (row_ok p taken l row r e).0.count.number.2.at_most in omega arith

rows_ok : (p : Netlist) (die : Die) (taken : ℕ) → Took (IsDieLines p die taken) (rows_next p die taken)
unfolding rows_next
rows_ok p die taken l rows r e =
    let k : ℕ = length (segments p.plan die) in
    let n = bind_ok (line_next (die_word die) k k kinds.Range l) _ _ e in
    let count = line_ok (die_word die) k k kinds.Range l n.0.0 n.0.1 n.1 in
    let items = many_ok (row_item p taken) (λ before. IsRowLines p (taken + cells_in before)) (λ before. row_ok p (taken + cells_in before)) n.0.0 [] n.0.1 rows r n.2 in
    let many : length rows ≡ n.0.0 = ap length items.whole ∙ items.count_is in (
      record {
        after_count = n.0.1.words;
        count = subst (λ (m : ℕ). IsNumberLine (die_word die) k k m l.words n.0.1.words) (sym many) count.0;
        lines = subst (λ (xs : List ShownRow). Each (λ before. IsRowLines p (taken + cells_in before)) [] xs n.0.1.words r.words) (sym items.whole) items.each;
      },
      items.bytes ∙ count.1,
    )

rows_again : (p : Netlist) → IsSound p → (die : Die) (taken : ℕ) → Takes (IsDieLines p die taken) (rows_next p die taken)
unfolding rows_next
rows_again p sound die taken l rows rest s =
    let k : ℕ = length (segments p.plan die) in
    let count = line_again (die_word die) k k kinds.Range (omega (arith, few_segments p.plan sound.plan die)) l (length rows) s.after_count s.count in
    let items = many_again (row_item p taken) (λ before. IsRowLines p (taken + cells_in before)) (λ before. row_again p (taken + cells_in before)) rows [] (left_of l s.after_count) rest s.lines in
    rw (count, items) refl

-- ---- lists of lines

listed_ok : {A : Type 0} (word : List ℕ) (stands : A → List Word → List Word → Type 0) (line : Left → Read A) → Took stands line → Took (IsListed word stands) (listed_next word line)
unfolding listed_next
listed_ok {A} word stands line one l xs r e =
    let n = bind_ok (line_next word 0 most_lines kinds.Limit l) _ _ e in
    let count = line_ok word 0 most_lines kinds.Limit l n.0.0 n.0.1 n.1 in
    let items = many_ok (λ before. line) (λ before. stands) (λ before. one) n.0.0 [] n.0.1 xs r n.2 in
    let many : length xs ≡ n.0.0 = ap length items.whole ∙ items.count_is in (
      record {
        after_count = n.0.1.words;
        count = subst (λ (m : ℕ). IsNumberLine word 0 most_lines m l.words n.0.1.words) (sym many) count.0;
        lines = subst (λ (ys : List A). Each (λ before. stands) [] ys n.0.1.words r.words) (sym items.whole) items.each;
      },
      items.bytes ∙ count.1,
    )

listed_again : {A : Type 0} (word : List ℕ) (stands : A → List Word → List Word → Type 0) (line : Left → Read A) → Takes stands line → Takes (IsListed word stands) (listed_next word line)
unfolding listed_next
listed_again word stands line one l xs rest s =
    let count = line_again word 0 most_lines kinds.Limit (omega arith) l (length xs) s.after_count s.count in
    let items = many_again (λ before. line) (λ before. stands) (λ before. one) xs [] (left_of l s.after_count) rest s.lines in
    rw (count, items) refl

-- ---- a trial that placed its cells

-- the lines stand in the words, and the trial ended so
abbrev pub EndsAs : (ShownTrial → List Word → List Word → Type 0) → Ending → ShownTrial → List Word → List Word → Type 0
EndsAs stands ending trial words rest = stands trial words rest × (trial.ending ≡ ending)

pub lines_ok : (p : Netlist) (slots : ℕ) (ending : Ending) → Took (EndsAs (AreLines p slots) ending) (lines_next p slots ending)
unfolding lines_next
lines_ok p slots ending l trial r e =
    let t = bind_ok (rows_next p Top 0 l) _ _ e in
    let b = bind_ok (rows_next p Bottom (cells_in t.0.0) t.0.1) _ _ t.2 in
    let c = bind_ok (listed_next (codes "Terminals") (cut_next p slots) b.0.1) _ _ b.2 in
    let s = bind_ok (score_next c.0.1) _ _ c.2 in
    let top = rows_ok p Top 0 l t.0.0 t.0.1 t.1 in
    let bottom = rows_ok p Bottom (cells_in t.0.0) t.0.1 b.0.0 b.0.1 b.1 in
    let cuts = listed_ok (codes "Terminals") (IsCutLine p slots) (cut_next p slots) (cut_ok p slots) b.0.1 c.0.0 c.0.1 c.1 in
    let score = score_ok c.0.1 s.0.0 s.0.1 s.1 in
    let same = ok_is {A = ShownTrial × Left} (record { ending = ending; top = t.0.0; bottom = b.0.0; cuts = c.0.0; score = s.0.0; top_cells = [] }, s.0.1) (trial, r) s.2 in
    subst (Stood (EndsAs (AreLines p slots) ending) l) same (
      (
        record {
          after_top = t.0.1.words;
          after_bottom = b.0.1.words;
          after_cuts = c.0.1.words;
          tops = top.0;
          bottoms = bottom.0;
          terminals = cuts.0;
          scored = score.0;
          no_tops = refl;
        },
        refl,
      ),
      score.1 ∙ cuts.1 ∙ bottom.1 ∙ top.1,
    )

pub lines_again : (p : Netlist) (slots : ℕ) → IsSound p → (l : Left) (trial : ShownTrial) (rest : List Word) → AreLines p slots trial l.words rest
    → lines_next p slots trial.ending l ≡ Ok (trial, left_of l rest)
unfolding lines_next
lines_again p slots sound l trial rest s =
    let top = rows_again p sound Top 0 l trial.top s.after_top s.tops in
    let bottom = rows_again p sound Bottom (cells_in trial.top) (left_of l s.after_top) trial.bottom s.after_bottom s.bottoms in
    let cuts = listed_again (codes "Terminals") (IsCutLine p slots) (cut_next p slots) (cut_again p slots) (left_of l s.after_bottom) trial.cuts s.after_cuts s.terminals in
    let score = score_again (left_of l s.after_cuts) trial.score rest s.scored in
    rw (top, bottom, cuts, score) (ap (λ (cells : List CellId). was_shown (record trial { top_cells = cells })) (sym s.no_tops))
  where
    was_shown : ShownTrial → Read ShownTrial
    was_shown shown = Ok (shown, left_of l rest)

-- ---- a trial that found no row

tops_ok : (p : Netlist) (cell : CellId) → Took (EndsAs (AreTops p) (NoRow cell)) (tops_next p cell)
unfolding tops_next
tops_ok p cell l trial r e =
    let c = bind_ok (listed_next (codes "TopCells") (top_next p) l) _ _ e in
    let cells = listed_ok (codes "TopCells") (IsTopLine p) (top_next p) (top_ok p) l c.0.0 c.0.1 c.1 in
    let same = ok_is {A = ShownTrial × Left} (record { ending = NoRow cell; top = []; bottom = []; cuts = []; score = 0; top_cells = c.0.0 }, c.0.1) (trial, r) c.2 in
    subst (Stood (EndsAs (AreTops p) (NoRow cell)) l) same
    ((record { tops = cells.0; no_top = refl; no_bottom = refl; no_cuts = refl; no_score = refl }, refl), cells.1)

tops_again : (p : Netlist) (cell : CellId) (l : Left) (trial : ShownTrial) (rest : List Word) → AreTops p trial l.words rest → trial.ending ≡ NoRow cell
    → tops_next p cell l ≡ Ok (trial, left_of l rest)
unfolding tops_next
tops_again p cell l trial rest s is =
    let cells = listed_again (codes "TopCells") (IsTopLine p) (top_next p) (top_again p) l trial.top_cells rest s.tops in
    rw cells (λ i. was_shown (record {
      ending = sym is i;
      top = sym s.no_top i;
      bottom = sym s.no_bottom i;
      cuts = sym s.no_cuts i;
      score = sym s.no_score i;
      top_cells = trial.top_cells;
    }))
  where
    was_shown : ShownTrial → Read ShownTrial
    was_shown shown = Ok (shown, left_of l rest)

-- ---- a trial

shown_ok : (p : Netlist) (slots : ℕ) (ending : Ending) → Took (EndsAs (AreShown p slots ending) ending) (shown_next p slots ending)
shown_ok p slots Start l trial r e = lines_ok p slots Start l trial r e
shown_ok p slots Better l trial r e = lines_ok p slots Better l trial r e
shown_ok p slots NotBetter l trial r e = lines_ok p slots NotBetter l trial r e
shown_ok p slots (NoRow cell) l trial r e = tops_ok p cell l trial r e

shown_again : (p : Netlist) (slots : ℕ) → IsSound p → (ending : Ending) (l : Left) (trial : ShownTrial) (rest : List Word) → trial.ending ≡ ending
    → AreShown p slots ending trial l.words rest → shown_next p slots ending l ≡ Ok (trial, left_of l rest)
shown_again p slots sound Start l trial rest is s = ap (λ (ending : Ending). lines_next p slots ending l) (sym is) ∙ lines_again p slots sound l trial rest s
shown_again p slots sound Better l trial rest is s = ap (λ (ending : Ending). lines_next p slots ending l) (sym is) ∙ lines_again p slots sound l trial rest s
shown_again p slots sound NotBetter l trial rest is s = ap (λ (ending : Ending). lines_next p slots ending l) (sym is) ∙ lines_again p slots sound l trial rest s
shown_again p slots sound (NoRow cell) l trial rest is s = tops_again p cell l trial rest s is

trial_ok : (p : Netlist) (slots number : ℕ) → Took (IsTrialText p slots number) (trial_next p slots number)
unfolding trial_next
trial_ok p slots number l trial r e =
    let n = bind_ok (line_next (codes "Trial") number number kinds.Range l) _ _ e in
    let d = bind_ok (ending_next p n.0.1) _ _ n.2 in
    let line = line_ok (codes "Trial") number number kinds.Range l n.0.0 n.0.1 n.1 in
    let ending = ending_ok p n.0.1 d.0.0 d.0.1 d.1 in
    let shown = shown_ok p slots d.0.0 d.0.1 trial r d.2 in
    let least : number ≤ n.0.0 = line.0.number.2.at_least in
    let most : n.0.0 ≤ number = line.0.number.2.at_most in
    let same : n.0.0 ≡ number = omega arith in (
      record {
        after_number = n.0.1.words;
        after_ending = d.0.1.words;
        numbered = subst (λ (k : ℕ). IsNumberLine (codes "Trial") number number k l.words n.0.1.words) same line.0;
        ended = subst (λ (x : Ending). ended_as x n.0.1.words d.0.1.words) (sym shown.0.1) ending.0;
        shown = subst (λ (x : Ending). AreShown p slots x trial d.0.1.words r.words) (sym shown.0.1) shown.0.0;
      },
      shown.1 ∙ ending.1 ∙ line.1,
    )
  where
    ended_as : Ending → List Word → List Word → Type 0
    ended_as x words rest = IsEnding p x words rest

trial_again : (p : Netlist) (slots : ℕ) → IsSound p → (number : ℕ) → number ≤ 2 ^ 30 → Takes (IsTrialText p slots number) (trial_next p slots number)
unfolding trial_next
trial_again p slots sound number small l trial rest s =
    let line = line_again (codes "Trial") number number kinds.Range small l number s.after_number s.numbered in
    let ending = ending_again p (left_of l s.after_number) trial.ending s.after_ending s.ended in
    let shown = shown_again p slots sound trial.ending (left_of l s.after_ending) trial rest refl s.shown in
    rw (line, ending, shown) refl

-- ---- the whole file

-- items that stand behind so many others are behind few
each_few : {A : Type 0} (stands : List A → A → List Word → List Word → Type 0) (most : ℕ) (before xs : List A) (words rest : List Word) → length before + length xs ≤ most
    → Each stands before xs words rest → Each (λ earlier x us vs. stands earlier x us vs × (length earlier ≤ most)) before xs words rest
each_few stands most before [] words rest few each = each
each_few stands most before (x ∷ xs) words rest few each =
    (each.0, (each.1, omega arith), each_few stands most (before ++ x ∷ []) xs each.0 rest (omega (arith, length-append before (x ∷ []))) each.2)

-- the words of the trials and of the answer, up to the end
record AreTrials (p : Netlist) (slots : ℕ) (run : ShownRun) (words : List Word) : Type 0 where
  after_count : List Word
  after_trials : List Word
  count : IsNumberLine (codes "Trials") 2 9 (length run.trials) words after_count
  each : Each (λ before. IsTrialText p slots (length before)) [] run.trials after_count after_trials
  answered : IsNumberLine (codes "Answer") 0 8 run.answer after_trials []

trials_ok : (p : Netlist) (slots : ℕ) (old : ShownRun) (l : Left) (run : ShownRun) → trials_next p slots old l ≡ Ok run
    → AreTrials p slots run l.words × (run.limit ≡ old.limit) × (run.cost ≡ old.cost)
unfolding trials_next
trials_ok p slots old l run e =
    let n = bind_ok (line_next (codes "Trials") 2 9 kinds.Range l) _ _ e in
    let t = bind_ok (many_next (trial_item p slots) n.0.0 [] n.0.1) _ _ n.2 in
    let a = bind_ok (line_next (codes "Answer") 0 8 kinds.Range t.0.1) _ _ t.2 in
    let z = bind_ok (end_next a.0.1) _ _ a.2 in
    let count = line_ok (codes "Trials") 2 9 kinds.Range l n.0.0 n.0.1 n.1 in
    let items = many_ok (trial_item p slots) (λ before. IsTrialText p slots (length before)) (λ before. trial_ok p slots (length before)) n.0.0 [] n.0.1 t.0.0 t.0.1 t.1 in
    let answer = line_ok (codes "Answer") 0 8 kinds.Range t.0.1 a.0.0 a.0.1 a.1 in
    let no_more = end_ok a.0.1 z.0 z.1 in
    let many : length t.0.0 ≡ n.0.0 = ap length items.whole ∙ items.count_is in
    let same = ok_is {A = ShownRun} (record old { trials = t.0.0; answer = a.0.0 }) run z.2 in
    subst (λ (x : ShownRun). AreTrials p slots x l.words × (x.limit ≡ old.limit) × (x.cost ≡ old.cost)) same (
      record {
        after_count = n.0.1.words;
        after_trials = t.0.1.words;
        count = subst (λ (m : ℕ). IsNumberLine (codes "Trials") 2 9 m l.words n.0.1.words) (sym many) count.0;
        each = subst (λ (xs : List ShownTrial). Each (λ before. IsTrialText p slots (length before)) [] xs n.0.1.words t.0.1.words) (sym items.whole) items.each;
        answered = subst (λ (ws : List Word). IsNumberLine (codes "Answer") 0 8 a.0.0 t.0.1.words ws) no_more.0 answer.0;
      },
      refl,
      refl,
    )

trials_again : (p : Netlist) (slots : ℕ) → IsSound p → (l : Left) (run : ShownRun) → AreTrials p slots run l.words → trials_next p slots (run_without run.limit run.cost) l ≡ Ok run
unfolding trials_next
trials_again p slots sound l run s =
    let count = line_again (codes "Trials") 2 9 kinds.Range (omega arith) l (length run.trials) s.after_count s.count in
    let most : length run.trials ≤ 9 = s.count.number.2.at_most in
    let few = each_few (λ before. IsTrialText p slots (length before)) 9 [] run.trials s.after_count s.after_trials (omega arith) s.each in
    let items = many_again (trial_item p slots) (λ earlier x us vs. IsTrialText p slots (length earlier) x us vs × (length earlier ≤ 9))
    (λ earlier m x rest both. trial_again p slots sound (length earlier) (omega (arith, both.1)) m x rest both.0) run.trials [] (left_of l s.after_count) s.after_trials few in
    let answer = line_again (codes "Answer") 0 8 kinds.Range (omega arith) (left_of l s.after_trials) run.answer [] s.answered in
    rw (count, items, answer, end_again (left_of l []) refl) refl

pub read_is_in : (p : Netlist) (slots : ℕ) (bytes : List ℕ) (run : ShownRun) → cert_of p slots bytes ≡ Ok run → ReadsCert p slots bytes run
unfolding run_next
read_is_in p slots bytes run e =
    let v = bind_ok (version_next (whole bytes)) _ _ e in
    let n = bind_ok (line_next (codes "Limit") 1 8 kinds.Range v.0.1) _ _ v.2 in
    let version = version_ok (whole bytes) v.0.0 v.0.1 v.1 in
    let limit = line_ok (codes "Limit") 1 8 kinds.Range v.0.1 n.0.0 n.0.1 n.1 in
    let rest = trials_ok p slots (run_without n.0.0 v.0.0) n.0.1 run n.2 in
    record {
      after_version = v.0.1.words;
      after_limit = n.0.1.words;
      after_count = rest.0.after_count;
      after_trials = rest.0.after_trials;
      version = subst (λ (cost : ℕ). is_version cost v.0.1.words) (sym rest.2) version.0;
      limited = subst (λ (m : ℕ). IsNumberLine (codes "Limit") 1 8 m v.0.1.words n.0.1.words) (sym rest.1) limit.0;
      count = rest.0.count;
      each = rest.0.each;
      answered = rest.0.answered;
    }
  where
    is_version : ℕ → List Word → Type 0
    is_version cost after = IsVersion cost (words_of bytes) after

pub is_in_read : (p : Netlist) (slots : ℕ) → IsSound p → (bytes : List ℕ) (run : ShownRun) → ReadsCert p slots bytes run → cert_of p slots bytes ≡ Ok run
unfolding run_next
is_in_read p slots sound bytes run s =
    let version = version_again (whole bytes) run.cost s.after_version s.version in
    let limit = line_again (codes "Limit") 1 8 kinds.Range (omega arith) (left_of (whole bytes) s.after_version) run.limit s.after_limit s.limited in
    let rest = trials_again p slots sound (left_of (whole bytes) s.after_limit) run (record {
      after_count = s.after_count;
      after_trials = s.after_trials;
      count = s.count;
      each = s.each;
      answered = s.answered;
    }) in
    rw (version, limit, rest) refl

-- bytes are a certificate file that says a run exactly where the reading from left to right gives it
pub reads_exactly : (p : Netlist) (slots : ℕ) → IsSound p → (bytes : List ℕ) (run : ShownRun) → ReadsCert p slots bytes run ↔ (cert_of p slots bytes ≡ Ok run)
reads_exactly p slots sound bytes run = (is_in_read p slots sound bytes run, read_is_in p slots bytes run)

-- and say at most one
pub one_run : (p : Netlist) (slots : ℕ) → IsSound p → (bytes : List ℕ) (one other : ShownRun) → ReadsCert p slots bytes one → ReadsCert p slots bytes other → one ≡ other
one_run p slots sound bytes one other first second = ok_is one other (sym (is_in_read p slots sound bytes one first) ∙ is_in_read p slots sound bytes other second)
