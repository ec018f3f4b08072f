-- What a trial's lines read, one part behind the other, and what a file's parts read.
use Rattle.std.proofs.Common.{◌≡◌, ℕ, ◌+◌, ◌^◌, ◌≤◌, List, [], ◌++◌, Result, Ok, Err, refl, sym, ap, subst, ◌∙◌, arith}
use Rattle.std.specs.Prelude.{codes, IfOk, IsTrue}
use Rattle.fp_base.specs.declared.ids.Die.TheVariants.{Top, Bottom}
use Rattle.fp_text.specs.Reading.{Left, Read, Fault, whole, end_next, many_next, GivesFault, Gives, Ends}
use Rattle.fp_text.specs.declared.fault.Kind.TheVariants as kinds
use Rattle.fp_text.specs.declared.fault.TextFault.{TextFault}
use Rattle.fp_text.specs.declared.fault.TextFault.TheVariants.{Wrong, Memory}
use Rattle.fp_tech.specs.Plan.{Plan}
use Rattle.fp_tech.specs.Slots.{Slots, slot_count, IsGrid}
use Rattle.fp_tech.specs.SlotsLaws.{grid_once}
use Rattle.fp_netlist.specs.Netlist.{Netlist, IsSound}
use Rattle.fp_cert.specs.declared.shown.CutShown.{CutShown}
use Rattle.fp_cert.specs.declared.shown.Ending.{Ending}
use Rattle.fp_cert.specs.declared.shown.Ending.TheVariants.{Start, Better, NotBetter, NoRow}
use Rattle.fp_cert.specs.Shown.{ShownRow, ShownTrial, ShownRun, trial_without, run_without}
use Rattle.fp_cert.specs.Endings.{has_rows}
use Rattle.fp_cert.specs.CertText.{cert_text}
use Rattle.fp_cert.specs.OfProblem.{cells_in, IsEndedTrialOf, IsTrialOf, IsRunOf}
use Rattle.fp_cert.specs.CertGrammar.{AreLines, ReadsCert}
use Rattle.fp_cert.specs.CertReading.{line_next, rows_next, cut_next, listed_next, score_next, lines_next, trial_item, version_next, trials_next, run_next, cert_of, GivesRun}
use Rattle.fp_cert.specs.CertReadingLaws.{lines_ok, read_is_in, is_in_read}
use Rattle.fp_cert.specs.CertRunLaws.{placed_is, run_is}
use Rattle.fp_cert.specs.CertReadBack.{says_run}
use Rattle.fp_cert.specs.Growing.{with_rows, with_cuts, with_trials, Finishes}

-- ---- a trial's lines

-- what its parts read
abbrev TopRead : Netlist → ShownTrial → ShownTrial → ℕ → Left → Left → Type 0
TopRead p old new taken l after = (rows : List ShownRow) × (rows_next p Top 0 l ≡ Ok (rows, after)) × (new ≡ with_rows Top old rows) × (taken ≡ 0 + cells_in rows)

abbrev BottomRead : Netlist → ShownTrial → ShownTrial → ℕ → ℕ → Left → Left → Type 0
BottomRead p old new taken all l after = (rows : List ShownRow) × (rows_next p Bottom taken l ≡ Ok (rows, after)) × (new ≡ with_rows Bottom old rows) × (all ≡ taken + cells_in rows)

abbrev CutsRead : Netlist → ℕ → ShownTrial → ShownTrial → Left → Left → Type 0
CutsRead p slots old new l after = (cuts : List CutShown) × (listed_next (codes "Terminals") (cut_next p slots) l ≡ Ok (cuts, after)) × (new ≡ with_cuts old cuts)

-- the bottom die's segments, with the top die's cells counted
bottom_at : (p : Netlist) (taken : ℕ) (rows : List ShownRow) (l : Left) (read : Read (List ShownRow)) → taken ≡ 0 + cells_in rows → rows_next p Bottom taken l ≡ read
    → rows_next p Bottom (cells_in rows) l ≡ read
bottom_at p taken rows l read is e = ap (λ (n : ℕ). rows_next p Bottom n l) (omega (arith, is)) ∙ e

pub top_fails : (e : TextFault) (p : Netlist) (slots : ℕ) (ending : Ending) (l : Left) → GivesFault e (rows_next p Top 0 l) → GivesFault e (lines_next p slots ending l)
unfolding lines_next
top_fails Memory p slots ending l fails = tt
top_fails (Wrong at kind) p slots ending l fails = rw fails refl

pub bottom_fails : (e : TextFault) (p : Netlist) (slots : ℕ) (ending : Ending) (old mid : ShownTrial) (taken : ℕ) (l l_2 : Left) → TopRead p old mid taken l l_2
    → GivesFault e (rows_next p Bottom taken l_2) → GivesFault e (lines_next p slots ending l)
unfolding lines_next
bottom_fails Memory p slots ending old mid taken l l_2 top fails = tt
bottom_fails (Wrong at kind) p slots ending old mid taken l l_2 top fails =
    let bottom = bottom_at p taken top.0 l_2 _ top.3 fails in
    rw (top.1, bottom) refl

pub cuts_fail : (e : TextFault) (p : Netlist) (slots : ℕ) (ending : Ending) (old mid mid_2 : ShownTrial) (taken all : ℕ) (l l_2 l_3 : Left) → TopRead p old mid taken l l_2
    → BottomRead p mid mid_2 taken all l_2 l_3 → GivesFault e (listed_next (codes "Terminals") (cut_next p slots) l_3) → GivesFault e (lines_next p slots ending l)
unfolding lines_next
cuts_fail Memory p slots ending old mid mid_2 taken all l l_2 l_3 top bottom fails = tt
cuts_fail (Wrong at kind) p slots ending old mid mid_2 taken all l l_2 l_3 top bottom fails =
    let below = bottom_at p taken top.0 l_2 _ top.3 bottom.1 in
    rw (top.1, below, fails) refl

pub score_fails : (e : TextFault) (p : Netlist) (slots : ℕ) (ending : Ending) (old mid mid_2 mid_3 : ShownTrial) (taken all : ℕ) (l l_2 l_3 l_4 : Left) → TopRead p old mid taken l l_2
    → BottomRead p mid mid_2 taken all l_2 l_3 → CutsRead p slots mid_2 mid_3 l_3 l_4 → GivesFault e (score_next l_4) → GivesFault e (lines_next p slots ending l)
unfolding lines_next
score_fails Memory p slots ending old mid mid_2 mid_3 taken all l l_2 l_3 l_4 top bottom cuts fails = tt
score_fails (Wrong at kind) p slots ending old mid mid_2 mid_3 taken all l l_2 l_3 l_4 top bottom cuts fails =
    let below = bottom_at p taken top.0 l_2 _ top.3 bottom.1 in
    rw (top.1, below, cuts.1, fails) refl

pub lines_read : (p : Netlist) (slots : ℕ) (ending : Ending) (old mid mid_2 mid_3 new : ShownTrial) (taken all score : ℕ) (l l_2 l_3 l_4 l_5 : Left) → old ≡ trial_without ending 0
    → TopRead p old mid taken l l_2 → BottomRead p mid mid_2 taken all l_2 l_3 → CutsRead p slots mid_2 mid_3 l_3 l_4 → score_next l_4 ≡ Ok (score, l_5)
    → new ≡ record mid_3 { ending = ending; score = score } → lines_next p slots ending l ≡ Ok (new, l_5)
unfolding lines_next
lines_read p slots ending old mid mid_2 mid_3 new taken all score l l_2 l_3 l_4 l_5 is top bottom cuts scored ended =
    let below = bottom_at p taken top.0 l_2 _ top.3 bottom.1 in
    let first : mid ≡ with_rows Top (trial_without ending 0) top.0 = top.2 ∙ ap (λ (t : ShownTrial). with_rows Top t top.0) is in
    let second : mid_2 ≡ with_rows Bottom (with_rows Top (trial_without ending 0) top.0) bottom.0 = bottom.2 ∙ ap (λ (t : ShownTrial). with_rows Bottom t bottom.0) first in
    let third : mid_3 ≡ record { ending = ending; top = top.0; bottom = bottom.0; cuts = cuts.0; score = 0; top_cells = [] } = cuts.2 ∙ ap (λ (t : ShownTrial). with_cuts t cuts.0) second in
    rw (top.1, below, cuts.1, scored) (ap was_shown (sym (ended ∙ ap (λ (t : ShownTrial). record t { ending = ending; score = score }) third)))
  where
    was_shown : ShownTrial → Read ShownTrial
    was_shown trial = Ok (trial, l_5)

-- ---- the end of a file

abbrev TrialsRead : Netlist → ℕ → ℕ → ShownRun → ShownRun → Left → Left → Type 0
TrialsRead p slots count old new l after = (trials : List ShownTrial) × (many_next (trial_item p slots) count [] l ≡ Ok (trials, after)) × (new ≡ with_trials old trials)

pub count_fails : (e : TextFault) (p : Netlist) (slots : ℕ) (old : ShownRun) (l : Left) → GivesFault e (line_next (codes "Trials") 2 9 kinds.Range l) → GivesFault e (trials_next p slots old l)
unfolding trials_next
count_fails Memory p slots old l fails = tt
count_fails (Wrong at kind) p slots old l fails = rw fails refl

pub trials_fail : (e : TextFault) (p : Netlist) (slots count : ℕ) (old : ShownRun) (l l_2 : Left) → line_next (codes "Trials") 2 9 kinds.Range l ≡ Ok (count, l_2)
    → GivesFault e (many_next (trial_item p slots) count [] l_2) → GivesFault e (trials_next p slots old l)
unfolding trials_next
trials_fail Memory p slots count old l l_2 counted fails = tt
trials_fail (Wrong at kind) p slots count old l l_2 counted fails = rw (counted, fails) refl

pub answer_fails : (e : TextFault) (p : Netlist) (slots count : ℕ) (old mid : ShownRun) (l l_2 l_3 : Left) → line_next (codes "Trials") 2 9 kinds.Range l ≡ Ok (count, l_2)
    → TrialsRead p slots count old mid l_2 l_3 → GivesFault e (line_next (codes "Answer") 0 8 kinds.Range l_3) → GivesFault e (trials_next p slots old l)
unfolding trials_next
answer_fails Memory p slots count old mid l l_2 l_3 counted trials fails = tt
answer_fails (Wrong at kind) p slots count old mid l l_2 l_3 counted trials fails = rw (counted, trials.1, fails) refl

pub run_ends : {U : Type 0} (result : Result U TextFault) (p : Netlist) (slots count answer : ℕ) (old mid new : ShownRun) (l l_2 l_3 l_4 after : Left) → old.trials ≡ []
    → line_next (codes "Trials") 2 9 kinds.Range l ≡ Ok (count, l_2) → TrialsRead p slots count old mid l_2 l_3 → line_next (codes "Answer") 0 8 kinds.Range l_3 ≡ Ok (answer, l_4)
    → new ≡ record mid { answer = answer } → Ends result after (end_next l_4) → Finishes result new (trials_next p slots old l)
unfolding trials_next
run_ends (Err Memory) p slots count answer old mid new l l_2 l_3 l_4 after none counted trials answered is ends = tt
run_ends (Err (Wrong at kind)) p slots count answer old mid new l l_2 l_3 l_4 after none counted trials answered is ends = rw (counted, trials.1, answered, ends) refl
run_ends (Ok done) p slots count answer old mid new l l_2 l_3 l_4 after none counted trials answered is ends =
    let all : mid ≡ record old { trials = trials.0 } = trials.2 ∙ ap (λ (shown : List ShownTrial). record old { trials = shown ++ trials.0 }) none in
    rw (counted, trials.1, answered, ends) (ap was_read (sym (is ∙ ap (λ (run : ShownRun). record run { answer = answer }) all)))
  where
    was_read : ShownRun → Result ShownRun Fault
    was_read run = Ok run

-- ---- the whole file

pub version_fails : (e : TextFault) (p : Netlist) (slots : ℕ) (bytes : List ℕ) → GivesFault e (version_next (whole bytes)) → GivesFault e (cert_of p slots bytes)
unfolding run_next
version_fails Memory p slots bytes fails = tt
version_fails (Wrong at kind) p slots bytes fails = rw fails refl

pub limit_fails : (e : TextFault) (p : Netlist) (slots cost : ℕ) (bytes : List ℕ) (l : Left) → version_next (whole bytes) ≡ Ok (cost, l)
    → GivesFault e (line_next (codes "Limit") 1 8 kinds.Range l) → GivesFault e (cert_of p slots bytes)
unfolding run_next
limit_fails Memory p slots cost bytes l version fails = tt
limit_fails (Wrong at kind) p slots cost bytes l version fails = rw (version, fails) refl

pub whole_read : {U : Type 0} (result : Result U TextFault) (p : Netlist) (slots cost limit : ℕ) (bytes : List ℕ) (old new : ShownRun) (l l_2 : Left) → old ≡ run_without limit cost
    → version_next (whole bytes) ≡ Ok (cost, l) → line_next (codes "Limit") 1 8 kinds.Range l ≡ Ok (limit, l_2) → Finishes result new (trials_next p slots old l_2)
    → Finishes result new (cert_of p slots bytes)
unfolding run_next
whole_read (Err Memory) p slots cost limit bytes old new l l_2 is version limited rest = tt
whole_read (Err (Wrong at kind)) p slots cost limit bytes old new l l_2 is version limited rest =
    let fails = ap (λ (run : ShownRun). trials_next p slots run l_2) (sym is) ∙ rest in
    rw (version, limited, fails) refl
whole_read (Ok done) p slots cost limit bytes old new l l_2 is version limited rest =
    let read = ap (λ (run : ShownRun). trials_next p slots run l_2) (sym is) ∙ rest in
    rw (version, limited, read) refl

-- ---- what callers are told

-- the number of slots is that of the grid
pub slots_of : (plan dies : Plan) (of grid : Slots) (slots : ℕ) → dies ≡ plan → IsGrid dies.frame dies.terminal of → slots ≡ slot_count of → IsGrid plan.frame plan.terminal grid → slots ≡ slot_count grid
slots_of plan dies of grid slots same is_of count is =
    count ∙ ap slot_count (grid_once plan.frame plan.terminal of grid (subst (λ (d : Plan). IsGrid d.frame d.terminal of) same is_of) is)

-- lines that were read are in the grammar
pub lines_in_grammar : (p : Netlist) (slots : ℕ) (ending : Ending) (l after : Left) (result : Result ShownTrial TextFault) → Gives (λ (trial : ShownTrial). trial) result after (lines_next p slots ending l)
    → IfOk result (λ trial. AreLines p slots trial l.words after.words × (trial.ending ≡ ending))
lines_in_grammar p slots ending l after (Ok trial) gives = (lines_ok p slots ending l trial after gives).0
lines_in_grammar p slots ending l after (Err e) gives = tt

-- and show a trial of the problem
pub lines_of_problem : (p : Netlist) (slots : ℕ) (ending : Ending) (l after : Left) (result : Result ShownTrial TextFault) → IsTrue (has_rows ending)
    → Gives (λ (trial : ShownTrial). trial) result after (lines_next p slots ending l) → IfOk result (λ trial. IsTrialOf p slots trial)
lines_of_problem p slots ending l after (Ok trial) placed gives =
    let read = (lines_ok p slots ending l trial after gives).0 in
    let here : IsEndedTrialOf p slots trial ending = by ending placed read.0 in
    subst (λ (x : Ending). IsEndedTrialOf p slots trial x) (sym read.1) here
  where
    by : (x : Ending) → IsTrue (has_rows x) → AreLines p slots trial l.words after.words → IsEndedTrialOf p slots trial x
    by Start placed lines = placed_is p slots trial l.words after.words lines
    by Better placed lines = placed_is p slots trial l.words after.words lines
    by NotBetter placed lines = placed_is p slots trial l.words after.words lines
    by (NoRow cell) placed lines = absurd cc
lines_of_problem p slots ending l after (Err e) placed gives = tt

-- what was read is in the grammar, and of the problem
pub gives_reads : (p : Netlist) (slots : ℕ) (bytes : List ℕ) (result : Result ShownRun TextFault) → GivesRun result (cert_of p slots bytes) → IfOk result (λ run. ReadsCert p slots bytes run)
gives_reads p slots bytes (Ok run) gives = read_is_in p slots bytes run gives
gives_reads p slots bytes (Err e) gives = tt

pub gives_of_problem : (p : Netlist) (slots : ℕ) (bytes : List ℕ) (result : Result ShownRun TextFault) → GivesRun result (cert_of p slots bytes) → IfOk result (λ run. IsRunOf p slots run)
gives_of_problem p slots bytes (Ok run) gives = run_is p slots bytes run (read_is_in p slots bytes run gives)
gives_of_problem p slots bytes (Err e) gives = tt

-- what is in the grammar is read
pub gives_only : (p : Netlist) (slots : ℕ) → IsSound p → (bytes : List ℕ) (result : Result ShownRun TextFault) (run : ShownRun) → ReadsCert p slots bytes run → GivesRun result (cert_of p slots bytes)
    → GivesRun result (Ok run)
gives_only p slots sound bytes result run reads gives = subst (λ (read : Result ShownRun Fault). GivesRun result read) (is_in_read p slots sound bytes run reads) gives

-- the certificate of a run of the problem is read as that run
pub gives_back : (p : Netlist) (slots : ℕ) → IsSound p → slots ≤ 2 ^ 30 → (bytes : List ℕ) (result : Result ShownRun TextFault) (run : ShownRun) → IsRunOf p slots run → bytes ≡ cert_text run
    → GivesRun result (cert_of p slots bytes) → GivesRun result (Ok run)
gives_back p slots sound few bytes result run of_problem same gives =
    gives_only p slots sound bytes result run (subst (λ (text : List ℕ). ReadsCert p slots text run) (sym same) (says_run p slots sound few run of_problem)) gives
