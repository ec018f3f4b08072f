-- The names of a problem that was read are names.
use Rattle.std.proofs.Common.{◌≡◌, ℕ, Bool, true, false, cond, List, [], ◌∷◌, ◌++◌, length, map, Option, Some, None, Result, Ok, Err, refl, sym, ap, subst, ◌∙◌}
use Rattle.std.specs.Prelude.{nat_lt}
use Rattle.std.proofs.lemmas.List.Elements.{All-nil, All-cons}
use Rattle.fp_base.specs.Files.{Files, bytes_of}
use Rattle.fp_text.specs.Numbers.{is_name}
use Rattle.fp_text.specs.Reading.{Fault}
use Rattle.fp_netlist.specs.Netlist.{Netlist, cell_names, no_cells}
use Rattle.fp_contest_in.specs.Text.{InstText, NetText, ProblemText, net_name_list, plan_of, cells_of, netlist_of}
use Rattle.fp_contest_in.specs.Printable.{EachIs, IsInstText, IsNetText, IsPrintable}
use Rattle.fp_contest_in.specs.PrintableLaws.{text_is_printable}
use Rattle.fp_contest_in.specs.ProblemLaws.{cell_names-with_inst_texts, cells-with_net_texts, nets-with_inst_texts, nets-with_net_texts}
use Rattle.fp_contest_in.specs.ReadsLaws.{reads_agree}
use Rattle.fp_contest_in.specs.Statements.{problem_of}
use Rattle.fp_out.specs.OutGrammar.{AreNames}
use Rattle.faceplace.specs.Report.{Cause, IsMissing, IsLong, IsWrong}
use Rattle.faceplace.specs.Sources.{most_input, wrong_of, read_in, netlist_read, problem_read, problem_in}

-- ---- what a file says, its bytes say

-- bytes that were read as a value
pub record IsRead {A : Type 0} (reading : List ℕ → Result A Fault) (a : A) : Type 0 where
  pub bytes : List ℕ
  pub reads : reading bytes ≡ Ok a

no_value : {A : Type 0} (cause : Cause) (a : A) → Err cause ≡ Ok a → ⊥
no_value cause a e = absurd cc

pub is_read : {A : Type 0} (limit : ℕ) (reading : List ℕ → Result A Fault) (bytes : Option (List ℕ)) (a : A) → read_in limit reading bytes ≡ Ok a → IsRead reading a
is_read limit reading None a e = absurd (no_value IsMissing a e)
is_read {A} limit reading (Some bytes) a e = by (nat_lt limit (length bytes)) e
  where
    right : (r : Result A Fault) → reading bytes ≡ r → wrong_of r ≡ Ok a → IsRead reading a
    right (Ok b) is same = record { bytes = bytes; reads = is ∙ (let one : b ≡ a = cc in ap Ok one) }
    right (Err fault) is same = absurd (no_value (IsWrong fault.at fault.kind) a same)

    by : (long : Bool) → cond long (Err IsLong) (wrong_of (reading bytes)) ≡ Ok a → IsRead reading a
    by true same = absurd (no_value IsLong a same)
    by false same = right (reading bytes) refl same

-- ---- its names

-- texts of which each has a name have names
each_named : {A : Type 0} (is : List A → A → Type 0) (name : A → List ℕ) → ((before : List A) (x : A) → is before x → is_name (name x) ≡ true) → (before xs : List A) → EachIs is before xs
    → (names : List (List ℕ)) → names ≡ map name xs → AreNames names
each_named is name one before [] each names same = subst AreNames (sym same) (All-nil (λ n. is_name n ≡ true))
each_named is name one before (x ∷ xs) each names same =
    subst AreNames (sym same) (All-cons (λ n. is_name n ≡ true) (name x) (map name xs) (one before x each.0) (each_named is name one (before ++ x ∷ []) xs each.1 (map name xs) refl))

-- the names of cells and of nets
pub record HasNames (p : Netlist) : Type 0 where
  pub cells : AreNames (cell_names p)
  pub nets : AreNames p.nets

text_has_names : (text : ProblemText) → IsPrintable text → HasNames (netlist_of text)
text_has_names text is = record {
  cells = each_named (IsInstText (plan_of text)) (λ (inst : InstText). inst.name) (λ before inst one. one.name) [] text.insts is.insts (cell_names (netlist_of text))
      (ap (map (λ cell. cell.name)) (cells-with_net_texts (cells_of text) text.nets) ∙ cell_names-with_inst_texts (no_cells (plan_of text)) text.insts);
  nets = each_named (IsNetText (cells_of text)) (λ (net : NetText). net.name) (λ before net one. one.name) [] text.nets is.nets (netlist_of text).nets
      (nets-with_net_texts (cells_of text) text.nets ∙ ap (λ (names : List (List ℕ)). names ++ net_name_list text.nets) (nets-with_inst_texts (no_cells (plan_of text)) text.insts));
}

netlist_named : (text : Result ProblemText Fault) (p : Netlist) → ((t : ProblemText) → text ≡ Ok t → IsPrintable t) → netlist_read text ≡ Ok p → HasNames p
netlist_named (Ok text) p printable e =
    let one : netlist_of text ≡ p = cc in
    subst HasNames one (text_has_names text (printable text refl))
netlist_named (Err fault) p printable e = absurd cc

pub bytes_named : (bytes : List ℕ) (p : Netlist) → problem_read bytes ≡ Ok p → HasNames p
bytes_named bytes p says = netlist_named (problem_of bytes) p (λ text e. text_is_printable bytes text ((reads_agree bytes text).1 e)) says

pub problem_named : (name : List ℕ) (files : Files) (p : Netlist) → problem_in name files ≡ Ok p → HasNames p
problem_named name files p says =
    let read = is_read most_input problem_read (bytes_of files name) p says in
    bytes_named read.bytes p read.reads
