-- The canonical text of a problem reads as the problem.
use Rattle.std.specs.Prelude.{IfOk}
use Rattle.std.proofs.Common.{◌≡◌, ℕ, false, Result, Ok, Err, List, [], ◌∷◌, ◌++◌, map, refl, sym, ap, subst, ◌∙◌}
use Rattle.std.proofs.lemmas.List.{map_push}
use Rattle.fp_text.specs.declared.fault.TextFault.{TextFault}
use Rattle.fp_tech.specs.Book.{is_among}
use Rattle.fp_netlist.specs.Netlist.{Netlist}
use Rattle.fp_contest_in.specs.Text.{LibText, TechText, ProblemText, plan_of, cells_of, netlist_of}
use Rattle.fp_contest_in.specs.Grammar.{Reads}
use Rattle.fp_contest_in.specs.PrintedText.{text_lines, text_said, problem_text}
use Rattle.fp_contest_in.specs.Printable.{EachIs, IsLibText, IsTechText, IsPrintable, ReadsOnly}
use Rattle.fp_contest_in.specs.PrintableLaws.{text_is_printable, printed_only}
use Rattle.fp_contest_in.specs.NamesLaws.{AreNew}
use Rattle.fp_contest_in.proofs.SaidBooks.{AllNew, techs_are_said}
use Rattle.fp_contest_in.proofs.SaidNets.{bare, whole_netlist, cells_are, netlist_is, insts_are_said, AllKnown, nets_known, still_known, nets_are_said}

-- items with distinct names
names_new : {A : Type 0} (is : List A → A → Type 0) (name_of : A → List ℕ) → ((before : List A) (x : A) → is before x → is_among (name_of x) (map name_of before) ≡ false)
    → (before xs : List A) → EachIs is before xs → AreNew (map name_of before) (map name_of xs)
names_new is name_of one before [] each = tt
names_new is name_of one before (x ∷ xs) each =
    (one before x each.0, subst (λ names. AreNew names (map name_of xs)) (map_push name_of before x) (names_new is name_of one (before ++ x ∷ []) xs each.1))

techs_new : (before techs : List TechText) → EachIs IsTechText before techs → AllNew techs
techs_new before [] each = tt
techs_new before (tech ∷ techs) each =
    (names_new IsLibText (λ (lib : LibText). lib.name) (λ before lib is. is.new) [] tech.libs each.0.libs, techs_new (before ++ tech ∷ []) techs each.1)

-- the problem says its text
text_is_said : (text : ProblemText) → IsPrintable text → text_said (netlist_of text) ≡ text
text_is_said text is =
    let p = whole_netlist text in
    let techs = techs_are_said text.techs (techs_new [] text.techs is.techs) in
    let insts = insts_are_said (plan_of text) [] text.insts is.insts in
    let known = still_known (bare p.plan p.cells) p.nets p.conns text.nets (subst (λ (q : Netlist). AllKnown q text.nets) (cells_are text) (nets_known (cells_of text) [] text.nets is.nets)) in
    let nets = nets_are_said p 0 [] text.nets refl (λ j le. refl) known in
    ap text_said (netlist_is text) ∙ (λ i. record { techs = techs i; setup = text.setup; blocks = text.blocks; insts = insts i; nets = nets i })

text_is : (text : ProblemText) (p : Netlist) → IsPrintable text → p ≡ netlist_of text → problem_text p ≡ text_lines text
text_is text p is same = ap problem_text same ∙ ap text_lines (text_is_said text is)

-- the canonical text of a problem that a text says is read as that text alone
pub reads_only : (text : ProblemText) (p : Netlist) → IsPrintable text → p ≡ netlist_of text → ReadsOnly (problem_text p) text
reads_only text p is same = subst (λ t. ReadsOnly t text) (sym (text_is text p is same)) (printed_only text is)

-- what was read can be printed
pub gives_printable : (bytes : List ℕ) (result : Result Netlist TextFault) → IfOk result (λ p. (text : ProblemText) × Reads bytes text × (p ≡ netlist_of text))
    → IfOk result (λ p. (text : ProblemText) × IsPrintable text × (p ≡ netlist_of text))
gives_printable bytes (Ok p) reads = (reads.0, text_is_printable bytes reads.0 reads.1, reads.2)
gives_printable bytes (Err e) reads = tt
