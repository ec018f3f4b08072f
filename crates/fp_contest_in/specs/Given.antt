-- What the parts of the reader answer.
use Rattle.std.specs.Prelude.{◌≡◌, ◌+◌, ◌^◌, ◌≤◌, ◌&&◌, ℕ, Bool, List, true, false, is_some, Result, Ok, Err}
use Rattle.fp_base.specs.declared.ids.Die.TheVariants.{Top, Bottom}
use Rattle.fp_base.specs.declared.ids.LibId.{LibId}
use Rattle.fp_text.specs.Reading.{Left, Read, Fault, GivesFault}
use Rattle.fp_text.specs.declared.fault.Kind.TheVariants.{Limit, Twice}
use Rattle.fp_text.specs.declared.fault.TextFault.{TextFault}
use Rattle.fp_text.specs.declared.fault.TextFault.TheVariants.{Wrong, Memory}
use Rattle.fp_tech.specs.Book.{Book, id_for}
use Rattle.fp_tech.specs.declared.dies.Block.{Block}
use Rattle.fp_tech.specs.Plan.{Plan, has_few}
use Rattle.fp_netlist.specs.Netlist.{Netlist, no_cells, lib_for}
use Rattle.fp_contest_in.specs.declared.section.Found.{Found}
use Rattle.fp_contest_in.specs.declared.section.Setup.{Setup}
use Rattle.fp_contest_in.specs.Text.{InstText, NetText, ProblemText, plan_of, with_inst_texts, with_net_texts}

-- the dies of a book, a setup and blockages
abbrev pub plan_with : Book → Setup → List Block → Plan
plan_with book setup blocks = record { book = book; frame = setup.frame; top = setup.top; bottom = setup.bottom; terminal = setup.terminal; blocks = blocks }

-- the rows lie in the frame, or the fault
abbrev pub GivesRows : {U : Type 0} → Found → Result U TextFault → Left → Read Found → Type 0
GivesRows found (Ok u) left read = read ≡ Ok (found, left)
GivesRows found (Err e) left read = GivesFault e read

-- dies of a plan whose rows lie in the frame, or `Limit` at this place where a die has too many segments
abbrev pub GivesDies : Plan → ℕ → Result Plan TextFault → Type 0
GivesDies plan at (Ok dies) = (has_few plan Top && has_few plan Bottom ≡ true) × (dies ≡ plan)
GivesDies plan at (Err (Wrong where_at kind)) = (has_few plan Top && has_few plan Bottom ≡ false) × (where_at ≡ at) × (kind ≡ Limit)
GivesDies plan at (Err Memory) = Unit {0}

-- the dies of what was read so far, or the fault
abbrev pub GivesFront : Result Plan TextFault → Left → Read ProblemText → Type 0
GivesFront (Ok plan) left read = (text : ProblemText) × (read ≡ Ok (text, left)) × (plan ≡ plan_of text)
GivesFront (Err e) left read = GivesFault e read

-- a name's library cell, which the technologies of both dies have
pub record IsLibOf (plan : Plan) (name : List ℕ) (lib : ℕ) : Type 0 where
  pub number : id_for plan.book name ≡ lib
  pub top : is_some (lib_for plan lib Top) ≡ true
  pub bottom : is_some (lib_for plan lib Bottom) ≡ true

-- the library cell of the name that was read, or the fault
abbrev pub GivesLib : Plan → Result LibId TextFault → Left → Read (List ℕ) → Type 0
GivesLib plan (Ok lib) left read = (name : List ℕ) × (read ≡ Ok (name, left)) × IsLibOf plan name lib.0
GivesLib plan (Err e) left read = GivesFault e read

-- what the instances and the nets made of a problem without any, or the fault
abbrev pub GivesNetlist : {U : Type 0} → Plan → Result U TextFault → Netlist → Result (List InstText × List NetText) Fault → Type 0
GivesNetlist plan (Ok done) p read = (insts : List InstText) × (nets : List NetText) × (read ≡ Ok (insts, nets)) × (p ≡ with_net_texts (with_inst_texts (no_cells plan) insts) nets)
GivesNetlist plan (Err e) p read = GivesFault e read

-- what adding a name made of a problem: it grew, or the name is there, at this place
abbrev pub GivesNew : {U : Type 0} → Result U TextFault → ℕ → Bool → Netlist → Netlist → Type 0
GivesNew (Ok u) at there new grown = (there ≡ false) × (new ≡ grown)
GivesNew (Err (Wrong where_at kind)) at there new grown = (there ≡ true) × (where_at ≡ at) × (kind ≡ Twice)
GivesNew (Err Memory) at there new grown = Unit {0}

-- the number of connections, which with those used are at most 2^21, that was read behind a name, or the fault, which is
-- that of the name where it is there
abbrev pub GivesCount : ℕ → ℕ → Bool → Result ℕ TextFault → Left → Read ℕ → Type 0
GivesCount used at there (Ok count) left read = (read ≡ Ok (count, left)) × (used + count ≤ 2 ^ 21)
GivesCount used at there (Err e) left read = (there ≡ false → GivesFault e read) × (there ≡ true → e ≡ Wrong at Twice)
