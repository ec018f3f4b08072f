-- The words of the sections and the blockages that are printed.
use Rattle.std.specs.Prelude.{codes, All}
use Rattle.std.proofs.Common.{◌≡◌, ◌==◌, if◌then◌else◌, ℕ, ◌+◌, ◌^◌, ◌<◌, ◌≤◌, inl, inr, Bool, true, false, List, [], ◌∷◌, ◌++◌, length, flat_map, slice_get, nat_eq, cond, Some, refl, sym, ap, subst, ◌∙◌, arith}
use Rattle.std.proofs.lemmas.Bool.{cases_Bool, eqb-true}
use Rattle.std.proofs.lemmas.List.Elements.{All-nil, All-cons, All-head, All-tail}
use Rattle.std.proofs.lemmas.Option.{same_Some, slice_get_within}
use Rattle.fp_base.specs.declared.ids.Die.{Die}
use Rattle.fp_base.specs.declared.ids.Die.TheVariants.{Top, Bottom}
use Rattle.fp_text.specs.Words.{Word}
use Rattle.fp_text.specs.Numbers.{is_name}
use Rattle.fp_text.specs.NumbersLaws.{is_solid}
use Rattle.fp_text.specs.Items.{Each}
use Rattle.fp_tech.specs.declared.dies.Block.{Block}
use Rattle.fp_tech.specs.declared.dies.DieSpec.{DieSpec}
use Rattle.fp_tech.specs.Plan.{IsDieSpec, IsBlock}
use Rattle.fp_tech.specs.Book.{name_at}
use Rattle.fp_contest_in.specs.declared.section.Section.{Section}
use Rattle.fp_contest_in.specs.declared.section.Section.TheVariants.{DieSize, MaxUtil, Rows, Tech as TechName, TerminalSize, TerminalSpacing, TerminalCost}
use Rattle.fp_contest_in.specs.declared.section.Setup.{Setup}
use Rattle.fp_contest_in.specs.Text.{TechText, tech_name_list}
use Rattle.fp_contest_in.specs.Grammar.{Ranged, Keyword, Named, AreSections, any_number, ranged, most_number, die_of, is_in, is_needed, section_number, die_word, NamesTech, HasFields, IsSection, IsNewSection, IsBlockage, AreListedBlockages, AreBlockages}
use Rattle.fp_contest_in.specs.Printable.{EachIs, IsSetupText}
use Rattle.fp_contest_in.specs.PrintedText.{line, numbers, section_line, sections_lines, usual_order, block_line, blocks_lines, listed_blocks_lines}
use Rattle.fp_contest_in.specs.PrintedWordsLaws.{Says, then_says, says_so, each_says, named_at, values, Fit, IsNumbersLine, numbers_line_says, named_line_says}

-- ---- what is printed stands in the words

-- the corners of a rectangle, of which the upper right one is beyond the lower left one
abbrev corners : ℕ → ℕ → ℕ → ℕ → List Ranged
corners llx lly urx ury = any_number llx ∷ any_number lly ∷ ranged (llx + 1) most_number urx ∷ ranged (lly + 1) most_number ury ∷ []

corners_fit : (llx lly urx ury : ℕ) → llx < urx → lly < ury → urx ≤ 2 ^ 30 → ury ≤ 2 ^ 30 → Fit (corners llx lly urx ury)
corners_fit llx lly urx ury wide tall right upper =
    (omega arith, omega arith, omega arith, (omega arith, omega arith, omega arith, (omega arith, omega arith, omega arith, (omega arith, omega arith, omega arith, tt))))

percent_says : (keyword : List ℕ) (techs : ℕ) (spec : DieSpec) → is_solid keyword ≡ true → IsDieSpec techs spec → Says (IsNumbersLine keyword (ranged 0 100 spec.percent ∷ [])) (line keyword (numbers (spec.percent ∷ [])))
percent_says keyword techs spec solid is = numbers_line_says keyword (ranged 0 100 spec.percent ∷ []) solid (omega arith, is.percent, omega arith, tt)

abbrev rows_numbers : DieSpec → List Ranged
rows_numbers spec = any_number spec.start_x ∷ any_number spec.start_y ∷ ranged 1 most_number spec.length ∷ ranged 1 most_number spec.height ∷ ranged 1 (2 ^ 16) spec.repeat ∷ []

rows_say : (keyword : List ℕ) (techs : ℕ) (spec : DieSpec) → is_solid keyword ≡ true → IsDieSpec techs spec → Says (IsNumbersLine keyword (rows_numbers spec)) (line keyword (numbers (values (rows_numbers spec))))
rows_say keyword techs spec solid is = numbers_line_says keyword (rows_numbers spec) solid
    (omega arith, is.start_x, omega arith, (omega arith, is.start_y, omega arith, (is.some_length, is.length, omega arith, (is.some_height, is.height, omega arith, (is.some_rows, is.rows, omega arith, tt)))))

-- a line that names a technology
abbrev IsTechLine : List ℕ → List TechText → ℕ → List Word → List Word → Type 0
IsTechLine keyword techs number words rest = (mid : List Word) × Keyword keyword words mid × NamesTech techs number mid rest

-- the technologies have names
abbrev pub AreNamed : List TechText → Type 0
AreNamed techs = (i : ℕ) → i < length techs → is_name (name_at (tech_name_list techs) i) ≡ true

tech_line_says : (keyword : List ℕ) (techs : List TechText) (number : ℕ) → is_solid keyword ≡ true → number < length techs → AreNamed techs
    → Says (IsTechLine keyword techs number) (line keyword (name_at (tech_name_list techs) number ∷ []))
tech_line_says keyword techs number solid below named =
    let tech = named_at (λ (t : TechText). t.name) techs number below in
    says_so (named_line_says keyword (name_at (tech_name_list techs) number) [] solid (named number below) tt)
    (λ u v s. (s.after_keyword, s.word, (tech.0, tech.1, subst (λ (name : List ℕ). Named name s.after_keyword v) tech.2 (subst (Named (name_at (tech_name_list techs) number) s.after_keyword) s.all s.named))))

section_says : (techs : List TechText) (setup : Setup) → AreNamed techs → IsSetupText (length techs) setup → (section : Section) → Says (IsSection techs setup section) (section_line (tech_name_list techs) setup section)
section_says techs setup named is DieSize =
    numbers_line_says (codes "DieSize") (corners setup.frame.llx setup.frame.lly setup.frame.urx setup.frame.ury) refl
    (corners_fit setup.frame.llx setup.frame.lly setup.frame.urx setup.frame.ury is.frame.wide is.frame.tall is.frame.right is.frame.upper)
section_says techs setup named is (MaxUtil Top) = percent_says (codes "TopDieMaxUtil") (length techs) setup.top refl is.top
section_says techs setup named is (MaxUtil Bottom) = percent_says (codes "BottomDieMaxUtil") (length techs) setup.bottom refl is.bottom
section_says techs setup named is (Rows Top) = rows_say (codes "TopDieRows") (length techs) setup.top refl is.top
section_says techs setup named is (Rows Bottom) = rows_say (codes "BottomDieRows") (length techs) setup.bottom refl is.bottom
section_says techs setup named is (TechName Top) = tech_line_says (codes "TopDieTech") techs setup.top.tech.0 refl is.top.tech named
section_says techs setup named is (TechName Bottom) = tech_line_says (codes "BottomDieTech") techs setup.bottom.tech.0 refl is.bottom.tech named
section_says techs setup named is TerminalSize =
    numbers_line_says (codes "TerminalSize") (ranged 1 most_number setup.terminal.size_x ∷ ranged 1 most_number setup.terminal.size_y ∷ []) refl
    (is.terminal.some_x, is.terminal.size_x, omega arith, (is.terminal.some_y, is.terminal.size_y, omega arith, tt))
section_says techs setup named is TerminalSpacing = numbers_line_says (codes "TerminalSpacing") (any_number setup.terminal.spacing ∷ []) refl (omega arith, is.terminal.spacing, omega arith, tt)
section_says techs setup named is TerminalCost = numbers_line_says (codes "TerminalCost") (any_number setup.terminal.cost ∷ []) refl (omega arith, is.terminal.cost, omega arith, tt)

-- each section is none of those before it
abbrev AreApart : List Section → List Section → Type 0
AreApart before [] = Unit {0}
AreApart before (section ∷ sections) = (is_in section before ≡ false) × AreApart (before ++ section ∷ []) sections

order_says : (techs : List TechText) (setup : Setup) → AreNamed techs → IsSetupText (length techs) setup → (before sections : List Section) → AreApart before sections
    → Says (Each (IsNewSection techs setup) before sections) (flat_map (section_line (tech_name_list techs) setup) sections)
order_says techs setup named is before [] apart = record { said = λ more at. (at, refl) }
order_says techs setup named is before (section ∷ sections) apart =
    then_says (section_says techs setup named is section) (order_says techs setup named is (before ++ section ∷ []) sections apart.1) (λ u v w first others. (v, (first, apart.0), others))

-- the nine sections and the cost
abbrev all_sections : List Section
all_sections = usual_order ++ TerminalCost ∷ []

nine_there : (section : Section) → is_needed section ≡ true → is_in section usual_order ≡ true
nine_there DieSize needed = refl
nine_there (MaxUtil Top) needed = refl
nine_there (MaxUtil Bottom) needed = refl
nine_there (Rows Top) needed = refl
nine_there (Rows Bottom) needed = refl
nine_there (TechName Top) needed = refl
nine_there (TechName Bottom) needed = refl
nine_there TerminalSize needed = refl
nine_there TerminalSpacing needed = refl
nine_there TerminalCost needed = absurd cc

all_there : (section : Section) → is_in section all_sections ≡ true
all_there DieSize = refl
all_there (MaxUtil Top) = refl
all_there (MaxUtil Bottom) = refl
all_there (Rows Top) = refl
all_there (Rows Bottom) = refl
all_there (TechName Top) = refl
all_there (TechName Bottom) = refl
all_there TerminalSize = refl
all_there TerminalSpacing = refl
all_there TerminalCost = refl

pub sections_say : (techs : List TechText) (setup : Setup) → AreNamed techs → IsSetupText (length techs) setup → Says (AreSections techs setup) (sections_lines (tech_name_list techs) setup)
sections_say techs setup named is = by (setup.terminal.cost == 0) refl
  where
    by : (b : Bool) → (setup.terminal.cost == 0) ≡ b → Says (AreSections techs setup) (flat_map (section_line (tech_name_list techs) setup) (if b then usual_order else all_sections))
    by true zero =
        says_so (order_says techs setup named is [] usual_order (refl, (refl, (refl, (refl, (refl, (refl, (refl, (refl, (refl, tt))))))))))
        (λ u v each. record {
          order = usual_order;
          each = each;
          nine = nine_there;
          no_cost = λ out. eqb-true setup.terminal.cost 0 zero;
          top_lies = is.top_lies;
          bottom_lies = is.bottom_lies;
        })
    by false some =
        says_so (order_says techs setup named is [] all_sections (refl, (refl, (refl, (refl, (refl, (refl, (refl, (refl, (refl, (refl, tt)))))))))))
        (λ u v each. record {
          order = all_sections;
          each = each;
          nine = λ section needed. all_there section;
          no_cost = λ out. absurd (let told : true ≡ false = out in cc);
          top_lies = is.top_lies;
          bottom_lies = is.bottom_lies;
        })

die_named : (die : Die) → is_name (die_word die) ≡ true
die_named Top = refl
die_named Bottom = refl

block_says : (before : List Block) (block : Block) → IsBlock block → Says (IsBlockage block) (block_line block)
block_says before block is =
    says_so (named_line_says (codes "Blockage") (die_word block.die) (corners block.llx block.lly block.urx block.ury) refl (die_named block.die)
    (corners_fit block.llx block.lly block.urx block.ury is.wide is.tall is.right is.upper))
    (λ u v s. record { after_keyword = s.after_keyword; after_die = s.after_name; keyword = s.word; die = (s.named.0, s.named.1, s.named.2); corners = s.all })

each_block : (before blocks : List Block) → All IsBlock blocks → EachIs (λ before. IsBlock) before blocks
each_block before [] all = tt
each_block before (block ∷ blocks) all = (All-head IsBlock block blocks all, each_block (before ++ block ∷ []) blocks (All-tail IsBlock block blocks all))

listed_blocks_say : (blocks : List Block) → length blocks ≤ 1024 → All IsBlock blocks → Says (AreListedBlockages blocks) (listed_blocks_lines blocks)
listed_blocks_say blocks few all =
    then_says (numbers_line_says (codes "NumBlockages") (ranged 0 1024 (length blocks) ∷ []) refl (omega arith, few, omega arith, tt))
    (each_says (λ before. IsBlock) (λ before. IsBlockage) block_line block_says [] blocks (each_block [] blocks all))
    (λ u v w s items. record { after_keyword = s.0; after_count = v; keyword = s.1; count = s.2; items = items })

pub blocks_say : (blocks : List Block) → length blocks ≤ 1024 → All IsBlock blocks → Says (AreBlockages blocks) (blocks_lines blocks)
blocks_say [] few all = record { said = λ more at. (at, inr (refl, refl)) }
blocks_say (block ∷ blocks) few all = says_so (listed_blocks_say (block ∷ blocks) few all) (λ u v are. inl are)

-- ---- what stands in the words can be printed

-- a section is told by its number
numbered : (section : Section) → slice_get all_sections (section_number section) ≡ Some section
numbered DieSize = refl
numbered (MaxUtil Top) = refl
numbered (MaxUtil Bottom) = refl
numbered (Rows Top) = refl
numbered (Rows Bottom) = refl
numbered (TechName Top) = refl
numbered (TechName Bottom) = refl
numbered TerminalSize = refl
numbered TerminalSpacing = refl
numbered TerminalCost = refl

same_number : (a b : Section) → section_number a ≡ section_number b → a ≡ b
same_number a b same = same_Some a b (sym (numbered a) ∙ ap (slice_get all_sections) same ∙ numbered b)

-- the fields of a section stand somewhere
abbrev Stands : List TechText → Setup → Section → Type 0
Stands techs setup section = (u v : List Word) × HasFields techs setup section u v

section_stands : (techs : List TechText) (setup : Setup) (section : Section) (before order : List Section) (words rest : List Word)
    → Each (IsNewSection techs setup) before order words rest → is_in section order ≡ true → Stands techs setup section
section_stands techs setup section before [] words rest each there = absurd cc
section_stands techs setup section before (first ∷ order) words rest each there =
    by (nat_eq (section_number first) (section_number section)) refl there (section_stands techs setup section (before ++ first ∷ []) order each.0 rest each.2)
  where
    by : (b : Bool) → nat_eq (section_number first) (section_number section) ≡ b → cond b true (is_in section order) ≡ true
        → (is_in section order ≡ true → Stands techs setup section) → Stands techs setup section
    by true same there others =
        subst (Stands techs setup) (same_number first section (eqb-true (section_number first) (section_number section) same)) (each.1.0.0, each.0, each.1.0.2)
    by false other there others = others there

cost_fits : (techs : List TechText) (setup : Setup) (words rest : List Word) → AreSections techs setup words rest → setup.terminal.cost ≤ 2 ^ 30
cost_fits techs setup words rest are = elim (cases_Bool (is_in TerminalCost are.order)) [
  | inl told ↦ (section_stands techs setup TerminalCost [] are.order words rest are.each told).2.3.at_most
  | inr out ↦ let zero : setup.terminal.cost ≡ 0 = are.no_cost out in omega arith
]

pub setup_is : (techs : List TechText) (setup : Setup) (words rest : List Word) → AreSections techs setup words rest → IsSetupText (length techs) setup
setup_is techs setup words rest are = record {
  frame = record { wide = omega (arith, frame.2.4.4.3.at_least); tall = omega (arith, frame.2.4.4.4.3.at_least); right = frame.2.4.4.3.at_most; upper = frame.2.4.4.4.3.at_most };
  top = die_is Top;
  bottom = die_is Bottom;
  terminal = record {
    some_x = size.2.3.at_least;
    size_x = size.2.3.at_most;
    some_y = size.2.4.3.at_least;
    size_y = size.2.4.3.at_most;
    spacing = (stands TerminalSpacing refl).2.3.at_most;
    cost = cost_fits techs setup words rest are;
  };
  top_lies = are.top_lies;
  bottom_lies = are.bottom_lies;
}
  where
    stands : (section : Section) → is_needed section ≡ true → Stands techs setup section
    stands section needed = section_stands techs setup section [] are.order words rest are.each (are.nine section needed)

    frame : Stands techs setup DieSize
    frame = stands DieSize refl

    size : Stands techs setup TerminalSize
    size = stands TerminalSize refl

    die_is : (die : Die) → IsDieSpec (length techs) (die_of setup die)
    die_is die =
        let percent = stands (MaxUtil die) refl in
        let rows = stands (Rows die) refl in
        let tech = stands (TechName die) refl in
        record {
          percent = percent.2.3.at_most;
          tech = slice_get_within techs (die_of setup die).tech.0 tech.2.0 tech.2.1;
          start_x = rows.2.3.at_most;
          start_y = rows.2.4.3.at_most;
          some_length = rows.2.4.4.3.at_least;
          length = rows.2.4.4.3.at_most;
          some_height = rows.2.4.4.4.3.at_least;
          height = rows.2.4.4.4.3.at_most;
          some_rows = rows.2.4.4.4.4.3.at_least;
          rows = rows.2.4.4.4.4.3.at_most;
        }

block_is : (block : Block) (words rest : List Word) → IsBlockage block words rest → IsBlock block
block_is block words rest is = record {
  wide = omega (arith, is.corners.4.4.3.at_least);
  tall = omega (arith, is.corners.4.4.4.3.at_least);
  right = is.corners.4.4.3.at_most;
  upper = is.corners.4.4.4.3.at_most;
}

all_blocks : (before blocks : List Block) (words rest : List Word) → Each (λ before. IsBlockage) before blocks words rest → All IsBlock blocks
all_blocks before [] words rest each = All-nil IsBlock
all_blocks before (block ∷ blocks) words rest each = All-cons IsBlock block blocks (block_is block words each.0 each.1) (all_blocks (before ++ block ∷ []) blocks each.0 rest each.2)

pub blocks_are : (blocks : List Block) (words rest : List Word) → AreBlockages blocks words rest → (length blocks ≤ 1024) × All IsBlock blocks
blocks_are blocks words rest (inl listed) = (listed.count.3.at_most, all_blocks [] blocks listed.after_count rest listed.items)
blocks_are blocks words rest (inr none) = subst (λ (list : List Block). (length list ≤ 1024) × All IsBlock list) (sym none.0) (omega arith, All-nil IsBlock)
