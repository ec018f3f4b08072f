-- The words of the technologies and the instances that are printed.
use Rattle.std.specs.Prelude.{codes}
use Rattle.std.proofs.Common.{◌^◌, ◌≤◌, List, [], ◌∷◌, length, refl, ap, ◌∙◌, arith}
use Rattle.fp_text.specs.Words.{Word}
use Rattle.fp_text.specs.NumbersLaws.{solid-tested, name-solid}
use Rattle.fp_tech.specs.Book.{Pin}
use Rattle.fp_tech.specs.Plan.{Plan}
use Rattle.fp_contest_in.specs.Text.{LibText, TechText, InstText}
use Rattle.fp_contest_in.specs.Grammar.{Ranged, any_number, ranged, most_number, IsNewPin, IsNewLib, IsNewTech, AreTechs, IsNewInst, AreInsts}
use Rattle.fp_contest_in.specs.Printable.{EachIs, IsPinText, IsLibText, IsTechText, IsInstText}
use Rattle.fp_contest_in.specs.PrintedText.{pin_line, lib_lines, tech_lines, techs_lines, inst_line, insts_lines}
use Rattle.fp_contest_in.specs.PrintedWordsLaws.{Says, then_says, says_so, each_says, each_is, line_says, numbers_line_says, named_line_says}

-- ---- what is printed stands in the words

abbrev offset_of : Pin → List Ranged
offset_of pin = any_number pin.x ∷ any_number pin.y ∷ []

pin_says : (before : List Pin) (pin : Pin) → IsPinText before pin → Says (IsNewPin before pin) (pin_line pin)
pin_says before pin is =
    says_so (named_line_says (codes "Pin") pin.name (offset_of pin) refl is.name (omega arith, is.x, omega arith, (omega arith, is.y, omega arith, tt)))
    (λ u v s. (record { after_keyword = s.after_keyword; after_name = s.after_name; keyword = s.word; name = s.named; offset = s.all }, is.new))

abbrev lib_numbers : LibText → List Ranged
lib_numbers lib = ranged 1 most_number lib.width ∷ ranged 1 most_number lib.height ∷ ranged 0 1024 (length lib.pins) ∷ []

lib_says : (before : List LibText) (lib : LibText) → IsLibText before lib → Says (IsNewLib before lib) (lib_lines lib)
lib_says before lib is =
    then_says (named_line_says (codes "LibCell") lib.name (lib_numbers lib) refl is.name
    (is.some_width, is.width, omega arith, (is.some_height, is.height, omega arith, (omega arith, is.few_pins, omega arith, tt))))
    (each_says IsPinText IsNewPin pin_line pin_says [] lib.pins is.pins)
    (λ u v w s items. (record { after_keyword = s.after_keyword; after_name = s.after_name; after_count = v; keyword = s.word; name = s.named; numbers = s.all; items = items }, is.new))

tech_says : (before : List TechText) (tech : TechText) → IsTechText before tech → Says (IsNewTech before tech) (tech_lines tech)
tech_says before tech is =
    then_says (named_line_says (codes "Tech") tech.name (ranged 0 4096 (length tech.libs) ∷ []) refl is.name (omega arith, is.few_libs, omega arith, tt))
    (each_says IsLibText IsNewLib lib_lines lib_says [] tech.libs is.libs)
    (λ u v w s items. (record { after_keyword = s.after_keyword; after_name = s.after_name; after_count = v; keyword = s.word; name = s.named; count = s.all; items = items }, is.new))

pub techs_say : (techs : List TechText) → 1 ≤ length techs → length techs ≤ 16 → EachIs IsTechText [] techs → Says (AreTechs techs) (techs_lines techs)
techs_say techs some few each =
    then_says (numbers_line_says (codes "NumTechnologies") (ranged 1 16 (length techs) ∷ []) refl (some, few, omega arith, tt))
    (each_says IsTechText IsNewTech tech_lines tech_says [] techs each)
    (λ u v w s items. record { after_keyword = s.0; after_count = v; keyword = s.1; count = s.2; items = items })

inst_says : (plan : Plan) (before : List InstText) (inst : InstText) → IsInstText plan before inst → Says (IsNewInst plan before inst) (inst_line inst)
inst_says plan before inst is =
    says_so (line_says (codes "Inst") (inst.name ∷ inst.lib ∷ []) (solid-tested (codes "Inst") refl) (name-solid inst.name is.name, (name-solid inst.lib is.lib, tt)))
    (λ u v s. (record { after_keyword = s.1; after_name = s.4.1; keyword = (s.0, s.2, s.3); name = (s.4.0, s.4.2, s.4.3, is.name); lib = (s.4.4.0, s.4.4.2 ∙ ap (λ (ws : List Word). s.4.4.0 ∷ ws) s.4.4.4, s.4.4.3, is.lib); known = is.known }, is.new))

pub insts_say : (plan : Plan) (insts : List InstText) → length insts ≤ 2 ^ 18 → EachIs (IsInstText plan) [] insts → Says (AreInsts plan insts) (insts_lines insts)
insts_say plan insts few each =
    then_says (numbers_line_says (codes "NumInstances") (ranged 0 (2 ^ 18) (length insts) ∷ []) refl (omega arith, few, omega arith, tt))
    (each_says (IsInstText plan) (IsNewInst plan) inst_line (inst_says plan) [] insts each)
    (λ u v w s items. record { after_keyword = s.0; after_count = v; keyword = s.1; count = s.2; items = items })

-- ---- what stands in the words can be printed

pin_is : (before : List Pin) (pin : Pin) (words rest : List Word) → IsNewPin before pin words rest → IsPinText before pin
pin_is before pin words rest is = record { name = is.0.name.3; new = is.1; x = is.0.offset.3.at_most; y = is.0.offset.4.3.at_most }

lib_is : (before : List LibText) (lib : LibText) (words rest : List Word) → IsNewLib before lib words rest → IsLibText before lib
lib_is before lib words rest is = record {
  name = is.0.name.3;
  new = is.1;
  some_width = is.0.numbers.3.at_least;
  width = is.0.numbers.3.at_most;
  some_height = is.0.numbers.4.3.at_least;
  height = is.0.numbers.4.3.at_most;
  few_pins = is.0.numbers.4.4.3.at_most;
  pins = each_is IsPinText IsNewPin pin_is [] lib.pins is.0.after_count rest is.0.items;
}

tech_is : (before : List TechText) (tech : TechText) (words rest : List Word) → IsNewTech before tech words rest → IsTechText before tech
tech_is before tech words rest is = record {
  name = is.0.name.3;
  new = is.1;
  few_libs = is.0.count.3.at_most;
  libs = each_is IsLibText IsNewLib lib_is [] tech.libs is.0.after_count rest is.0.items;
}

pub techs_are : (techs : List TechText) (words rest : List Word) → AreTechs techs words rest → EachIs IsTechText [] techs
techs_are techs words rest are = each_is IsTechText IsNewTech tech_is [] techs are.after_count rest are.items

inst_is : (plan : Plan) (before : List InstText) (inst : InstText) (words rest : List Word) → IsNewInst plan before inst words rest → IsInstText plan before inst
inst_is plan before inst words rest is = record { name = is.0.name.3; new = is.1; lib = is.0.lib.3; known = is.0.known }

pub insts_are : (plan : Plan) (insts : List InstText) (words rest : List Word) → AreInsts plan insts words rest → EachIs (IsInstText plan) [] insts
insts_are plan insts words rest are = each_is (IsInstText plan) (IsNewInst plan) (inst_is plan) [] insts are.after_count rest are.items
