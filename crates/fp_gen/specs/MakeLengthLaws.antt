-- The text that a number makes has under 2^28 bytes: the line of a cell has at most 40, the lines of a net at most 250, and the technologies and
-- the sections together at most some thousands.
use Rattle.std.specs.Prelude.{◌≡◌, ℕ, ◌+◌, ◌*◌, ◌/◌, ◌%◌, ◌^◌, ◌<◌, ◌≤◌, List, [], ◌∷◌, ◌++◌, length, All, get_or, flat_map, codes, decimal, ◌⊎◌}
use Rattle.std.specs.Fmt.{digits}
use Rattle.std.proofs.Common.{subst, inl, inr, arith, length-append}
use Rattle.std.proofs.lemmas.Bool.{cases_lt}
use Rattle.std.proofs.Math.ListN.{get_or-eq_default}
use Rattle.std.proofs.lemmas.Fmt.{length-decimal-le}
use Rattle.std.proofs.lemmas.List.Concat.{length-flat_map}
use Rattle.std.proofs.lemmas.List.Elements.{All-map, All-get_or}
use Rattle.std.proofs.lemmas.List.Sums.{sum_by-le}
use Rattle.std.proofs.lemmas.Option.{unwrap_or-slice_get}
use Rattle.fp_base.specs.declared.ids.Die.TheVariants.{Top, Bottom}
use Rattle.fp_tech.specs.Book.{name_at}
use Rattle.fp_contest_in.specs.declared.section.Section.{Section}
use Rattle.fp_contest_in.specs.declared.section.Section.TheVariants.{DieSize, MaxUtil, Rows, Tech, TerminalSize, TerminalSpacing, TerminalCost}
use Rattle.fp_contest_in.specs.Text.{InstText, inst_name_list, tech_name_list}
use Rattle.fp_contest_in.specs.Grammar.{slash}
use Rattle.fp_contest_in.specs.PrintedText.{line, numbers, techs_lines, section_line, sections_lines, usual_order, inst_line, insts_lines, conn_line, conn_lines, net_lines, nets_lines}
use Rattle.rand_pcg.specs.Lcg.{Lcg}
use Rattle.fp_gen.specs.SidesLaws.{side_found}
use Rattle.fp_gen.specs.MadeFirstLaws.{made_count, made_all}
use Rattle.fp_gen.specs.MakeText.{word, behind, made_first, numbered, made_techs, made_setup, side_of, made_inst, made_conn, made_conns, made_net, made_insts, make_text, words_of}

-- so many lines, each of few bytes
lines_short : {A : Type 0} (text : A → List ℕ) (most : ℕ) (lines : List A) → All (λ line. length (text line) ≤ most) lines
    → length (flat_map text lines) ≤ length lines * most
lines_short text most lines short = omega (arith, length-flat_map text lines, sum_by-le (λ line. length (text line)) most lines short)

-- as many lines as things that are made, each of few bytes
pub made_lines_short : {A : Type 0} (text : A → List ℕ) (most : ℕ) (make : ℕ → Lcg → A × Lcg) (n : ℕ) (words : Lcg)
    → ((k : ℕ) (left : Lcg) → k < n → length (text (make k left).0) ≤ most) → length (flat_map text (made_first make n words).0) ≤ n * most
made_lines_short text most make n words each =
    subst (λ many. length (flat_map text (made_first make n words).0) ≤ many * most) (made_count make n words)
    (lines_short text most (made_first make n words).0 (made_all (λ line. length (text line) ≤ most) make n words each))

-- ---- numbers and names

-- a number of at most seven digits
number_short : (n : ℕ) → n < 10 ^ 7 → length (decimal n) ≤ 7
number_short n below = length-decimal-le 7 n (omega arith) below (omega (arith, below))

-- a name of a letter and such a number
name_short : (letter : List ℕ) (n : ℕ) → length letter ≤ 1 → n < 10 ^ 7 → length (numbered letter n) ≤ 8
name_short letter n one below = omega (arith, one, number_short n below, length-append letter (decimal n))

-- a name of names that are all short; where there is none, it is empty
name_at_short : (most : ℕ) (names : List (List ℕ)) → All (λ name. length name ≤ most) names → (k : ℕ) → length (name_at names k) ≤ most
name_at_short most names short k = rw (unwrap_or-slice_get names k []) (by (cases_lt k (length names)))
  where
    by : (k < length names) ⊎ (length names ≤ k) → length (get_or names k []) ≤ most
    by (inr past) = rw (get_or-eq_default names [] past) (omega arith)
    by (inl within) = All-get_or (λ name. length name ≤ most) names k [] within short

-- ---- the technologies and the sections

-- the two technologies are always the same, and have at most 2000 bytes
techs_short : length (techs_lines made_techs) ≤ 2000
unfolding digits
techs_short = omega arith

-- a section, where the side and the percentage have at most seven digits
section_short : (side percent : ℕ) → side < 10 ^ 7 → percent < 10 ^ 7 → (section : Section)
    → length (section_line (tech_name_list made_techs) (made_setup side percent) section) ≤ 100
section_short side percent low few DieSize = simp length-append (omega (arith, number_short 0 (omega arith), number_short side low))
section_short side percent low few (MaxUtil Top) = simp length-append (omega (arith, number_short percent few))
section_short side percent low few (MaxUtil Bottom) = simp length-append (omega (arith, number_short 80 (omega arith)))
section_short side percent low few (Rows Top) =
    let rows = number_short (side / 10) (omega (arith, low)) in
    simp length-append (omega (arith, number_short 0 (omega arith), number_short side low, number_short 10 (omega arith), rows))
section_short side percent low few (Rows Bottom) =
    let rows = number_short (side / 12) (omega (arith, low)) in
    simp length-append (omega (arith, number_short 0 (omega arith), number_short side low, number_short 12 (omega arith), rows))
section_short side percent low few (Tech Top) = omega arith
section_short side percent low few (Tech Bottom) = omega arith
section_short side percent low few TerminalSize = simp length-append (omega (arith, number_short 2 (omega arith)))
section_short side percent low few TerminalSpacing = simp length-append (omega (arith, number_short 1 (omega arith)))
section_short side percent low few TerminalCost = simp length-append (omega (arith, number_short 0 (omega arith)))

-- the nine sections
sections_short : (side percent : ℕ) → side < 10 ^ 7 → percent < 10 ^ 7 → length (sections_lines (tech_name_list made_techs) (made_setup side percent)) ≤ 900
sections_short side percent low few =
    lines_short (section_line (tech_name_list made_techs) (made_setup side percent)) 100 usual_order (λ k d below. section_short side percent low few _)

-- ---- the cells and the nets

-- the line of a cell
pub inst_short : (k : ℕ) (words : Lcg) → k < 10 ^ 7 → length (inst_line (made_inst k words).0) ≤ 40
inst_short k words low =
    let name = name_short (codes "C") k (omega arith) low in
    let lib = name_short (codes "L") (word words % 8) (omega arith) (omega arith) in
    parts (numbered (codes "C") k) (numbered (codes "L") (word words % 8)) name lib
  where
    parts : (name lib : List ℕ) → length name ≤ 8 → length lib ≤ 8 → length (line (codes "Inst") (name ∷ lib ∷ [])) ≤ 40
    parts name lib short_name short_lib = simp length-append (omega (arith, short_name, short_lib))

-- the names of the cells that are made are short
names_short : (cells : ℕ) (words : Lcg) → cells ≤ 10 ^ 7 → All (λ name. length name ≤ 8) (inst_name_list (made_first made_inst cells words).0)
names_short cells words few =
    All-map (λ name. length name ≤ 8) (λ (inst : InstText). inst.name) (made_first made_inst cells words).0
    (made_all (λ inst. length inst.name ≤ 8) made_inst cells words (λ k left below. name_short (codes "C") k (omega arith) (omega (arith, few, below))))

-- the line of a pin of a cell, whose number names a short name or none
conn_short : (names : List (List ℕ)) → All (λ name. length name ≤ 8) names → (cells net k : ℕ) (words : Lcg)
    → length (conn_line names (made_conn cells net k words).0) ≤ 40
conn_short names short cells net k words =
    let pin = name_short (codes "P") (word words / 16 % 4) (omega arith) (omega arith) in
    parts (name_at names ((net + word words % 16) % cells)) (numbered (codes "P") (word words / 16 % 4))
    (name_at_short 8 names short ((net + word words % 16) % cells)) pin
  where
    parts : (inst pin : List ℕ) → length inst ≤ 8 → length pin ≤ 8 → length (line (codes "Pin") ((inst ++ slash ∷ pin) ∷ [])) ≤ 40
    parts inst pin short_inst short_pin = simp length-append (omega (arith, short_inst, short_pin))

-- the lines of a net's pins, of which there are at most four
conns_short : (names : List (List ℕ)) → All (λ name. length name ≤ 8) names → (cells net : ℕ) (words : Lcg)
    → length (conn_lines names (made_conns cells net words).0) ≤ 160
conns_short names short cells net words =
    let each : (k : ℕ) (left : Lcg) → k < 2 + word words % 3 → length (conn_line names (made_conn cells net k left).0) ≤ 40 =
    λ k left below. conn_short names short cells net k left in
    omega (arith, made_lines_short (conn_line names) 40 (made_conn cells net) (2 + word words % 3) (behind words) each)

-- the lines of a net
net_short : (names : List (List ℕ)) → All (λ name. length name ≤ 8) names → (cells net : ℕ) (words : Lcg) → net < 10 ^ 7
    → length (net_lines names (made_net cells net words).0) ≤ 250
net_short names short cells net words low =
    let name = name_short (codes "N") net (omega arith) low in
    let many : length (made_conns cells net words).0 ≡ 2 + word words % 3 = made_count (made_conn cells net) (2 + word words % 3) (behind words) in
    parts (numbered (codes "N") net) (length (made_conns cells net words).0) (conn_lines names (made_conns cells net words).0) name (omega (arith, many))
    (conns_short names short cells net words)
  where
    parts : (name : List ℕ) (many : ℕ) (pins : List ℕ) → length name ≤ 8 → many < 10 ^ 7 → length pins ≤ 160
        → length (line (codes "Net") (name ∷ numbers (many ∷ [])) ++ pins) ≤ 250
    parts name many pins short_name few short_pins = simp length-append (omega (arith, short_name, number_short many few, short_pins))

-- a line of how many there are, and their lines
counted_short : (keyword : List ℕ) (many : ℕ) (lines : List ℕ) (most : ℕ) → length keyword ≤ 20 → many < 10 ^ 7 → length lines ≤ most
    → length (line keyword (numbers (many ∷ [])) ++ lines) ≤ most + 40
counted_short keyword many lines most short few below = simp length-append (omega (arith, short, number_short many few, below))

-- the count of the cells and the lines of at most 100000 cells
insts_short : (cells : ℕ) (words : Lcg) → cells ≤ 100000 → length (insts_lines (made_first made_inst cells words).0) ≤ cells * 40 + 40
insts_short cells words few =
    let lines = made_lines_short inst_line 40 made_inst cells words (λ k left below. inst_short k left (omega (arith, few, below))) in
    counted_short (codes "NumInstances") (length (made_first made_inst cells words).0) (flat_map inst_line (made_first made_inst cells words).0) (cells * 40)
    (omega arith) (omega (arith, few, made_count made_inst cells words)) lines

-- the count of the nets and the lines of at most 100000 nets
nets_short : (names : List (List ℕ)) → All (λ name. length name ≤ 8) names → (cells : ℕ) (words : Lcg) → cells ≤ 100000
    → length (nets_lines names (made_first (made_net cells) cells words).0) ≤ cells * 250 + 40
nets_short names short cells words few =
    let each : (k : ℕ) (left : Lcg) → k < cells → length (net_lines names (made_net cells k left).0) ≤ 250 =
    λ k left below. net_short names short cells k left (omega (arith, few, below)) in
    let lines = made_lines_short (net_lines names) 250 (made_net cells) cells words each in
    counted_short (codes "NumNets") (length (made_first (made_net cells) cells words).0)
    (flat_map (net_lines names) (made_first (made_net cells) cells words).0) (cells * 250)
    (omega arith) (omega (arith, few, made_count (made_net cells) cells words)) lines

-- ---- the whole text

-- the text of a number is shorter than 2^28 bytes
pub made_short : (number cells percent : ℕ) → 1 ≤ cells → cells ≤ 100000 → percent ≤ 80 → length (make_text number cells percent) < 2 ^ 28
unfolding make_text
made_short number cells percent some few low =
    let names = names_short cells (words_of number) (omega (arith, few)) in
    let side = side_found cells some few in
    parts (techs_lines made_techs) (sections_lines (tech_name_list made_techs) (made_setup (side_of cells) percent)) (insts_lines (made_insts number cells).0)
    (nets_lines (inst_name_list (made_insts number cells).0) (made_first (made_net cells) cells (made_insts number cells).1).0) techs_short
    (sections_short (side_of cells) percent (omega (arith, side.side_is, side.few)) (omega (arith, low)))
    (omega (arith, few, insts_short cells (words_of number) few))
    (omega (arith, few, nets_short (inst_name_list (made_insts number cells).0) names cells (made_insts number cells).1 few))
  where
    parts : (techs sections insts nets : List ℕ) → length techs ≤ 2000 → length sections ≤ 900 → length insts ≤ 5000000 → length nets ≤ 30000000
        → length (techs ++ sections ++ [] ++ insts ++ nets) < 2 ^ 28
    parts techs sections insts nets a b c d = simp length-append (omega (arith, a, b, c, d))
