-- The pieces together are the text of the problem.
use Rattle.std.proofs.Common.{◌≡◌, ℕ, zero, suc, ◌+◌, ◌%◌, ◌<◌, ◌≤◌, List, [], ◌∷◌, ◌++◌, length, map, flat_map, codes, refl, sym, ap, ◌∙◌, append_assoc, arith}
use Rattle.std.specs.List.{range_with_len}
use Rattle.std.proofs.Math.Nat.{mod-lt}
use Rattle.std.proofs.lemmas.List.{append-nil}
use Rattle.std.proofs.lemmas.List.FromFn.{get_or-map-range_with_len}
use Rattle.std.proofs.lemmas.Grind.{flat_map-append}
use Rattle.std.proofs.lemmas.Option.{unwrap_or-slice_get}
use Rattle.rand_pcg.specs.Lcg.{Lcg}
use Rattle.fp_tech.specs.Book.{name_at}
use Rattle.fp_contest_in.specs.Text.{InstText, ConnText, NetText, inst_name_list}
use Rattle.fp_contest_in.specs.Grammar.{slash}
use Rattle.fp_contest_in.specs.PrintedText.{line, numbers, techs_lines, sections_lines, inst_line, insts_lines, conn_line, net_lines, nets_lines}
use Rattle.fp_gen.specs.MakeText.{made_first, numbered, word, behind, made_techs, made_setup, side_of, made_inst, made_conn, made_net, made_insts, make_text, words_of}
use Rattle.fp_gen.specs.Written.{conn_text, net_text, netlist_text}
use Rattle.fp_gen.specs.MadeFirstLaws.{made_count, names_made}

-- lines that are the same for each thing that is made are the same
same_lines : {A : Type 0} (one other : A → List ℕ) (make : ℕ → Lcg → A × Lcg) (n : ℕ) (words : Lcg) → ((k : ℕ) (left : Lcg) → one (make k left).0 ≡ other (make k left).0)
    → flat_map one (made_first make n words).0 ≡ flat_map other (made_first make n words).0
unfolding made_first
same_lines one other make zero words each = refl
same_lines one other make (suc n) words each =
    let last = (make n (made_first make n words).1).0 in
    flat_map-append one (made_first make n words).0 (last ∷ [])
    ∙ ap (λ (t : List ℕ). t ++ (one last ++ [])) (same_lines one other make n words each)
    ∙ ap (λ (t : List ℕ). flat_map other (made_first make n words).0 ++ (t ++ [])) (each n (made_first make n words).1)
    ∙ sym (flat_map-append other (made_first make n words).0 (last ∷ []))

-- a cell's name, by its number
name_of : (cells cell : ℕ) (words : Lcg) → cell < cells → name_at (inst_name_list (made_first made_inst cells words).0) cell ≡ numbered (codes "C") cell
name_of cells cell words below =
    let names = map (numbered (codes "C")) (range_with_len 0 cells) in
    ap (λ (list : List (List ℕ)). name_at list cell) (names_made (λ (inst : InstText). inst.name) (codes "C") made_inst (λ k left. refl) cells words)
    ∙ unwrap_or-slice_get names cell [] ∙ get_or-map-range_with_len (numbered (codes "C")) 0 cells cell cell [] below (omega arith)

conn_said : (cells net at : ℕ) (words left : Lcg) → 1 ≤ cells
    → conn_text (made_conn cells net at left).0 ≡ conn_line (inst_name_list (made_first made_inst cells words).0) (made_conn cells net at left).0
conn_said cells net at words left some =
    let conn : ConnText = (made_conn cells net at left).0 in
    ap (λ (name : List ℕ). line (codes "Pin") ((name ++ slash ∷ conn.pin) ∷ [])) (sym (name_of cells conn.inst words (mod-lt (net + word left % 16) some)))

net_said : (cells net : ℕ) (words left : Lcg) → 1 ≤ cells
    → net_text (made_net cells net left).0 ≡ net_lines (inst_name_list (made_first made_inst cells words).0) (made_net cells net left).0
net_said cells net words left some =
    let made : NetText = (made_net cells net left).0 in
    ap (λ (t : List ℕ). line (codes "Net") (made.name ∷ numbers (length made.pins ∷ [])) ++ t)
    (same_lines conn_text (conn_line (inst_name_list (made_first made_inst cells words).0)) (made_conn cells net) (2 + word left % 3) (behind left)
    (λ at other. conn_said cells net at words other some))

-- the cells and the nets as they are written are those of the problem
netlist_is : (cells : ℕ) (words : Lcg) → 1 ≤ cells
    → netlist_text cells words ≡ insts_lines (made_first made_inst cells words).0
    ++ nets_lines (inst_name_list (made_first made_inst cells words).0) (made_first (made_net cells) cells (made_first made_inst cells words).1).0
netlist_is cells words some =
    let insts = (made_first made_inst cells words).0 in
    let left = (made_first made_inst cells words).1 in
    let nets = (made_first (made_net cells) cells left).0 in
    let head = line (codes "NumInstances") (numbers (cells ∷ [])) ++ flat_map inst_line insts in
    append_assoc head (line (codes "NumNets") (numbers (cells ∷ []))) (flat_map net_text nets)
    ∙ ap (λ (t : List ℕ). head ++ (line (codes "NumNets") (numbers (cells ∷ [])) ++ t))
    (same_lines net_text (net_lines (inst_name_list insts)) (made_net cells) cells left (λ net other. net_said cells net words other some))
    ∙ ap (λ (many : ℕ). head ++ (line (codes "NumNets") (numbers (many ∷ [])) ++ flat_map (net_lines (inst_name_list insts)) nets)) (sym (made_count (made_net cells) cells left))
    ∙ ap (λ (many : ℕ). (line (codes "NumInstances") (numbers (many ∷ [])) ++ flat_map inst_line insts) ++ nets_lines (inst_name_list insts) nets)
    (sym (made_count made_inst cells words))

joined : (a b c d : List ℕ) → a ++ (b ++ (c ++ d)) ≡ (((a ++ b) ++ []) ++ c) ++ d
joined a b c d =
    sym (append_assoc a b (c ++ d)) ∙ ap (λ (t : List ℕ). t ++ (c ++ d)) (sym (append-nil (a ++ b))) ∙ sym (append_assoc ((a ++ b) ++ []) c d)

-- all of it
pub text_is : (number cells percent side : ℕ) (words : Lcg) → 1 ≤ cells → side ≡ side_of cells → words ≡ words_of number
    → techs_lines made_techs ++ (sections_lines (codes "TA" ∷ codes "TB" ∷ []) (made_setup side percent) ++ netlist_text cells words) ≡ make_text number cells percent
unfolding make_text
text_is number cells percent side words some side_is words_are =
    let insts = (made_insts number cells).0 in
    ap (λ (s : ℕ). techs_lines made_techs ++ (sections_lines (codes "TA" ∷ codes "TB" ∷ []) (made_setup s percent) ++ netlist_text cells words)) side_is
    ∙ ap (λ (w : Lcg). techs_lines made_techs ++ (sections_lines (codes "TA" ∷ codes "TB" ∷ []) (made_setup (side_of cells) percent) ++ netlist_text cells w)) words_are
    ∙ ap (λ (t : List ℕ). techs_lines made_techs ++ (sections_lines (codes "TA" ∷ codes "TB" ∷ []) (made_setup (side_of cells) percent) ++ t)) (netlist_is cells (words_of number) some)
    ∙ joined (techs_lines made_techs) (sections_lines (codes "TA" ∷ codes "TB" ∷ []) (made_setup (side_of cells) percent)) (insts_lines insts)
    (nets_lines (inst_name_list insts) (made_first (made_net cells) cells (made_insts number cells).1).0)
