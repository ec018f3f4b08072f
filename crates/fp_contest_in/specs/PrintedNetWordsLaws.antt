-- The words of the nets that are printed.
use Rattle.std.specs.Prelude.{codes}
use Rattle.std.proofs.Common.{◌≡◌, ℕ, zero, suc, ◌-◌, ◌^◌, ◌<◌, ◌≤◌, Bool, true, false, List, [], ◌∷◌, ◌++◌, length, refl, sym, ap, subst, ◌∙◌, arith}
use Rattle.std.proofs.lemmas.List.{length-append}
use Rattle.std.proofs.lemmas.Option.{slice_get_within}
use Rattle.fp_text.specs.Words.{Word}
use Rattle.fp_text.specs.WordsLaws.{AllAre}
use Rattle.fp_text.specs.Numbers.{is_name}
use Rattle.fp_text.specs.NumbersLaws.{IsSolid, solid-tested, name-solid}
use Rattle.fp_tech.specs.Book.{name_at}
use Rattle.fp_netlist.specs.Netlist.{Cell, Netlist, cell_names}
use Rattle.fp_contest_in.specs.Text.{ConnText, NetText, conn_count}
use Rattle.fp_contest_in.specs.Grammar.{ranged, most_conns, slash, IsNetPin, IsNewNet, AreNets}
use Rattle.fp_contest_in.specs.Printable.{EachIs, IsConnText, IsNetText}
use Rattle.fp_contest_in.specs.PrintedText.{line, conn_line, net_lines, nets_lines}
use Rattle.fp_contest_in.specs.PrintedWordsLaws.{Says, then_says, says_so, each_says, each_is, named_at, line_says, numbers_line_says, named_line_says}

-- ---- what is printed stands in the words

all_joined : (blank : Bool) (a b : List ℕ) → AllAre blank a → AllAre blank b → AllAre blank (a ++ b)
all_joined blank [] b one two i below = two i below
all_joined blank (x ∷ a) b one two zero below = one zero (omega arith)
all_joined blank (x ∷ a) b one two (suc i) below = all_joined blank a b (λ j lt. one (suc j) (omega arith)) two i (omega arith)

path_solid : (inst pin : List ℕ) → is_name inst ≡ true → is_name pin ≡ true → IsSolid (inst ++ slash ∷ pin)
path_solid inst pin one two =
    let front = name-solid inst one in
    let end = name-solid pin two in
    let some : 0 < length inst = front.some in
    record {
      some = omega (arith, length-append inst (slash ∷ pin));
      no_blank = all_joined false inst (slash ∷ pin) front.no_blank (all_joined false (slash ∷ []) pin slash_alone end.no_blank);
    }
  where
    slash_alone : AllAre false (slash ∷ [])
    slash_alone zero below = refl
    slash_alone (suc i) below = absurd (omega arith)

-- the cells have names
abbrev pub AreNamed : Netlist → Type 0
AreNamed p = (i : ℕ) → i < length p.cells → is_name (name_at (cell_names p) i) ≡ true

conn_says : (p : Netlist) → AreNamed p → (before : List ConnText) (conn : ConnText) → IsConnText p conn → Says (IsNetPin p conn) (conn_line (cell_names p) conn)
conn_says p named before conn is =
    let cell = named_at (λ (c : Cell). c.name) p.cells conn.inst is.cell in
    let inst_name = subst (λ (name : List ℕ). is_name name ≡ true) cell.2 (named conn.inst is.cell) in
    subst (λ name. Says (IsNetPin p conn) (conn_line_of name)) (sym cell.2)
    (says_so (line_says (codes "Pin") ((cell.0.name ++ slash ∷ conn.pin) ∷ []) (solid-tested (codes "Pin") refl) (path_solid cell.0.name conn.pin inst_name is.name, tt))
    (λ u v s. record {
      after_keyword = s.1;
      word = s.4.0;
      cell = cell.0;
      keyword = (s.0, s.2, s.3);
      first = s.4.2 ∙ ap (λ (ws : List Word). s.4.0 ∷ ws) s.4.4;
      path = record { joined = s.4.3; last = is.no_slash; inst_name = inst_name; pin_name = is.name };
      there = cell.1;
      known = is.known;
    }))
  where
    conn_line_of : List ℕ → List ℕ
    conn_line_of name = line (codes "Pin") ((name ++ slash ∷ conn.pin) ∷ [])

net_says : (p : Netlist) → AreNamed p → (before : List NetText) (net : NetText) → IsNetText p before net → Says (IsNewNet p before net) (net_lines (cell_names p) net)
net_says p named before net is =
    then_says (named_line_says (codes "Net") net.name (ranged 0 (most_conns - conn_count before) (length net.pins) ∷ []) refl is.name (omega arith, is.few_conns, omega arith, tt))
    (each_says (λ before. IsConnText p) (λ before. IsNetPin p) (conn_line (cell_names p)) (conn_says p named) [] net.pins is.conns)
    (λ u v w s items. (record { after_keyword = s.after_keyword; after_name = s.after_name; after_count = v; keyword = s.word; name = s.named; count = s.all; items = items }, is.new))

pub nets_say : (p : Netlist) (nets : List NetText) → AreNamed p → length nets ≤ 2 ^ 18 → EachIs (IsNetText p) [] nets → Says (AreNets p nets) (nets_lines (cell_names p) nets)
nets_say p nets named few each =
    then_says (numbers_line_says (codes "NumNets") (ranged 0 (2 ^ 18) (length nets) ∷ []) refl (omega arith, few, omega arith, tt))
    (each_says (IsNetText p) (IsNewNet p) (net_lines (cell_names p)) (net_says p named) [] nets each)
    (λ u v w s items. record { after_keyword = s.0; after_count = v; keyword = s.1; count = s.2; items = items })

-- ---- what stands in the words can be printed

conn_is : (p : Netlist) (before : List ConnText) (conn : ConnText) (words rest : List Word) → IsNetPin p conn words rest → IsConnText p conn
conn_is p before conn words rest is = record {
  cell = slice_get_within p.cells conn.inst is.cell is.there;
  name = is.path.pin_name;
  no_slash = is.path.last;
  known = is.known;
}

net_is : (p : Netlist) (before : List NetText) (net : NetText) (words rest : List Word) → IsNewNet p before net words rest → IsNetText p before net
net_is p before net words rest is = record {
  name = is.0.name.3;
  new = is.1;
  few_conns = is.0.count.3.at_most;
  conns = each_is (λ before. IsConnText p) (λ before. IsNetPin p) (conn_is p) [] net.pins is.0.after_count rest is.0.items;
}

pub nets_are : (p : Netlist) (nets : List NetText) (words rest : List Word) → AreNets p nets words rest → EachIs (IsNetText p) [] nets
nets_are p nets words rest are = each_is (IsNetText p) (IsNewNet p) (net_is p) [] nets are.after_count rest are.items
