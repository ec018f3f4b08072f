-- The problem that a number makes can be printed, so its text reads as it, and it has as many cells and nets as were asked for.
use Rattle.std.proofs.Common.{◌≡◌, ℕ, ◌+◌, ◌*◌, ◌/◌, ◌%◌, ◌<◌, ◌≤◌, ◌^◌, true, List, ◌++◌, length, map, Option, refl, sym, ap, subst, ◌∙◌, arith, inl, inr}
use Rattle.std.specs.Prelude.{◌&&◌, nat_le, All, codes, unwrap_or, option_map, slice_get, is_some}
use Rattle.std.proofs.Math.Nat.{mod-lt}
use Rattle.std.proofs.lemmas.Option.{slice_get_cases}
use Rattle.std.proofs.lemmas.Bool.{and_from, le-leb}
use Rattle.std.proofs.lemmas.List.{length-map}
use Rattle.std.proofs.lemmas.List.Elements.{All-nil, All-map}
use Rattle.std.proofs.lemmas.List.Sums.{sum_by-le}
use Rattle.fp_base.specs.declared.ids.Die.{Die}
use Rattle.fp_base.specs.declared.ids.Die.TheVariants.{Top, Bottom}
use Rattle.fp_tech.specs.Plan.{Plan, IsDieSpec, IsBlock, rows_lie, segments, has_few}
use Rattle.fp_tech.specs.Book.{id_for}
use Rattle.fp_tech.specs.PlanLaws.{as_many}
use Rattle.fp_netlist.specs.Netlist.{Cell, Netlist, no_cells, lib_of, pin_for}
use Rattle.fp_contest_in.specs.Text.{InstText, NetText, conn_count, plan_of, cells_of, net_name_list}
use Rattle.fp_contest_in.specs.Printable.{IsInstText, IsConnText, IsNetText, IsSetupText, IsPrintable}
use Rattle.fp_contest_in.specs.PrintableLaws.{printed}
use Rattle.fp_contest_in.specs.ProblemLaws.{cell_of, insts_added, plan-cells_of, cells-with_net_texts, nets-with_net_texts, nets-with_inst_texts}
use Rattle.rand_pcg.specs.Lcg.{Lcg}
use Rattle.fp_gen.specs.MakeText.{word, behind, made_first, numbered, side_of, made_setup, made_inst, made_conn, made_conns, made_net, made_die, made_insts, made_problem, make_text, words_of}
use Rattle.fp_gen.specs.ReadsAsMade.{ReadsAsMade}
use Rattle.fp_gen.specs.SidesLaws.{IsSide, side_found}
use Rattle.fp_gen.specs.MakeLengthLaws.{made_short}
use Rattle.fp_gen.specs.MadeFirstLaws.{made_count, made_all, each_made, new_name, numbered_name}
use Rattle.fp_gen.specs.MadeTechsLaws.{made_book, techs_printable, lib_known, pin_known}

remainder_below : (a b : ℕ) → 1 ≤ b → a % b < b
remainder_below a b some = mod-lt a some

-- ---- the cells

inst_is : (number cells percent k : ℕ) (words : Lcg) → k < 100000
    → IsInstText (plan_of (made_problem number cells percent)) (made_first made_inst k words).0 (made_inst k (made_first made_inst k words).1).0
inst_is number cells percent k words small =
    let left = (made_first made_inst k words).1 in
    let below : word left % 8 < 8 = remainder_below (word left) 8 (omega arith) in
    record {
      name = numbered_name 67 k refl (omega (arith, small));
      new = new_name (λ (inst : InstText). inst.name) 67 made_inst (λ j left. refl) k words (omega (arith, small));
      lib = numbered_name 76 (word left % 8) refl (omega (arith, below));
      known = (lib_known (word left % 8) below).known;
    }

-- ---- the connections

cells_added : (number cells percent : ℕ)
    → (cells_of (made_problem number cells percent)).cells ≡ map (cell_of (plan_of (made_problem number cells percent))) (made_insts number cells).0
cells_added number cells percent =
    ap (λ (p : Netlist). p.cells) (insts_added (no_cells (plan_of (made_problem number cells percent))) (made_insts number cells).0)

cells_many : (number cells percent : ℕ) → length (cells_of (made_problem number cells percent)).cells ≡ cells
cells_many number cells percent =
    ap length (cells_added number cells percent)
    ∙ length-map (made_insts number cells).0 (cell_of (plan_of (made_problem number cells percent)))
    ∙ made_count made_inst cells (words_of number)

-- the library cell of each cell is one of the eight
libs_few : (number cells percent : ℕ) → All (λ (cell : Cell). cell.lib < 8) (cells_of (made_problem number cells percent)).cells
libs_few number cells percent =
    subst (All (λ (cell : Cell). cell.lib < 8)) (sym (cells_added number cells percent))
    (All-map (λ (cell : Cell). cell.lib < 8) (cell_of (plan_of (made_problem number cells percent))) (made_insts number cells).0
    (made_all (λ (inst : InstText). id_for made_book inst.lib < 8) made_inst cells (words_of number)
    (λ k left small. subst (λ (id : ℕ). id < 8) (sym (lib_known (word left % 8) (remainder_below (word left) 8 (omega arith))).id) (remainder_below (word left) 8 (omega arith)))))

lib_few_in : (list : List Cell) (cell : ℕ) → All (λ (c : Cell). c.lib < 8) list → unwrap_or (option_map (λ (c : Cell). c.lib) (slice_get list cell)) 0 < 8
lib_few_in list cell all = elim (slice_get_cases list cell).1 [
  | inl (c, below, there, same) ↦
      subst (λ (o : Option Cell). unwrap_or (option_map (λ (c : Cell). c.lib) o) 0 < 8) (sym there) (subst (λ (c : Cell). c.lib < 8) same (all cell c below))
  | inr (past, none) ↦ subst (λ (o : Option Cell). unwrap_or (option_map (λ (c : Cell). c.lib) o) 0 < 8) (sym none) (omega arith)
]

lib_few : (number cells percent cell : ℕ) → lib_of (cells_of (made_problem number cells percent)) cell < 8
lib_few number cells percent cell = lib_few_in (cells_of (made_problem number cells percent)).cells cell (libs_few number cells percent)

conn_is : (number cells percent net at : ℕ) (left : Lcg) → 1 ≤ cells → IsConnText (cells_of (made_problem number cells percent)) (made_conn cells net at left).0
conn_is number cells percent net at left some =
    let p : Netlist = cells_of (made_problem number cells percent) in
    let inst = (net + word left % 16) % cells in
    let pin = word left / 16 % 4 in
    let known = pin_known pin (remainder_below (word left / 16) 4 (omega arith)) in
    record {
      cell = subst (λ (many : ℕ). inst < many) (sym (cells_many number cells percent)) (remainder_below (net + word left % 16) cells some);
      name = known.name;
      no_slash = known.no_slash;
      known = ap (λ (plan : Plan). is_some (pin_for plan (lib_of p inst) (numbered (codes "P") pin) Top) && is_some (pin_for plan (lib_of p inst) (numbered (codes "P") pin) Bottom))
          (plan-cells_of (made_problem number cells percent)) ∙ known.there (lib_of p inst) (lib_few number cells percent inst);
    }

-- ---- the nets

pins_few : (cells net : ℕ) (left : Lcg) → length (made_conns cells net left).0 ≤ 4
pins_few cells net left = omega (arith, made_count (made_conn cells net) (2 + word left % 3) (behind left), remainder_below (word left) 3 (omega arith))

conns_few : (cells n : ℕ) (words : Lcg) → conn_count (made_first (made_net cells) n words).0 ≤ n * 4
conns_few cells n words =
    omega (
      arith,
      made_count (made_net cells) n words,
      ap (λ (many : ℕ). many * 4) (made_count (made_net cells) n words),
      sum_by-le (λ (net : NetText). length net.pins) 4 (made_first (made_net cells) n words).0
          (made_all (λ (net : NetText). length net.pins ≤ 4) (made_net cells) n words (λ k left small. pins_few cells k left)),
    )

net_is : (number cells percent k : ℕ) (words : Lcg) → 1 ≤ cells → k < 100000
    → IsNetText (cells_of (made_problem number cells percent)) (made_first (made_net cells) k words).0 (made_net cells k (made_first (made_net cells) k words).1).0
net_is number cells percent k words some small =
    let left = (made_first (made_net cells) k words).1 in
    record {
      name = numbered_name 78 k refl (omega (arith, small));
      new = new_name (λ (net : NetText). net.name) 78 (made_net cells) (λ j left. refl) k words (omega (arith, small));
      few_conns = omega (arith, pins_few cells k left, conns_few cells k words, small);
      conns = each_made (λ before. IsConnText (cells_of (made_problem number cells percent))) (made_conn cells k) (2 + word left % 3) (behind left)
          (λ at below. conn_is number cells percent k at (made_first (made_conn cells k) at (behind left)).1 some);
    }

-- ---- the dies

-- the rows of a height in the frame
record AreRows (side height : ℕ) : Type 0 where
  some : 1 ≤ side / height
  few : side / height ≤ 2 ^ 16
  lie : height * (side / height) ≤ side

rows_10 : (side : ℕ) → IsSide side → AreRows side 10
rows_10 side is =
    let k = is.k in
    record { some = omega (arith, is.side_is, is.some); few = omega (arith, is.side_is, is.few); lie = omega arith }

rows_12 : (side : ℕ) → IsSide side → AreRows side 12
rows_12 side is =
    let k = is.k in
    record { some = omega (arith, is.side_is, is.some); few = omega (arith, is.side_is, is.few); lie = omega arith }

die_is : (side height tech percent : ℕ) → IsSide side → AreRows side height → tech < 2 → percent ≤ 80 → 10 ≤ height → height ≤ 12
    → IsDieSpec 2 (made_die side height tech percent)
die_is side height tech percent is rows tech_in few tall low = record {
  percent = omega (arith, few);
  tech = tech_in;
  start_x = omega arith;
  start_y = omega arith;
  some_length = omega (arith, is.side_is, is.some);
  length = omega (arith, is.side_is, is.few);
  some_height = omega (arith, tall);
  height = omega (arith, low);
  some_rows = rows.some;
  rows = rows.few;
}

lies : (side percent tech height : ℕ) → AreRows side height → rows_lie (made_setup side percent).frame (made_die side height tech percent) ≡ true
lies side percent tech height rows =
    and_from (nat_le 0 0) _ refl (and_from (nat_le (0 + side) side) _ (le-leb (0 + side) side (omega arith))
    (and_from (nat_le 0 0) _ refl (le-leb (0 + height * (side / height)) side (omega (arith, rows.lie)))))

setup_is : (side percent : ℕ) → IsSide side → percent ≤ 80 → IsSetupText 2 (made_setup side percent)
setup_is side percent is few = record {
  frame = record {
    wide = omega (arith, is.side_is, is.some);
    tall = omega (arith, is.side_is, is.some);
    right = omega (arith, is.side_is, is.few);
    upper = omega (arith, is.side_is, is.few);
  };
  top = die_is side 10 0 percent is (rows_10 side is) (omega arith) few (omega arith) (omega arith);
  bottom = die_is side 12 1 80 is (rows_12 side is) (omega arith) (omega arith) (omega arith) (omega arith);
  terminal = record { some_x = omega arith; size_x = omega arith; some_y = omega arith; size_y = omega arith; spacing = omega arith; cost = omega arith };
  top_lies = lies side percent 0 10 (rows_10 side is);
  bottom_lies = lies side 80 1 12 (rows_12 side is);
}

-- without blockages a die has as many segments as rows
few_segments : (number cells percent : ℕ) → IsSide (side_of cells) → (die : Die) → has_few (plan_of (made_problem number cells percent)) die ≡ true
few_segments number cells percent is Top =
    let plan = plan_of (made_problem number cells percent) in
    le-leb (length (segments plan Top)) (2 ^ 16) (omega (arith, as_many plan Top refl (omega (arith, is.side_is, is.some)), (rows_10 (side_of cells) is).few))
few_segments number cells percent is Bottom =
    let plan = plan_of (made_problem number cells percent) in
    le-leb (length (segments plan Bottom)) (2 ^ 16) (omega (arith, as_many plan Bottom refl (omega (arith, is.side_is, is.some)), (rows_12 (side_of cells) is).few))

-- the problem can be printed
pub made_printable : (number cells percent : ℕ) → 1 ≤ cells → cells ≤ 100000 → percent ≤ 80 → IsPrintable (made_problem number cells percent)
made_printable number cells percent some few share = record {
  few_techs = omega arith;
  techs = techs_printable;
  setup = setup_is (side_of cells) percent (side_found cells some few) share;
  few_blocks = omega arith;
  blocks = All-nil IsBlock;
  top_few = few_segments number cells percent (side_found cells some few) Top;
  bottom_few = few_segments number cells percent (side_found cells some few) Bottom;
  few_insts = omega (arith, made_count made_inst cells (words_of number), few);
  insts = each_made (IsInstText (plan_of (made_problem number cells percent))) made_inst cells (words_of number)
      (λ k below. inst_is number cells percent k (words_of number) (omega (arith, below, few)));
  few_nets = omega (arith, made_count (made_net cells) cells (made_insts number cells).1, few);
  nets = each_made (IsNetText (cells_of (made_problem number cells percent))) (made_net cells) cells (made_insts number cells).1
      (λ k below. net_is number cells percent k (made_insts number cells).1 some (omega (arith, below, few)));
}

-- its text reads as it
pub reads_as_made : (number cells percent : ℕ) → 1 ≤ cells → cells ≤ 100000 → percent ≤ 80 → ReadsAsMade number cells percent
unfolding make_text
reads_as_made number cells percent some few share = record {
  reads = printed (made_problem number cells percent) (made_printable number cells percent some few share);
  as_many_cells = ap length (cells-with_net_texts (cells_of (made_problem number cells percent)) (made_problem number cells percent).nets) ∙ cells_many number cells percent;
  as_many_nets =
      ap length (nets-with_net_texts (cells_of (made_problem number cells percent)) nets)
      ∙ ap (λ (names : List (List ℕ)). length (names ++ net_name_list nets)) (nets-with_inst_texts (no_cells (plan_of (made_problem number cells percent))) (made_insts number cells).0)
      ∙ length-map nets (λ (net : NetText). net.name)
      ∙ made_count (made_net cells) cells (made_insts number cells).1;
  short = made_short number cells percent some few share;
}
  where
    nets : List NetText
    nets = (made_problem number cells percent).nets
