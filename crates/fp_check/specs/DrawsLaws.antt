-- A placement's own drawing draws it.
use Rattle.std.specs.Prelude.{◌≡◌, ℕ, zero, suc, ◌+◌, ◌<◌, List, [], ◌∷◌, length, get_or, find, All, Option, Some, None}
use Rattle.std.specs.Option.{option_map}
use Rattle.std.proofs.Common.{refl, ap, ◌∙◌, arith}
use Rattle.std.proofs.lemmas.Bool.{eq-eqb, ne_eqb}
use Rattle.std.proofs.lemmas.List.{length-map}
use Rattle.std.proofs.lemmas.List.Elements.{All-weaker}
use Rattle.fp_base.specs.declared.ids.Point.{Point}
use Rattle.fp_netlist.specs.Netlist.{Netlist}
use Rattle.fp_place.specs.declared.drawn.DrawnTerminal.{DrawnTerminal}
use Rattle.fp_place.specs.Drawing.{is_net, centre_of, terminals_from}
use Rattle.fp_place.specs.DrawnLaws.{find_yes, find_no, stands_once, places_in_drawing, one_terminal, IsDrawnFrom, terminals_drawn}
use Rattle.fp_place.specs.Placed.{Placed, place_of, places_of, drawn_of}
use Rattle.fp_check.specs.Conditions.{Draws}

abbrev line : ℕ → Point → DrawnTerminal
line net centre = record { net = record { 0 = net }; x = centre.x; y = centre.y }

no_line : (i : ℕ) (terminals : List (Option Point)) (net : ℕ) → net < i → find (is_net net) (terminals_from i terminals) ≡ None
unfolding terminals_from
no_line i [] net less = refl
no_line i (None ∷ others) net less = no_line (i + 1) others net (omega (arith, less))
no_line i (Some centre ∷ others) net less =
    find_no (is_net net) (line i centre) (terminals_from (i + 1) others) (ne_eqb i net (λ e. omega (arith, less, e))) ∙ no_line (i + 1) others net (omega (arith, less))

-- a net's line is found where it has a terminal, and tells its centre
line_tells : (i : ℕ) (terminals : List (Option Point)) (k net : ℕ) → i + k ≡ net → k < length terminals
    → option_map centre_of (find (is_net net) (terminals_from i terminals)) ≡ get_or terminals k None
unfolding terminals_from
line_tells i [] k net e below = absurd (omega (arith, below))
line_tells i (None ∷ others) zero net e below = ap (option_map centre_of) (no_line (i + 1) others net (omega (arith, e)))
line_tells i (Some centre ∷ others) zero net e below =
    ap (option_map centre_of) (find_yes (is_net net) (line i centre) (terminals_from (i + 1) others) (eq-eqb i net (omega (arith, e))))
line_tells i (None ∷ others) (suc k) net e below = line_tells (i + 1) others k net (omega (arith, e)) (omega (arith, below))
line_tells i (Some centre ∷ others) (suc k) net e below =
    ap (option_map centre_of) (find_no (is_net net) (line i centre) (terminals_from (i + 1) others) (ne_eqb i net (λ same. omega (arith, e, same))))
    ∙ line_tells (i + 1) others k net (omega (arith, e)) (omega (arith, below))

-- The drawing of a placement in file order draws each cell and each terminal once, and no others;
pub draws_itself : (p : Netlist) (placed : Placed) → length placed.spots ≡ length p.cells → length placed.terminals ≡ length p.nets → Draws p (drawn_of placed) placed
draws_itself p placed cells nets = record {
  once = λ cell below. stands_once (places_of placed) placed.terminals cell (omega (arith, below, many));
  places_are = places_in_drawing (places_of placed) placed.terminals (length p.cells) many;
  terminals_once = λ net below. one_terminal placed.terminals net (omega (arith, below, nets));
  terminals_are = λ net below. line_tells 0 placed.terminals net net (omega arith) (omega (arith, below, nets));
}
  where
    many : length (places_of placed) ≡ length p.cells
    many = length-map placed.spots place_of ∙ cells

-- and each terminal that it draws is of one of the problem's nets.
pub draws_nets : (p : Netlist) (placed : Placed) → length placed.terminals ≡ length p.nets → All (λ line. line.net.0 < length p.nets) (drawn_of placed).terminals
draws_nets p placed nets =
    All-weaker (IsDrawnFrom 0 placed.terminals) (λ (line : DrawnTerminal). line.net.0 < length p.nets) (λ line drawn. omega (arith, drawn.net_is, drawn.within, nets))
    (terminals_from 0 placed.terminals) (terminals_drawn 0 placed.terminals)
