-- The law that a drawing is legal, whatever the order of its lines, where it draws a placement in order whose terminals are where they belong.
use Rattle.std.specs.Prelude.{◌≡◌, ◌≢◌, ℕ, zero, suc, ◌+◌, ◌<◌, ◌≤◌, Bool, true, false, if◌then◌else◌, List, [], ◌∷◌, length, find, get_or, slice_get, Option, Some, None, option_map, is_some, All}
use Rattle.std.specs.List.{count_by}
use Rattle.std.proofs.Common.{refl, sym, ap, subst, ◌∙◌, arith}
use Rattle.std.proofs.lemmas.Bool.{eq-eqb}
use Rattle.std.proofs.lemmas.List.{length-map}
use Rattle.std.proofs.lemmas.Option.{same_Some, slice_get-get_or}
use Rattle.fp_base.specs.declared.ids.Point.{Point}
use Rattle.fp_tech.specs.Plan.{IsPlan}
use Rattle.fp_tech.specs.Slots.{Slots, IsGrid, KeepsEdges, AreApart}
use Rattle.fp_netlist.specs.Netlist.{Netlist}
use Rattle.fp_place.specs.declared.drawn.DrawnTerminal.{DrawnTerminal}
use Rattle.fp_place.specs.Drawing.{Drawing, is_net, centre_of, terminals_from}
use Rattle.fp_place.specs.DrawnLaws.{count_yes, count_no, find_yes, find_no, places_in_drawing}
use Rattle.fp_place.specs.Legal.{KeepsFromEdges, KeepsFromOthers, IsLegalAt, IsLegal}
use Rattle.fp_place.specs.LegalLaws.{in_order_is_legal}
use Rattle.fp_place.specs.Placed.{Placed, place_of, places_of, drawn_of}
use Rattle.fp_score.specs.Score.{terminal_at}
use Rattle.fp_check.specs.Answers.{IsRightAnswer, AreNetsOf}
use Rattle.fp_check.specs.Conditions.{Draws}
use Rattle.fp_check.specs.ShownLaws.{at_each}

-- ---- an element that alone passes is found

counted_there : {A : Type 0} (test : A → Bool) (xs : List A) (k : ℕ) (x : A) → slice_get xs k ≡ Some x → test x ≡ true → 1 ≤ count_by test xs
counted_there test [] k x at passes = absurd cc
counted_there test (y ∷ xs) zero x at passes =
    let here = count_yes test y xs (ap test (same_Some y x at) ∙ passes) in
    omega (arith, here)
counted_there {A = A} test (y ∷ xs) (suc k) x at passes = by (test y) refl (counted_there test xs k x at passes)
  where
    by : (b : Bool) → test y ≡ b → 1 ≤ count_by test xs → 1 ≤ count_by test (y ∷ xs)
    by true is rest = omega (arith, count_yes test y xs is)
    by false is rest = omega (arith, rest, count_no test y xs is)

only_found : {A : Type 0} (test : A → Bool) (xs : List A) (k : ℕ) (x : A) → slice_get xs k ≡ Some x → test x ≡ true → count_by test xs ≤ 1 → find test xs ≡ Some x
only_found test [] k x at passes once = absurd cc
only_found test (y ∷ xs) zero x at passes once =
    let same : y ≡ x = same_Some y x at in
    find_yes test y xs (ap test same ∙ passes) ∙ ap Some same
only_found {A = A} test (y ∷ xs) (suc k) x at passes once = by (test y) refl (only_found test xs k x at passes)
  where
    by : (b : Bool) → test y ≡ b → (count_by test xs ≤ 1 → find test xs ≡ Some x) → find test (y ∷ xs) ≡ Some x
    by true is rest = absurd (omega (arith, once, count_yes test y xs is, counted_there test xs k x at passes))
    by false is rest = find_no test y xs is ∙ rest (omega (arith, once, count_no test y xs is))

-- ---- drawn terminals are those of a list

at_most_one : (b : Bool) → (if b then 1 else 0) ≤ 1
at_most_one true = omega arith
at_most_one false = omega arith

-- the line of a net's terminal, in file order
record IsPlaced (lines : List DrawnTerminal) (line : DrawnTerminal) : Type 0 where
  place : ℕ
  at : slice_get lines place ≡ Some line

placed_from : (i : ℕ) (terminals : List (Option Point)) (k : ℕ) (line : DrawnTerminal) → line.net.0 ≡ i + k → get_or terminals k None ≡ Some (centre_of line)
    → IsPlaced (terminals_from i terminals) line
unfolding terminals_from
placed_from i [] k line net is = absurd (let none : None ≡ Some (centre_of line) = is in cc)
placed_from i (None ∷ others) zero line net is = absurd (let none : None ≡ Some (centre_of line) = is in cc)
placed_from i (Some centre ∷ others) zero line net is =
    let number : i ≡ line.net.0 = omega (arith, net) in
    let same : centre ≡ centre_of line = same_Some centre (centre_of line) is in
    record { place = 0; at = λ j. Some (record { net = record { 0 = number j }; x = (same j).x; y = (same j).y }) }
placed_from i (None ∷ others) (suc k) line net is = placed_from (i + 1) others k line (omega (arith, net)) is
placed_from i (Some centre ∷ others) (suc k) line net is =
    let rest = placed_from (i + 1) others k line (omega (arith, net)) is in
    record { place = suc rest.place; at = rest.at }

-- each line of a drawing of terminals stands among their lines in file order
line_placed : (p : Netlist) (drawing : Drawing) (placed : Placed) → AreNetsOf p drawing → Draws p drawing placed → (k : ℕ) (line : DrawnTerminal)
    → slice_get drawing.terminals k ≡ Some line → IsPlaced (terminals_from 0 placed.terminals) line
line_placed p drawing placed nets draws k line at =
    let within : line.net.0 < length p.nets = at_each (λ (l : DrawnTerminal). l.net.0 < length p.nets) drawing.terminals k line nets at in
    let once = at_most_one (is_some (terminal_at placed.terminals line.net.0)) in
    let found = only_found (is_net line.net.0) drawing.terminals k line at (eq-eqb line.net.0 line.net.0 refl) (omega (arith, once, draws.terminals_once line.net.0 within)) in
    let terminal : terminal_at placed.terminals line.net.0 ≡ Some (centre_of line) = sym (draws.terminals_are line.net.0 within) ∙ ap (option_map centre_of) found in
    placed_from 0 placed.terminals line.net.0 line (omega arith) terminal

-- ---- the rules for terminals, whatever the order of lines

drawn_edges : (p : Netlist) (drawing : Drawing) (placed : Placed) → AreNetsOf p drawing → Draws p drawing placed → (net : ℕ) → KeepsFromEdges p (drawn_of placed) net
    → KeepsFromEdges p drawing net
drawn_edges p drawing placed nets draws net keeps k d below =
    let line = get_or drawing.terminals k d in
    let there = line_placed p drawing placed nets draws k line (slice_get-get_or drawing.terminals k d below) in
    at_each (λ (l : DrawnTerminal). l.net.0 ≡ net → KeepsEdges p.plan.frame p.plan.terminal (centre_of l)) (terminals_from 0 placed.terminals) there.place line keeps there.at

drawn_apart : (p : Netlist) (drawing : Drawing) (placed : Placed) → AreNetsOf p drawing → Draws p drawing placed → (net : ℕ) → KeepsFromOthers p (drawn_of placed) net
    → KeepsFromOthers p drawing net
drawn_apart p drawing placed nets draws net keeps k d below same j e inside =
    let line = get_or drawing.terminals k d in
    let other = get_or drawing.terminals j e in
    let there = line_placed p drawing placed nets draws k line (slice_get-get_or drawing.terminals k d below) in
    let beside = line_placed p drawing placed nets draws j other (slice_get-get_or drawing.terminals j e inside) in
    let all = at_each (λ (l : DrawnTerminal). l.net.0 ≡ net → All (λ (o : DrawnTerminal). o.net.0 ≢ net → AreApart p.plan.terminal (centre_of l) (centre_of o)) (terminals_from 0 placed.terminals))
    (terminals_from 0 placed.terminals) there.place line keeps there.at same in
    at_each (λ (o : DrawnTerminal). o.net.0 ≢ net → AreApart p.plan.terminal (centre_of line) (centre_of o)) (terminals_from 0 placed.terminals) beside.place other all beside.at

-- the placement's drawing in file order is legal
legal_in_order : (p : Netlist) (grid : Slots) (placed : Placed) → IsPlan p.plan → IsGrid p.plan.frame p.plan.terminal grid → IsRightAnswer p grid placed
    → IsLegalAt p (drawn_of placed) (places_of placed)
legal_in_order p grid placed plan is_grid right =
    subst (IsLegalAt p (drawn_of placed))
    (places_in_drawing (places_of placed) placed.terminals (length p.cells) (length-map placed.spots place_of ∙ right.of_problem.cells))
    (in_order_is_legal p grid placed plan is_grid right.of_problem right.agree right.in_order right.rules right.on_cuts right.on_slots)

-- Each drawing of such a placement, of the problem's nets alone, is legal.
pub drawn_legal : (p : Netlist) (grid : Slots) (placed : Placed) (drawing : Drawing) → IsPlan p.plan → IsGrid p.plan.frame p.plan.terminal grid → IsRightAnswer p grid placed
    → AreNetsOf p drawing → Draws p drawing placed → IsLegal p drawing
drawn_legal p grid placed drawing plan is_grid right nets draws =
    let legal = legal_in_order p grid placed plan is_grid right in
    subst (IsLegalAt p drawing) (sym draws.places_are) (record {
      once = draws.once;
      on_segments = legal.on_segments;
      heights = legal.heights;
      clear = legal.clear;
      top_percent = legal.top_percent;
      bottom_percent = legal.bottom_percent;
      terminals = λ net below. draws.terminals_once net below ∙ ap (λ (b : Bool). if b then 1 else 0) (right.on_cuts net below);
      edges = λ net below. drawn_edges p drawing placed nets draws net (legal.edges net below);
      apart = λ net below. drawn_apart p drawing placed nets draws net (legal.apart net below);
    })
