-- The terminals of a drawing by nets, and those of nets that the problem does not have.
use Rattle.std.specs.Prelude.{◌≡◌, ℕ, ◌<◌, ◌≤◌, nat_le, Bool, true, false, List, length, map, filter, find, All, Option, None, IfSome, get_or, if◌then◌else◌}
use Rattle.std.specs.List.{count_by}
use Rattle.std.specs.Option.{option_map}
use Rattle.fp_base.specs.declared.ids.Die.{Die}
use Rattle.fp_base.specs.declared.ids.Point.{Point}
use Rattle.fp_tech.specs.declared.dies.Frame.{Frame}
use Rattle.fp_tech.specs.declared.dies.TermSpec.{TermSpec}
use Rattle.fp_tech.specs.Slots.{KeepsEdges, AreApart}
use Rattle.fp_netlist.specs.Netlist.{Netlist}
use Rattle.fp_place.specs.declared.drawn.DrawnTerminal.{DrawnTerminal}
use Rattle.fp_place.specs.declared.seen.Seen.{Seen}
use Rattle.fp_place.specs.declared.seen.Seen.TheVariants.{Never, Once, Often}
use Rattle.fp_place.specs.Cut.{is_cut}
use Rattle.fp_place.specs.Places.{Place}
use Rattle.fp_place.specs.Drawing.{Drawing, is_net, centre_of}
use Rattle.fp_place.specs.Closeness.{IsApart}
use Rattle.fp_place.specs.FirstFaults.{HoldBelow}
use Rattle.fp_place.specs.Placed.{IsCentre}

-- a cut net is seen once, every other net never
abbrev pub is_joined : Seen → Bool → Bool
is_joined Never cut = (if cut then false else true)
is_joined (Once at) cut = cut
is_joined Often cut = false

-- a net has the terminal that its cells call for
abbrev pub IsJoined : Netlist → List Die → List DrawnTerminal → ℕ → Type 0
IsJoined p dies lines net = count_by (is_net net) lines ≡ (if is_cut p dies net then 1 else 0)

-- the centre of each net's terminal, of which there is at most one
pub record AreCentres (nets : ℕ) (lines : List DrawnTerminal) (centres : List (Option Point)) : Type 0 where
  pub many : length centres ≡ nets
  pub centre : (net : ℕ) → net < nets → get_or centres net None ≡ option_map centre_of (find (is_net net) lines)
  pub one : (net : ℕ) → net < nets → count_by (is_net net) lines ≤ 1

pub record AreJoined (p : Netlist) (dies : List Die) (lines : List DrawnTerminal) (centres : List (Option Point)) : Type 0 where
  pub are : AreCentres (length p.nets) lines centres
  pub joined : (net : ℕ) → net < length p.nets → IsJoined p dies lines net

-- a net's terminal, if it has one, keeps its distance from the edges
abbrev pub CentreKeepsEdges : Frame → TermSpec → List (Option Point) → ℕ → Type 0
CentreKeepsEdges frame terminal centres net = IfSome (get_or centres net None) (KeepsEdges frame terminal)

-- the centres of the terminals of nets past the last
abbrev pub strangers : ℕ → List DrawnTerminal → List Point
strangers nets lines = map centre_of (filter (λ line. nat_le nets line.net.0) lines)

-- a net's terminal, if it has one, is apart from all of these
abbrev pub IsApartFrom : TermSpec → List Point → List (Option Point) → ℕ → Type 0
IsApartFrom terminal others centres net = IfSome (get_or centres net None) (λ centre. All (AreApart terminal centre) others)

-- centres are in range
abbrev pub AreInRange : List (Option Point) → Type 0
AreInRange centres = All (λ centre. IfSome centre IsCentre) centres

-- it is apart from those of the other nets and of nets past the last
abbrev pub IsAlone : Netlist → List DrawnTerminal → List (Option Point) → ℕ → Type 0
IsAlone p lines centres net = IsApart p.plan.terminal centres net × IsApartFrom p.plan.terminal (strangers (length p.nets) lines) centres net

-- the centres of the drawn terminals, where rules 7 to 9 hold
pub record AreTerminals (p : Netlist) (drawing : Drawing) (places : List Place) (centres : List (Option Point)) : Type 0 where
  pub are : AreCentres (length p.nets) drawing.terminals centres
  pub in_range : AreInRange centres
  pub holds : HoldBelow p drawing places 7 → HoldBelow p drawing places 10
