-- Cut nets in file order, and how long each is with its terminal somewhere.
use Rattle.std.specs.Prelude.{◌≡◌, ℕ, zero, suc, List, [], ◌++◌, Option, Some, None, ℤ, pos, ◌+ℤ◌, ◌-ℤ◌, ◌≤ℤ◌, ◌<ℤ◌, ◌<◌, ◌≤◌, ◌^◌}
use Rattle.std.specs.Int.{int_min, int_max}
use Rattle.std.specs.Option.{option_to_list}
use Rattle.fp_base.specs.declared.ids.NetId.{NetId}
use Rattle.fp_base.specs.declared.ids.Point.{Point}
use Rattle.fp_netlist.specs.Netlist.{Netlist}
use Rattle.fp_place.specs.Places.{Place}
use Rattle.fp_score.specs.declared.reach.Reach.{Reach}
use Rattle.fp_score.specs.declared.reaches.Reaches.{Reaches}
use Rattle.fp_score.specs.Reaches.{pins_reached, IsNearReach}
use Rattle.fp_slots.specs.declared.cut_net.CutNet.{CutNet}

-- a net that has pins on both dies
abbrev pub on_both : NetId → Option Reach → Option Reach → Option CutNet
on_both net None bottom = None
on_both net (Some top) None = None
on_both net (Some top) (Some bottom) = Some (record { net = net; top = top; bottom = bottom })

abbrev pub cut_net_of : NetId → Reaches → Option CutNet
cut_net_of net reaches = on_both net reaches.top reaches.bottom

-- the cut ones of the first nets
unfoldable pub cut_nets : Netlist → List Place → ℕ → List CutNet
cut_nets p places zero = []
cut_nets p places (suc net) = cut_nets p places net ++ option_to_list (cut_net_of (record { 0 = net }) (pins_reached p places net))

-- how long a net is in x with its terminal at that x, both dies added
abbrev pub width_with : CutNet → ℤ → ℤ
width_with it x = (int_max it.top.right x -ℤ int_min it.top.left x) +ℤ (int_max it.bottom.right x -ℤ int_min it.bottom.left x)

-- how long a net is in y with its terminal at that y, both dies added
abbrev pub height_with : CutNet → ℤ → ℤ
height_with it y = (int_max it.top.high y -ℤ int_min it.top.low y) +ℤ (int_max it.bottom.high y -ℤ int_min it.bottom.low y)

-- how long a net is with its terminal there
abbrev pub length_with : CutNet → Point → ℤ
length_with it centre = width_with it centre.x +ℤ height_with it centre.y

-- the least length in x over all whole-number x
pub record IsLeastWidth (it : CutNet) (width : ℤ) : Type 0 where
  pub attained : (x : ℤ) × (width_with it x ≡ width)
  pub least : (x : ℤ) → width ≤ℤ width_with it x

-- the length with the terminal at that y, and in x the least
abbrev pub IsLeastAt : CutNet → ℤ → ℕ → Type 0
IsLeastAt it y floor = (width : ℤ) × IsLeastWidth it width × (pos floor ≡ height_with it y +ℤ width)

-- an x at which the length in x is least
abbrev pub best_x : CutNet → ℤ
best_x it = int_max it.top.left it.bottom.left

-- a bounding box and a net with x and y exchanged
abbrev pub turned_reach : Reach → Reach
turned_reach reach = record { left = reach.low; right = reach.high; low = reach.left; high = reach.right }

abbrev pub turned : CutNet → CutNet
turned it = record { net = it.net; top = turned_reach it.top; bottom = turned_reach it.bottom }

-- both bounding boxes are in range
pub record IsNearNet (it : CutNet) : Type 0 where
  pub top : IsNearReach it.top
  pub bottom : IsNearReach it.bottom

-- how long a net is with its terminal at that y, without what the terminal's x adds
abbrev pub fixed_length : CutNet → ℤ → ℤ
fixed_length it y = ((it.top.right -ℤ it.top.left) +ℤ (it.bottom.right -ℤ it.bottom.left)) +ℤ height_with it y

-- how much wider a bounding box gets with a terminal at that x
abbrev pub added : Reach → ℤ → ℤ
added reach x = (int_max reach.right x -ℤ int_min reach.left x) -ℤ (reach.right -ℤ reach.left)

-- with what a terminal's x adds on either die alone, the net is shorter than the limit
pub record IsShortOnEach (it : CutNet) (centre : Point) (limit : ℕ) : Type 0 where
  pub top : (fixed_length it centre.y +ℤ added it.top centre.x) <ℤ pos limit
  pub bottom : (fixed_length it centre.y +ℤ added it.bottom centre.x) <ℤ pos limit

-- a terminal at that y makes the net shorter than the limit nowhere but from `start` up to, without, `end`, and there it does on either die alone
pub record IsWindow (it : CutNet) (y : ℤ) (limit start end : ℕ) : Type 0 where
  pub before : (x : ℕ) → x < start → pos limit ≤ℤ length_with it (record { x = pos x; y = y })
  pub after : (x : ℕ) → x ≤ 2 ^ 31 → end ≤ x → pos limit ≤ℤ length_with it (record { x = pos x; y = y })
  pub inside : (x : ℕ) → start ≤ x → x < end → IsShortOnEach it (record { x = pos x; y = y }) limit
