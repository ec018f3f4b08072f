-- The cut nets, one after the other.
use Rattle.std.proofs.Common.{◌≡◌, ℕ, zero, suc, ◌+◌, ◌<◌, ◌≤◌, Bool, true, false, ◌&&◌, ◌||◌, cond, if◌then◌else◌, List, [], ◌∷◌, ◌++◌, length, get_or, map, filter, is_some, Option, Some, None, IfSome, inl, inr, refl, sym, ap, subst, ◌∙◌, arith}
use Rattle.std.specs.List.{list_any}
use Rattle.std.specs.Option.{option_to_list}
use Rattle.std.proofs.lemmas.Bool.{cases_lt}
use Rattle.std.proofs.lemmas.List.{length-append, append-nil}
use Rattle.std.proofs.lemmas.Option.{same_Some}
use Rattle.std.proofs.Math.ListN.{get_or-append}
use Rattle.std.proofs.Math.Seq.{get_or-append_seam}
use Rattle.fp_base.specs.declared.ids.Die.{Die}
use Rattle.fp_base.specs.declared.ids.Die.TheVariants.{Top, Bottom}
use Rattle.fp_base.specs.declared.ids.NetId.{NetId}
use Rattle.fp_netlist.specs.Netlist.{Netlist, conns_of_net}
use Rattle.fp_place.specs.Cut.{is_on, touches, is_cut, cut_below}
use Rattle.fp_place.specs.Places.{Place, dies_of}
use Rattle.fp_score.specs.declared.reach.Reach.{Reach}
use Rattle.fp_score.specs.declared.reaches.Reaches.{Reaches}
use Rattle.fp_score.specs.Score.{reach_of, point, pins_on}
use Rattle.fp_score.specs.Reaches.{reach_after, pins_reached, IsNearReach, AreNear}
use Rattle.fp_score.specs.ScoreLaws.{after_with}
use Rattle.fp_slots.specs.declared.cut_net.CutNet.{CutNet}
use Rattle.fp_slots.specs.CutNets.{on_both, cut_net_of, cut_nets, IsNearNet}
use Rattle.fp_slots.specs.Table.{no_net, IsRowOf}

-- pins have a bounding box on a die exactly where one of them is on it
reached : (p : Netlist) (places : List Place) (die : Die) (conns : List ℕ)
    → is_some (reach_after None (map (point p places) (filter (is_on p (dies_of places) die) conns))) ≡ list_any (is_on p (dies_of places) die) conns
unfolding reach_after
reached p places die [] = refl
reached p places die (conn ∷ conns) = by (is_on p (dies_of places) die conn) (reached p places die conns)
  where
    left : List ℕ
    left = filter (is_on p (dies_of places) die) conns

    by : (b : Bool) → is_some (reach_after None (map (point p places) left)) ≡ list_any (is_on p (dies_of places) die) conns
        → is_some (reach_after None (map (point p places) (cond b (conn ∷ left) left))) ≡ (b || list_any (is_on p (dies_of places) die) conns)
    by true rest = ap is_some (after_with (reach_of (point p places conn)) (map (point p places) left))
    by false rest = rest

reached_die : (p : Netlist) (places : List Place) (die : Die) (net : ℕ) → is_some (reach_after None (pins_on p places die net)) ≡ touches p (dies_of places) die net
unfolding pins_on
reached_die p places die net = reached p places die (conns_of_net p net)

-- a net is cut exactly where its pins have a bounding box on both dies
both_reached : (net : NetId) (top bottom : Option Reach) → is_some (on_both net top bottom) ≡ (is_some top && is_some bottom)
both_reached net None bottom = refl
both_reached net (Some top) None = refl
both_reached net (Some top) (Some bottom) = refl

abbrev pub net_at : Netlist → List Place → ℕ → Option CutNet
net_at p places net = cut_net_of (record { 0 = net }) (pins_reached p places net)

some_where_cut : (p : Netlist) (places : List Place) (net : ℕ) → is_some (net_at p places net) ≡ is_cut p (dies_of places) net
unfolding is_cut
some_where_cut p places net =
    both_reached (record { 0 = net }) (pins_reached p places net).top (pins_reached p places net).bottom
    ∙ (λ i. reached_die p places Top net i && reached_die p places Bottom net i)

-- what a net is whose pins have a bounding box on both dies
record IsOnBoth (net : NetId) (top bottom : Option Reach) (it : CutNet) : Type 0 where
  net_is : it.net ≡ net
  top_is : top ≡ Some it.top
  bottom_is : bottom ≡ Some it.bottom

parts : (net : NetId) (top bottom : Option Reach) (it : CutNet) → on_both net top bottom ≡ Some it → IsOnBoth net top bottom it
parts net None bottom it e = absurd (let nothing : None ≡ Some it = e in cc)
parts net (Some top) None it e = absurd (let nothing : None ≡ Some it = e in cc)
parts net (Some top) (Some bottom) it e =
    let same = same_Some (record { net = net; top = top; bottom = bottom }) it e in
    record {
      net_is = sym (ap (λ (c : CutNet). c.net) same);
      top_is = ap (λ (c : CutNet). Some c.top) same;
      bottom_is = ap (λ (c : CutNet). Some c.bottom) same;
    }

-- such a net is the row of its number among the cut nets
row_is : (p : Netlist) (places : List Place) (net : ℕ) (it : CutNet) → net < length p.nets → net_at p places net ≡ Some it
    → IsRowOf p places (cut_below p (dies_of places) net) it
row_is p places net it below e =
    let is = parts (record { 0 = net }) (pins_reached p places net).top (pins_reached p places net).bottom it e in
    let same : net ≡ it.net.0 = ap (λ (id : NetId). id.0) (sym is.net_is) in
    record {
      is_cut_net = ap (is_cut p (dies_of places)) (sym same) ∙ sym (some_where_cut p places net) ∙ ap is_some e;
      in_order = ap (cut_below p (dies_of places)) (sym same);
      within = subst (λ n. n < length p.nets) same below;
      reaches = ap (pins_reached p places) (sym same) ∙ (λ i. record { top = is.top_is i; bottom = is.bottom_is i });
    }

-- the rows with one net more
pub more : (p : Netlist) (places : List Place) (net : ℕ) (reaches : Reaches) (next : Option CutNet) (rows new : List CutNet) → rows ≡ cut_nets p places net
    → reaches ≡ pins_reached p places net → next ≡ cut_net_of (record { 0 = net }) reaches → new ≡ rows ++ option_to_list next → new ≡ cut_nets p places (net + 1)
unfolding cut_nets
more p places net reaches next rows new so_far are is grown =
    grown ∙ (λ i. so_far i ++ option_to_list ((is ∙ ap (cut_net_of (record { 0 = net })) are) i))
    ∙ ap (cut_nets p places) (let up : suc net ≡ net + 1 = omega arith in up)

-- there are as many rows as cut nets
pub length-cut_nets : (p : Netlist) (places : List Place) (nets : ℕ) → length (cut_nets p places nets) ≡ cut_below p (dies_of places) nets
unfolding cut_nets cut_below
length-cut_nets p places zero = refl
length-cut_nets p places (suc net) =
    length-append (cut_nets p places net) (option_to_list (net_at p places net))
    ∙ (λ i. length-cut_nets p places net i + one (net_at p places net) i)
    ∙ ap (λ b. cut_below p (dies_of places) net + (if b then 1 else 0)) (some_where_cut p places net)
  where
    one : (o : Option CutNet) → length (option_to_list o) ≡ (if is_some o then 1 else 0)
    one None = refl
    one (Some it) = refl

-- each row is a cut net
pub rows_are : (p : Netlist) (places : List Place) (nets : ℕ) → nets ≤ length p.nets → (row : ℕ) → row < length (cut_nets p places nets)
    → IsRowOf p places row (get_or (cut_nets p places nets) row no_net)
unfolding cut_nets
rows_are p places zero few row within = absurd (omega arith)
rows_are p places (suc net) few row within = by (net_at p places net) refl (rows_are p places net (omega arith) row) within
  where
    before : List CutNet
    before = cut_nets p places net

    by : (o : Option CutNet) → net_at p places net ≡ o → (row < length before → IsRowOf p places row (get_or before row no_net))
        → row < length (before ++ option_to_list o) → IsRowOf p places row (get_or (before ++ option_to_list o) row no_net)
    by None is earlier within =
        subst (λ (rows : List CutNet). IsRowOf p places row (get_or rows row no_net)) (sym (append-nil before)) (earlier (omega (arith, length-append before [])))
    by (Some it) is earlier within =
        elim (cases_lt row (length before)) [
          | inl less ↦ subst (IsRowOf p places row) (sym (get_or-append before (it ∷ []) no_net row less)) (earlier less)
          | inr more ↦ (let last : length before ≡ row = omega (arith, length-append before (it ∷ [])) in
              let there : get_or (before ++ it ∷ []) row no_net ≡ it = ap (λ n. get_or (before ++ it ∷ []) n no_net) (sym last) ∙ get_or-append_seam before it [] no_net in
              let count : cut_below p (dies_of places) net ≡ row = sym (length-cut_nets p places net) ∙ last in
              subst (IsRowOf p places row) (sym there) (subst (λ n. IsRowOf p places n it) count (row_is p places net it (omega arith) is)))
        ]

-- the bounding boxes of a cut net are in range
pub cut_net_near : (net : NetId) (reaches : Reaches) (it : CutNet) → AreNear reaches → Some it ≡ cut_net_of net reaches → IsNearNet it
cut_net_near net reaches it near is =
    let both = parts net reaches.top reaches.bottom it (sym is) in
    record {
      top = subst (λ (r : Option Reach). IfSome r IsNearReach) both.top_is near.top;
      bottom = subst (λ (r : Option Reach). IfSome r IsNearReach) both.bottom_is near.bottom;
    }

-- there are no more cut nets than nets
cut_few : (p : Netlist) (dies : List Die) (nets : ℕ) → cut_below p dies nets ≤ nets
unfolding cut_below
cut_few p dies zero = omega arith
cut_few p dies (suc net) = added (is_cut p dies net) (cut_few p dies net)
  where
    added : (b : Bool) → cut_below p dies net ≤ net → cut_below p dies net + (if b then 1 else 0) ≤ suc net
    added true few = omega arith
    added false few = omega arith

pub few_cut : (p : Netlist) (places : List Place) (nets : ℕ) → length (cut_nets p places nets) ≤ nets
few_cut p places nets = omega (arith, length-cut_nets p places nets, cut_few p (dies_of places) nets)
