-- Lemmas of terminals as they are set net by net.
use Rattle.std.specs.Prelude.{◌≡◌, ℕ, zero, suc, ◌+◌, ◌<◌, ◌≤◌, Bool, true, false, if◌then◌else◌, List, length, get_or, set, replicate, Option, Some, None, ◌⊎◌}
use Rattle.std.proofs.Common.{refl, sym, ap, subst, ◌∙◌, arith, inl, inr}
use Rattle.std.proofs.lemmas.List.{length-set, length-replicate, get_or-set_same, get_or-set_other}
use Rattle.std.proofs.lemmas.List.FromFn.{fill_by_all}
use Rattle.std.proofs.lemmas.Bool.{cases_eq}
use Rattle.fp_base.specs.declared.ids.Die.{Die}
use Rattle.fp_base.specs.declared.ids.Point.{Point}
use Rattle.fp_tech.specs.Slots.{Slots, slot_count, centre_of}
use Rattle.fp_netlist.specs.Netlist.{Netlist}
use Rattle.fp_place.specs.Cut.{is_cut, cut_below, cut}
use Rattle.fp_place.specs.CutLaws.{cut_counted, cut_rises}
use Rattle.fp_place.specs.Placed.{Placed}
use Rattle.fp_score.specs.FirstFit.{terminal_of, fit_terminals}
use Rattle.fp_seed.proofs.FilledSegmentLemmas.{get_or-alike}

abbrev pub with_list : Placed → List (Option Point) → Placed
with_list placed terminals = record placed { terminals = terminals }

-- the first nets have their terminals
pub record AreSet (p : Netlist) (grid : Slots) (dies : List Die) (before now : Placed) (net slot : ℕ) : Type 0 where
  pub slot_is : slot ≡ cut_below p dies net
  pub rest_is : now ≡ record before { terminals = now.terminals }
  pub many : length now.terminals ≡ length p.nets
  pub done : (k : ℕ) → k < net → get_or now.terminals k None ≡ terminal_of p grid dies k
  pub waits : (k : ℕ) → net ≤ k → get_or now.terminals k None ≡ None

pub set_none : (p : Netlist) (grid : Slots) (dies : List Die) (before : Placed) → before.terminals ≡ replicate (length p.nets) None → AreSet p grid dies before before 0 0
unfolding cut_below
set_none p grid dies before bare = record {
  slot_is = refl;
  rest_is = refl;
  many = ap length bare ∙ length-replicate (length p.nets) None;
  done = λ k below. absurd (omega arith);
  waits = λ k past. ap (λ terminals. get_or terminals k None) bare ∙ get_or-alike (length p.nets) k None;
}

pub set_one : (p : Netlist) (grid : Slots) (dies : List Die) (before now after : Placed) (net slot : ℕ) → AreSet p grid dies before now net slot → net < length p.nets
    → is_cut p dies net ≡ true → after ≡ record now { terminals = set now.terminals net (Some (centre_of grid slot)) } → AreSet p grid dies before after (net + 1) (slot + 1)
set_one p grid dies before now after net slot are below cut_net is = record {
  slot_is = omega (arith, are.slot_is, cut_counted p dies net cut_net, next);
  rest_is = is ∙ ap (λ placed. with_list placed (set now.terminals net here)) are.rest_is ∙ ap (with_list before) (sym terminals_are);
  many = ap length terminals_are ∙ length-set now.terminals net here ∙ are.many;
  done = λ k before_next. ap (λ terminals. get_or terminals k None) terminals_are ∙ done k before_next (cases_eq k net);
  waits = λ k past. ap (λ terminals. get_or terminals k None) terminals_are ∙ get_or-set_other now.terminals net k here None (λ same. omega arith) ∙ are.waits k (omega arith);
}
  where
    here : Option Point
    here = Some (centre_of grid slot)

    next : cut_below p dies (suc net) ≡ cut_below p dies (net + 1)
    next = ap (cut_below p dies) (let same : suc net ≡ net + 1 = omega arith in same)

    terminals_are : after.terminals ≡ set now.terminals net here
    terminals_are = ap (λ (placed : Placed). placed.terminals) is

    done : (k : ℕ) → k < net + 1 → (k ≡ net) ⊎ (k ≡ net → ⊥) → get_or (set now.terminals net here) k None ≡ terminal_of p grid dies k
    done k before_next (inl same) =
        subst (λ n. get_or (set now.terminals net here) n None ≡ terminal_of p grid dies n) (sym same)
        (get_or-set_same now.terminals net here None (omega (arith, below, are.many)) ∙ ap (λ s. Some (centre_of grid s)) are.slot_is
        ∙ ap (λ b. if b then Some (centre_of grid (cut_below p dies net)) else None) (sym cut_net))
    done k before_next (inr other) =
        get_or-set_other now.terminals net k here None other ∙ are.done k (omega arith)

pub set_no : (p : Netlist) (grid : Slots) (dies : List Die) (before now : Placed) (net slot : ℕ) → AreSet p grid dies before now net slot
    → is_cut p dies net ≡ false → AreSet p grid dies before now (net + 1) slot
unfolding cut_below
set_no p grid dies before now net slot are whole = record {
  slot_is = omega (arith, are.slot_is, counted);
  rest_is = are.rest_is;
  many = are.many;
  done = λ k before_next. done k before_next (cases_eq k net);
  waits = λ k past. are.waits k (omega arith);
}
  where
    next : cut_below p dies (suc net) ≡ cut_below p dies (net + 1)
    next = ap (cut_below p dies) (let same : suc net ≡ net + 1 = omega arith in same)

    counted : cut_below p dies (net + 1) ≡ cut_below p dies net + 0
    counted = sym next ∙ ap (λ b. cut_below p dies net + (if b then 1 else 0)) whole

    done : (k : ℕ) → k < net + 1 → (k ≡ net) ⊎ (k ≡ net → ⊥) → get_or now.terminals k None ≡ terminal_of p grid dies k
    done k before_next (inl same) =
        subst (λ n. get_or now.terminals n None ≡ terminal_of p grid dies n) (sym same)
        (are.waits net (omega arith) ∙ ap (λ b. if b then Some (centre_of grid (cut_below p dies net)) else None) (sym whole))
    done k before_next (inr other) = are.done k (omega arith)

pub set_all : (p : Netlist) (grid : Slots) (dies : List Die) (before now : Placed) (net slot : ℕ) → AreSet p grid dies before now net slot → length p.nets ≤ net
    → now ≡ record before { terminals = fit_terminals p grid dies }
unfolding fit_terminals
set_all p grid dies before now net slot are all =
    are.rest_is ∙ ap (with_list before)
    (fill_by_all (terminal_of p grid dies) now.terminals (length p.nets) None are.many (λ k below. are.done k (omega arith)))

-- the slot of a cut net is one of the grid
pub slot_there : (p : Netlist) (grid : Slots) (dies : List Die) (before now : Placed) (net slot : ℕ) → AreSet p grid dies before now net slot → net < length p.nets
    → is_cut p dies net ≡ true → cut p dies ≤ slot_count grid → slot < slot_count grid
slot_there p grid dies before now net slot are below cut_net enough = omega (arith, are.slot_is, cut_rises p dies net (length p.nets) cut_net below)

-- the number of a cut net's slot is at most that of the net
cut_few : (p : Netlist) (dies : List Die) (net : ℕ) → cut_below p dies net ≤ net
unfolding cut_below
cut_few p dies zero = omega arith
cut_few p dies (suc net) = by (is_cut p dies net) (cut_few p dies net)
  where
    by : (b : Bool) → cut_below p dies net ≤ net → cut_below p dies net + (if b then 1 else 0) ≤ suc net
    by true few = omega arith
    by false few = omega arith

pub slot_small : (p : Netlist) (grid : Slots) (dies : List Die) (before now : Placed) (net slot : ℕ) → AreSet p grid dies before now net slot → slot ≤ net
slot_small p grid dies before now net slot are = omega (arith, are.slot_is, cut_few p dies net)
