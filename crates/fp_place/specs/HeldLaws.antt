-- Laws of the areas that are held while cells are put on dies one by one.
use Rattle.std.specs.Prelude.{◌≡◌, ℕ, suc, ◌+◌, ◌<◌, ◌≤◌, ◌&&◌, List, length, drop, IsTrue}
use Rattle.std.proofs.Common.{refl, ap, subst, ◌∙◌, drop-cons, arith}
use Rattle.std.proofs.lemmas.List.{at_drop_all}
use Rattle.std.proofs.lemmas.Bool.{and_from}
use Rattle.fp_base.specs.declared.ids.Die.{Die}
use Rattle.fp_base.specs.declared.ids.Die.TheVariants.{Top, Bottom}
use Rattle.fp_netlist.specs.Netlist.{Netlist}
use Rattle.fp_netlist.specs.Points.{area}
use Rattle.fp_place.specs.Places.{die_at}
use Rattle.fp_place.specs.Areas.{fits, keeps, area_from, area_on}
use Rattle.fp_place.specs.Held.{Held, held_on, held_by, with_area, has_room}
use Rattle.fp_place.specs.MoveLaws.{area_if, keeps_less}
use Rattle.fp_place.specs.Settled.{KeepRules}

-- the areas of the cells before a number are held
abbrev pub AreHeldBelow : Netlist → List Die → Held → ℕ → Type 0
AreHeldBelow p dies held cell = (die : Die) → held_on held die + area_from p die cell (drop cell dies) ≡ area_on p die dies

-- one more cell
area_next : (p : Netlist) (die : Die) (dies : List Die) (cell : ℕ) → cell < length dies
    → area_from p die cell (drop cell dies) ≡ area_if p die cell (die_at dies cell) + area_from p die (cell + 1) (drop (cell + 1) dies)
unfolding area_from
area_next p die dies cell below =
    let next : suc cell ≡ cell + 1 = omega arith in
    ap (area_from p die cell) (drop-cons dies cell Top below)
    ∙ ap (λ j. area_if p die cell (die_at dies cell) + area_from p die (cell + 1) (drop j dies)) next

own_area : (p : Netlist) (die : Die) (cell : ℕ) → area_if p die cell die ≡ area p cell die
own_area p Top cell = refl
own_area p Bottom cell = refl

held_next : (p : Netlist) (held : Held) (on die : Die) (cell : ℕ) → held_on (with_area held on (area p cell on)) die ≡ held_on held die + area_if p die cell on
held_next p held Top Top cell = refl
held_next p held Top Bottom cell = omega arith
held_next p held Bottom Top cell = omega arith
held_next p held Bottom Bottom cell = refl

pub more_held : (p : Netlist) (dies : List Die) (held next : Held) (cell : ℕ) → AreHeldBelow p dies held cell → cell < length dies
    → next ≡ with_area held (die_at dies cell) (area p cell (die_at dies cell)) → AreHeldBelow p dies next (cell + 1)
more_held p dies held next cell before below is die =
    let added : held_on next die ≡ held_on held die + area_if p die cell (die_at dies cell) =
    ap (λ h. held_on h die) is ∙ held_next p held (die_at dies cell) die cell in
    omega (arith, added, before die, area_next p die dies cell below)

-- where all cells keep a percent, there is room for the next one
pub room_below : (p : Netlist) (dies : List Die) (held : Held) (cell : ℕ) → KeepRules p dies → AreHeldBelow p dies held cell → cell < length dies
    → IsTrue (has_room p held cell (die_at dies cell))
room_below p dies held cell rules before below =
    let die = die_at dies cell in
    keeps_less p.plan die (held_on held die + area p cell die) (area_on p die dies)
    (omega (arith, before die, area_next p die dies cell below, own_area p die cell)) (rules.percents die)

-- where dies keep the rules, the next cell fits its die, which has room for it
pub next_taken : (p : Netlist) (dies : List Die) (held : Held) (cell : ℕ) → KeepRules p dies → AreHeldBelow p dies held cell → cell < length dies
    → IsTrue (fits p cell (die_at dies cell) && has_room p held cell (die_at dies cell))
next_taken p dies held cell rules before below =
    and_from (fits p cell (die_at dies cell)) (has_room p held cell (die_at dies cell)) (rules.fitting cell (omega (arith, below, rules.cells)))
    (room_below p dies held cell rules before below)

same_held : (a b : Held) → a.top ≡ b.top → a.bottom ≡ b.bottom → a ≡ b
same_held a b top bottom = ap (λ n. record a { top = n }) top ∙ ap (λ n. record b { bottom = n }) bottom

pub all_held : (p : Netlist) (dies : List Die) (held : Held) (cell : ℕ) → AreHeldBelow p dies held cell → length dies ≤ cell → held ≡ held_by p dies
unfolding area_from
all_held p dies held cell before past = same_held held (held_by p dies) (whole Top) (whole Bottom)
  where
    whole : (die : Die) → held_on held die ≡ area_on p die dies
    whole die = omega (arith, before die, at_drop_all (area_from p die cell) dies cell past)

-- a cell for which there is room leaves both percents kept
pub still_kept : (p : Netlist) (held : Held) (cell : ℕ) (on die : Die) → IsTrue (has_room p held cell on) → IsTrue (keeps p.plan die (held_on held die))
    → IsTrue (keeps p.plan die (held_on (with_area held on (area p cell on)) die))
still_kept p held cell Top Top room kept = room
still_kept p held cell Top Bottom room kept = kept
still_kept p held cell Bottom Top room kept = kept
still_kept p held cell Bottom Bottom room kept = room

-- cells that were put on both dies one by one, each where it fits and has room, keep the rules
pub all_kept : (p : Netlist) (dies : List Die) (held : Held) (cell : ℕ) → length dies ≡ length p.cells → length dies ≤ cell → AreHeldBelow p dies held cell
    → ((k : ℕ) → k < cell → IsTrue (fits p k (die_at dies k))) → ((die : Die) → IsTrue (keeps p.plan die (held_on held die))) → KeepRules p dies
all_kept p dies held cell many past all fit kept = record {
  cells = many;
  fitting = λ k below. fit k (omega (arith, below, many, past));
  percents = λ die. by die (subst (λ h. IsTrue (keeps p.plan die (held_on h die))) (all_held p dies held cell all past) (kept die));
}
  where
    by : (die : Die) → IsTrue (keeps p.plan die (held_on (held_by p dies) die)) → IsTrue (keeps p.plan die (area_on p die dies))
    by Top is = is
    by Bottom is = is
