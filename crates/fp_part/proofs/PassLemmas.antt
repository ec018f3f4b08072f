-- One pass among the passes.
use Rattle.std.specs.Prelude.{◌≡◌, ℕ, ◌<◌, ◌≤◌, List}
use Rattle.std.proofs.Common.{ap, sym, ◌∙◌, arith}
use Rattle.fp_base.specs.declared.ids.Die.{Die}
use Rattle.fp_netlist.specs.Netlist.{Netlist}
use Rattle.fp_place.specs.Cut.{cut}
use Rattle.fp_place.specs.Settled.{best, settled}
use Rattle.fp_part.specs.SettledLaws.{best_at_most, best_same, settled_next, settled_as_they_are}

-- a pass leads from dies to those that it keeps, and the numbers of nets that both cut are known
pub record IsPassed (p : Netlist) (dies next : List Die) (before now : ℕ) : Type 0 where
  pub before_is : before ≡ cut p dies
  pub now_is : now ≡ cut p next
  pub next_is : next ≡ best p dies

pub no_more : (p : Netlist) (dies next : List Die) (before now : ℕ) → IsPassed p dies next before now → now ≤ before
no_more p dies next before now is = omega (arith, is.before_is, is.now_is, ap (cut p) is.next_is, best_at_most p dies)

-- a pass that lowers the number goes before the others
pub passes_on : (p : Netlist) (dies next : List Die) (before now : ℕ) → IsPassed p dies next before now → now < before → settled p next ≡ settled p dies
passes_on p dies next before now is less =
    ap (settled p) is.next_is ∙ sym (settled_next p dies (omega (arith, is.before_is, is.now_is, ap (cut p) is.next_is, less)))

-- one that does not was the last, and changed nothing
pub last_pass : (p : Netlist) (dies next : List Die) (before now : ℕ) → IsPassed p dies next before now → now ≡ before → next ≡ settled p dies
last_pass p dies next before now is same =
    let no_less : cut p dies ≤ cut p (best p dies) = omega (arith, is.before_is, is.now_is, ap (cut p) is.next_is, same) in
    is.next_is ∙ best_same p dies no_less ∙ sym (settled_as_they_are p dies no_less)
