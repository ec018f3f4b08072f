use Rattle.std.proofs.Common.{◌++◌, ◌∙◌, ap, sym, append_assoc}
use Rattle.std.specs.Prelude.{codes, decimal}
use Rattle.faceplace.proofs.report.stop_report.Goals as goal

pub returns-in_ok-report-in-NoSlots : goal.returns-in_ok-report-in-NoSlots
returns-in_ok-report-in-NoSlots c = rw c.in-NoSlots.is (ap (λ v. v.items) c.into_bytes.ensures.value ∙ c.in_ok-report-in-NoSlots.ensures.ok
    ∙ ap (λ rest. codes "slots " ++ rest) (sym (append_assoc (decimal c.in-NoSlots.cut) (codes " ") (decimal c.in-NoSlots.slots))))
