-- What a contract sees of a folder of real files.
use Rattle.std.specs.Prelude.{ℕ, List, Option, refl}
use Rattle.std.specs.Coded.{Coded, code_by, coded×, coded_ℕ, coded_list, coded_option}

-- the name that was last created, and how many calls failed
pub record DirState : Type 0 where
  pub made : Option (List ℕ)
  pub faults : ℕ

abbrev pub dir_code : Coded DirState
dir_code =
    code_by (Option (List ℕ) × ℕ) (coded× (coded_option (coded_list coded_ℕ)) coded_ℕ)
    (λ d. (d.made, d.faults)) (λ p. record { made = p.0; faults = p.1 }) (λ _. refl)
