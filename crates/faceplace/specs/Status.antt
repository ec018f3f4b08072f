-- The numbers of the statuses, and what a report leaves.
use Rattle.std.specs.Prelude.{◌≡◌, ◌⊎◌, ℕ, List, Option}
use Rattle.fp_base.specs.Faults.{Rose}
use Rattle.fp_base.specs.Files.{followed_by, FrontFollows}
use Rattle.faceplace.specs.declared.status.Status.{Status}
use Rattle.faceplace.specs.declared.status.Status.TheVariants.{Done, NoMemory, BadWords, BadInput, Unfit, Broken, Device}

abbrev pub code_of : Status → ℕ
code_of Done = 0
code_of NoMemory = 1
code_of BadWords = 2
code_of BadInput = 3
code_of Unfit = 4
code_of Broken = 5
code_of Device = 6

-- a report was put whole, and the status stands; or the sink failed, and a front of the report was put
abbrev pub Tells : List ℕ → Status → Status → Option (List ℕ) → Option (List ℕ) → ℕ → ℕ → Type 0
Tells report status result old new before after =
    ((result ≡ status) × (new ≡ followed_by report old)) ⊎ ((result ≡ Device) × Rose before after × FrontFollows report old new)

-- What a refusal leaves of the output: its report and its status; a front of it and the status 6; or nothing and the status 1.
abbrev pub Refuses : List ℕ → ℕ → ℕ → Option (List ℕ) → Option (List ℕ) → ℕ → ℕ → Type 0
Refuses report refusal status old new before after =
    ((status ≡ refusal) × (new ≡ followed_by report old))
    ⊎ ((status ≡ 6) × Rose before after × FrontFollows report old new)
    ⊎ ((status ≡ 1) × (new ≡ old) × (after ≡ before))
