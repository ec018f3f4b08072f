-- What makes a status due, whatever is reported and written with it.
use Rattle.std.specs.Prelude.{◌≡◌, ◌⊎◌, ℕ, List, Option, Some, None, MatchResult}
use Rattle.fp_base.specs.Files.{Files}
use Rattle.fp_tech.specs.Slots.{Slots, slot_count, IsGrid}
use Rattle.fp_netlist.specs.Netlist.{Netlist, IsSound}
use Rattle.fp_place.specs.Drawing.{Drawing}
use Rattle.fp_place.specs.Legal.{IsLegal}
use Rattle.fp_cert.specs.Shown.{ShownRun}
use Rattle.fp_check.specs.Conditions.{CertOk}
use Rattle.faceplace.specs.Request.{Asked, Seed, Score, Place, Check, Gen, Demo}
use Rattle.faceplace.specs.Sources.{problem_in, drawing_in, cert_in}
use Rattle.faceplace.specs.Made.{IsMade}
use Rattle.faceplace.specs.Seeding.{Seeding, Stopping, IsSeeding, IsStopping}

-- 0 where the problem's seed stands, 4 where neither first fit does
abbrev pub SeedOwes : Netlist → ℕ → Type 0
SeedOwes p status = ((s : Seeding) × IsSeeding p s × (status ≡ 0)) ⊎ ((s : Stopping) × IsStopping p s × (status ≡ 4))

-- 0 where the drawing is legal, 5 where it is not
abbrev pub ScoreOwes : Netlist → Drawing → ℕ → Type 0
ScoreOwes p drawing status = (IsLegal p drawing × (status ≡ 0)) ⊎ ((IsLegal p drawing → ⊥) × (status ≡ 5))

-- 0 where all conditions hold, 5 where one is false
abbrev pub CheckOwes : Netlist → Drawing → ShownRun → ℕ → Type 0
CheckOwes p drawing run status = (CertOk p drawing run × (status ≡ 0)) ⊎ ((CertOk p drawing run → ⊥) × (status ≡ 5))

-- 3 where the input file is refused; else what is owed for the problem that it says, which may be taken to be sound
abbrev pub OwedForInput : Files → List ℕ → (Netlist → Type 0) → ℕ → Type 0
OwedForInput files input next status = MatchResult (problem_in input files) (λ p. IsSound p → next p) (λ cause. status ≡ 3)

-- 3 where the output file is refused; else what is owed for the drawing that it says
abbrev pub OwedForOutput : Files → Netlist → List ℕ → (Drawing → Type 0) → ℕ → Type 0
OwedForOutput files p output next status = MatchResult (drawing_in p output files) next (λ cause. status ≡ 3)

-- 3 where the certificate is refused, over the problem's grid; else what is owed for the run that it shows
abbrev pub OwedForCert : Files → Netlist → List ℕ → (ShownRun → Type 0) → ℕ → Type 0
OwedForCert files p cert next status =
    (grid : Slots) → IsGrid p.plan.frame p.plan.terminal grid → MatchResult (cert_in p (slot_count grid) cert files) next (λ cause. status ≡ 3)

-- 2 where the words are no request
abbrev pub IsOwed : Option Asked → Files → ℕ → Type 0
IsOwed None files status = status ≡ 2
IsOwed (Some (Seed input output)) files status = OwedForInput files input (λ p. SeedOwes p status) status
IsOwed (Some (Score input output)) files status =
    OwedForInput files input (λ p. OwedForOutput files p output (λ drawing. ScoreOwes p drawing status) status) status
IsOwed (Some (Place input output cert trials)) files status = OwedForInput files input (λ p. SeedOwes p status) status
IsOwed (Some (Check input output cert)) files status =
    OwedForInput files input (λ p. OwedForOutput files p output (λ drawing. OwedForCert files p cert (λ run. CheckOwes p drawing run status) status) status) status
IsOwed (Some (Gen making output)) files status = status ≡ 0
IsOwed (Some (Demo making output cert)) files status = (p : Netlist) → IsMade making p → SeedOwes p status
