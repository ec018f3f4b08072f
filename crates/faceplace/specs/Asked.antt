-- A request of the program as what was asked.
use Rattle.std.specs.Prelude.{ℕ, ◌≤◌, ◌^◌}
use Rattle.faceplace.specs.declared.request.Making.{Making}
use Rattle.faceplace.specs.declared.request.Request.{Request}
use Rattle.faceplace.specs.declared.request.Request.TheVariants as requests
use Rattle.faceplace.specs.Request.{Asked, Seed, Score, Place, Check, Gen, Demo}

abbrev pub asked_of : Request → Asked
asked_of (requests.Seed input output) = Seed input.now output.now
asked_of (requests.Score input output) = Score input.now output.now
asked_of (requests.Place input output cert trials) = Place input.now output.now cert.now trials
asked_of (requests.Check input output cert) = Check input.now output.now cert.now
asked_of (requests.Gen making output) = Gen making output.now
asked_of (requests.Demo making output cert) = Demo making output.now cert.now

-- how many trials may be asked for
abbrev pub AreFew : ℕ → Type 0
AreFew trials = (1 ≤ trials) × (trials ≤ 8)

-- which inputs may be asked for
pub record IsMaking (making : Making) : Type 0 where
  pub number : making.number ≤ 2 ^ 30
  pub some : 1 ≤ making.cells
  pub few : making.cells ≤ 100000
  pub share : making.percent ≤ 80

abbrev pub AsksFew : Request → Type 0
AsksFew (requests.Seed input output) = Unit {0}
AsksFew (requests.Score input output) = Unit {0}
AsksFew (requests.Place input output cert trials) = AreFew trials
AsksFew (requests.Check input output cert) = Unit {0}
AsksFew (requests.Gen making output) = IsMaking making
AsksFew (requests.Demo making output cert) = IsMaking making
