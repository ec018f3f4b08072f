-- The ranges of what the sections say.
use Rattle.std.specs.Prelude.{◌≡◌, ℕ, ◌<◌, ◌≤◌, ◌^◌, true, IfSome, IsSome}
use Rattle.fp_tech.specs.Plan.{IsFrame, rows_lie}
use Rattle.fp_contest_in.specs.declared.section.RowsFound.{RowsFound}
use Rattle.fp_contest_in.specs.declared.section.DieFound.{DieFound}
use Rattle.fp_contest_in.specs.declared.section.Found.{Found}
use Rattle.fp_contest_in.specs.Statements.{setup_of}

pub record AreRows (rows : RowsFound) : Type 0 where
  pub start_x : rows.start_x ≤ 2 ^ 30
  pub start_y : rows.start_y ≤ 2 ^ 30
  pub some_length : 1 ≤ rows.length
  pub long : rows.length ≤ 2 ^ 30
  pub some_height : 1 ≤ rows.height
  pub high : rows.height ≤ 2 ^ 30
  pub some_rows : 1 ≤ rows.repeat
  pub many : rows.repeat ≤ 2 ^ 16

-- of a book of so many technologies
pub record IsDieInRange (techs : ℕ) (die : DieFound) : Type 0 where
  pub percent : IfSome die.percent (λ percent. percent ≤ 100)
  pub rows : IfSome die.rows AreRows
  pub tech : IfSome die.tech (λ tech. tech.0 < techs)

pub record AreInRange (techs : ℕ) (found : Found) : Type 0 where
  pub frame : IfSome found.frame IsFrame
  pub top : IsDieInRange techs found.top
  pub bottom : IsDieInRange techs found.bottom
  pub size : IfSome found.size (λ size. (1 ≤ size.0) × (size.0 ≤ 2 ^ 30) × (1 ≤ size.1) × (size.1 ≤ 2 ^ 30))
  pub spacing : IfSome found.spacing (λ spacing. spacing ≤ 2 ^ 30)
  pub cost : IfSome found.cost (λ cost. cost ≤ 2 ^ 30)

-- the nine sections were read
pub record IsCompleteDie (die : DieFound) : Type 0 where
  pub percent : IsSome die.percent
  pub rows : IsSome die.rows
  pub tech : IsSome die.tech

pub record IsComplete (found : Found) : Type 0 where
  pub frame : IsSome found.frame
  pub top : IsCompleteDie found.top
  pub bottom : IsCompleteDie found.bottom
  pub size : IsSome found.size
  pub spacing : IsSome found.spacing

-- the rows of both dies lie in the frame
pub record HasRowsInFrame (found : Found) : Type 0 where
  pub top : rows_lie (setup_of found).frame (setup_of found).top ≡ true
  pub bottom : rows_lie (setup_of found).frame (setup_of found).bottom ≡ true
