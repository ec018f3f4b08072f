-- A cause of the program as what is reported.
use Rattle.faceplace.specs.declared.report.Cause.{Cause as CauseFound}
use Rattle.faceplace.specs.declared.report.Cause.TheVariants as causes
use Rattle.faceplace.specs.Report.{Cause, IsMissing, IsLong, IsWrong}

abbrev pub cause_of : CauseFound → Cause
cause_of causes.Missing = IsMissing
cause_of causes.Long = IsLong
cause_of (causes.Wrong at kind) = IsWrong at kind
