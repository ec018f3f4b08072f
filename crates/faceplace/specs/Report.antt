-- The texts that the program prints.
use Rattle.std.specs.Prelude.{ℕ, List, [], ◌++◌, unwrap_or, slice_get, codes, decimal}
use Rattle.fp_base.specs.declared.ids.Die.{Die}
use Rattle.fp_base.specs.declared.ids.Die.TheVariants.{Top, Bottom}
use Rattle.fp_text.specs.declared.fault.Kind.{Kind}
use Rattle.fp_text.specs.declared.fault.Kind.TheVariants.{Ended, Word, Number, Name, Twice, Unknown, Range, Rows, Limit, Trailing}
use Rattle.fp_netlist.specs.Netlist.{Netlist, cell_names}
use Rattle.fp_place.specs.declared.judge.Subject.{Subject}
use Rattle.fp_place.specs.declared.judge.Subject.TheVariants.{Cell, Net, Side}
use Rattle.fp_cert.specs.declared.finding.Finding.{Finding}
use Rattle.fp_cert.specs.declared.finding.Finding.TheVariants.{Yes, No}
use Rattle.fp_score.specs.declared.stop.Stop.{Stop}
use Rattle.fp_score.specs.declared.stop.Stop.TheVariants.{NoRoom, NoSlots}

-- why a file is refused: the name is not held, it holds too many bytes, or its first fault
pub data Cause : Type 0 where
  IsMissing : Cause
  IsLong : Cause
  IsWrong : ℕ → Kind → Cause

abbrev pub kind_text : Kind → List ℕ
kind_text Ended = codes "ended"
kind_text Word = codes "word"
kind_text Number = codes "number"
kind_text Name = codes "name"
kind_text Twice = codes "twice"
kind_text Unknown = codes "unknown"
kind_text Range = codes "range"
kind_text Rows = codes "rows"
kind_text Limit = codes "limit"
kind_text Trailing = codes "trailing"

-- the words are no request
abbrev pub words_report : List ℕ
words_report = codes "words\n"

-- `input NAME AT WORD`
abbrev pub fault_line : List ℕ → ℕ → List ℕ → List ℕ
fault_line name at word = codes "input " ++ name ++ codes " " ++ decimal at ++ codes " " ++ word ++ codes "\n"

-- why a file of a name, which may have so many bytes, is refused; one that is too long is told at that limit
abbrev pub input_report : ℕ → List ℕ → Cause → List ℕ
input_report limit name IsMissing = fault_line name 0 (codes "missing")
input_report limit name IsLong = fault_line name limit (codes "long")
input_report limit name (IsWrong at kind) = fault_line name at (kind_text kind)

abbrev pub die_text : Die → List ℕ
die_text Top = codes "top"
die_text Bottom = codes "bottom"

-- `seed S first D cut K slots M`: the score, the first die, the cut nets and the slots
abbrev pub seed_report : ℕ → Die → ℕ → ℕ → List ℕ
seed_report total first cut slots =
    codes "seed " ++ decimal total ++ codes " first " ++ die_text first ++ codes " cut " ++ decimal cut ++ codes " slots " ++ decimal slots ++ codes "\n"

-- why a first fit stops: `cell NAME` or `slots CUT SLOTS`
abbrev pub stop_text : Netlist → Stop → List ℕ
stop_text p (NoRoom cell) = codes "cell " ++ unwrap_or (slice_get (cell_names p) cell.0) []
stop_text p (NoSlots cut slots) = codes "slots " ++ decimal cut ++ codes " " ++ decimal slots

-- `unfit top STOP bottom STOP`
abbrev pub unfit_report : Netlist → Stop → Stop → List ℕ
unfit_report p top_first bottom_first = codes "unfit top " ++ stop_text p top_first ++ codes " bottom " ++ stop_text p bottom_first ++ codes "\n"

-- `score S`
abbrev pub score_report : ℕ → List ℕ
score_report total = codes "score " ++ decimal total ++ codes "\n"

-- what breaks a rule: a cell's or a net's name, `top` or `bottom`
abbrev pub subject_text : Netlist → Subject → List ℕ
subject_text p (Cell cell) = unwrap_or (slice_get (cell_names p) cell.0) []
subject_text p (Net net) = unwrap_or (slice_get p.nets net.0) []
subject_text p (Side die) = die_text die

-- `broken RULE SUBJECT`
abbrev pub broken_report : Netlist → ℕ → Subject → List ℕ
broken_report p rule subject = codes "broken " ++ decimal rule ++ codes " " ++ subject_text p subject ++ codes "\n"

-- `bytes B`: the length of a text
abbrev pub bytes_report : ℕ → List ℕ
bytes_report bytes = codes "bytes " ++ decimal bytes ++ codes "\n"

-- `cells C nets N bytes B`: what a problem counts, and the length of its text
abbrev pub counts_line : ℕ → ℕ → ℕ → List ℕ
counts_line cells nets bytes = codes "cells " ++ decimal cells ++ codes " nets " ++ decimal nets ++ codes " bytes " ++ decimal bytes ++ codes "\n"

-- `yes`, or `no K` with the number of the first condition that is false
abbrev pub finding_report : Finding → List ℕ
finding_report Yes = codes "yes\n"
finding_report (No number) = codes "no " ++ decimal number ++ codes "\n"
