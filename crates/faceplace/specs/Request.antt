-- What the words of the command line ask for.
use Rattle.std.specs.Prelude.{ℕ, ◌^◌, Bool, not, ◌&&◌, nat_le, if◌then◌else◌, List, [], ◌∷◌, Option, Some, None, option_map, Result, Ok, Err, codes}
use Rattle.std.specs.Str.{bytes_eq}
use Rattle.fp_text.specs.Numbers.{number_of}
use Rattle.fp_text.specs.declared.numbers.NumberFault.{NumberFault}
use Rattle.faceplace.specs.declared.request.Making.{Making}

-- a request, with the names of the input and of the output file: that the output file be written, or that it be scored; or that the cells
-- be placed in at most so many trials beside the first one, and the certificate be written too, to the third name; or that the output file
-- be checked by the certificate of the third name; or that an input be made and written to a file; or that one be made, its cells be placed,
-- and the output file and the certificate be written
pub data Asked : Type 0 where
  Seed : List ℕ → List ℕ → Asked
  Score : List ℕ → List ℕ → Asked
  Place : List ℕ → List ℕ → List ℕ → ℕ → Asked
  Check : List ℕ → List ℕ → List ℕ → Asked
  Gen : Making → List ℕ → Asked
  Demo : Making → List ℕ → List ℕ → Asked

-- two words, names that differ, make a request
abbrev pub two_names : (List ℕ → List ℕ → Asked) → List (List ℕ) → Option Asked
two_names make [] = None
two_names make (first ∷ []) = None
two_names make (first ∷ second ∷ []) = if bytes_eq first second then None else Some (make first second)
two_names make (first ∷ second ∷ third ∷ others) = None

-- no two of three names are the same
abbrev pub are_apart : List ℕ → List ℕ → List ℕ → Bool
are_apart first second third = not (bytes_eq first second) && not (bytes_eq first third) && not (bytes_eq second third)

-- a number that is at least so much
abbrev pub at_least : ℕ → Result ℕ NumberFault → Option ℕ
at_least least (Ok number) = if nat_le least number then Some number else None
at_least least (Err fault) = None

-- the number of a word, from a least to a greatest one
abbrev pub number_in : ℕ → ℕ → List ℕ → Option ℕ
number_in least most word = at_least least (number_of most word)

-- three names that are apart make a request
abbrev pub three_names : (List ℕ → List ℕ → List ℕ → Asked) → List ℕ → List ℕ → List ℕ → Option Asked
three_names make input output cert = if are_apart input output cert then Some (make input output cert) else None

-- with a number of trials they ask for a placement
abbrev pub with_trials : List ℕ → List ℕ → List ℕ → Option ℕ → Option Asked
with_trials input output cert None = None
with_trials input output cert (Some trials) = three_names (λ i o c. Place i o c trials) input output cert

-- three words, and 3 trials; or a fourth word, that is how many, from 1 to 8
abbrev pub asks_placing : List (List ℕ) → Option Asked
asks_placing [] = None
asks_placing (input ∷ []) = None
asks_placing (input ∷ output ∷ []) = None
asks_placing (input ∷ output ∷ cert ∷ []) = with_trials input output cert (Some 3)
asks_placing (input ∷ output ∷ cert ∷ trials ∷ []) = with_trials input output cert (number_in 1 8 trials)
asks_placing (input ∷ output ∷ cert ∷ trials ∷ other ∷ others) = None

-- three words ask for a check
abbrev pub asks_checking : List (List ℕ) → Option Asked
asks_checking [] = None
asks_checking (input ∷ []) = None
asks_checking (input ∷ output ∷ []) = None
asks_checking (input ∷ output ∷ cert ∷ []) = three_names Check input output cert
asks_checking (input ∷ output ∷ cert ∷ other ∷ others) = None

-- a number up to 2^30, a number of cells from 1 to 100,000 and a percentage make an input
abbrev pub made_of : Option ℕ → Option ℕ → Option ℕ → Option Making
made_of None cells percent = None
made_of (Some number) None percent = None
made_of (Some number) (Some cells) None = None
made_of (Some number) (Some cells) (Some percent) = Some (record { number = number; cells = cells; percent = percent })

abbrev pub asks_making : List ℕ → List ℕ → Option ℕ → Option Making
asks_making number cells percent = made_of (number_in 0 (2 ^ 30) number) (number_in 1 100000 cells) percent

-- three words, and 80 percent; or a fourth word, that is the percentage, up to 80
abbrev pub asks_generating : List (List ℕ) → Option Asked
asks_generating [] = None
asks_generating (number ∷ []) = None
asks_generating (number ∷ cells ∷ []) = None
asks_generating (number ∷ cells ∷ output ∷ []) = option_map (λ making. Gen making output) (asks_making number cells (Some 80))
asks_generating (number ∷ cells ∷ output ∷ percent ∷ []) = option_map (λ making. Gen making output) (asks_making number cells (number_in 0 80 percent))
asks_generating (number ∷ cells ∷ output ∷ percent ∷ other ∷ others) = None

-- an input that is made is placed, where the two names differ
abbrev pub with_making : Option Making → List ℕ → List ℕ → Option Asked
with_making None output cert = None
with_making (Some making) output cert = if bytes_eq output cert then None else Some (Demo making output cert)

-- four words, and 80 percent; or a fifth word, that is the percentage, up to 80
abbrev pub asks_demo : List (List ℕ) → Option Asked
asks_demo [] = None
asks_demo (number ∷ []) = None
asks_demo (number ∷ cells ∷ []) = None
asks_demo (number ∷ cells ∷ output ∷ []) = None
asks_demo (number ∷ cells ∷ output ∷ cert ∷ []) = with_making (asks_making number cells (Some 80)) output cert
asks_demo (number ∷ cells ∷ output ∷ cert ∷ percent ∷ []) = with_making (asks_making number cells (number_in 0 80 percent)) output cert
asks_demo (number ∷ cells ∷ output ∷ cert ∷ percent ∷ other ∷ others) = None

-- what a command asks for, by the words that follow it
abbrev pub asks_for : List ℕ → List (List ℕ) → Option Asked
asks_for command words =
    if bytes_eq command (codes "seed") then two_names Seed words
    else if bytes_eq command (codes "score") then two_names Score words
    else if bytes_eq command (codes "place") then asks_placing words
    else if bytes_eq command (codes "check") then asks_checking words
    else if bytes_eq command (codes "gen") then asks_generating words
    else if bytes_eq command (codes "demo") then asks_demo words else None

-- `seed IN OUT`, `score IN OUT`, `place IN OUT CERT`, `place IN OUT CERT N`, `check IN OUT CERT`, `gen NUMBER CELLS OUT`,
-- `gen NUMBER CELLS OUT PERCENT`, `demo NUMBER CELLS OUT CERT` or `demo NUMBER CELLS OUT CERT PERCENT`, with names that differ; other words
-- ask for nothing
abbrev pub asks : List (List ℕ) → Option Asked
asks [] = None
asks (command ∷ words) = asks_for command words
