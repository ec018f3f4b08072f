-- What the lines of a file tell of each number: none names it, one does and tells a place, or several do.
use Rattle.std.specs.Prelude.{◌≡◌, ℕ, ◌≤◌, Bool, List, [], ◌∷◌, Option, Some, None, find, get_or, set}
use Rattle.std.specs.List.{count_by}
use Rattle.std.specs.Option.{option_map}
use Rattle.fp_base.specs.declared.ids.Point.{Point}
use Rattle.fp_place.specs.declared.drawn.DrawnCell.{DrawnCell}
use Rattle.fp_place.specs.declared.drawn.DrawnTerminal.{DrawnTerminal}
use Rattle.fp_place.specs.declared.seen.Seen.{Seen}
use Rattle.fp_place.specs.declared.seen.Seen.TheVariants.{Never, Once, Often}

abbrev pub seen_again : Seen → Point → Seen
seen_again Never at = Once at
seen_again (Once other) at = Often
seen_again Often at = Often

-- one more line, of a number and a place; one of a number past the end counts nowhere
unfoldable pub noted : List Seen → ℕ → Point → List Seen
noted seen number at = set seen number (seen_again (get_or seen number Never) at)

abbrev pub cell_number : DrawnCell → ℕ
cell_number line = line.cell.0

abbrev pub corner_of : DrawnCell → Point
corner_of line = record { x = line.x; y = line.y }

abbrev pub net_number : DrawnTerminal → ℕ
net_number line = line.net.0

-- lines, in their order
unfoldable pub all_noted : {A : Type 0} → (A → ℕ) → (A → Point) → List Seen → List A → List Seen
all_noted number at seen [] = seen
all_noted number at seen (line ∷ lines) = all_noted number at (noted seen (number line) (at line)) lines

-- what is told of one number: how many lines pass its test, and the place of the first
abbrev pub Tells : {A : Type 0} → (A → Bool) → (A → Point) → List A → Seen → Type 0
Tells test at lines Never = (count_by test lines ≡ 0) × (find test lines ≡ None)
Tells test at lines (Once place) = (count_by test lines ≡ 1) × (option_map at (find test lines) ≡ Some place)
Tells test at lines Often = 2 ≤ count_by test lines

abbrev pub place_seen : Seen → Option Point
place_seen Never = None
place_seen (Once at) = Some at
place_seen Often = None
