-- A matching of all rows, built up row by row.
use Rattle.std.proofs.Common.{◌≡◌, ℕ, ◌+◌, ◌-◌, ◌<◌, ◌≤◌, length, get_or, set, take, refl, ap, ◌∙◌, arith}
use Rattle.std.specs.Prelude.{slice_index, ◌^◌}
use Rattle.std.proofs.lemmas.List.{get_or-take, length-take}
use Rattle.std.proofs.Math.ListN.{length-set}
use Rattle.std.proofs.lemmas.Grind.{get_or_default_zero}
use Rattle.fp_match.specs.declared.labels.Labels.{Labels}
use Rattle.fp_match.specs.declared.matching.Matching.{Matching}
use Rattle.fp_match.specs.Prices.{IsChoice, ArePrices, IsLeast}
use Rattle.fp_match.specs.Owners.{Agree}
use Rattle.fp_match.specs.OwnerLaws.{choice_by_owners, prices_by_owners}
use Rattle.fp_match.specs.PriceLaws.{least_by_prices}
use Rattle.fp_match.specs.Search.{row_at, owner_of, column_of, HasRoom, HasPrices, Fits, AreFar, IsMatching, IsTree, AreCovered, Grown, Scanned, IsTaken, IsStarted, HasReached, IsGrown, IsRoomy, SameSizes, SameRooms, IsCleared, CanReset, CanTake}
use Rattle.fp_match.proofs.Tree.{count_most}
use Rattle.fp_match.proofs.Grow.{can_take, tree_taken}
use Rattle.fp_match.proofs.Insert.{held_row}

pub rooms_refl : (l : Labels) → SameRooms l l
rooms_refl l = record { labels = refl; parents = refl; places = refl }

pub rooms_trans : (a b c : Labels) → SameRooms a b → SameRooms b c → SameRooms a c
rooms_trans a b c ab bc = record {
  labels = bc.labels ∙ ab.labels;
  parents = bc.parents ∙ ab.parents;
  places = bc.places ∙ ab.places;
}

rooms_grown : (a b : Labels) → Grown a b → SameRooms a b
rooms_grown a b grown = record { labels = grown.size; parents = grown.sizes.0; places = grown.sizes.1 }

-- the row settled last is scanned
pub record IsGrowing (cost : ℕ → ℕ → ℕ) (columns row : ℕ) (m : Matching) (old l : Labels) : Type 0 where
  pub tree : IsTree cost columns row m l
  pub covered : AreCovered cost row m l 0 columns
  pub rooms : SameRooms old l

pub growing_start : (cost : ℕ → ℕ → ℕ) (columns row : ℕ) (m : Matching) (old l : Labels) → Scanned cost columns row m old l 0 columns
    → IsGrowing cost columns row m old l
growing_start cost columns row m old l scanned = record {
  tree = scanned.tree;
  covered = scanned.covered;
  rooms = rooms_grown old l scanned.grown;
}

rooms_taken : (l taken : Labels) → IsTaken l taken → SameRooms l taken
rooms_taken l taken step = record {
  labels = ap length step.1.label;
  parents = ap length step.1.parent;
  places = ap length step.1.reached ∙ length-set (set l.reached.items step.0 (row_at l (l.at + 1))) (l.at + 1) (row_at l step.0)
      ∙ length-set l.reached.items step.0 (row_at l (l.at + 1));
}

pub growing_step : (cost : ℕ → ℕ → ℕ) (columns row : ℕ) (m : Matching) (old l taken l' : Labels) → IsGrowing cost columns row m old l
    → IsTaken l taken → Scanned cost columns row m taken l' 0 columns → IsGrowing cost columns row m old l'
growing_step cost columns row m old l taken l' growing step scanned = record {
  tree = scanned.tree;
  covered = scanned.covered;
  rooms = rooms_trans old taken l' (rooms_trans old l taken growing.rooms (rooms_taken l taken step)) (rooms_grown taken l' scanned.grown);
}

pub growing_can_take : (cost : ℕ → ℕ → ℕ) (columns row : ℕ) (m : Matching) (old l : Labels) → IsGrowing cost columns row m old l → CanTake l
growing_can_take cost columns row m old l growing = can_take cost columns row m l growing.tree

pub growing_prices : (cost : ℕ → ℕ → ℕ) (columns row : ℕ) (m : Matching) (old l : Labels) → IsMatching cost columns row m → Fits columns row m
    → IsGrowing cost columns row m old l → HasPrices m l
growing_prices cost columns row m old l matched fits growing = record {
  rows = λ k pos lt. omega (arith, fits.chosen, held_row cost columns row m l k growing.tree pos lt);
  columns = λ k pos lt.
      let in_row : row_at l k < row = held_row cost columns row m l k growing.tree pos lt in
      omega (arith, fits.prices, matched.agree.in_range (row_at l k) in_row);
}

pub growing_taken : (cost : ℕ → ℕ → ℕ) (columns row : ℕ) (m : Matching) (old l taken : Labels) → IsGrowing cost columns row m old l
    → IsTaken l taken → IsTree cost columns row m taken
growing_taken cost columns row m old l taken growing step = tree_taken cost columns row m l taken step.0 growing.tree growing.covered step.1

-- the measure falls
pub growing_smaller : (cost : ℕ → ℕ → ℕ) (columns row : ℕ) (m : Matching) (old l taken l' : Labels) → IsGrowing cost columns row m old l
    → IsTaken l taken → Scanned cost columns row m taken l' 0 columns → row - l'.at < row - l.at
growing_smaller cost columns row m old l taken l' growing step scanned =
    let few : l.count ≤ row + 1 = count_most cost columns row m l growing.tree in
    omega (arith, step.1.at, step.1.waiting, step.1.nearest.waits, scanned.grown.at)

pub growing_end : (cost : ℕ → ℕ → ℕ) (columns row : ℕ) (m : Matching) (old l : Labels) → IsGrowing cost columns row m old l → HasReached l
    → IsGrown cost columns row m l
growing_end cost columns row m old l growing reached = record { tree = growing.tree; covered = growing.covered; reached = reached }

pub room_of : (rows columns row : ℕ) (m : Matching) (l : Labels) → IsRoomy rows columns m l → row < rows → HasRoom row l
room_of rows columns row m l room lt = record {
  labels = omega (arith, room.labels);
  parents = omega (arith, room.parents);
  places = omega (arith, room.places);
}

pub fits_of : (rows columns row : ℕ) (m : Matching) (l : Labels) → IsRoomy rows columns m l → row < rows → Fits columns row m
fits_of rows columns row m l room lt = record {
  chosen = omega (arith, room.chosen);
  owners = room.owners;
  prices = room.prices;
}

pub rooms_started : (row : ℕ) (l l' : Labels) → IsStarted row l l' → SameRooms l l'
rooms_started row l l' started = record {
  labels = ap length started.label ∙ length-set l.label.items row 0;
  parents = ap length started.parent;
  places = ap length started.reached ∙ length-set l.reached.items 0 row;
}

pub can_reset : (cost : ℕ → ℕ → ℕ) (columns row : ℕ) (m : Matching) (l : Labels) → IsTree cost columns row m l → CanReset l
can_reset cost columns row m l tree = record {
  places = tree.places;
  labels = λ k lt. omega (arith, tree.reached k lt, tree.room.labels);
  found = tree.found;
}

-- rows are added one by one
pub record IsAssigned (cost : ℕ → ℕ → ℕ) (columns row : ℕ) (old m : Matching) (before l : Labels) : Type 0 where
  pub matched : IsMatching cost columns row m
  pub all_far : AreFar l
  pub sizes : SameSizes old m
  pub rooms : SameRooms before l

pub sizes_trans : (a b c : Matching) → SameSizes a b → SameSizes b c → SameSizes a c
sizes_trans a b c ab bc = record {
  chosen = bc.chosen ∙ ab.chosen;
  owners = bc.owners ∙ ab.owners;
  prices = bc.prices ∙ ab.prices;
}

pub assigned_start : (cost : ℕ → ℕ → ℕ) (rows columns : ℕ) (old m : Matching) (l : Labels) → IsRoomy rows columns old l → AreFar l → IsCleared m
    → SameSizes old m → IsAssigned cost columns 0 old m l l
assigned_start cost rows columns old m l room all_far cleared sizes = record {
  matched = record {
    agree = record {
      in_range = λ n lt. absurd (omega arith);
      owned = λ n lt. absurd (omega arith);
      holds = λ s s_in lt. absurd (omega arith);
      free = λ s s_in le. cleared.owners s (omega (arith, sizes.owners, room.owners));
    };
    free = λ s s_in le. cleared.prices s (omega (arith, sizes.prices, room.prices));
    best = λ n lt. absurd (omega arith);
    capped = λ s s_in. omega (arith, cleared.prices s (omega (arith, sizes.prices, room.prices)));
  };
  all_far = all_far;
  sizes = sizes;
  rooms = rooms_refl l;
}

pub assigned_room : (cost : ℕ → ℕ → ℕ) (rows columns row : ℕ) (old m : Matching) (before l : Labels) → IsRoomy rows columns old before
    → IsAssigned cost columns row old m before l → IsRoomy rows columns m l
assigned_room cost rows columns row old m before l room assigned = record {
  chosen = omega (arith, room.chosen, assigned.sizes.chosen);
  owners = omega (arith, room.owners, assigned.sizes.owners);
  prices = omega (arith, room.prices, assigned.sizes.prices);
  labels = omega (arith, room.labels, assigned.rooms.labels);
  parents = omega (arith, room.parents, assigned.rooms.parents);
  places = omega (arith, room.places, assigned.rooms.places);
}

taken_agree : (columns rows : ℕ) (m : Matching) → Agree columns rows m.column_of.items m.owner.items
    → Agree columns rows (take rows m.column_of.items) m.owner.items
taken_agree columns rows m agree =
    let same = λ (n : ℕ) (lt : n < rows). get_or-take rows m.column_of.items n 0 lt in
    record {
      in_range = λ n lt. rw (same n lt) (agree.in_range n lt);
      owned = λ n lt. rw (same n lt) (agree.owned n lt);
      holds = λ s s_in lt. rw (same (owner_of m s) lt) (agree.holds s s_in lt);
      free = agree.free;
    }

-- a matching of all rows gives prices
pub solved_prices : (cost : ℕ → ℕ → ℕ) (rows columns : ℕ) (m : Matching) → IsMatching cost columns rows m → rows ≤ length m.column_of.items
    → rows ≤ 2 ^ 18 → ArePrices cost columns (take rows m.column_of.items) (take columns m.prices.items)
solved_prices cost rows columns m matched fits few =
    let size : length (take rows m.column_of.items) ≡ rows = omega (arith, length-take rows m.column_of.items) in
    let agree : Agree columns (length (take rows m.column_of.items)) (take rows m.column_of.items) m.owner.items =
    rw size (taken_agree columns rows m matched.agree) in
    let price = λ (s : ℕ) (lt : s < columns). get_or-take columns m.prices.items s 0 lt in
    prices_by_owners cost columns (take rows m.column_of.items) m.owner.items (take columns m.prices.items) agree
    (λ s lt free. price s lt ∙ matched.free s lt (omega (arith, free)))
    (λ n lt t t_in.
    let n_in : n < rows = omega arith in
    let column : slice_index (take rows m.column_of.items) n ≡ column_of m n = get_or-take rows m.column_of.items n 0 n_in in
    rw (column, price (column_of m n) (matched.agree.in_range n n_in), price t t_in) (matched.best n n_in t t_in))

pub solved_choice : (cost : ℕ → ℕ → ℕ) (rows columns : ℕ) (m : Matching) → IsMatching cost columns rows m → rows ≤ length m.column_of.items
    → IsChoice rows columns (take rows m.column_of.items)
solved_choice cost rows columns m matched fits =
    choice_by_owners columns rows (take rows m.column_of.items) m.owner.items (omega (arith, length-take rows m.column_of.items)) (taken_agree columns rows m matched.agree)

pub solved_least : (cost : ℕ → ℕ → ℕ) (rows columns : ℕ) (m : Matching) → IsMatching cost columns rows m → rows ≤ length m.column_of.items
    → columns ≤ length m.prices.items → rows ≤ 2 ^ 18 → IsLeast cost rows columns (take rows m.column_of.items)
solved_least cost rows columns m matched fits wide few =
    least_by_prices cost rows columns (take rows m.column_of.items) (take columns m.prices.items) (omega (arith, length-take columns m.prices.items))
    (solved_choice cost rows columns m matched fits) (solved_prices cost rows columns m matched fits few)

pub solved_capped : (cost : ℕ → ℕ → ℕ) (rows columns : ℕ) (m : Matching) → IsMatching cost columns rows m → columns ≤ length m.prices.items
    → (k d : ℕ) → k < length (take columns m.prices.items) → get_or (take columns m.prices.items) k d ≤ 2 ^ 36
solved_capped cost rows columns m matched wide k d lt =
    let k_in : k < columns = omega (arith, length-take columns m.prices.items) in
    omega (arith, get_or-take columns m.prices.items k d k_in, get_or_default_zero m.prices.items k d (omega arith), matched.capped k k_in)
