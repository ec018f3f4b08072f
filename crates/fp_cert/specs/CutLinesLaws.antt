-- Laws of a trial's cut lines: where they are the cut nets in file order, their slots are chosen in the order of the cut nets.
use Rattle.std.specs.Prelude.{◌≡◌, ℕ, zero, suc, ◌+◌, ◌<◌, ◌≤◌, Bool, true, false, cond, nat_eq, if◌then◌else◌, List, [], ◌∷◌, length, map, find, filter, get_or, Option, Some, None, option_map}
use Rattle.std.specs.List.{range_with_len}
use Rattle.std.proofs.Common.{refl, sym, ap, subst, ◌∙◌, arith}
use Rattle.std.proofs.lemmas.Bool.Decides.{nat_tests}
use Rattle.std.proofs.lemmas.List.{ext_get_or}
use Rattle.std.proofs.lemmas.List.FromFn.{length-map-range_with_len, get_or-map-range_with_len}
use Rattle.fp_base.specs.declared.ids.Die.{Die}
use Rattle.fp_base.specs.declared.ids.Point.{Point}
use Rattle.fp_tech.specs.Slots.{Slots, centre_of}
use Rattle.fp_netlist.specs.Netlist.{Netlist}
use Rattle.fp_place.specs.Cut.{is_cut, cut_below, cut}
use Rattle.fp_place.specs.CutLaws.{cut_counted, cut_once}
use Rattle.fp_score.specs.SlotBest.{chosen_terminals}
use Rattle.fp_score.specs.SlotBestLaws.{chosen_by_each}
use Rattle.fp_cert.specs.declared.shown.CutShown.{CutShown}
use Rattle.fp_cert.specs.Shown.{ShownTrial}
use Rattle.fp_cert.specs.Standing.{terminal_by, terminals_shown}
use Rattle.fp_cert.specs.Trials.{cut_nets}

-- the cut ones of the nets from one on, so many of them
abbrev cut_from : Netlist → List Die → ℕ → ℕ → List ℕ
cut_from p dies net count = filter (is_cut p dies) (range_with_len net count)

-- what lines are whose nets are these: a first one and others
record Splits (nets : List ℕ) (first : ℕ) (rest : List ℕ) (cuts : List CutShown) : Type 0 where
  line : CutShown
  others : List CutShown
  are : cuts ≡ line ∷ others
  net_is : line.net.0 ≡ first
  nets_are : map (λ cut. cut.net.0) others ≡ rest

split : (first : ℕ) (rest : List ℕ) (cuts : List CutShown) → map (λ cut. cut.net.0) cuts ≡ first ∷ rest → Splits (first ∷ rest) first rest cuts
split first rest [] nets = absurd cc
split first rest (line ∷ others) nets =
    let head : line.net.0 ≡ first = cc in
    let tail : map (λ (cut : CutShown). cut.net.0) others ≡ rest = cc in
    record { line = line; others = others; are = refl; net_is = head; nets_are = tail }

unlike : (a b : ℕ) → a < b → nat_eq b a ≡ false
unlike a b below = grind (arith, nat_tests)

alike : (a b : ℕ) → a ≡ b → nat_eq a b ≡ true
alike a b same = grind (arith, nat_tests)

abbrev find_line : ℕ → List CutShown → Option CutShown
find_line net cuts = find (λ line. nat_eq line.net.0 net) cuts

past : (line : CutShown) (others : List CutShown) (net : ℕ) → nat_eq line.net.0 net ≡ false → find_line net (line ∷ others) ≡ find_line net others
past line others net other = ap (λ b. cond b (Some line) (find_line net others)) other

-- no line of these has a net before them
none_below : (p : Netlist) (dies : List Die) (count from net : ℕ) (cuts : List CutShown) → map (λ cut. cut.net.0) cuts ≡ cut_from p dies from count → net < from
    → find_line net cuts ≡ None
none_below p dies zero from net [] nets low = refl
none_below p dies zero from net (line ∷ others) nets low = absurd cc
none_below p dies (suc count) from net cuts nets low =
    by (is_cut p dies from) nets (λ others same. none_below p dies count (from + 1) net others same (omega (arith, low)))
  where
    by : (b : Bool) → map (λ cut. cut.net.0) cuts ≡ cond b (from ∷ cut_from p dies (from + 1) count) (cut_from p dies (from + 1) count)
        → ((others : List CutShown) → map (λ cut. cut.net.0) others ≡ cut_from p dies (from + 1) count → find_line net others ≡ None) → find_line net cuts ≡ None
    by true nets behind =
        let s = split from (cut_from p dies (from + 1) count) cuts nets in
        ap (find_line net) s.are ∙ past s.line s.others net (ap (λ k. nat_eq k net) s.net_is ∙ unlike net from low) ∙ behind s.others s.nets_are
    by false nets behind = behind cuts nets

-- the slot of a line, where there is one
abbrev slot_found : Option CutShown → Option ℕ
slot_found line = option_map (λ (cut : CutShown). cut.slot.0) line

starts : (p : Netlist) (dies : List Die) → 0 ≡ cut_below p dies 0
unfolding cut_below
starts p dies = refl

-- the slots of lines are those of a list from a place on
abbrev HaveSlots : List ℕ → ℕ → List CutShown → Type 0
HaveSlots chosen rank cuts = (k : ℕ) → k < length cuts → get_or (map (λ cut. cut.slot.0) cuts) k 0 ≡ get_or chosen (rank + k) 0

equal : (a b : ℕ) → nat_eq a b ≡ true → a ≡ b
equal a b is = grind (arith, nat_tests)

above : (a b : ℕ) → nat_eq a b ≡ false → a ≤ b → a + 1 ≤ b
above a b is low = grind (arith, nat_tests)

uncounted : (p : Netlist) (dies : List Die) (net : ℕ) → is_cut p dies net ≡ false → cut_below p dies (suc net) ≡ cut_below p dies net
unfolding cut_below
uncounted p dies net other = ap (λ b. cut_below p dies net + (if b then 1 else 0)) other ∙ omega arith

next_counted : (p : Netlist) (dies : List Die) (net : ℕ) → is_cut p dies net ≡ true → cut_below p dies (net + 1) ≡ cut_below p dies net + 1
next_counted p dies net is = ap (cut_below p dies) (let next : net + 1 ≡ suc net = omega arith in next) ∙ cut_counted p dies net is

next_uncounted : (p : Netlist) (dies : List Die) (net : ℕ) → is_cut p dies net ≡ false → cut_below p dies (net + 1) ≡ cut_below p dies net
next_uncounted p dies net is = ap (cut_below p dies) (let next : net + 1 ≡ suc net = omega arith in next) ∙ uncounted p dies net is

-- the slot of a net's rank, where the net is cut
abbrev slot_in : Netlist → List Die → List ℕ → ℕ → Option ℕ
slot_in p dies chosen net = if is_cut p dies net then Some (get_or chosen (cut_below p dies net) 0) else None

-- Lines whose nets are the cut ones from a net on, with the slots from that net's rank on: a cut net's line has the slot of its rank.
find_cut : (p : Netlist) (dies : List Die) (chosen : List ℕ) (count from rank net : ℕ) (cuts : List CutShown) → map (λ cut. cut.net.0) cuts ≡ cut_from p dies from count
    → HaveSlots chosen rank cuts → rank ≡ cut_below p dies from → from ≤ net → net < from + count → slot_found (find_line net cuts) ≡ slot_in p dies chosen net
find_cut p dies chosen zero from rank net cuts nets slots starts low high = absurd (omega arith)
find_cut p dies chosen (suc count) from rank net cuts nets slots starts low high =
    by (nat_eq from net) refl (is_cut p dies from) refl nets
    (λ others rank same have starts low. find_cut p dies chosen count (from + 1) rank net others same have starts low (omega (arith, high)))
  where
    by : (e : Bool) → nat_eq from net ≡ e → (b : Bool) → is_cut p dies from ≡ b
        → map (λ cut. cut.net.0) cuts ≡ cond b (from ∷ cut_from p dies (from + 1) count) (cut_from p dies (from + 1) count)
        → ((others : List CutShown) (rank : ℕ) → map (λ cut. cut.net.0) others ≡ cut_from p dies (from + 1) count → HaveSlots chosen rank others → rank ≡ cut_below p dies (from + 1)
        → from + 1 ≤ net → slot_found (find_line net others) ≡ slot_in p dies chosen net)
        → slot_found (find_line net cuts) ≡ slot_in p dies chosen net
    by true e true is nets behind =
        let s = split from (cut_from p dies (from + 1) count) cuts nets in
        let here = equal from net e in
        let have : HaveSlots chosen rank (s.line ∷ s.others) = subst (HaveSlots chosen rank) s.are slots in
        let slot : s.line.slot.0 ≡ get_or chosen (rank + 0) 0 = have 0 (omega arith) in
        let rank_is : rank + 0 ≡ cut_below p dies net = omega (arith, starts, ap (cut_below p dies) here) in
        ap (λ (lines : List CutShown). slot_found (find_line net lines)) s.are
        ∙ ap (λ b. slot_found (cond b (Some s.line) (find_line net s.others))) (alike s.line.net.0 net (s.net_is ∙ here))
        ∙ ap Some (slot ∙ ap (λ k. get_or chosen k 0) rank_is)
        ∙ sym (ap (λ b. if b then Some (get_or chosen (cut_below p dies net) 0) else None) (ap (is_cut p dies) (sym here) ∙ is))
    by true e false is nets behind =
        let here = equal from net e in
        ap slot_found (none_below p dies count (from + 1) net cuts nets (omega (arith, here)))
        ∙ sym (ap (λ b. if b then Some (get_or chosen (cut_below p dies net) 0) else None) (ap (is_cut p dies) (sym here) ∙ is))
    by false e true is nets behind =
        let s = split from (cut_from p dies (from + 1) count) cuts nets in
        let have : HaveSlots chosen rank (s.line ∷ s.others) = subst (HaveSlots chosen rank) s.are slots in
        let others : HaveSlots chosen (rank + 1) s.others = λ k below.
        have (suc k) (omega (arith, below)) ∙ ap (λ j. get_or chosen j 0) (omega arith) in
        ap (λ (lines : List CutShown). slot_found (find_line net lines)) s.are
        ∙ ap slot_found (past s.line s.others net (ap (λ k. nat_eq k net) s.net_is ∙ e))
        ∙ behind s.others (rank + 1) s.nets_are others (ap (λ k. k + 1) starts ∙ sym (next_counted p dies from is)) (above from net e low)
    by false e false is nets behind =
        behind cuts rank nets slots (starts ∙ sym (next_uncounted p dies from is)) (above from net e low)

-- A trial that lists the cut nets of dies in file order has their terminals in the slots of its lines, chosen in this order.
pub terminals_are : (p : Netlist) (grid : Slots) (trial : ShownTrial) (dies : List Die) (chosen : List ℕ) → map (λ cut. cut.net.0) trial.cuts ≡ cut_nets p dies
    → map (λ cut. cut.slot.0) trial.cuts ≡ chosen → terminals_shown p grid trial ≡ chosen_terminals p grid dies chosen
unfolding terminals_shown
terminals_are p grid trial dies chosen nets slots =
    chosen_by_each p grid dies chosen (terminals_shown p grid trial) (length-map-range_with_len terminal 0 (length p.nets)) (λ net below.
    get_or-map-range_with_len terminal 0 (length p.nets) net net None below (omega arith) ∙ by_slot (find_line net trial.cuts)
    ∙ ap (option_map (centre_of grid)) (find_cut p dies chosen (length p.nets) 0 0 net trial.cuts nets have (starts p dies) (omega arith) (omega (arith, below)))
    ∙ placed (is_cut p dies net) (get_or chosen (cut_below p dies net) 0))
  where
    terminal : ℕ → Option Point
    terminal net = terminal_by grid (find_line net trial.cuts)

    by_slot : (line : Option CutShown) → terminal_by grid line ≡ option_map (centre_of grid) (slot_found line)
    by_slot None = refl
    by_slot (Some line) = refl

    placed : (b : Bool) (slot : ℕ) → option_map (centre_of grid) (if b then Some slot else None) ≡ (if b then Some (centre_of grid slot) else None)
    placed true slot = refl
    placed false slot = refl

    have : HaveSlots chosen 0 trial.cuts
    have k below = ap (λ (list : List ℕ). get_or list k 0) slots ∙ ap (λ j. get_or chosen j 0) (omega arith)

-- ---- the cut nets by their ranks

-- a net is cut, and so many are cut before it
pub record IsCutNet (p : Netlist) (dies : List Die) (rank net : ℕ) : Type 0 where
  pub within : net < length p.nets
  pub is_cut_net : is_cut p dies net ≡ true
  pub rank_is : cut_below p dies net ≡ rank

-- so many of the nets from one on are cut
cut_count_from : (p : Netlist) (dies : List Die) (count from : ℕ) → cut_below p dies from + length (cut_from p dies from count) ≡ cut_below p dies (from + count)
cut_count_from p dies zero from =
    let same : from ≡ from + 0 = omega arith in
    let none : cut_below p dies from + 0 ≡ cut_below p dies from = omega arith in
    none ∙ ap (cut_below p dies) same
cut_count_from p dies (suc count) from = by (is_cut p dies from) refl (cut_count_from p dies count (from + 1))
  where
    end : from + 1 + count ≡ from + suc count
    end = omega arith

    by : (b : Bool) → is_cut p dies from ≡ b → cut_below p dies (from + 1) + length (cut_from p dies (from + 1) count) ≡ cut_below p dies (from + 1 + count)
        → cut_below p dies from + length (cond b (from ∷ cut_from p dies (from + 1) count) (cut_from p dies (from + 1) count)) ≡ cut_below p dies (from + suc count)
    by true is rest = omega (arith, next_counted p dies from is, rest, ap (cut_below p dies) end)
    by false is rest = omega (arith, next_uncounted p dies from is, rest, ap (cut_below p dies) end)

-- the net of a rank among those from one on
record IsCutFrom (p : Netlist) (dies : List Die) (from count k net : ℕ) : Type 0 where
  low : from ≤ net
  high : net < from + count
  is_cut_net : is_cut p dies net ≡ true
  rank_is : cut_below p dies net ≡ cut_below p dies from + k

cut_at_from : (p : Netlist) (dies : List Die) (count from k : ℕ) → k < length (cut_from p dies from count) → IsCutFrom p dies from count k (get_or (cut_from p dies from count) k 0)
cut_at_from p dies zero from k below = absurd (omega (arith, below))
cut_at_from p dies (suc count) from k below = by (is_cut p dies from) refl k below (cut_at_from p dies count (from + 1))
  where
    by : (b : Bool) → is_cut p dies from ≡ b → (k : ℕ) → k < length (cond b (from ∷ cut_from p dies (from + 1) count) (cut_from p dies (from + 1) count))
        → ((k : ℕ) → k < length (cut_from p dies (from + 1) count) → IsCutFrom p dies (from + 1) count k (get_or (cut_from p dies (from + 1) count) k 0))
        → IsCutFrom p dies from (suc count) k (get_or (cond b (from ∷ cut_from p dies (from + 1) count) (cut_from p dies (from + 1) count)) k 0)
    by true is zero below behind = record { low = omega arith; high = omega arith; is_cut_net = is; rank_is = omega arith }
    by true is (suc k) below behind =
        let rest = behind k (omega (arith, below)) in
        record {
          low = omega (arith, rest.low);
          high = omega (arith, rest.high);
          is_cut_net = rest.is_cut_net;
          rank_is = omega (arith, rest.rank_is, next_counted p dies from is);
        }
    by false is k below behind =
        let rest = behind k below in
        record {
          low = omega (arith, rest.low);
          high = omega (arith, rest.high);
          is_cut_net = rest.is_cut_net;
          rank_is = omega (arith, rest.rank_is, next_uncounted p dies from is);
        }

pub length-cut_nets : (p : Netlist) (dies : List Die) → length (cut_nets p dies) ≡ cut p dies
length-cut_nets p dies =
    let all : cut_below p dies (0 + length p.nets) ≡ cut p dies = ap (cut_below p dies) (omega arith) in
    omega (arith, cut_count_from p dies (length p.nets) 0, starts p dies, all)

pub cut_net_at : (p : Netlist) (dies : List Die) (rank : ℕ) → rank < cut p dies → IsCutNet p dies rank (get_or (cut_nets p dies) rank 0)
cut_net_at p dies rank below =
    let is = cut_at_from p dies (length p.nets) 0 rank (omega (arith, below, length-cut_nets p dies)) in
    record { within = omega (arith, is.high); is_cut_net = is.is_cut_net; rank_is = omega (arith, is.rank_is, starts p dies) }

-- a list with the cut net of each rank is that of the cut nets
pub cut_nets_by_rank : (p : Netlist) (dies : List Die) (nets : List ℕ) → length nets ≡ cut p dies → ((rank : ℕ) → rank < length nets → IsCutNet p dies rank (get_or nets rank 0))
    → nets ≡ cut_nets p dies
cut_nets_by_rank p dies nets many each =
    ext_get_or 0 nets (cut_nets p dies) (many ∙ sym (length-cut_nets p dies)) (λ rank below.
    let mine = each rank below in
    let its = cut_net_at p dies rank (omega (arith, below, many)) in
    cut_once p dies (get_or nets rank 0) (get_or (cut_nets p dies) rank 0) mine.is_cut_net its.is_cut_net (mine.rank_is ∙ sym its.rank_is))
