-- The terminals of a drawing by nets.
use Rattle.std.proofs.Common.{◌≡◌, ◌≢◌, ℕ, ◌+◌, ◌<◌, ◌≤◌, nat_le, Bool, true, false, if◌then◌else◌, List, [], ◌∷◌, ◌++◌, length, map, filter, find, get_or, All, Option, Some, None, IfSome, IsTrue, ◌↔◌, refl, sym, ap, subst, ◌∙◌, ◌⊎◌, inl, inr, arith}
use Rattle.std.specs.List.{count_by}
use Rattle.std.specs.Option.{option_map}
use Rattle.std.proofs.Math.ListN.{get_or-eq_default}
use Rattle.std.proofs.Math.Seq.{get_or-append_seam}
use Rattle.std.proofs.lemmas.List.{get_or_append_left, length_push}
use Rattle.std.proofs.lemmas.List.Elements.{All-nil, All-cons, All-head, All-tail, All-weaker, All-from_get_or}
use Rattle.std.proofs.lemmas.Bool.{cases_lt, eq-eqb, eqb-true, le-leb, leb-true}
use Rattle.std.proofs.lemmas.Option.{same_Some}
use Rattle.fp_base.specs.declared.ids.Die.{Die}
use Rattle.fp_base.specs.declared.ids.Point.{Point}
use Rattle.fp_tech.specs.declared.dies.TermSpec.{TermSpec}
use Rattle.fp_tech.specs.Slots.{KeepsEdges, AreApart}
use Rattle.fp_netlist.specs.Netlist.{Netlist}
use Rattle.fp_place.specs.declared.drawn.DrawnTerminal.{DrawnTerminal}
use Rattle.fp_place.specs.declared.seen.Seen.{Seen}
use Rattle.fp_place.specs.declared.seen.Seen.TheVariants.{Never, Once, Often}
use Rattle.fp_place.specs.declared.fault.Fault.{Fault}
use Rattle.fp_place.specs.Places.{Place, dies_of}
use Rattle.fp_place.specs.Cut.{is_cut}
use Rattle.fp_place.specs.Drawing.{Drawing, is_net, centre_of, IsTerminalInRange}
use Rattle.fp_place.specs.Placed.{IsCentre}
use Rattle.fp_place.specs.Closeness.{IsApart, FindsClose}
use Rattle.fp_place.specs.Legal.{KeepsFromEdges, KeepsFromOthers}
use Rattle.fp_place.specs.Breaks.{RightTerminals, FromEdges, FromOthers}
use Rattle.fp_place.specs.Seen.{Tells, place_seen}
use Rattle.fp_place.specs.FirstFaults.{IsFaultOf, IsFirstFault, FindsFirst, HoldBelow, net_subject, earlier}
use Rattle.fp_place.specs.Joining.{is_joined, IsJoined, AreCentres, AreJoined, CentreKeepsEdges, strangers, IsApartFrom, IsAlone, AreInRange, AreTerminals}
use Rattle.fp_place.specs.DrawnLaws.{count_yes, count_no, find_yes, find_no}
use Rattle.fp_place.proofs.FaultLemmas.{one_more, first_fault, fault_alike, first_of_both}

-- what is seen of a net
pub record IsJoinedBy {A : Type 0} (test : A → Bool) (at : A → Point) (lines : List A) (slot : Seen) (cut : Bool) : Type 0 where
  pub counted : count_by test lines ≡ (if cut then 1 else 0)
  pub centre : place_seen slot ≡ option_map at (find test lines)
  pub one : count_by test lines ≤ 1

pub joined : {A : Type 0} (test : A → Bool) (at : A → Point) (lines : List A) (slot : Seen) (cut : Bool) → Tells test at lines slot → is_joined slot cut ≡ true
    → IsJoinedBy test at lines slot cut
joined test at lines Never true told e = absurd (let nothing : false ≡ true = e in cc)
joined test at lines Never false told e = record { counted = told.0; centre = sym (ap (option_map at) told.1); one = omega (arith, told.0) }
joined test at lines (Once place) true told e = record { counted = told.0; centre = sym told.1; one = omega (arith, told.0) }
joined test at lines (Once place) false told e = absurd (let nothing : false ≡ true = e in cc)
joined test at lines Often cut told e = absurd (let nothing : false ≡ true = e in cc)

pub not_joined : {A : Type 0} (test : A → Bool) (at : A → Point) (lines : List A) (slot : Seen) (cut : Bool) → Tells test at lines slot → is_joined slot cut ≡ false
    → count_by test lines ≡ (if cut then 1 else 0) → ⊥
not_joined test at lines Never true told e is = omega (arith, told.0, is)
not_joined test at lines Never false told e is = let nothing : true ≡ false = e in cc
not_joined test at lines (Once place) true told e is = let nothing : true ≡ false = e in cc
not_joined test at lines (Once place) false told e is = omega (arith, told.0, is)
not_joined test at lines Often true told e is = omega (arith, told, is)
not_joined test at lines Often false told e is = omega (arith, told, is)

-- one more net
pub record AreJoinedBelow (p : Netlist) (dies : List Die) (lines : List DrawnTerminal) (centres : List (Option Point)) (net : ℕ) : Type 0 where
  pub many : length centres ≡ net
  pub centre : (before : ℕ) → before < net → get_or centres before None ≡ option_map centre_of (find (is_net before) lines)
  pub one : (before : ℕ) → before < net → count_by (is_net before) lines ≤ 1
  pub joined : (before : ℕ) → before < net → IsJoined p dies lines before

below_next : (holds : ℕ → Type 0) (net : ℕ) → ((before : ℕ) → before < net → holds before) → holds net → (before : ℕ) → before < net + 1 → holds before
below_next holds net below here before less = by (cases_lt before net)
  where
    by : (before < net) ⊎ (net ≤ before) → holds before
    by (inl less) = below before less
    by (inr from) = subst holds (let same : net ≡ before = omega (arith, from, less) in same) here

pub joined_more : (p : Netlist) (dies : List Die) (lines : List DrawnTerminal) (centres more : List (Option Point)) (net : ℕ) (slot : Seen) (at : Option Point) (cut right : Bool)
    → AreJoinedBelow p dies lines centres net → more ≡ centres ++ at ∷ [] → at ≡ place_seen slot → cut ≡ is_cut p dies net → right ≡ is_joined slot cut → right ≡ true
    → Tells (is_net net) centre_of lines slot → AreJoinedBelow p dies lines more (net + 1)
joined_more p dies lines centres more net slot at cut right are e at_is cut_is right_is passes told =
    let by = joined (is_net net) centre_of lines slot cut told (sym right_is ∙ passes) in
    record {
      many = ap length e ∙ length_push centres at ∙ ap (λ n. n + 1) are.many;
      centre = below_next (λ k. get_or more k None ≡ option_map centre_of (find (is_net k) lines)) net
          (λ before less. ap (λ cs. get_or cs before None) e ∙ get_or_append_left centres (at ∷ []) None before (omega (arith, less, are.many)) ∙ are.centre before less)
          (ap (λ cs. get_or cs net None) e ∙ at_end ∙ at_is ∙ by.centre);
      one = below_next (λ k. count_by (is_net k) lines ≤ 1) net are.one by.one;
      joined = below_next (IsJoined p dies lines) net are.joined (by.counted ∙ ap (λ (b : Bool). if b then 1 else 0) cut_is);
    }
  where
    at_end : get_or (centres ++ at ∷ []) net None ≡ at
    at_end = ap (λ n. get_or (centres ++ at ∷ []) n None) (sym are.many) ∙ get_or-append_seam centres at [] None

pub joined_none : (p : Netlist) (dies : List Die) (lines : List DrawnTerminal) (centres : List (Option Point)) → centres ≡ [] → AreJoinedBelow p dies lines centres 0
joined_none p dies lines centres e = record {
  many = ap length e;
  centre = λ before less. absurd (omega (arith, less));
  one = λ before less. absurd (omega (arith, less));
  joined = λ before less. absurd (omega (arith, less));
}

pub joined_all : (p : Netlist) (dies : List Die) (lines : List DrawnTerminal) (centres : List (Option Point)) (net : ℕ) → net ≡ length p.nets → AreJoinedBelow p dies lines centres net
    → AreJoined p dies lines centres
joined_all p dies lines centres net e are =
    let all : AreJoinedBelow p dies lines centres (length p.nets) = subst (AreJoinedBelow p dies lines centres) e are in
    record { are = record { many = all.many; centre = all.centre; one = all.one }; joined = all.joined }

pub not_joined_net : (p : Netlist) (dies : List Die) (lines : List DrawnTerminal) (net : ℕ) (slot : Seen) (cut right : Bool) → cut ≡ is_cut p dies net → right ≡ is_joined slot cut → right ≡ false
    → Tells (is_net net) centre_of lines slot → IsJoined p dies lines net → ⊥
not_joined_net p dies lines net slot cut right cut_is right_is fails told is =
    not_joined (is_net net) centre_of lines slot cut told (sym right_is ∙ fails) (is ∙ ap (λ (b : Bool). if b then 1 else 0) (sym cut_is))

-- the first line that passes
pub find_some : {A : Type 0} (P : A → Type 0) (test : A → Bool) (lines : List A) → All P lines → IfSome (find test lines) (λ line. (test line ≡ true) × P line)
find_some P test [] all = tt
find_some P test (line ∷ lines) all = by (test line) refl (find_some P test lines (All-tail P line lines all))
  where
    by : (b : Bool) → test line ≡ b → IfSome (find test lines) (λ line. (test line ≡ true) × P line) → IfSome (if b then Some line else find test lines) (λ line. (test line ≡ true) × P line)
    by true e rest = (e, All-head P line lines all)
    by false e rest = rest

-- no line passes
none_pass : {A : Type 0} (test : A → Bool) (lines : List A) → count_by test lines ≡ 0 → All (λ line. test line ≡ true → ⊥) lines
none_pass test [] none = All-nil (λ line. test line ≡ true → ⊥)
none_pass test (line ∷ lines) none = by (test line) refl (λ fails. none_pass test lines (omega (arith, none, count_no test line lines fails)))
  where
    by : (b : Bool) → test line ≡ b → (test line ≡ false → All (λ line. test line ≡ true → ⊥) lines) → All (λ line. test line ≡ true → ⊥) (line ∷ lines)
    by true e rest = absurd (omega (arith, none, count_yes test line lines e))
    by false e rest = All-cons (λ line. test line ≡ true → ⊥) line lines (λ passes. let nothing : false ≡ true = sym e ∙ passes in cc) (rest e)

-- the one line that passes is found
pub one_line : {A : Type 0} (test : A → Bool) (lines : List A) → count_by test lines ≤ 1 → All (λ line. test line ≡ true → find test lines ≡ Some line) lines
one_line test [] one = All-nil (λ line. test line ≡ true → None ≡ Some line)
one_line {A} test (line ∷ lines) one = by (test line) refl (λ fails. one_line test lines (omega (arith, one, count_no test line lines fails)))
  where
    P : A → Type 0
    P other = test other ≡ true → find test (line ∷ lines) ≡ Some other

    by : (b : Bool) → test line ≡ b → (test line ≡ false → All (λ other. test other ≡ true → find test lines ≡ Some other) lines)
        → All (λ other. test other ≡ true → find test (line ∷ lines) ≡ Some other) (line ∷ lines)
    by true e rest = All-cons (λ other. test other ≡ true → find test (line ∷ lines) ≡ Some other) line lines (λ passes. find_yes test line lines e)
        (All-weaker (λ other. test other ≡ true → ⊥) (λ other. test other ≡ true → find test (line ∷ lines) ≡ Some other) (λ other none passes. absurd (none passes)) lines
        (none_pass test lines (omega (arith, one, count_yes test line lines e))))
    by false e rest = All-cons (λ other. test other ≡ true → find test (line ∷ lines) ≡ Some other) line lines (λ passes. absurd (let nothing : false ≡ true = sym e ∙ passes in cc))
        (All-weaker (λ other. test other ≡ true → find test lines ≡ Some other) (λ other. test other ≡ true → find test (line ∷ lines) ≡ Some other)
        (λ other found passes. find_no test line lines e ∙ found passes) lines (rest e))

-- what holds of some option
pub if_some : {A : Type 0} (o : Option A) (P : A → Type 0) → ((x : A) → o ≡ Some x → P x) → IfSome o P
if_some None P holds = tt
if_some (Some x) P holds = holds x refl

pub at_some : {A : Type 0} (o : Option A) (P : A → Type 0) (x : A) → o ≡ Some x → IfSome o P → P x
at_some o P x e holds = let here : IfSome (Some x) P = subst (λ q. IfSome q P) e holds in here

-- a net's centre is that of one of its lines, of which all holds that holds of all lines
pub record IsLineAt (P : DrawnTerminal → Type 0) (net : ℕ) (point : Point) : Type 0 where
  pub line : DrawnTerminal
  pub net_is : line.net.0 ≡ net
  pub is : centre_of line ≡ point
  pub holds : P line

found_line : (P : DrawnTerminal → Type 0) (net : ℕ) (point : Point) (found : Option DrawnTerminal) → option_map centre_of found ≡ Some point
    → IfSome found (λ line. (is_net net line ≡ true) × P line) → IsLineAt P net point
found_line P net point None e holds = absurd (let nothing : None ≡ Some point = e in cc)
found_line P net point (Some line) e holds =
    record { line = line; net_is = eqb-true line.net.0 net holds.0; is = same_Some (centre_of line) point e; holds = holds.1 }

within_nets : (nets : ℕ) (lines : List DrawnTerminal) (centres : List (Option Point)) (net : ℕ) (point : Point) → AreCentres nets lines centres → get_or centres net None ≡ Some point → net < nets
within_nets nets lines centres net point are e = by (cases_lt net nets)
  where
    by : (net < nets) ⊎ (nets ≤ net) → net < nets
    by (inl less) = less
    by (inr past) = absurd (let nothing : None ≡ Some point = sym (get_or-eq_default centres None (omega (arith, past, are.many))) ∙ e in cc)

pub centre_line : (nets : ℕ) (lines : List DrawnTerminal) (centres : List (Option Point)) (net : ℕ) (point : Point) (P : DrawnTerminal → Type 0) → AreCentres nets lines centres
    → get_or centres net None ≡ Some point → All P lines → IsLineAt P net point
centre_line nets lines centres net point P are e all =
    found_line P net point (find (is_net net) lines) (sym (are.centre net (within_nets nets lines centres net point are e)) ∙ e) (find_some P (is_net net) lines all)

-- the centre of a net's line is the net's
pub line_centre : (nets : ℕ) (lines : List DrawnTerminal) (centres : List (Option Point)) → AreCentres nets lines centres → (net : ℕ) → net < nets
    → All (λ line. line.net.0 ≡ net → get_or centres net None ≡ Some (centre_of line)) lines
line_centre nets lines centres are net below =
    All-weaker (λ line. is_net net line ≡ true → find (is_net net) lines ≡ Some line) (λ line. line.net.0 ≡ net → get_or centres net None ≡ Some (centre_of line))
    (λ line found same. are.centre net below ∙ ap (option_map centre_of) (found (eq-eqb line.net.0 net same))) lines
    (one_line (is_net net) lines (are.one net below))

-- centres are in range
pub centres_in_range : (nets : ℕ) (lines : List DrawnTerminal) (centres : List (Option Point)) → AreCentres nets lines centres → All IsTerminalInRange lines → AreInRange centres
centres_in_range nets lines centres are range =
    All-from_get_or (λ centre. IfSome centre IsCentre) centres None
    (λ net less. if_some (get_or centres net None) IsCentre (λ point e.
    let line = centre_line nets lines centres net point IsTerminalInRange are e range in
    subst IsCentre line.is (record { x = line.holds.0; y = line.holds.1 })))

-- rule 8
pub edges_from : (p : Netlist) (drawing : Drawing) (centres : List (Option Point)) (net : ℕ) → AreCentres (length p.nets) drawing.terminals centres
    → KeepsFromEdges p drawing net → CentreKeepsEdges p.plan.frame p.plan.terminal centres net
edges_from p drawing centres net are keeps =
    if_some (get_or centres net None) (KeepsEdges p.plan.frame p.plan.terminal) (λ point e.
    let line = centre_line (length p.nets) drawing.terminals centres net point (λ line. line.net.0 ≡ net → KeepsEdges p.plan.frame p.plan.terminal (centre_of line)) are e keeps in
    subst (KeepsEdges p.plan.frame p.plan.terminal) line.is (line.holds line.net_is))

pub edges_to : (p : Netlist) (drawing : Drawing) (centres : List (Option Point)) (net : ℕ) → AreCentres (length p.nets) drawing.terminals centres → net < length p.nets
    → CentreKeepsEdges p.plan.frame p.plan.terminal centres net → KeepsFromEdges p drawing net
edges_to p drawing centres net are below keeps =
    All-weaker (λ line. line.net.0 ≡ net → get_or centres net None ≡ Some (centre_of line)) (λ line. line.net.0 ≡ net → KeepsEdges p.plan.frame p.plan.terminal (centre_of line))
    (λ line is same. at_some (get_or centres net None) (KeepsEdges p.plan.frame p.plan.terminal) (centre_of line) (is same) keeps) drawing.terminals
    (line_centre (length p.nets) drawing.terminals centres are net below)

-- the lines of nets past the last
pub strangers_from : (nets : ℕ) (P : Point → Type 0) (lines : List DrawnTerminal) → All (λ line. nat_le nets line.net.0 ≡ true → P (centre_of line)) lines → All P (strangers nets lines)
strangers_from nets P [] all = All-nil P
strangers_from nets P (line ∷ lines) all =
    by (nat_le nets line.net.0) refl (strangers_from nets P lines (All-tail (λ line. nat_le nets line.net.0 ≡ true → P (centre_of line)) line lines all))
  where
    by : (b : Bool) → nat_le nets line.net.0 ≡ b → All P (strangers nets lines)
        → All P (map centre_of (if b then line ∷ filter (λ line. nat_le nets line.net.0) lines else filter (λ line. nat_le nets line.net.0) lines))
    by true e rest = All-cons P (centre_of line) (strangers nets lines) (All-head (λ line. nat_le nets line.net.0 ≡ true → P (centre_of line)) line lines all e) rest
    by false e rest = rest

pub strangers_to : (nets : ℕ) (P : Point → Type 0) (lines : List DrawnTerminal) → All P (strangers nets lines) → All (λ line. nat_le nets line.net.0 ≡ true → P (centre_of line)) lines
strangers_to nets P [] all = All-nil (λ line. nat_le nets line.net.0 ≡ true → P (centre_of line))
strangers_to nets P (line ∷ lines) all = by (nat_le nets line.net.0) refl all (λ rest. strangers_to nets P lines rest)
  where
    by : (b : Bool) → nat_le nets line.net.0 ≡ b
        → All P (map centre_of (if b then line ∷ filter (λ line. nat_le nets line.net.0) lines else filter (λ line. nat_le nets line.net.0) lines))
        → (All P (strangers nets lines) → All (λ line. nat_le nets line.net.0 ≡ true → P (centre_of line)) lines)
        → All (λ line. nat_le nets line.net.0 ≡ true → P (centre_of line)) (line ∷ lines)
    by true e here rest = All-cons (λ line. nat_le nets line.net.0 ≡ true → P (centre_of line)) line lines (λ passes. All-head P (centre_of line) (strangers nets lines) here)
        (rest (All-tail P (centre_of line) (strangers nets lines) here))
    by false e here rest = All-cons (λ line. nat_le nets line.net.0 ≡ true → P (centre_of line)) line lines (λ passes. absurd (let nothing : false ≡ true = sym e ∙ passes in cc)) (rest here)

pub strangers_in_range : (nets : ℕ) (lines : List DrawnTerminal) (others : List Point) → others ≡ strangers nets lines → All IsTerminalInRange lines → All IsCentre others
strangers_in_range nets lines others e range =
    subst (All IsCentre) (sym e)
    (strangers_from nets IsCentre lines
    (All-weaker IsTerminalInRange (λ line. nat_le nets line.net.0 ≡ true → IsCentre (centre_of line)) (λ line is passes. record { x = is.0; y = is.1 }) lines range))

-- rule 9
abbrev OthersApart : TermSpec → List DrawnTerminal → ℕ → Point → Type 0
OthersApart terminal lines net point = All (λ other. other.net.0 ≢ net → AreApart terminal point (centre_of other)) lines

pub apart_from : (p : Netlist) (drawing : Drawing) (centres : List (Option Point)) (net : ℕ) → AreCentres (length p.nets) drawing.terminals centres → net < length p.nets
    → KeepsFromOthers p drawing net → IsAlone p drawing.terminals centres net
apart_from p drawing centres net are below keeps = (
  (λ point e other differ there is.
      let line = centre_line (length p.nets) drawing.terminals centres other there (λ other. other.net.0 ≢ net → AreApart p.plan.terminal point (centre_of other)) are is (all_of point e) in
      subst (AreApart p.plan.terminal point) line.is (line.holds (λ same. differ (sym line.net_is ∙ same)))),
  if_some (get_or centres net None) (λ point. All (AreApart p.plan.terminal point) (strangers (length p.nets) drawing.terminals)) (λ point e.
      strangers_from (length p.nets) (AreApart p.plan.terminal point) drawing.terminals
      (All-weaker (λ other. other.net.0 ≢ net → AreApart p.plan.terminal point (centre_of other)) (λ other. nat_le (length p.nets) other.net.0 ≡ true → AreApart p.plan.terminal point (centre_of other))
      (λ other apart passes. apart (λ same. omega (arith, below, same, leb-true (length p.nets) other.net.0 passes))) drawing.terminals (all_of point e))),
)
  where
    all_of : (point : Point) → get_or centres net None ≡ Some point → OthersApart p.plan.terminal drawing.terminals net point
    all_of point e =
        let line = centre_line (length p.nets) drawing.terminals centres net point (λ line. line.net.0 ≡ net → OthersApart p.plan.terminal drawing.terminals net (centre_of line)) are e keeps in
        subst (OthersApart p.plan.terminal drawing.terminals net) line.is (line.holds line.net_is)

-- what a line's centre is apart from
pub apart_to : (p : Netlist) (drawing : Drawing) (centres : List (Option Point)) (net : ℕ) → AreCentres (length p.nets) drawing.terminals centres → net < length p.nets
    → IsAlone p drawing.terminals centres net → KeepsFromOthers p drawing net
apart_to p drawing centres net are below alone =
    All-weaker (λ line. line.net.0 ≡ net → get_or centres net None ≡ Some (centre_of line)) (λ line. line.net.0 ≡ net → OthersApart p.plan.terminal drawing.terminals net (centre_of line))
    (λ line is same. all_apart (centre_of line) (is same)) drawing.terminals (line_centre (length p.nets) drawing.terminals centres are net below)
  where
    here : (point : Point) → get_or centres net None ≡ Some point → (other : DrawnTerminal) → (other.net.0 < length p.nets → get_or centres other.net.0 None ≡ Some (centre_of other))
        → (nat_le (length p.nets) other.net.0 ≡ true → AreApart p.plan.terminal point (centre_of other)) → other.net.0 ≢ net
        → (other.net.0 < length p.nets) ⊎ (length p.nets ≤ other.net.0) → AreApart p.plan.terminal point (centre_of other)
    here point e other is far differ (inl less) = alone.0 point e other.net.0 differ (centre_of other) (is less)
    here point e other is far differ (inr past) = far (le-leb (length p.nets) other.net.0 past)

    all_apart : (point : Point) → get_or centres net None ≡ Some point → OthersApart p.plan.terminal drawing.terminals net point
    all_apart point e = λ k d less differ.
        here point e (get_or drawing.terminals k d) (λ inside. line_centre (length p.nets) drawing.terminals centres are (get_or drawing.terminals k d).net.0 inside k d less refl)
        (strangers_to (length p.nets) (AreApart p.plan.terminal point) drawing.terminals
        (at_some (get_or centres net None) (λ point. All (AreApart p.plan.terminal point) (strangers (length p.nets) drawing.terminals)) point e alone.1) k d less)
        differ (cases_lt (get_or drawing.terminals k d).net.0 (length p.nets))

-- a close net is the first that is not apart
pub close_first : (terminal : TermSpec) (centres : List (Option Point)) (count : ℕ) (found : Option ℕ) → length centres ≡ count → FindsClose terminal centres found
    → FindsFirst count (IsApart terminal centres) found
close_first terminal centres count None many finds = λ net less. finds net (omega (arith, less, many))
close_first terminal centres count (Some net) many finds = record { counted = omega (arith, finds.0, many); broken = finds.1; first = finds.2 }

-- rules 7 to 9, one by one
pub seventh_done : (p : Netlist) (drawing : Drawing) (dies : List Die) (places : List Place) → dies ≡ dies_of places → ((net : ℕ) → net < length p.nets → IsJoined p dies drawing.terminals net)
    → HoldBelow p drawing places 7 → HoldBelow p drawing places 8
seventh_done p drawing dies places e joined below =
    one_more p drawing places RightTerminals 8 refl below (λ net less. subst (λ ds. IsJoined p ds drawing.terminals net) e (joined net less))

pub eighth_done : (p : Netlist) (drawing : Drawing) (places : List Place) (centres : List (Option Point)) → AreCentres (length p.nets) drawing.terminals centres
    → ((net : ℕ) → net < length p.nets → CentreKeepsEdges p.plan.frame p.plan.terminal centres net) → HoldBelow p drawing places 8 → HoldBelow p drawing places 9
eighth_done p drawing places centres are keeps below =
    one_more p drawing places FromEdges 9 refl below (λ net less. edges_to p drawing centres net are less (keeps net less))

pub ninth_done : (p : Netlist) (drawing : Drawing) (places : List Place) (centres : List (Option Point)) → AreCentres (length p.nets) drawing.terminals centres
    → ((net : ℕ) → net < length p.nets → IsAlone p drawing.terminals centres net) → HoldBelow p drawing places 9 → HoldBelow p drawing places 10
ninth_done p drawing places centres are alone below =
    one_more p drawing places FromOthers 10 refl below (λ net less. apart_to p drawing centres net are less (alone net less))

pub seventh_broken : (p : Netlist) (drawing : Drawing) (dies : List Die) (places : List Place) (lines : List DrawnTerminal) (fault : Fault) → dies ≡ dies_of places → lines ≡ drawing.terminals
    → IsFaultOf (length p.nets) (IsJoined p dies lines) 7 net_subject fault → HoldBelow p drawing places 7 → IsFirstFault p drawing places fault
seventh_broken p drawing dies places lines fault e lines_are is below =
    first_fault p drawing places RightTerminals fault below
    (subst (λ ls. IsFaultOf (length p.nets) (IsJoined p (dies_of places) ls) 7 net_subject fault) lines_are
    (subst (λ ds. IsFaultOf (length p.nets) (IsJoined p ds lines) 7 net_subject fault) e is))

pub eighth_broken : (p : Netlist) (drawing : Drawing) (places : List Place) (centres : List (Option Point)) (fault : Fault) → AreCentres (length p.nets) drawing.terminals centres
    → IsFaultOf (length p.nets) (CentreKeepsEdges p.plan.frame p.plan.terminal centres) 8 net_subject fault → HoldBelow p drawing places 8 → IsFirstFault p drawing places fault
eighth_broken p drawing places centres fault are is below =
    first_fault p drawing places FromEdges fault below
    (fault_alike (length p.nets) (CentreKeepsEdges p.plan.frame p.plan.terminal centres) (KeepsFromEdges p drawing) 8 net_subject fault
    (λ net less. edges_to p drawing centres net are less) (λ net less. edges_from p drawing centres net are) is)

pub ninth_broken : (p : Netlist) (drawing : Drawing) (places : List Place) (centres : List (Option Point)) (fault : Fault) → AreCentres (length p.nets) drawing.terminals centres
    → IsFaultOf (length p.nets) (IsAlone p drawing.terminals centres) 9 net_subject fault → HoldBelow p drawing places 9 → IsFirstFault p drawing places fault
ninth_broken p drawing places centres fault are is below =
    first_fault p drawing places FromOthers fault below
    (fault_alike (length p.nets) (IsAlone p drawing.terminals centres) (KeepsFromOthers p drawing) 9 net_subject fault
    (λ net less. apart_to p drawing centres net are less) (λ net less. apart_from p drawing centres net are less) is)

-- one of two, where the first does not hold
pub or_else : (P Q : Type 0) (first second : Bool) → (IsTrue first ↔ P) → first ≡ false → (IsTrue second ↔ Q) → (IsTrue second ↔ (P ⊎ Q))
or_else P Q first second is fails also = (λ h. inr (also.0 h), λ h. by h)
  where
    by : P ⊎ Q → IsTrue second
    by (inl p) = absurd (let nothing : false ≡ true = sym fails ∙ is.1 p in cc)
    by (inr q) = also.1 q

-- all so far, and the next one not
pub not_all : (P : Point → Type 0) (others : List Point) (k : ℕ) (d : Point) (test : Bool) → k < length others → test ≡ false → (IsTrue test ↔ P (get_or others k d)) → All P others → ⊥
not_all P others k d test less fails is all = let nothing : false ≡ true = sym fails ∙ is.1 (all k d less) in cc

-- both of two, where the first holds
pub and_then : (P Q : Type 0) (first second : Bool) → (IsTrue first ↔ P) → first ≡ true → (IsTrue second ↔ Q) → (IsTrue second ↔ (P × Q))
and_then P Q first second is passes also = (λ h. (is.0 passes, also.0 h), λ h. also.1 h.1)

-- the first net whose terminal is too close to another
pub alone_found : (p : Netlist) (lines : List DrawnTerminal) (centres : List (Option Point)) (terminal : TermSpec) (others given : List Point) (nets : ℕ) (close beside found : Option ℕ)
    → terminal ≡ p.plan.terminal → nets ≡ length p.nets → given ≡ strangers nets lines → others ≡ given → length centres ≡ length p.nets → FindsClose terminal centres close
    → FindsFirst (length centres) (IsApartFrom terminal others centres) beside → found ≡ earlier close beside → FindsFirst (length p.nets) (IsAlone p lines centres) found
alone_found p lines centres terminal others given nets close beside found t_is n_is g_is o_is many closes besides is =
    let here : FindsFirst (length p.nets) (IsApart p.plan.terminal centres) close =
    subst (λ t. FindsFirst (length p.nets) (IsApart t centres) close) t_is (close_first terminal centres (length p.nets) close many closes) in
    let there : FindsFirst (length p.nets) (IsApartFrom p.plan.terminal (strangers (length p.nets) lines) centres) beside =
    subst (λ n. FindsFirst n (IsApartFrom p.plan.terminal (strangers (length p.nets) lines) centres) beside) many
    (subst (λ os. FindsFirst (length centres) (IsApartFrom p.plan.terminal os centres) beside) (o_is ∙ g_is ∙ ap (λ n. strangers n lines) n_is)
    (subst (λ t. FindsFirst (length centres) (IsApartFrom t others centres) beside) t_is besides)) in
    subst (FindsFirst (length p.nets) (IsAlone p lines centres)) (sym is)
    (first_of_both (length p.nets) (IsApart p.plan.terminal centres) (IsApartFrom p.plan.terminal (strangers (length p.nets) lines) centres) close beside here there)

-- the ends of join
pub all_joined : (p : Netlist) (drawing : Drawing) (dies : List Die) (places : List Place) (lines again : List DrawnTerminal) (edged alone centres : List (Option Point))
    → dies ≡ dies_of places → lines ≡ drawing.terminals → again ≡ drawing.terminals → edged ≡ centres → alone ≡ centres → All IsTerminalInRange drawing.terminals → AreJoined p dies lines centres
    → ((net : ℕ) → net < length p.nets → CentreKeepsEdges p.plan.frame p.plan.terminal edged net) → ((net : ℕ) → net < length p.nets → IsAlone p again alone net)
    → AreTerminals p drawing places centres
all_joined p drawing dies places lines again edged alone centres d_is l_is again_is e_is a_is range joined keeps apart =
    let here : AreJoined p dies drawing.terminals centres = subst (λ ls. AreJoined p dies ls centres) l_is joined in
    let edges : ((net : ℕ) → net < length p.nets → CentreKeepsEdges p.plan.frame p.plan.terminal centres net) =
    subst (λ cs. (net : ℕ) → net < length p.nets → CentreKeepsEdges p.plan.frame p.plan.terminal cs net) e_is keeps in
    let others : ((net : ℕ) → net < length p.nets → IsAlone p drawing.terminals centres net) =
    subst (λ ls. (net : ℕ) → net < length p.nets → IsAlone p ls centres net) again_is
    (subst (λ cs. (net : ℕ) → net < length p.nets → IsAlone p again cs net) a_is apart) in
    record {
      are = here.are;
      in_range = centres_in_range (length p.nets) drawing.terminals centres here.are range;
      holds = λ below. ninth_done p drawing places centres here.are others (eighth_done p drawing places centres here.are edges (seventh_done p drawing dies places d_is here.joined below));
    }

pub edges_broken : (p : Netlist) (drawing : Drawing) (dies : List Die) (places : List Place) (lines : List DrawnTerminal) (edged centres : List (Option Point)) (fault : Fault)
    → dies ≡ dies_of places → lines ≡ drawing.terminals → edged ≡ centres → AreJoined p dies lines centres
    → IsFaultOf (length p.nets) (CentreKeepsEdges p.plan.frame p.plan.terminal edged) 8 net_subject fault → HoldBelow p drawing places 7 → IsFirstFault p drawing places fault
edges_broken p drawing dies places lines edged centres fault d_is l_is e_is joined is below =
    let here : AreJoined p dies drawing.terminals centres = subst (λ ls. AreJoined p dies ls centres) l_is joined in
    eighth_broken p drawing places centres fault here.are
    (subst (λ cs. IsFaultOf (length p.nets) (CentreKeepsEdges p.plan.frame p.plan.terminal cs) 8 net_subject fault) e_is is)
    (seventh_done p drawing dies places d_is here.joined below)

pub apart_broken : (p : Netlist) (drawing : Drawing) (dies : List Die) (places : List Place) (lines again : List DrawnTerminal) (edged alone centres : List (Option Point)) (fault : Fault)
    → dies ≡ dies_of places → lines ≡ drawing.terminals → again ≡ drawing.terminals → edged ≡ centres → alone ≡ centres → AreJoined p dies lines centres
    → ((net : ℕ) → net < length p.nets → CentreKeepsEdges p.plan.frame p.plan.terminal edged net)
    → IsFaultOf (length p.nets) (IsAlone p again alone) 9 net_subject fault → HoldBelow p drawing places 7 → IsFirstFault p drawing places fault
apart_broken p drawing dies places lines again edged alone centres fault d_is l_is again_is e_is a_is joined keeps is below =
    let here : AreJoined p dies drawing.terminals centres = subst (λ ls. AreJoined p dies ls centres) l_is joined in
    let edges : ((net : ℕ) → net < length p.nets → CentreKeepsEdges p.plan.frame p.plan.terminal centres net) =
    subst (λ cs. (net : ℕ) → net < length p.nets → CentreKeepsEdges p.plan.frame p.plan.terminal cs net) e_is keeps in
    ninth_broken p drawing places centres fault here.are
    (subst (λ ls. IsFaultOf (length p.nets) (IsAlone p ls centres) 9 net_subject fault) again_is
    (subst (λ cs. IsFaultOf (length p.nets) (IsAlone p again cs) 9 net_subject fault) a_is is))
    (eighth_done p drawing places centres here.are edges (seventh_done p drawing dies places d_is here.joined below))

pub found_in_range : (p : Netlist) (drawing : Drawing) (dies : List Die) (lines : List DrawnTerminal) (given centres : List (Option Point))
    → lines ≡ drawing.terminals → given ≡ centres → All IsTerminalInRange drawing.terminals → AreJoined p dies lines centres → AreInRange given
found_in_range p drawing dies lines given centres l_is g_is range joined =
    subst AreInRange (sym g_is)
    (centres_in_range (length p.nets) drawing.terminals centres (subst (λ ls. AreJoined p dies ls centres) l_is joined).are range)
