-- What the verdict answers, as the program's endings say it.
use Rattle.std.proofs.Common.{◌≡◌, ℕ, suc, ◌<◌, List, [], ◌∷◌, length, find, Option, None, get_or, pos, refl, sym, ap, subst, ◌∙◌, arith, inl, inr}
use Rattle.std.specs.Option.{option_map}
use Rattle.fp_base.specs.declared.ids.Point.{Point}
use Rattle.std.proofs.lemmas.List.FromFn.{length-map-range_with_len, get_or-map-range_with_len}
use Rattle.fp_netlist.specs.Netlist.{Netlist}
use Rattle.fp_place.specs.declared.judge.Subject.{Subject}
use Rattle.fp_place.specs.Breaks.{Rule, EachOnce, OnSegments, Heights, NoOverlaps, TopPercent, BottomPercent, RightTerminals, FromEdges, FromOthers, subjects, subject_of, IsFirstBreak, IsAsDrawn}
use Rattle.fp_place.specs.Drawing.{Drawing, is_net, centre_of, places_in}
use Rattle.fp_place.specs.Placed.{Placed, places_of, IsPlacementOf}
use Rattle.fp_score.specs.Score.{score}
use Rattle.fp_place.specs.BreaksLaws.{not_both}
use Rattle.faceplace.specs.Outcome.{Outcome}
use Rattle.faceplace.specs.Due.{ScoreDue}
use Rattle.faceplace.specs.Owed.{ScoreOwes}
use Rattle.faceplace.specs.Drawn.{drawn_terminals, drawn_score}
use Rattle.faceplace.specs.Subjects.{IsSubjectOf}

-- what breaks a rule is one of the problem
pub subject_within : (p : Netlist) (drawing : Drawing) (rule : ℕ) (subject : Subject) → IsFirstBreak p drawing rule subject → IsSubjectOf p subject
subject_within p drawing rule subject (broken, number, is, subject_is, first) = subst (IsSubjectOf p) (sym subject_is) (by broken first.counted)
  where
    by : (broken : Rule) → number < subjects p broken → IsSubjectOf p (subject_of broken number)
    by EachOnce within = within
    by OnSegments within = within
    by Heights within = within
    by NoOverlaps within = within
    by TopPercent within = tt
    by BottomPercent within = tt
    by RightTerminals within = within
    by FromEdges within = within
    by FromOthers within = within

-- lists of terminals that agree at each net
same_terminals : (xs ys : List (Option Point)) → length xs ≡ length ys → ((k : ℕ) → k < length ys → get_or xs k None ≡ get_or ys k None) → xs ≡ ys
same_terminals [] [] long at = refl
same_terminals [] (y ∷ ys) long at = absurd (omega (arith, long))
same_terminals (x ∷ xs) [] long at = absurd (omega (arith, long))
same_terminals (x ∷ xs) (y ∷ ys) long at =
    ap (λ z. z ∷ xs) (at 0 (omega arith)) ∙ ap (λ zs. y ∷ zs) (same_terminals xs ys (omega (arith, long)) (λ k below. at (suc k) (omega arith)))

-- a placement's terminals are those that are drawn
terminals_drawn : (p : Netlist) (drawing : Drawing) (placed : Placed) → IsAsDrawn p drawing placed → IsPlacementOf p placed → placed.terminals ≡ drawn_terminals p drawing
terminals_drawn p drawing placed drawn is =
    let many : length (drawn_terminals p drawing) ≡ length p.nets = length-map-range_with_len (λ net. option_map centre_of (find (is_net net) drawing.terminals)) 0 (length p.nets) in
    same_terminals placed.terminals (drawn_terminals p drawing) (is.nets ∙ sym many) (λ net below.
    let within : net < length p.nets = omega (arith, many) in
    drawn.terminals_are net within
    ∙ sym (get_or-map-range_with_len (λ net. option_map centre_of (find (is_net net) drawing.terminals)) 0 (length p.nets) net net None within (omega arith)))

-- its score is that of the drawing
pub scored_as_drawn : (p : Netlist) (drawing : Drawing) (placed : Placed) (total : ℕ) → IsAsDrawn p drawing placed → IsPlacementOf p placed
    → pos total ≡ score p (places_of placed) placed.terminals → pos total ≡ drawn_score p drawing
scored_as_drawn p drawing placed total drawn is scored =
    scored ∙ ap (λ places. score p places placed.terminals) drawn.cells_are ∙ ap (score p (places_in drawing (length p.cells))) (terminals_drawn p drawing placed drawn is)

-- what is due for a drawing has the status that is owed
pub score_owed : (p : Netlist) (drawing : Drawing) (outcome : Outcome) (status : ℕ) → ScoreDue p drawing outcome → ScoreOwes p drawing status → outcome.status ≡ status
score_owed p drawing outcome status (inl due) (inl owed) = ap (λ (o : Outcome). o.status) due.is ∙ sym owed.1
score_owed p drawing outcome status (inl due) (inr owed) = absurd (owed.0 due.legal)
score_owed p drawing outcome status (inr due) (inl owed) = absurd (not_both p drawing due.rule due.subject owed.0 due.breaks)
score_owed p drawing outcome status (inr due) (inr owed) = ap (λ (o : Outcome). o.status) due.is ∙ sym owed.1
