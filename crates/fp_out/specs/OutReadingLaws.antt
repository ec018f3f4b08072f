-- Laws of reading an output file: what is read is in the grammar, what is in the grammar is read, and bytes say at most one drawing.
use Rattle.std.proofs.Common.{◌≡◌, ℕ, ◌^◌, ◌≤◌, List, [], length, Option, Some, None, Ok, refl, sym, ap, subst, ◌∙◌, arith}
use Rattle.std.specs.Prelude.{codes, pos, ◌↔◌}
use Rattle.std.specs.List.{IsDistinct}
use Rattle.std.specs.Str.{bytes_eq}
use Rattle.fp_base.specs.declared.ids.Die.TheVariants.{Top, Bottom}
use Rattle.fp_base.specs.declared.ids.Point.{Point}
use Rattle.fp_text.specs.Words.{Word, words_of}
use Rattle.fp_text.specs.Reading.{Left, Read, whole, word_next, keyword_next, number_next, end_next}
use Rattle.fp_text.specs.ReadingLaws as laws
use Rattle.fp_text.specs.Items.{Each}
use Rattle.fp_text.specs.ReadingLaws.{left_of, bind_ok, ok_is, word_ok, word_again, end_ok, end_again, many_ok, many_again}
use Rattle.fp_text.specs.declared.fault.Kind.{Kind}
use Rattle.fp_text.specs.declared.fault.Kind.TheVariants as kinds
use Rattle.fp_netlist.specs.Netlist.{Netlist, cell_names, IsSound}
use Rattle.fp_place.specs.declared.drawn.DrawnCell.{DrawnCell}
use Rattle.fp_place.specs.declared.drawn.DrawnTerminal.{DrawnTerminal}
use Rattle.fp_place.specs.Drawing.{Drawing}
use Rattle.fp_out.specs.OutText.{die_word}
use Rattle.fp_out.specs.OutGrammar.{most_coordinate, most_lines, Keyword, Number, Names, Coordinate, IsInst, IsTerminal, IsPart, IsDrawing, ReadsOut}
use Rattle.fp_out.specs.OutReading.{number_of, known_at, known_next, point_next, inst_next, terminal_next, head_next, part_next, drawing_next, out_of}
use Rattle.fp_out.specs.NamesLaws as known

-- a reader's value stands in the words that it took, and what stands there is read
abbrev Took : {A : Type 0} → (A → List Word → List Word → Type 0) → (Left → Read A) → Type 0
Took {A} stands read = (l : Left) (x : A) (r : Left) → read l ≡ Ok (x, r) → stands x l.words r.words × (r.bytes ≡ l.bytes)

abbrev Takes : {A : Type 0} → (A → List Word → List Word → Type 0) → (Left → Read A) → Type 0
Takes {A} stands read = (l : Left) (x : A) (rest : List Word) → stands x l.words rest → read l ≡ Ok (x, left_of l rest)

-- ---- one token

keyword_ok : (keyword : List ℕ) → Took (λ at. Keyword keyword) (keyword_next keyword)
keyword_ok keyword l at r e =
    let next = laws.keyword_ok keyword l at r e in
    ((record { at = at; text = keyword }, next.words, refl), next.bytes)

keyword_again : (keyword : List ℕ) (l : Left) (rest : List Word) → (k : Keyword keyword l.words rest) → keyword_next keyword l ≡ Ok (k.0.at, left_of l rest)
keyword_again keyword l rest k = laws.keyword_again keyword l k.0 rest k.1 k.2

number_ok : (most : ℕ) (above : Kind) → Took (Number most) (number_next 0 most above)
number_ok most above l n r e =
    let number = laws.number_ok 0 most above l n r e in
    ((number.word, number.next.words, number.spells), number.next.bytes)

number_again : (most : ℕ) (above : Kind) → most ≤ 2 ^ 30 → Takes (Number most) (number_next 0 most above)
number_again most above low l n rest o = laws.number_again 0 most above l o.0 rest n o.1 o.2 (omega (arith, o.2.at_most))

known_at_ok : (o : Option ℕ) (at : ℕ) (l : Left) (k : ℕ) (r : Left) → known_at o at l ≡ Ok (k, r) → (o ≡ Some k) × (l ≡ r)
known_at_ok None at l k r e = absurd cc
known_at_ok (Some j) at l k r e =
    let same = ok_is (j, l) (k, r) e in
    (ap (λ (p : ℕ × Left). Some p.0) same, ap (λ (p : ℕ × Left). p.1) same)

known_ok : (names : List (List ℕ)) → Took (Names names) (known_next names)
unfolding known_next
known_ok names l k r e =
    let w = bind_ok (word_next l) _ _ e in
    let next = word_ok l w.0.0 w.0.1 w.1 in
    let at = known_at_ok (number_of names w.0.0.text) w.0.0.at w.0.1 k r w.2 in
    let there = known.number_ok names w.0.0.text k at.0 in
    subst (λ (left : Left). Names names k l.words left.words × (left.bytes ≡ l.bytes)) at.1 ((w.0.0, next.words, there.0, there.1), next.bytes)

known_again : (names : List (List ℕ)) → IsDistinct bytes_eq names → Takes (Names names) (known_next names)
unfolding known_next
known_again names apart l k rest n =
    let w = word_again l n.0 rest n.1 in
    let there : number_of names n.0.text ≡ Some k = known.number_again names n.0.text k apart n.2 n.3 in
    rw (w, there) refl

-- ---- a point

-- two coordinates
abbrev IsPoint : Point → List Word → List Word → Type 0
IsPoint at words rest = (mid : List Word) × Coordinate at.x words mid × Coordinate at.y mid rest

point_ok : Took IsPoint point_next
unfolding point_next
point_ok l at r e =
    let x = bind_ok (number_next 0 most_coordinate kinds.Number l) _ _ e in
    let y = bind_ok (number_next 0 most_coordinate kinds.Number x.0.1) _ _ x.2 in
    let x_at = number_ok most_coordinate kinds.Number l x.0.0 x.0.1 x.1 in
    let y_at = number_ok most_coordinate kinds.Number x.0.1 y.0.0 y.0.1 y.1 in
    let read : ◌≡◌ {A = Point × Left} (record { x = pos x.0.0; y = pos y.0.0 }, y.0.1) (at, r) = cc in
    subst (λ (p : Point × Left). IsPoint p.0 l.words p.1.words × (p.1.bytes ≡ l.bytes)) read
    ((x.0.1.words, (x.0.0, refl, x_at.0), (y.0.0, refl, y_at.0)), y_at.1 ∙ x_at.1)

abbrev was_read : Point × Left → Read Point
was_read p = Ok p

point_again : Takes IsPoint point_next
unfolding point_next
point_again l at rest p =
    let x = number_again most_coordinate kinds.Number (omega arith) l p.1.0 p.0 p.1.2 in
    let y = number_again most_coordinate kinds.Number (omega arith) (left_of l p.0) p.2.0 rest p.2.2 in
    let same : ◌≡◌ {A = Point} (record { x = pos p.1.0; y = pos p.2.0 }) at = (λ i. record { x = sym p.1.1 i; y = sym p.2.1 i }) in
    rw (x, y) (ap (λ (q : Point). was_read (q, left_of l rest)) same)

-- ---- lines

inst_ok : (p : Netlist) → Took (IsInst p) (inst_next p)
unfolding inst_next
inst_ok p l line r e =
    let k = bind_ok (keyword_next (codes "Inst") l) _ _ e in
    let n = bind_ok (known_next (cell_names p) k.0.1) _ _ k.2 in
    let t = bind_ok (point_next n.0.1) _ _ n.2 in
    let keyword = keyword_ok (codes "Inst") l k.0.0 k.0.1 k.1 in
    let name = known_ok (cell_names p) k.0.1 n.0.0 n.0.1 n.1 in
    let at = point_ok n.0.1 t.0.0 t.0.1 t.1 in
    let read : ◌≡◌ {A = DrawnCell × Left} (record { cell = record { 0 = n.0.0 }; x = t.0.0.x; y = t.0.0.y }, t.0.1) (line, r) = cc in
    subst (λ (q : DrawnCell × Left). IsInst p q.0 l.words q.1.words × (q.1.bytes ≡ l.bytes)) read (
      record {
        after_keyword = k.0.1.words;
        after_name = n.0.1.words;
        after_x = at.0.0;
        begins = keyword.0;
        name = name.0;
        x = at.0.1;
        y = at.0.2;
      },
      at.1 ∙ name.1 ∙ keyword.1,
    )

inst_again : (p : Netlist) → IsSound p → Takes (IsInst p) (inst_next p)
unfolding inst_next
inst_again p sound l line rest s =
    let k = keyword_again (codes "Inst") l s.after_keyword s.begins in
    let n = known_again (cell_names p) sound.cells_apart (left_of l s.after_keyword) line.cell.0 s.after_name s.name in
    let t = point_again (left_of l s.after_name) (record { x = line.x; y = line.y }) rest (s.after_x, s.x, s.y) in
    rw (k, n, t) refl

terminal_ok : (p : Netlist) → Took (IsTerminal p) (terminal_next p)
unfolding terminal_next
terminal_ok p l line r e =
    let k = bind_ok (keyword_next (codes "Terminal") l) _ _ e in
    let n = bind_ok (known_next p.nets k.0.1) _ _ k.2 in
    let t = bind_ok (point_next n.0.1) _ _ n.2 in
    let keyword = keyword_ok (codes "Terminal") l k.0.0 k.0.1 k.1 in
    let name = known_ok p.nets k.0.1 n.0.0 n.0.1 n.1 in
    let at = point_ok n.0.1 t.0.0 t.0.1 t.1 in
    let read : ◌≡◌ {A = DrawnTerminal × Left} (record { net = record { 0 = n.0.0 }; x = t.0.0.x; y = t.0.0.y }, t.0.1) (line, r) = cc in
    subst (λ (q : DrawnTerminal × Left). IsTerminal p q.0 l.words q.1.words × (q.1.bytes ≡ l.bytes)) read (
      record {
        after_keyword = k.0.1.words;
        after_name = n.0.1.words;
        after_x = at.0.0;
        begins = keyword.0;
        name = name.0;
        x = at.0.1;
        y = at.0.2;
      },
      at.1 ∙ name.1 ∙ keyword.1,
    )

terminal_again : (p : Netlist) → IsSound p → Takes (IsTerminal p) (terminal_next p)
unfolding terminal_next
terminal_again p sound l line rest s =
    let k = keyword_again (codes "Terminal") l s.after_keyword s.begins in
    let n = known_again p.nets sound.nets_apart (left_of l s.after_keyword) line.net.0 s.after_name s.name in
    let t = point_again (left_of l s.after_name) (record { x = line.x; y = line.y }) rest (s.after_x, s.x, s.y) in
    rw (k, n, t) refl

-- ---- parts

part_ok : {A : Type 0} (word : List ℕ) (stands : A → List Word → List Word → Type 0) (line : Left → Read A) → Took stands line → Took (IsPart word stands) (part_next word line)
unfolding part_next head_next
part_ok {A} word stands line one l lines r e =
    let h = bind_ok (head_next word l) _ _ e in
    let k = bind_ok (keyword_next word l) _ _ h.1 in
    let keyword = keyword_ok word l k.0.0 k.0.1 k.1 in
    let count = number_ok most_lines kinds.Limit k.0.1 h.0.0 h.0.1 k.2 in
    let items = many_ok (λ before. line) (λ before. stands) (λ before. one) h.0.0 [] h.0.1 lines r h.2 in
    let many : length lines ≡ h.0.0 = ap length items.whole ∙ items.count_is in (
      record {
        after_keyword = k.0.1.words;
        after_count = h.0.1.words;
        begins = keyword.0;
        count = subst (λ (n : ℕ). Number most_lines n k.0.1.words h.0.1.words) (sym many) count.0;
        items = subst (λ (xs : List A). Each (λ before. stands) [] xs h.0.1.words r.words) (sym items.whole) items.each;
      },
      items.bytes ∙ count.1 ∙ keyword.1,
    )

part_again : {A : Type 0} (word : List ℕ) (stands : A → List Word → List Word → Type 0) (line : Left → Read A) → Takes stands line → Takes (IsPart word stands) (part_next word line)
unfolding part_next head_next
part_again word stands line one l lines rest s =
    let k = keyword_again word l s.after_keyword s.begins in
    let count = number_again most_lines kinds.Limit (omega arith) (left_of l s.after_keyword) (length lines) s.after_count s.count in
    let items = many_again (λ before. line) (λ before. stands) (λ before. one) lines [] (left_of l s.after_count) rest s.items in
    rw (k, count, items) refl

-- ---- the whole file

pub read_is_in : (p : Netlist) (bytes : List ℕ) (drawing : Drawing) → out_of p bytes ≡ Ok drawing → ReadsOut p bytes drawing
unfolding drawing_next
read_is_in p bytes drawing e =
    let t = bind_ok (part_next (die_word Top) (inst_next p) (whole bytes)) _ _ e in
    let b = bind_ok (part_next (die_word Bottom) (inst_next p) t.0.1) _ _ t.2 in
    let n = bind_ok (part_next (codes "NumTerminals") (terminal_next p) b.0.1) _ _ b.2 in
    let z = bind_ok (end_next n.0.1) _ _ n.2 in
    let top = part_ok (die_word Top) (IsInst p) (inst_next p) (inst_ok p) (whole bytes) t.0.0 t.0.1 t.1 in
    let bottom = part_ok (die_word Bottom) (IsInst p) (inst_next p) (inst_ok p) t.0.1 b.0.0 b.0.1 b.1 in
    let terminals = part_ok (codes "NumTerminals") (IsTerminal p) (terminal_next p) (terminal_ok p) b.0.1 n.0.0 n.0.1 n.1 in
    let no_more = end_ok n.0.1 z.0 z.1 in
    let same = ok_is {A = Drawing} (record { top = t.0.0; bottom = b.0.0; terminals = n.0.0 }) drawing z.2 in
    subst (λ (d : Drawing). IsDrawing p d (words_of bytes)) same (record {
      after_top = t.0.1.words;
      after_bottom = b.0.1.words;
      top = top.0;
      bottom = bottom.0;
      terminals = subst (λ (ws : List Word). IsPart (codes "NumTerminals") (IsTerminal p) n.0.0 b.0.1.words ws) no_more.0 terminals.0;
    })

pub is_in_read : (p : Netlist) → IsSound p → (bytes : List ℕ) (drawing : Drawing) → ReadsOut p bytes drawing → out_of p bytes ≡ Ok drawing
unfolding drawing_next
is_in_read p sound bytes drawing s =
    let top = part_again (die_word Top) (IsInst p) (inst_next p) (inst_again p sound) (whole bytes) drawing.top s.after_top s.top in
    let bottom = part_again (die_word Bottom) (IsInst p) (inst_next p) (inst_again p sound) (left_of (whole bytes) s.after_top) drawing.bottom s.after_bottom s.bottom in
    let terminals = part_again (codes "NumTerminals") (IsTerminal p) (terminal_next p) (terminal_again p sound) (left_of (whole bytes) s.after_bottom) drawing.terminals [] s.terminals in
    rw (top, bottom, terminals, end_again (left_of (whole bytes) []) refl) refl

-- bytes are an output file that says a drawing exactly where the reading from left to right gives it
pub reads_exactly : (p : Netlist) → IsSound p → (bytes : List ℕ) (drawing : Drawing) → ReadsOut p bytes drawing ↔ (out_of p bytes ≡ Ok drawing)
reads_exactly p sound bytes drawing = (is_in_read p sound bytes drawing, read_is_in p bytes drawing)

-- and say at most one
pub one_drawing : (p : Netlist) → IsSound p → (bytes : List ℕ) (one other : Drawing) → ReadsOut p bytes one → ReadsOut p bytes other → one ≡ other
one_drawing p sound bytes one other first second = ok_is one other (sym (is_in_read p sound bytes one first) ∙ is_in_read p sound bytes other second)
