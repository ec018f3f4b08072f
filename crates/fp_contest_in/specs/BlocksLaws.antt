-- Blockages: what is read is in the grammar, and what is in the grammar is read.
use Rattle.std.proofs.Common.{◌≡◌, ℕ, Bool, true, false, cond, List, [], ◌∷◌, length, Ok, refl, sym, ap, subst, ◌∙◌, arith, inl, inr}
use Rattle.std.specs.Prelude.{codes}
use Rattle.std.specs.Str.{bytes_eq}
use Rattle.std.proofs.lemmas.Slice.Eq.{bytes_eq-Decides}
use Rattle.fp_base.specs.declared.ids.Die.{Die}
use Rattle.fp_base.specs.declared.ids.Die.TheVariants.{Top, Bottom}
use Rattle.fp_text.specs.Words.{Word}
use Rattle.fp_text.specs.Numbers.{Spells}
use Rattle.fp_text.specs.Items.{Each}
use Rattle.fp_text.specs.Reading.{Left, Read, fault, begins, word_next, keyword_next, number_next, many_next}
use Rattle.fp_text.specs.ReadingLaws.{left_of, bind_ok, ok_is, word_ok, word_again, many_ok, many_again}
use Rattle.fp_text.specs.declared.fault.Kind.TheVariants as kinds
use Rattle.fp_tech.specs.declared.dies.Block.{Block}
use Rattle.fp_tech.specs.declared.dies.Frame.{Frame}
use Rattle.fp_contest_in.specs.Grammar.{Keyword, die_word, IsBlockage, AreListedBlockages, AreBlockages}
use Rattle.fp_contest_in.specs.Statements.{frame_next, die_next, block_of, block_next, listed_blocks_next, blocks_next}
use Rattle.fp_contest_in.specs.Growing.{block_item}
use Rattle.fp_contest_in.specs.TakenLaws.{keyword_ok, keyword_again, number_ok, number_again, count_is, spells_as}
use Rattle.fp_contest_in.specs.TechsLaws.{ItemOk, ItemAgain}
use Rattle.fp_contest_in.specs.FieldsLaws.{frame_ok, frame_again}

-- ---- the next keyword

-- the next token is this keyword, or another
pub begins_again : (keyword : List ℕ) (l : Left) (rest : List Word) → Keyword keyword l.words rest → begins keyword l ≡ true
begins_again keyword l rest k =
    subst (λ (ws : List Word). begins keyword (left_of l ws) ≡ true) (sym k.1) ((bytes_eq-Decides k.0.text keyword).1 k.2)

pub begins_other : (keyword other : List ℕ) (l : Left) (rest : List Word) → Keyword other l.words rest → bytes_eq other keyword ≡ false → begins keyword l ≡ false
begins_other keyword other l rest k differs =
    subst (λ (ws : List Word). begins keyword (left_of l ws) ≡ false) (sym k.1) (ap (λ (text : List ℕ). bytes_eq text keyword) k.2 ∙ differs)

-- ---- the die

-- one word was tried
tried : (bytes : List ℕ) (other : Die) (at : ℕ) (l : Left) (others : Read Die) (die : Die) (r : Left) → cond (bytes_eq bytes (die_word other)) (Ok (other, l)) others ≡ Ok (die, r)
    → (others ≡ Ok (die, r) → (bytes ≡ die_word die) × (l ≡ r)) → (bytes ≡ die_word die) × (l ≡ r)
tried bytes other at l others die r e rest = by (bytes_eq bytes (die_word other)) refl e
  where
    by : (b : Bool) → bytes_eq bytes (die_word other) ≡ b → cond b (Ok (other, l)) others ≡ Ok (die, r) → (bytes ≡ die_word die) × (l ≡ r)
    by true same e =
        let is = ok_is {A = Die × Left} (other, l) (die, r) e in
        ((bytes_eq-Decides bytes (die_word other)).0 same ∙ ap (λ (p : Die × Left). die_word p.0) is, ap (λ (p : Die × Left). p.1) is)
    by false other_word e = rest e

die_ok : (l : Left) (die : Die) (r : Left) → die_next l ≡ Ok (die, r) → Keyword (die_word die) l.words r.words × (r.bytes ≡ l.bytes)
unfolding die_next
die_ok l die r e =
    let w = bind_ok (word_next l) _ _ e in
    let word = word_ok l w.0.0 w.0.1 w.1 in
    let t = tried w.0.0.text Top w.0.0.at w.0.1 _ die r w.2 (λ e. tried w.0.0.text Bottom w.0.0.at w.0.1 (fault w.0.0.at kinds.Word) die r e (λ none. absurd cc)) in
    subst (λ (left : Left). Keyword (die_word die) l.words left.words × (left.bytes ≡ l.bytes)) t.1 ((w.0.0, word.words, t.0), word.bytes)

die_again : (l : Left) (die : Die) (rest : List Word) → Keyword (die_word die) l.words rest → die_next l ≡ Ok (die, left_of l rest)
unfolding die_next
die_again l Top rest k = rw (word_again l k.0 rest k.1, k.2) refl
die_again l Bottom rest k = rw (word_again l k.0 rest k.1, k.2) refl

-- ---- one blockage

block_ok : ItemOk (λ before. IsBlockage) block_item
unfolding block_next
block_ok before l block r e =
    let k = bind_ok (keyword_next (codes "Blockage") l) _ _ e in
    let d = bind_ok (die_next k.0.1) _ _ k.2 in
    let f = bind_ok (frame_next d.0.1) _ _ d.2 in
    let keyword = keyword_ok (codes "Blockage") l k.0.0 k.0.1 k.1 in
    let die = die_ok k.0.1 d.0.0 d.0.1 d.1 in
    let corners = frame_ok d.0.1 f.0.0 f.0.1 f.1 in
    let read = ok_is {A = Block × Left} (block_of d.0.0 f.0.0, f.0.1) (block, r) f.2 in
    subst (λ (p : Block × Left). IsBlockage p.0 l.words p.1.words × (p.1.bytes ≡ l.bytes)) read (
      record { after_keyword = k.0.1.words; after_die = d.0.1.words; keyword = keyword.0; die = die.0; corners = corners.0 },
      corners.1 ∙ die.1 ∙ keyword.1,
    )

-- a blockage's corners
abbrev corners_of : Block → Frame
corners_of block = record { llx = block.llx; lly = block.lly; urx = block.urx; ury = block.ury }

block_again : ItemAgain (λ before. IsBlockage) block_item
unfolding block_next
block_again before l block rest p =
    let k = keyword_again (codes "Blockage") l p.after_keyword p.keyword in
    let d = die_again (left_of l p.after_keyword) block.die p.after_die p.die in
    let f = frame_again (left_of l p.after_die) (corners_of block) rest p.corners in
    rw (k, d, f) refl

-- ---- the blockages

listed_ok : (l : Left) (at : ℕ) (blocks : List Block) (r : Left) → listed_blocks_next l ≡ Ok ((at, blocks), r) → AreListedBlockages blocks l.words r.words × (r.bytes ≡ l.bytes)
unfolding listed_blocks_next
listed_ok l at blocks r e =
    let k = bind_ok (keyword_next (codes "NumBlockages") l) _ _ e in
    let c = bind_ok (number_next 0 1024 kinds.Limit k.0.1) _ _ k.2 in
    let b = bind_ok (many_next block_item c.0.0 [] c.0.1) _ _ c.2 in
    let keyword = keyword_ok (codes "NumBlockages") l k.0.0 k.0.1 k.1 in
    let count = number_ok 0 1024 kinds.Limit k.0.1 c.0.0 c.0.1 c.1 in
    let items = many_ok block_item (λ before. IsBlockage) block_ok c.0.0 [] c.0.1 b.0.0 b.0.1 b.1 in
    let counted : Spells 0 1024 count.0.0.text (length b.0.0) = spells_as 0 1024 _ _ _ (count_is b.0.0 items.items c.0.0 items.whole items.count_is) count.0.2 in
    let read = ok_is {A = (ℕ × List Block) × Left} ((k.0.0, b.0.0), b.0.1) ((at, blocks), r) b.2 in
    subst (λ (p : (ℕ × List Block) × Left). AreListedBlockages p.0.1 l.words p.1.words × (p.1.bytes ≡ l.bytes)) read (
      record {
        after_keyword = k.0.1.words;
        after_count = c.0.1.words;
        keyword = keyword.0;
        count = (count.0.0, c.0.1.words, count.0.1, counted, refl);
        items = subst (λ (bs : List Block). Each (λ before. IsBlockage) [] bs c.0.1.words b.0.1.words) (sym items.whole) items.each;
      },
      items.bytes ∙ count.1 ∙ keyword.1,
    )

listed_again : (l : Left) (blocks : List Block) (rest : List Word) → (p : AreListedBlockages blocks l.words rest) → listed_blocks_next l ≡ Ok ((p.keyword.0.at, blocks), left_of l rest)
unfolding listed_blocks_next
listed_again l blocks rest p =
    let k = keyword_again (codes "NumBlockages") l p.after_keyword p.keyword in
    let c = p.count in
    let count = number_again 0 1024 kinds.Limit (left_of l p.after_keyword) (length blocks) p.after_count (c.0, c.2 ∙ ap (λ (ws : List Word). c.0 ∷ ws) c.4, c.3) (omega arith) in
    let items = many_again block_item (λ before. IsBlockage) block_again blocks [] (left_of l p.after_count) rest p.items in
    rw (k, count, items) refl

pub blocks_ok : (l : Left) (at : ℕ) (blocks : List Block) (r : Left) → blocks_next l ≡ Ok ((at, blocks), r) → AreBlockages blocks l.words r.words × (r.bytes ≡ l.bytes)
unfolding blocks_next
blocks_ok l at blocks r e = by (begins (codes "NumBlockages") l) e
  where
    by : (b : Bool) → cond b (listed_blocks_next l) (Ok ((0, []), l)) ≡ Ok ((at, blocks), r) → AreBlockages blocks l.words r.words × (r.bytes ≡ l.bytes)
    by true e = let listed = listed_ok l at blocks r e in (inl listed.0, listed.1)
    by false e =
        let none = ok_is {A = (ℕ × List Block) × Left} ((0, []), l) ((at, blocks), r) e in
        subst (λ (p : (ℕ × List Block) × Left). AreBlockages p.0.1 l.words p.1.words × (p.1.bytes ≡ l.bytes)) none (inr (refl, refl), refl)

-- blockages that are spelled are read
pub record BlocksRead (l : Left) (blocks : List Block) (rest : List Word) : Type 0 where
  pub at : ℕ
  pub read : blocks_next l ≡ Ok ((at, blocks), left_of l rest)

-- where none are told, the next keyword is another
pub blocks_again : (l : Left) (blocks : List Block) (rest : List Word) → begins (codes "NumBlockages") (left_of l rest) ≡ false → AreBlockages blocks l.words rest → BlocksRead l blocks rest
unfolding blocks_next
blocks_again l blocks rest other (inl p) = record {
  at = p.keyword.0.at;
  read = rw (begins_again (codes "NumBlockages") l p.after_keyword p.keyword) (listed_again l blocks rest p);
}
blocks_again l blocks rest other (inr p) =
    let off : begins (codes "NumBlockages") l ≡ false = subst (λ (ws : List Word). begins (codes "NumBlockages") (left_of l ws) ≡ false) (sym p.1) other in
    record {
      at = 0;
      read = rw off (λ i. Ok ((0, sym p.0 i), left_of l (p.1 i)));
    }
