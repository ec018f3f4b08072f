-- The loop that reads the blockages, turn by turn.
use Rattle.std.proofs.Common.{◌≡◌, ℕ, ◌+◌, ◌-◌, ◌<◌, ◌≤◌, List, [], ◌∷◌, ◌++◌, length, Ok, refl, sym, ap, subst, ◌∙◌, arith}
use Rattle.std.specs.Prelude.{All}
use Rattle.std.proofs.lemmas.List.{length-append}
use Rattle.std.proofs.lemmas.List.Elements.{All-nil, All-push}
use Rattle.fp_text.specs.Reading.{Left, Read, GivesFault, many_next}
use Rattle.fp_text.specs.ReadingLaws.{many_step, many_ends, many_done}
use Rattle.fp_text.specs.declared.fault.TextFault.{TextFault}
use Rattle.fp_tech.specs.declared.dies.Block.{Block}
use Rattle.fp_tech.specs.Plan.{IsBlock}
use Rattle.fp_contest_in.specs.Statements.{block_next}
use Rattle.fp_contest_in.specs.Growing.{block_item}

-- the blockages so far, and what is still read
pub record BlocksSoFar (count i : ℕ) (blocks : List Block) (l : Left) (total : Read (List Block)) : Type 0 where
  pub reading : many_next block_item (count - i) blocks l ≡ total
  pub many : length blocks ≡ i
  pub range : All IsBlock blocks

pub blocks_none : (count : ℕ) (blocks : List Block) (l : Left) → blocks ≡ [] → BlocksSoFar count 0 blocks l (many_next block_item count [] l)
blocks_none count blocks l none =
    subst (λ (bs : List Block). BlocksSoFar count 0 bs l (many_next block_item count [] l)) (sym none)
    (record { reading = ap (λ (n : ℕ). many_next block_item n [] l) (omega arith); many = refl; range = All-nil IsBlock })

pub blocks_more : (count i : ℕ) (blocks next : List Block) (block : Block) (l after : Left) (total : Read (List Block)) → i < count → block_next l ≡ Ok (block, after) → IsBlock block → next ≡ blocks ++ block ∷ []
    → BlocksSoFar count i blocks l total → BlocksSoFar count (i + 1) next after total
blocks_more count i blocks next block l after total lt read range is so_far =
    subst (λ (bs : List Block). BlocksSoFar count (i + 1) bs after total) (sym is) (record {
      reading = many_step block_item count i blocks l block after total lt read so_far.reading;
      many = length-append blocks (block ∷ []) ∙ ap (λ (n : ℕ). n + 1) so_far.many;
      range = All-push IsBlock blocks block so_far.range range;
    })

pub blocks_fault : (e : TextFault) (count i : ℕ) (blocks : List Block) (l : Left) (total : Read (List Block)) → i < count → GivesFault e (block_next l) → BlocksSoFar count i blocks l total → GivesFault e total
blocks_fault e count i blocks l total lt fails so_far = many_ends e block_item count i blocks l total lt fails so_far.reading

pub blocks_all : (count i : ℕ) (blocks : List Block) (l : Left) (total : Read (List Block)) → count ≤ i → BlocksSoFar count i blocks l total → total ≡ Ok (blocks, l)
blocks_all count i blocks l total le so_far = many_done block_item count i blocks l total le so_far.reading
