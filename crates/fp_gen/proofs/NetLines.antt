-- The lines of a net are written piece by piece.
use Rattle.std.proofs.Common.{◌≡◌, ℕ, ◌+◌, ◌%◌, List, [], ◌∷◌, ◌++◌, flat_map, codes, decimal, sym, ap, ◌∙◌, append_assoc}
use Rattle.std.proofs.lemmas.List.{append-nil}
use Rattle.rand_pcg.specs.Lcg.{Lcg}
use Rattle.rand_pcg.specs.Pcg.{pcg32}
use Rattle.fp_contest_in.specs.PrintedText.{line, numbers}
use Rattle.fp_gen.specs.MakeText.{made_first, numbered, word, behind, made_conn, made_conns, made_net}
use Rattle.fp_gen.specs.MadeFirstLaws.{made_count}
use Rattle.fp_gen.specs.Written.{conn_text, net_text}

tail_line : (a b rest : List ℕ) → a ++ 32 ∷ (b ++ 10 ∷ rest) ≡ ((a ++ 32 ∷ (b ++ [])) ++ 10 ∷ []) ++ rest
tail_line a b rest =
    ap (λ (t : List ℕ). a ++ 32 ∷ (t ++ 10 ∷ rest)) (sym (append-nil b))
    ∙ ap (λ (t : List ℕ). a ++ t) (sym (append_assoc (32 ∷ (b ++ [])) (10 ∷ []) rest))
    ∙ sym (append_assoc a ((32 ∷ (b ++ [])) ++ 10 ∷ []) rest)
    ∙ ap (λ (t : List ℕ). t ++ rest) (sym (append_assoc a (32 ∷ (b ++ [])) (10 ∷ [])))

net_line : (net pins : ℕ) (rest : List ℕ)
    → numbered (codes "Net N") net ++ (numbered (codes " ") pins ++ (codes "\n" ++ rest)) ≡ line (codes "Net") (numbered (codes "N") net ∷ numbers (pins ∷ [])) ++ rest
net_line net pins rest = ap (λ (t : List ℕ). codes "Net N" ++ t) (tail_line (decimal net) (decimal pins) rest)

-- the pieces of a net, of which the first word says how many pins there are
pub net_lines_are : (cells net found : ℕ) (words left : Lcg) → (found, left) ≡ pcg32 words
    → numbered (codes "Net N") net ++ (numbered (codes " ") (2 + found % 3) ++ (codes "\n" ++ flat_map conn_text (made_first (made_conn cells net) (2 + found % 3) left).0))
    ≡ net_text (made_net cells net words).0
net_lines_are cells net found words left is =
    ap (λ (p : ℕ × Lcg). numbered (codes "Net N") net ++ (numbered (codes " ") (2 + p.0 % 3) ++ (codes "\n" ++ flat_map conn_text (made_first (made_conn cells net) (2 + p.0 % 3) p.1).0))) is
    ∙ net_line net (2 + word words % 3) (flat_map conn_text (made_conns cells net words).0)
    ∙ ap (λ (pins : ℕ). line (codes "Net") (numbered (codes "N") net ∷ numbers (pins ∷ [])) ++ flat_map conn_text (made_conns cells net words).0)
    (sym (made_count (made_conn cells net) (2 + word words % 3) (behind words)))
