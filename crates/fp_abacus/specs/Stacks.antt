-- Clusters of the cells of a row, one behind the other, and the positions that they give.
use Rattle.std.specs.Prelude.{◌≡◌, ℕ, ◌^◌, ◌<◌, ℤ, pos, neg_ℤ, ◌+ℤ◌, ◌-ℤ◌, ◌*ℤ◌, ◌≤ℤ◌, ◌<ℤ◌, List, [], ◌∷◌, ◌++◌, length, take, drop}
use Rattle.std.specs.Int.{int_max, int_min}
use Rattle.fp_rows.specs.declared.RowCell.{RowCell}
use Rattle.fp_rows.specs.Squares.{width_of, squared_rise, total_weight}
use Rattle.fp_rows.specs.Runs.{rises, total, span, packed}
use Rattle.fp_abacus.specs.declared.stack.Cluster.{Cluster}
use Rattle.fp_abacus.specs.Clusters.{IsRunAt}

-- what the costs of cells of this weight and moment rise by from a level on, in all
abbrev pub slope : ℤ → ℤ → ℤ → ℤ
slope weight moment level = weight *ℤ (pos 2 *ℤ level +ℤ pos 1) -ℤ pos 2 *ℤ moment

-- the least level from which the costs rise
pub record IsLevel (weight moment level : ℤ) : Type 0 where
  pub below : slope weight moment (level -ℤ pos 1) <ℤ pos 0
  pub reached : pos 0 ≤ℤ slope weight moment level

-- a weight and a moment that cells of a row can have
pub record IsMoment (weight moment : ℤ) : Type 0 where
  pub some : pos 1 ≤ℤ weight
  pub light : weight ≤ℤ pos (2 ^ 22)
  pub low : neg_ℤ (weight *ℤ pos (2 ^ 33)) ≤ℤ moment
  pub high : moment ≤ℤ (weight *ℤ pos (2 ^ 33))

-- the cluster of a run of cells, the first of them `offset` behind its level
pub record IsCluster (offset : ℤ) (run : List RowCell) (cluster : Cluster) : Type 0 where
  pub count : length run ≡ cluster.cells
  pub some : 0 < cluster.cells
  pub weight : cluster.weight ≡ total_weight run
  pub moment : IsMoment cluster.weight cluster.moment
  pub rising : (level : ℤ) → total (rises width_of squared_rise (level +ℤ offset) run) ≡ slope cluster.weight cluster.moment level
  pub best : IsRunAt width_of squared_rise offset run cluster.level

-- the first cells are a cluster, and something is so of the others
pub record IsFront (offset : ℤ) (cells : List RowCell) (cluster : Cluster) (others : ℤ → List RowCell → Type 0) : Type 0 where
  pub run : List RowCell
  pub rest : List RowCell
  pub cut : cells ≡ run ++ rest
  pub front : IsCluster offset run cluster
  pub behind : others (offset +ℤ span width_of run) rest

-- the first of the clusters has no lower level
abbrev pub IsUnder : ℤ → List Cluster → Type 0
IsUnder level [] = Unit {0}
IsUnder level (k ∷ ks) = level ≤ℤ k.level

-- the cells are these clusters, whose levels do not fall
abbrev pub AreClusters : ℤ → List RowCell → List Cluster → Type 0
AreClusters offset cells [] = cells ≡ []
AreClusters offset cells (k ∷ ks) = IsFront offset cells k (λ o rest. AreClusters o rest ks) × IsUnder k.level ks

-- the cells behind the first are these clusters
abbrev pub AreClustersBehind : ℤ → List RowCell → List Cluster → Type 0
AreClustersBehind offset [] ks = ⊥
AreClustersBehind offset (c ∷ cs) ks = AreClusters (offset +ℤ c.width) cs ks

-- a level, or the end that it is beyond
unfoldable pub clamped : ℤ → ℤ → ℤ → ℤ
clamped lo top level = int_max lo (int_min level top)

-- where the clusters' cells stand, with each level between lo and top
abbrev pub places : ℤ → ℤ → ℤ → List RowCell → List Cluster → List ℤ
places lo top offset cells [] = []
places lo top offset cells (k ∷ ks) =
    packed width_of (clamped lo top k.level +ℤ offset) (take k.cells cells) ++ places lo top (offset +ℤ span width_of (take k.cells cells)) (drop k.cells cells) ks

-- a cluster made of so many cells, of this weight and moment
pub record IsMade (cells : ℕ) (weight moment : ℤ) (cluster : Cluster) : Type 0 where
  pub count : cluster.cells ≡ cells
  pub heavy : cluster.weight ≡ weight
  pub turning : cluster.moment ≡ moment
  pub least : IsLevel weight moment cluster.level
