use Rattle.fp_match.proofs.Tree.{grown_trans}
use Rattle.fp_match.proofs.scan.scan_row.Goals as goal

pub returns-clause-scanned : goal.returns-clause-scanned
returns-clause-scanned g c = record {
  tree = c.scan_stripes.ensures.scanned.tree;
  grown = grown_trans _ _ _ c.scan_near.ensures.scanned.grown c.scan_stripes.ensures.scanned.grown;
  covered = c.scan_stripes.ensures.scanned.covered;
}
