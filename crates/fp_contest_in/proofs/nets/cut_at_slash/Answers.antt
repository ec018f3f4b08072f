use Rattle.std.proofs.Common.{rules, refl}
use Rattle.std.proofs.lemmas.List.{take_rest}
use Rattle.fp_contest_in.specs.PathsLaws.{cut_none, cut_at}
use Rattle.fp_contest_in.proofs.nets.cut_at_slash.Goals as goal

pub returns-in_err-slash : goal.returns-in_err-slash
returns-in_err-slash c = rw (c.from_residual.ensures, cut_none c.args.token.now (search rules)) refl

pub returns : goal.returns
returns c =
    let cut = cut_at c.args.token.now c.in_ok-slash.slash (search rules) (search rules) (search rules) in
    rw (cut, take_rest) refl
