use Rattle.std.proofs.Common.{◌≡◌, ◌++◌, ◌∷◌, [], length, ◌∙◌, ap, arith}
use Rattle.fp_gains.proofs.ListLemmas.{lists_pushed}
use Rattle.fp_gains.proofs.lists.Lists.push.Goals as goal

pub returns : goal.returns
returns c =
    let many : c.len.result ≡ length c.extend_from_slice.new.self.items = omega (arith, c.len.ensures, c.extend_from_slice.new.self.ok.0) in
    lists_pushed c.self.inside.starts.items c.self.inside.items.items c.args.list.now c.push.new.self.items c.extend_from_slice.new.self.items c.args.self.now
    c.self.invariant c.self.view_is c.in_ok-extend_from_slice.ensures.items
    (c.in_ok-push.ensures.items ∙ ap (λ xs. xs ++ c.len.result ∷ []) c.reserve.ensures.items ∙ ap (λ n. c.self.inside.starts.items ++ n ∷ []) many)
