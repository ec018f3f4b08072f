use Rattle.fp_gen.specs.MakeText.{made_net}
use Rattle.fp_gen.specs.Written.{net_text}
use Rattle.fp_gen.proofs.Growing.{begun_text, begun_words, more_text, more_words}
use Rattle.fp_gen.proofs.nets.push_nets.Goals as goal

pub loop-net-init : goal.loop-net-init
loop-net-init c = (begun_text net_text (made_net c.args.cells) c.args.words.now c.args.text.now.items, begun_words (made_net c.args.cells) c.args.words.now)

pub loop-net-preserved : goal.loop-net-preserved
loop-net-preserved c =
    let make = made_net c.args.cells in
    let net = c.loop-net.net in
    let left = c.loop-net.words in (
      more_text net_text make net c.args.words.now left c.args.text.now.items c.loop-net.text.items _ c.loop-net.invariant.0 c.loop-net.invariant.1 c.in_ok-push_net.ensures.text,
      more_words make net c.args.words.now left _ c.loop-net.invariant.1 c.in_ok-push_net.ensures.words,
    )
