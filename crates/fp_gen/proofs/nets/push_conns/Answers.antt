use Rattle.fp_gen.specs.MakeText.{made_conn}
use Rattle.fp_gen.specs.Written.{conn_text}
use Rattle.fp_gen.proofs.Growing.{begun_text, begun_words, more_text, more_words}
use Rattle.fp_gen.proofs.nets.push_conns.Goals as goal

pub loop-init : goal.loop-init
loop-init c =
    let make = made_conn c.args.cells c.args.net in
    (begun_text conn_text make c.args.words.now c.args.text.now.items, begun_words make c.args.words.now)

pub loop-preserved : goal.loop-preserved
loop-preserved c =
    let make = made_conn c.args.cells c.args.net in
    let left = c.loop.words in (
      more_text conn_text make c.loop.counter c.args.words.now left c.args.text.now.items c.loop.text.items _ c.loop.invariant.0 c.loop.invariant.1 c.in_ok-push_conn.ensures.text,
      more_words make c.loop.counter c.args.words.now left _ c.loop.invariant.1 c.in_ok-push_conn.ensures.words,
    )
