use Rattle.std.proofs.Common.{◌+◌, ◌*◌, sym, arith}
use Rattle.fp_text.specs.Numbers.{value_of}
use Rattle.fp_text.proofs.Digits.{digit_more, too_large, all_read}
use Rattle.fp_text.proofs.numbers.digits_value.Goals as goal

pub returns-then-value-most : goal.returns-then-value-most
returns-then-value-most c =
    sym
    (too_large c.args.digits.now (c.loop-byte.byte-index + 1)
    (10 * c.loop-byte.value + c.from.result) c.args.most
    (value_of c.args.digits.now) c.if-value-most.true
    (digit_more c.args.digits.now c.loop-byte.byte-index c.loop-byte.value _ _ c.loop-byte-test.true
    (omega arith) c.loop-byte.invariant.0))

pub loop-byte-preserved : goal.loop-byte-preserved
loop-byte-preserved c = (
  digit_more c.args.digits.now c.loop-byte.byte-index c.loop-byte.value _ _ c.loop-byte-test.true
      (omega arith) c.loop-byte.invariant.0,
  c.if-value-most.false,
)

pub returns : goal.returns
returns c =
    sym
    (all_read c.args.digits.now c.loop-byte.byte-index c.loop-byte.value c.args.most
    (value_of c.args.digits.now) c.loop-byte-test.false c.loop-byte.invariant.1 c.loop-byte.invariant.0)
