use Rattle.std.proofs.Common.{arith}
use Rattle.fp_text.proofs.Front.{front_more}
use Rattle.fp_text.proofs.whole.read_whole.Goals as goal

pub loop-piece-preserved : goal.loop-piece-preserved
loop-piece-preserved g c = record {
  front =
      front_more _ _ c.args.name.now c.loop-piece.bytes.items c.read_at.new.buf _ c.in-Ok.count
      c.len-in-loop-piece.result c.loop-piece.invariant.held
      (omega (arith, c.loop-piece.bytes.ok.0)) c.loop-piece.invariant.front c.in-Ok.ensures.bytes
      c.in-Ok.ensures.within c.in_ok-extend_from_slice-in-Ok.ensures.items;
  held = cc;
  made = cc;
  later = omega arith;
}
