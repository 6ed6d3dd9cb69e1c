use Rattle.std.proofs.Common.{arith}
use Rattle.weave.proofs.PassLaws.{pass_begin, pass_byte, pass_line}
use Rattle.weave.proofs.feed.line_with.Goals as goal
use Rattle.weave.proofs.feed.line_with.Goals.{then-b-eq10, else-b-eq10}

pub loop-k-init : goal.loop-k-init
loop-k-init c = record { passing = pass_begin _ _ _; behind = omega arith }

pub loop-k-preserved : goal.loop-k-preserved
loop-k-preserved c =
    let p = c.loop-k.invariant.passing in
    elim c.if-b-eq10.branch [
      | then-b-eq10 w ↦ record {
        passing = rw w.start-is (pass_line p c.loop-k-test.true c.if-b-letter.false w.if-b-eq10.true);
        behind = omega arith;
      }
      | else-b-eq10 w ↦ record {
        passing = rw w.start-is (pass_byte p c.loop-k-test.true c.if-b-letter.false w.if-b-eq10.false);
        behind = omega arith;
      }
    ]
