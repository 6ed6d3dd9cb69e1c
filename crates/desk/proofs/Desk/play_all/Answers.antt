use Rattle.std.proofs.Common.{arith, refl}
use Rattle.call.proofs.Playing.{round, turned}
use Rattle.desk.proofs.Keeping.{kept_past}
use Rattle.desk.proofs.Noting.{noted}
use Rattle.desk.proofs.Desk.play_all.Goals as goal

pub loop-rec-preserved : goal.loop-rec-preserved
loop-rec-preserved c =
    let i = c.loop-rec.invariant in
    let n = c.note.ensures in
    record {
      keeps = kept_past n.keeps i.keeps refl refl c.play-played.ensures.keeps refl refl refl refl;
      numbered = omega (arith, n.notes.number);
      counted = omega (arith, n.counts);
      rest = round _ _ _ _ _ _ _ _ c.loop-rec-test.true i.keeps.same_board (noted _ _ _ _ _ _ _ _ _ c.play-played.ensures.turns n.notes) i.rest;
    }

pub returns-clause-runs : goal.returns-clause-runs
returns-clause-runs c = turned _ _ _ _ _ c.loop-rec-test.false c.loop-rec.invariant.rest
