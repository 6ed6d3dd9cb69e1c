use Rattle.std.proofs.Common.{rules}
use Rattle.engine.proofs.PlayLaws.{ongoing_start, ongoing_end, ongoing_next}
use Rattle.engine.proofs.play_all.Goals as goal

pub loop-rec-init : goal.loop-rec-init
loop-rec-init c =
    let items = c.take-rec-items in
    record {
      can = search rules;
      ends = search rules;
      keeps = search rules;
      ongoing =
          rw c.into_iter-rec-iterator.ensures.into_iter_gives (ongoing_start items.result _ _ _ items.ensures.source items.ensures.count c.start-cur.ensures);
    }

pub loop-rec-preserved : goal.loop-rec-preserved
loop-rec-preserved c =
    let i = c.loop-rec.invariant in
    record {
      can = search rules;
      ends = search rules;
      keeps = search rules;
      ongoing = ongoing_next i.ongoing c.next.new.self c.in-Some.ensures.steps c.play-played.ensures.turns;
    }

pub returns-clause-plays : goal.returns-clause-plays
returns-clause-plays c = ongoing_end c.loop-rec.invariant.ongoing c.next.new.self c.in-None.ensures.steps
