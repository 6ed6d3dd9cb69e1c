use Rattle.std.proofs.Common.{rules}
use Rattle.merged.proofs.LoopLaws.{going_end, going_next}
use Rattle.merged.proofs.write_all.Goals as goal

pub loop-rec-preserved : goal.loop-rec-preserved
loop-rec-preserved c =
    let i = c.loop-rec.invariant in
    record {
      can = search rules;
      ends = search rules;
      same = search rules;
      going = going_next i.going c.next.new.self c.in-Some.ensures.steps c.write_line-at.ensures i.same;
    }

pub returns : goal.returns
returns c = going_end c.loop-rec.invariant.going c.next.new.self c.in-None.ensures.steps
