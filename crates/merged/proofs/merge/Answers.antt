use Rattle.std.proofs.Common.{not, ap, arith}
use Rattle.merged.proofs.CallLaws.{merge_unfit, merge_refused, merge_short, length_small, merge_written}
use Rattle.merged.proofs.merge.Goals as goal

pub returns-then-res-ne-RESULT : goal.returns-then-res-ne-RESULT
returns-then-res-ne-RESULT c = merge_unfit c.if-res-ne-RESULT.true c.into.ensures c.put_answer.ensures

pub returns-in-Err : goal.returns-in-Err
returns-in-Err c = merge_refused c.if-res-ne-RESULT.false c.judge.ensures c.in-Err.is c.into-in-Err.ensures c.put_answer-in-Err.ensures

pub returns-then-not-has_room : goal.returns-then-not-has_room
returns-then-not-has_room c =
    merge_short c.if-res-ne-RESULT.false c.judge.ensures c.in-Ok.is c.has_room.ensures (ap not c.if-not-has_room.true) c.into-then-not-has_room.ensures
    c.put_answer-then-not-has_room.ensures

pub returns : goal.returns
returns c =
    merge_written c.if-res-ne-RESULT.false c.judge.ensures c.in-Ok.is c.has_room.ensures (ap not c.if-not-has_room.false) c.new-all.ensures.starts c.write_text-length.ensures
    c.into-2.ensures c.put_answer-2.ensures

pub overflow_cast-length : goal.overflow_cast-length
overflow_cast-length c =
    omega (
      arith,
      length_small c.judge.ensures c.in-Ok.is c.has_room.ensures (ap not c.if-not-has_room.false) c.new-all.ensures.starts c.write_text-length.ensures,
    )
