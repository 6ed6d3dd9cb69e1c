use native.Mathlib.Omega.{arith}
use mathlib.Core.Path.{sym, ap, ◌∙◌}
use Rattle.law.specs.Choice.{via}
use Rattle.field.proofs.Reading.{got_none, got_one, got_bad}
use Rattle.field.proofs.Answers.{tells_got}
use Rattle.line.specs.Records.{record_fault}
use Rattle.line.specs.Boards.{board_fault}
use Rattle.text.proofs.Standing.{so_start, got_board_place, got_record_place, so_bad, so_back, so_impossible, so_more, so_end, no_board_lem}
use Rattle.text.proofs.checking.check_text.Goals as goal

pub returns-in-Err : goal.returns-in-Err
returns-in-Err c =
    rw c.new.ensures
    (no_board_lem (got_none tells_got c.read_board.ensures c.in-Err.is)
    (ap board_fault (sym c.in-Err.is ∙ got_bad tells_got c.read_board.ensures c.in-Err.is)))

pub loop-at-init : goal.loop-at-init
loop-at-init c =
    let g = got_one tells_got c.read_board.ensures _ _ c.in-Ok.is in
    let p = got_board_place g in
    (omega arith, omega arith, so_start g c.all_closed-buses.ensures)

pub returns-in-Err-record_at : goal.returns-in-Err-record_at
returns-in-Err-record_at c =
    rw c.new-in-Err-record_at.ensures
    (so_bad c.loop-at.invariant.2 c.loop-at-test.true (got_none tells_got c.record_at.ensures c.in-Err-record_at.is)
    (ap record_fault (sym c.in-Err-record_at.is ∙ got_bad tells_got c.record_at.ensures c.in-Err-record_at.is)))

pub returns-then-rec-last : goal.returns-then-rec-last
returns-then-rec-last c =
    rw c.new-then-rec-last.ensures
    (so_back c.loop-at.invariant.2 (got_one tells_got c.record_at.ensures _ _ c.in-Ok-record_at.is) c.if-rec-last.true)

pub returns-in_default : goal.returns-in_default
returns-in_default c =
    rw c.new-in_default.ensures
    (so_impossible c.loop-at.invariant.2 (got_one tells_got c.record_at.ensures _ _ c.in-Ok-record_at.is) c.if-rec-last.false (via c.after.ensures c.in_default.is))

pub loop-at-smaller : goal.loop-at-smaller
loop-at-smaller c = let l = got_record_place (got_one tells_got c.record_at.ensures _ _ c.in-Ok-record_at.is) in omega arith

pub loop-at-preserved : goal.loop-at-preserved
loop-at-preserved c =
    let g = got_one tells_got c.record_at.ensures _ _ c.in-Ok-record_at.is in
    let l = got_record_place g in
    (l.1, omega arith, so_more c.loop-at.invariant.2 g c.if-rec-last.false (via c.after.ensures c.in-Some.is))

pub returns : goal.returns
returns c = so_end c.loop-at.invariant.2 (got_one tells_got c.read_board.ensures _ _ c.in-Ok.is) c.loop-at-test.false
