use Rattle.field.proofs.Reading.{got_none, got_one, as_told}
use Rattle.field.proofs.Answers.{tells_got, tells_past}
use Rattle.level.proofs.LevelLaws.{tells_some, level_1, level_2, level_3, level_all}
use Rattle.level.proofs.StampLaws.{stamp_none, stamp_no_tab, stamp_got}
use Rattle.level.proofs.reader.read_level.Goals as goal

pub returns-in_default : goal.returns-in_default
returns-in_default c = level_1 (stamp_none (got_none tells_got c.read_decimal.ensures c.in_default.is))

pub returns-in_default-read_end : goal.returns-in_default-read_end
returns-in_default-read_end c =
    level_1
    (stamp_no_tab
    (got_one tells_got c.read_decimal.ensures _ _ c.in-Ok.is)
    (got_none tells_past c.read_end.ensures c.in_default-read_end.is))

pub returns-in_err-spi : goal.returns-in_err-spi
returns-in_err-spi c =
    as_told c.from_residual.ensures
    (level_2
    (stamp_got
    (got_one tells_got c.read_decimal.ensures _ _ c.in-Ok.is)
    (got_one tells_past c.read_end.ensures tt _ c.in-Ok-read_end.is))
    (got_none tells_some c.read_spi.ensures c.in_err-spi.was))

pub returns-in_err-wires : goal.returns-in_err-wires
returns-in_err-wires c =
    as_told c.from_residual-in_err-wires.ensures
    (level_3
    (stamp_got
    (got_one tells_got c.read_decimal.ensures _ _ c.in-Ok.is)
    (got_one tells_past c.read_end.ensures tt _ c.in-Ok-read_end.is))
    (got_one tells_some c.read_spi.ensures _ _ c.in_ok-spi.was)
    (got_none tells_some c.read_wires.ensures c.in_err-wires.was))

pub returns : goal.returns
returns c =
    level_all
    (stamp_got
    (got_one tells_got c.read_decimal.ensures _ _ c.in-Ok.is)
    (got_one tells_past c.read_end.ensures tt _ c.in-Ok-read_end.is))
    (got_one tells_some c.read_spi.ensures _ _ c.in_ok-spi.was)
    (got_one tells_some c.read_wires.ensures _ _ c.in_ok-wires.was)
