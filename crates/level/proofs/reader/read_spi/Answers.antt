use Rattle.field.proofs.Reading.{got_none, got_one, as_told}
use Rattle.level.proofs.LevelLaws.{tells_some, spi_1, spi_2, spi_3, spi_4, spi_5, spi_all}
use Rattle.level.proofs.reader.read_spi.Goals as goal

pub returns-in_err-cs : goal.returns-in_err-cs
returns-in_err-cs c =
    as_told c.from_residual.ensures
    (spi_1
    (got_none tells_some c.read_flag.ensures c.in_err-cs.was))

pub returns-in_err-sck : goal.returns-in_err-sck
returns-in_err-sck c =
    as_told c.from_residual-in_err-sck.ensures
    (spi_2
    (got_one tells_some c.read_flag.ensures _ _ c.in_ok-cs.was)
    (got_none tells_some c.read_flag-2.ensures c.in_err-sck.was))

pub returns-in_err-si : goal.returns-in_err-si
returns-in_err-si c =
    as_told c.from_residual-in_err-si.ensures
    (spi_3
    (got_one tells_some c.read_flag.ensures _ _ c.in_ok-cs.was)
    (got_one tells_some c.read_flag-2.ensures _ _ c.in_ok-sck.was)
    (got_none tells_some c.read_flag-3.ensures c.in_err-si.was))

pub returns-in_err-so : goal.returns-in_err-so
returns-in_err-so c =
    as_told c.from_residual-in_err-so.ensures
    (spi_4
    (got_one tells_some c.read_flag.ensures _ _ c.in_ok-cs.was)
    (got_one tells_some c.read_flag-2.ensures _ _ c.in_ok-sck.was)
    (got_one tells_some c.read_flag-3.ensures _ _ c.in_ok-si.was)
    (got_none tells_some c.read_flag-4.ensures c.in_err-so.was))

pub returns-in_err-hold : goal.returns-in_err-hold
returns-in_err-hold c =
    as_told c.from_residual-in_err-hold.ensures
    (spi_5
    (got_one tells_some c.read_flag.ensures _ _ c.in_ok-cs.was)
    (got_one tells_some c.read_flag-2.ensures _ _ c.in_ok-sck.was)
    (got_one tells_some c.read_flag-3.ensures _ _ c.in_ok-si.was)
    (got_one tells_some c.read_flag-4.ensures _ _ c.in_ok-so.was)
    (got_none tells_some c.read_flag-5.ensures c.in_err-hold.was))

pub returns : goal.returns
returns c =
    spi_all
    (got_one tells_some c.read_flag.ensures _ _ c.in_ok-cs.was)
    (got_one tells_some c.read_flag-2.ensures _ _ c.in_ok-sck.was)
    (got_one tells_some c.read_flag-3.ensures _ _ c.in_ok-si.was)
    (got_one tells_some c.read_flag-4.ensures _ _ c.in_ok-so.was)
    (got_one tells_some c.read_flag-5.ensures _ _ c.in_ok-hold.was)
