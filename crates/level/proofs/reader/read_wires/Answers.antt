use Rattle.field.proofs.Reading.{got_none, got_one, as_told}
use Rattle.level.proofs.LevelLaws.{tells_some, wires_1, wires_2, wires_all}
use Rattle.level.proofs.reader.read_wires.Goals as goal

pub returns-in_err-scl : goal.returns-in_err-scl
returns-in_err-scl c = as_told c.from_residual.ensures (wires_1 (got_none tells_some c.read_flag.ensures c.in_err-scl.was))

pub returns-in_err-sda : goal.returns-in_err-sda
returns-in_err-sda c =
    as_told c.from_residual-in_err-sda.ensures
    (wires_2 (got_one tells_some c.read_flag.ensures _ _ c.in_ok-scl.was) (got_none tells_some c.read_flag-2.ensures c.in_err-sda.was))

pub returns : goal.returns
returns c = wires_all (got_one tells_some c.read_flag.ensures _ _ c.in_ok-scl.was) (got_one tells_some c.read_flag-2.ensures _ _ c.in_ok-sda.was)
