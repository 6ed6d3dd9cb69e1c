use Rattle.field.proofs.Answers.{tells_got, tells_past, refused}
use Rattle.field.proofs.Reading.{got_one, as_told}
use Rattle.line.proofs.BoardLaws.{places_1, places_2, places_3, places_4, places_all}
use Rattle.line.proofs.boards.read_places.Goals as goal

pub returns-in_err-sector : goal.returns-in_err-sector
returns-in_err-sector c = let n = refused tells_got c.read_digit.ensures c.in_err-sector.was c.from_residual.ensures.1 in as_told n.same (places_1 _ n.none)

pub returns-in_err-c2 : goal.returns-in_err-c2
returns-in_err-c2 c = let n = refused tells_past c.read_end.ensures c.in_err-c2.was c.from_residual-in_err-c2.ensures.1 in as_told n.same (places_2 _ (got_one tells_got c.read_digit.ensures _ _ c.in_ok-sector.was) n.none)

pub returns-in_err-address : goal.returns-in_err-address
returns-in_err-address c = let n = refused tells_got c.read_digit-2.ensures c.in_err-address.was c.from_residual-in_err-address.ensures.1 in as_told n.same (places_3 _ (got_one tells_got c.read_digit.ensures _ _ c.in_ok-sector.was) (got_one tells_past c.read_end.ensures tt _ c.in_ok-c2.was) n.none)

pub returns-in_err-c4 : goal.returns-in_err-c4
returns-in_err-c4 c = let n = refused tells_past c.read_end-2.ensures c.in_err-c4.was c.from_residual-in_err-c4.ensures.1 in as_told n.same (places_4 _ (got_one tells_got c.read_digit.ensures _ _ c.in_ok-sector.was) (got_one tells_past c.read_end.ensures tt _ c.in_ok-c2.was) (got_one tells_got c.read_digit-2.ensures _ _ c.in_ok-address.was) n.none)

pub returns : goal.returns
returns c = places_all _ (got_one tells_got c.read_digit.ensures _ _ c.in_ok-sector.was) (got_one tells_past c.read_end.ensures tt _ c.in_ok-c2.was) (got_one tells_got c.read_digit-2.ensures _ _ c.in_ok-address.was) (got_one tells_past c.read_end-2.ensures tt _ c.in_ok-c4.was)
