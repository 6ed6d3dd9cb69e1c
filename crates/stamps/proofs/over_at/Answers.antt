use Rattle.std.proofs.lemmas.Bool.{eqb-false}
use borrow.Author.Tests.{not-true}
use Rattle.stamps.proofs.Lone.{over_none, over_other}
use Rattle.stamps.proofs.over_at.Goals as goal

pub returns-in-Ok : goal.returns-in-Ok
returns-in-Ok c = λ e. over_other _ _ _ _ c.read_decimal.ensures _ _ c.in-Ok.is (eqb-false _ _ (not-true _ e))

pub returns-in-Err : goal.returns-in-Err
returns-in-Err c = λ e. over_none _ _ _ _ c.read_decimal.ensures c.in-Err.is
