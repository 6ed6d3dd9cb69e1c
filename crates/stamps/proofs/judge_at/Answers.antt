use Rattle.std.proofs.Common.{ap}
use Rattle.orders.specs.declared.Records.{Records}
use Rattle.orders.specs.declared.Verdict.TheVariants.{Crowded}
use Rattle.stamps.proofs.Judges.{judges_none, judges_some}
use Rattle.stamps.proofs.Lone.{judges_alone}
use Rattle.stamps.proofs.judge_at.Goals as goal

pub returns-in_default : goal.returns-in_default
returns-in_default c =
    judges_none _ _ _ _ _ c.record_at.ensures c.in_default.is _
    (ap (λ (r : Records 18). record { verdict = Crowded; records = r; next = c.args.place; stamp = 0 }) c.none.ensures)

pub returns-then-over_at : goal.returns-then-over_at
returns-then-over_at c =
    judges_alone _ _ _ _ _ c.record_at.ensures _ _ c.in-Ok.is
    (c.over_at.ensures c.if-over_at.true) _ c.found_alone.ensures

pub returns : goal.returns
returns c = judges_some _ _ _ _ _ c.record_at.ensures _ _ c.in-Ok.is _ c.found_together.ensures
