use Rattle.std.proofs.Common.{refl, subst}
use Rattle.stamps.specs.declared.Gathered.{Gathered}
use Rattle.stamps.specs.Gathering.{Gathers}
use Rattle.stamps.proofs.found_together.Goals as goal

pub returns : goal.returns
returns c = record {
  gathered = c.gather-g.result;
  gathers = subst (λ (n : Gathered). Gathers c.args.text.now c.args.stamp n c.gather-g.result) c.none_gathered.ensures c.gather-g.ensures;
  verdict = c.judge.result;
  judged = c.judge.ensures;
  is = refl;
}
