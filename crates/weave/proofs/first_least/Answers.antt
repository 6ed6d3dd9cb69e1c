use Rattle.std.proofs.Common.{ℕ, get_or, rules, tests}
use Rattle.std.proofs.lemmas.List.{get_or_default}
use Rattle.std.proofs.lemmas.List.MinMax.{IsStrictWeakOrder-by_number, IsFirstBest-keeps, IsFirstBest-takes}
use Rattle.weave.proofs.first_least.Goals as goal
use Rattle.weave.proofs.first_least.Goals.{then-n-least, else-n-least}

pub loop-k-preserved : goal.loop-k-preserved
loop-k-preserved c =
    let ns = c.args.numbers.now in
    let l = c.loop-k in
    let order = IsStrictWeakOrder-by_number (λ (x : ℕ). x) in
    elim c.if-n-least.branch [
      | then-n-least w ↦ record {
        best = rw w.best-is (IsFirstBest-takes order ns l.k l.best (get_or ns l.k 0) (get_or ns l.best 0) l.invariant.best (search rules) (search (rules, get_or_default)) (search (rules, get_or_default)) (search (rules, tests)));
        is = search rules;
      }
      | else-n-least w ↦ record {
        best = rw w.best-is (IsFirstBest-keeps order ns l.k l.best (get_or ns l.k 0) (get_or ns l.best 0) l.invariant.best (search rules) (search (rules, get_or_default)) (search (rules, get_or_default)) (search (rules, tests)));
        is = search rules;
      }
    ]
