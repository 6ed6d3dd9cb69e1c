use Rattle.std.proofs.Common.{◌∙◌, ℕ, ap, rules, nat_eq, bit_or, bit_and}
use Rattle.std.proofs.lemmas.Iterator.{YieldsList-from_slice, YieldsList-from_zip}
use Rattle.std.proofs.lemmas.Iterator.Consumers.{fold_from_yields_List}
use Rattle.buffers.proofs.Clear.{set_nowhere}
use Rattle.buffers.proofs.is_clear.Goals as goal

pub returns : goal.returns
returns c =
    let a = c.args in
    let all = fold_from_yields_List _ (λ (seen : ℕ) (p : ℕ × ℕ). bit_or seen (bit_and p.0 p.1)) 0 c.fold.result c.fold.ensures.ran
    (YieldsList-from_zip (YieldsList-from_slice a.values.now (search rules)) (YieldsList-from_slice a.masks.now (search rules))) (λ s x r q k. search rules) in
    ap (λ (n : ℕ). nat_eq n 0) all ∙ set_nowhere a.values.now a.masks.now
