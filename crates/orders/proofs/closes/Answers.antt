use Rattle.std.proofs.Common.{sym, ◌∙◌}
use Rattle.orders.proofs.Compared.{same_controls, same_reply}
use Rattle.orders.proofs.closes.Goals as goal

pub returns : goal.returns
returns c =
    λ e.
    let k = (same_controls _ _ c.eq.ensures).holds e in
    let q = same_reply _ _ c.ne.ensures c.if-ne.false in
    sym c.play-step.ensures ∙ (λ i. record { controls = k i; reply = q i })
