use Rattle.std.proofs.Common.{sym, ap, ◌∙◌, ⊎_elim}
use Rattle.record.specs.declared.Event.{Event}
use Rattle.orders.specs.Lost.{is_off}
use Rattle.orders.proofs.Lost.{keeps}
use Rattle.stamps.proofs.lost_by.Goals as goal

pub returns-in-Flash : goal.returns-in-Flash
returns-in-Flash c =
    c.lost.ensures ∙ sym (keeps _ _ _ (⊎_elim (λ h. ap (λ (e : Event). is_off e) h.1) (λ h. ap (λ (e : Event). is_off e) h.1) c.in-Flash.is))
