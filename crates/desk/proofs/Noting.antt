-- A record is played, then noted.
use mathlib.Core.Path.{◌≡◌, refl, ◌∙◌}
use Rattle.record.specs.declared.Board.{Board}
use Rattle.record.specs.declared.Record.{Record}
use Rattle.record.specs.declared.Reply.{Reply}
use Rattle.controls.specs.declared.Controls.{Controls}
use Rattle.image.specs.Images.{Images}
use Rattle.times.specs.declared.Touched.{Touched}
use Rattle.machine.specs.Lent.{images_in}
use Rattle.machine.specs.Turn.{turn, turn_of}
use Rattle.call.specs.Steps.{desk_of, step_desk}
use Rattle.call.proofs.Playing.{played_one}
use Rattle.desk.specs.declared.Desk.{Desk}
use Rattle.desk.specs.Desk.{desk_in, Notes}

pub noted : (b : Board) (c c' : Controls) (x : Images) (r : Record) (y : Reply) (p : Touched) (d d' : Desk) →
    turn c' (images_in d.images.now) y p ≡ turn_of b c x r → Notes r y p d d' →
    desk_in c' d' ≡ step_desk b (desk_of c x d.times.now d.replies.now d.number d.count) r
noted b c c' x r y p d d' h n =
    (λ i. desk_of c' (images_in (n.images i)) (n.times i) (n.replies i) (n.number i) (n.count i))
    ∙ played_one _ _ _ _ _ _ _ _ _ _ _ _ _ _ _ _ refl h refl (refl, refl)
