-- Any two outcomes that the promise of the exported call admits are equal: for each text and each lent buffers there is one answer, and one content of every buffer after it.
use mathlib.Core.Path.{◌≡◌, sym, ap, ◌∙◌}
use mathlib.Core.Bool.{true, false}
use mathlib.Core.Logic.{⊎_elim}
use mathlib.Core.List.{List}
use Prim.Native.Nat.{ℕ}
use lib.Dec.{ltb}
use lib.ListN.{length}
use Rattle.law.specs.Choice.{split}
use Rattle.meaning.specs.Meaning as meaning
use Rattle.meaning.specs.Meaning.{NeverBack, Means}
use Rattle.meaning.proofs.OneAnswer.{means_one}
use Rattle.record.specs.declared.Board.{Board}
use Rattle.record.specs.declared.Record.{Record}
use Rattle.record.specs.declared.Reply.{Reply}
use Rattle.machine.specs.Machine.{Machine, on_machine}
use Rattle.text.specs.Texts.{text_limit}
use Rattle.buffers.specs.Buffers.{Buffers, fit}
use Rattle.call.specs.Replay.{Ended, shown, Replays}
use Rattle.demands.proofs.Readable.{readable_back}

-- what is shown for two answers that the demand admits
same_shown : {e e' : Ended} (b : Board) (rs : List Record) (s : Machine) (z w : meaning.Answer Machine Reply) →
    NeverBack (on_machine b) rs → Means (on_machine b) rs s z → Means (on_machine b) rs s w → e ≡ shown b rs z → e' ≡ shown b rs w → e ≡ e'
same_shown b rs s z w n m k p q = p ∙ ap (shown b rs) (means_one (on_machine b) rs s n z w m k) ∙ sym q

module _ {text : List ℕ} {x : Buffers} {e e' : Ended} (p : Replays text x e) (q : Replays text x e') where
  -- on buffers that fit and a text within the limit: a readable text by the demand, another by its first bad line
  once_read : fit x ≡ true → ltb text_limit (length text) ≡ false → e ≡ e'
  once_read f l =
      ⊎_elim
      (λ r.
      let z = p.played f l r.0 r.1 r.2 in
      let w = q.played f l r.0 r.1 r.2 in
      same_shown r.0 r.1 _ z.0 w.0 (readable_back r.2) z.1 w.1 z.2 w.2)
      (λ r. p.bad f l r.0 r.1 r.2 r.3 ∙ sym (q.bad f l r.0 r.1 r.2 r.3)) (p.read f l)

  pub determined : e ≡ e'
  determined =
      split (fit x)
      (λ f. split (ltb text_limit (length text)) (λ l. p.long f l ∙ sym (q.long f l)) (λ l. once_read f l))
      (λ f. p.unfit f ∙ sym (q.unfit f))
