-- The machine with each record played as at one stamp: what a record does to a chip's memory then goes by its event alone. On records of that stamp it is the machine.
use mathlib.Core.Path.{◌≡◌, refl, sym, ap, ◌∙◌}
use mathlib.Core.Logic.{◌↔◌}
use mathlib.Core.List.{List, [], ◌∷◌}
use Prim.Native.Nat.{ℕ}
use Rattle.law.specs.Words.{keep, All}
use Rattle.meaning.specs.Meaning.{Rules, Outcome, same, Allowed, after, replies, outcome, Alike}
use Rattle.meaning.proofs.Allowing.{allowed_all}
use Rattle.meaning.proofs.TwoMachines as two
use Rattle.record.specs.declared.Board.{Board}
use Rattle.record.specs.declared.Record.{Record}
use Rattle.record.specs.declared.Reply.{Reply}
use Rattle.controls.specs.Play.{lost_of}
use Rattle.machine.specs.Machine.{Machine, play_on, says_on, channel_of, on_machine}

module _ (b : Board) (t : ℕ) where
  abbrev pub play_at : Machine → Record → Machine
  play_at m r = play_on b m (record { stamp = t; event = r.event })

  abbrev pub at_stamp : Rules Record Machine Reply
  at_stamp = record { channel = λ r. channel_of r.event; stamp = λ r. r.stamp; play = play_at; says = says_on b; lost = λ m. lost_of m.controls }

  pub allowed_at : {p o : List Record} → Allowed (on_machine b) p o ↔ Allowed at_stamp p o
  allowed_at = two.allowed (on_machine b) play_at (says_on b) (λ m. lost_of m.controls)

  -- a record in front of those that give v
  abbrev first : Machine → Record → Outcome Machine Reply → Outcome Machine Reply
  first m r v = record { state = v.state; replies = λ c. keep (same c (channel_of r.event)) (says_on b m r) (v.replies c) }

  outcome_at : (o : List Record) → All (λ (r : Record). r.stamp ≡ t) o → (m : Machine) → outcome (on_machine b) o m ≡ outcome at_stamp o m
  unfolding All after replies
  outcome_at [] h m = refl
  outcome_at (r ∷ o) h m =
      ap (λ (n : Machine). first m r (outcome (on_machine b) o n)) (ap (λ (u : ℕ). play_on b m (record { stamp = u; event = r.event })) h.0) ∙ ap (first m r) (outcome_at o h.1 (play_at m r))

  -- two allowed orders of records of the stamp
  module _ (p : List Record) (hp : All (λ (r : Record). r.stamp ≡ t) p) (m : Machine) where
    pub order_at : (o : List Record) → Allowed (on_machine b) p o → outcome (on_machine b) o m ≡ outcome at_stamp o m
    order_at o x = outcome_at o (allowed_all (on_machine b) _ p o x hp) m

    pub pair_at : (o q : List Record) → Allowed (on_machine b) p o → Allowed (on_machine b) p q → (outcome (on_machine b) o m ≡ outcome (on_machine b) q m) ↔ (outcome at_stamp o m ≡ outcome at_stamp q m)
    pair_at o q x y = ((λ h. sym (order_at o x) ∙ h ∙ order_at q y), λ h. order_at o x ∙ h ∙ sym (order_at q y))

    pub alike_at : Alike (on_machine b) p m ↔ Alike at_stamp p m
    alike_at = two.same_alike (on_machine b) play_at (says_on b) (λ m. lost_of m.controls) p m m pair_at
