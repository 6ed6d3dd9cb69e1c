-- Claim 30: records of one channel have one order, and those of a plan lose no status; so their trace settles. Assumes nothing.
use Prim.Native.Nat.{ℕ, ◌≤◌, ◌<◌}
use mathlib.Core.Path.{◌≡◌, refl, sym, ap, subst, ◌∙◌}
use mathlib.Core.Bool.{Bool, false}
use mathlib.Core.List.{List, [], ◌∷◌}
use native.Mathlib.Omega.{arith}
use lib.Dec.{eqb, leb}
use lib.ListN.{length}
use Rattle.law.specs.Words.{All, filter, keep}
use Rattle.law.specs.Lists.{all_filter}
use Rattle.law.specs.Choice.{true_not_false}
use Rattle.meaning.specs.Meaning as meaning
use Rattle.meaning.specs.Meaning.{Channel, F, E, L, same, most, Allowed, after, at, upto, Alike, Passes, crowded, differ, lost, Lost, Differ, Crowded, Holds}
use Rattle.meaning.proofs.Allowing.{itself, allowed_all}
use Rattle.record.specs.declared.Board.{Board}
use Rattle.record.specs.declared.Record.{Record}
use Rattle.record.specs.declared.Event.{Event}
use Rattle.record.specs.declared.Event.TheVariants as event
use Rattle.record.specs.declared.FlashEvent.{FlashEvent}
use Rattle.flash.specs.Step.{start_of}
use Rattle.flash.proofs.Lost.{step_keeps}
use Rattle.image.specs.Images.{Images}
use Rattle.controls.specs.Play.{moved_of}
use Rattle.machine.specs.Machine.{Machine, machine_at_start, channel_of, play_on, on_machine}
use Rattle.demands.proofs.Demands.{demands}
use Rattle.demands.proofs.Readable.{readable_back, status_known}
use Rattle.refill.specs.Records.{Bear, SameSent, Shows, events_of_all}
use Rattle.refill.specs.Traced.{PlanTraced}
use Rattle.refill.proofs.Claims.{all_plan_claims}

-- a record of channel F
abbrev OfF : Record → Type 0
OfF r = channel_of r.event ≡ F

sent_F : (v : Event) (e : FlashEvent) → SameSent v e → channel_of v ≡ F
sent_F (event.Flash x) e p = refl
sent_F (event.Eeprom x) e p = absurd p
sent_F (event.Line x) e p = absurd p

bear_F : (rs : List Record) (es : List FlashEvent) → Bear rs es → All OfF rs
unfolding Bear All
bear_F [] es t = tt
bear_F (r ∷ rs) [] t = absurd t
bear_F (r ∷ rs) (e ∷ es) t = (sent_F r.event e t.0, bear_F rs es t.1)

module _ (b : Board) where
  -- each is of channel F, none of another
  all_F : (rs : List Record) → All OfF rs → meaning.of (on_machine b) F rs ≡ rs
  unfolding All filter keep
  all_F [] h = refl
  all_F (r ∷ rs) h =
      ap (λ (c : Channel). keep (same F c) r (filter (λ (a : Record). same F (channel_of a.event)) rs)) h.0
      ∙ ap (λ (l : List Record). r ∷ l) (all_F rs h.1)

  none_else : (c : Channel) → same c F ≡ false → (rs : List Record) → All OfF rs → meaning.of (on_machine b) c rs ≡ []
  unfolding All filter keep
  none_else c ne [] h = refl
  none_else c ne (r ∷ rs) h =
      ap (λ (d : Channel). keep (same c d) r (filter (λ (a : Record). same c (channel_of a.event)) rs)) h.0
      ∙ ap (λ (t : Bool). keep t r (filter (λ (a : Record). same c (channel_of a.event)) rs)) ne
      ∙ none_else c ne rs h.1

  -- so they have one order
  one_order : (rs o : List Record) → All OfF rs → Allowed (on_machine b) rs o → o ≡ rs
  one_order rs o h a = sym (all_F o (allowed_all (on_machine b) OfF rs o a h)) ∙ a.keeps F ∙ all_F rs h

  -- and lose no status
  lost_kept : (v : Event) → channel_of v ≡ F → (stamp : ℕ) (m : Machine) → (on_machine b).lost (play_on b m (record { stamp = stamp; event = v })) ≡ (on_machine b).lost m
  unfolding play_on moved_of
  lost_kept (event.Flash x) e stamp m = step_keeps m.controls.flash x m.controls.lines b.sector
  lost_kept (event.Eeprom x) e stamp m = absurd (apart e)
    where
      apart : E ≡ F → ⊥
      apart p = true_not_false (ap (λ (c : Channel). same E c) p)
  lost_kept (event.Line x) e stamp m = absurd (apart e)
    where
      apart : L ≡ F → ⊥
      apart p = true_not_false (ap (λ (c : Channel). same L c) p)

  never_lost : (rs : List Record) → All OfF rs → (m : Machine) → (on_machine b).lost (after (on_machine b) rs m) ≡ (on_machine b).lost m
  unfolding All after
  never_lost [] h m = refl
  never_lost (r ∷ rs) h m = never_lost rs h.1 (play_on b m r) ∙ lost_kept r.event h.0 r.stamp m

  none_crowded : (rs : List Record) → All OfF rs → ((t : ℕ) → length (at (on_machine b) t rs) ≤ most F) → (t : ℕ) (c : Channel) → most c < length (meaning.of (on_machine b) c (at (on_machine b) t rs)) → ⊥
  none_crowded rs h few t F more =
      let e = ap (λ (l : List Record). length l) (all_F (at (on_machine b) t rs) (all_filter OfF (λ (a : Record). eqb a.stamp t) rs h)) in
      omega (arith, more, few t, e)
  none_crowded rs h few t E more =
      let e = ap (λ (l : List Record). length l) (none_else E refl (at (on_machine b) t rs) (all_filter OfF (λ (a : Record). eqb a.stamp t) rs h)) in
      omega (arith, more, e)
  none_crowded rs h few t L more =
      let e = ap (λ (l : List Record). length l) (none_else L refl (at (on_machine b) t rs) (all_filter OfF (λ (a : Record). eqb a.stamp t) rs h)) in
      omega (arith, more, e)

  passes : (rs : List Record) → All OfF rs → ((t : ℕ) → length (at (on_machine b) t rs) ≤ most F) → (x : Images) → (t : ℕ) → Passes (on_machine b) rs (machine_at_start b x) t
  unfolding Passes Holds Crowded Differ Alike Lost
  passes rs h few x t crowded c = none_crowded rs h few t c.0 c.1
  passes rs h few x t differ d =
      d (λ o p a c.
      let so = all_filter OfF (λ (a : Record). leb a.stamp t) rs h in
      ap (λ (l : List Record). meaning.outcome (on_machine b) l (machine_at_start b x)) (one_order (upto (on_machine b) t rs) o so a ∙ sym (one_order (upto (on_machine b) t rs) p so c)))
  passes rs h few x t lost l =
      let so = all_filter OfF (λ (a : Record). leb a.stamp t) rs h in
      true_not_false
      (sym l.2
      ∙ never_lost l.0 (allowed_all (on_machine b) OfF (upto (on_machine b) t rs) l.0 l.1 so) (machine_at_start b x)
      ∙ status_known b x)

pub plan_traced : PlanTraced
plan_traced status present wanted list result byte p w' left h nought os read text x b rs taken st w l sector shows bear few e replays =
    let f = bear_F rs (events_of_all os) bear in
    let stops = (demands text x e replays).stops b rs taken in
    let zero : e.answer ≡ 0 = stops.settled_means.1 (passes b rs f few x.images) in
    let shown = stops.settled_shows zero rs (itself (on_machine b) rs (readable_back taken.readable)) in
    let q = (all_plan_claims status present wanted list result byte p w' left h).replays nought os read b w l sector (machine_at_start b x.images)
    (ap start_of st) refl shows rs bear in
    (zero, subst (λ (i : Images). Shows w i.flash wanted) (sym shown.images) (q.shows w sector))
