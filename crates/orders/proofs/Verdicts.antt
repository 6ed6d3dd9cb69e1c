-- What the branches of `judge` show.
use mathlib.Core.Path.{◌≡◌, refl, ap, ◌∙◌}
use mathlib.Core.Bool.{Bool, true, false, not}
use Rattle.law.specs.Choice.{via, true_not_false}
use Rattle.law.specs.Deciding.{Decides, refuses, passed}
use Rattle.record.specs.declared.Board.{Board}
use Rattle.controls.specs.declared.Controls.{Controls}
use Rattle.controls.specs.Play.{lost_of}
use Rattle.meaning.specs.Meaning.{Channel, F, E, L, same}
use Rattle.tied.specs.Orders.{after_buses, after_lines}
use Rattle.orders.specs.Stamp.{BusesPlayed, Settled, bus, line, buses_from, lines_from}
use Rattle.orders.specs.Verdicts.{held_of, Few, OrdersAgree, BusesAgree, last_of, last_tied, Judged}
use Rattle.orders.specs.declared.Held.{Held}
use Rattle.orders.specs.declared.tying.Tied.{Tied}
use Rattle.orders.specs.declared.tying.Outcome.{Outcome}
use Rattle.orders.specs.declared.Verdict.TheVariants.{Differ, Lost, Passes}

-- what one bus's records decide
pub settled : (t : Tied) (s : Controls) {d : Bool} → Decides d (Settled t s) → Decides d (OrdersAgree t.board (buses_from t 0) (lines_from t 0) s)
unfolding Settled OrdersAgree
settled t s d = d

-- all records of F, of E and of L, one after the other
pub in_turn_lem : (t u : Tied) (s : Controls) (v w : Outcome) (x : Controls) → BusesPlayed t s v → BusesPlayed u v.controls w → x ≡ after_lines (line t) (lines_from t 0) w.controls → x ≡ last_tied t u s
in_turn_lem t u s v w x p q z =
    z ∙ ap (after_lines (line t) (lines_from t 0)) (q.controls ∙ ap (after_buses (bus u) (buses_from u 0)) p.controls)

module _ (h : Held) (b : Board) (s : Controls) (f : Few h) where
  pub differs : (c : Channel) → same c L ≡ false → {d : Bool} → Decides d (OrdersAgree b (held_of h c) (held_of h L) s) → not d ≡ true → Judged b h s Differ
  unfolding Judged
  differs c n k e = (f, λ a. (refuses k e (λ (z : BusesAgree b (held_of h) s). z c n)).fails refl a)

  module _ {d g : Bool} (k : Decides d (OrdersAgree b (held_of h F) (held_of h L) s)) (e : not d ≡ false)
      (l : Decides g (OrdersAgree b (held_of h E) (held_of h L) s)) (i : not g ≡ false) where
    all_agree : BusesAgree b (held_of h) s
    all_agree F n = passed k e
    all_agree E n = passed l i
    all_agree L n = absurd (true_not_false n)

    pub is_lost : (r : Bool) → r ≡ lost_of (last_of b h s) → r ≡ true → Judged b h s Lost
    unfolding Judged
    is_lost r w t = (f, all_agree, via w t)

    pub is_kept : (r : Bool) → r ≡ lost_of (last_of b h s) → r ≡ false → Judged b h s Passes
    unfolding Judged
    is_kept r w t = (f, all_agree, via w t)
