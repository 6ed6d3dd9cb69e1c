-- A stamp of one record: where it is over, and that it has one order.
use mathlib.Core.Path.{◌≡◌, refl, sym, ap, subst, ◌∙◌}
use mathlib.Core.Bool.{Bool, true, false}
use mathlib.Core.List.{List, [], ◌∷◌}
use Prim.Native.Nat.{ℕ, ◌≤◌}
use native.Mathlib.Omega.{arith}
use Rattle.law.specs.Choice.{true_not_false, of_both}
use Rattle.law.specs.Words.{pick}
use Rattle.meaning.specs.Meaning.{Channel, F, E, L, same, most}
use Rattle.tied.specs.Orders.{done, bus_first, line_first, after_buses, after_lines}
use Rattle.record.specs.declared.Record.{Record}
use Rattle.record.specs.declared.Board.{Board}
use Rattle.std.specs.Prelude.{Ok, Err}
use Rattle.field.specs.declared.Cursor.{Cursor}
use Rattle.field.specs.declared.BadField.{BadField}
use Rattle.field.specs.Decimal.{decimal}
use Rattle.field.specs.Read.{Read}
use Rattle.field.specs.Readers.{ReadsDecimal}
use Rattle.field.proofs.Reading.{got_none, got_one}
use Rattle.field.proofs.Answers.{tells_got}
use Rattle.field.proofs.FieldLaws.{content_stands}
use Rattle.line.specs.Records.{ReadsRecord}
use Rattle.line.proofs.RecordLaws.{stamp_content}
use Rattle.controls.specs.declared.Controls.{Controls}
use Rattle.controls.specs.Play.{lost_of}
use Rattle.machine.specs.Machine.{channel_of}
use Rattle.orders.specs.declared.Held.{Held}
use Rattle.orders.specs.declared.Verdict.TheVariants.{Lost, Passes}
use Rattle.orders.specs.Verdicts.{held_of, Few, OrdersAgree, BusesAgree, last_of, Judged}
use Rattle.stamps.specs.declared.Judgement.{Judgement}
use Rattle.stamps.specs.Gathering.{held_by, nothing_gathered, gathered_all, Shares}
use Rattle.stamps.specs.Judging.{JudgesAt}
use Rattle.stamps.specs.Judging.JudgesAt.{found}
use Rattle.stamps.specs.Lone.{lost_after, alone_verdict, alone_judgement}

-- ---- the stamp is over: a record's line begins with its stamp
module _ {n : ℕ} (text : List ℕ) (place t : ℕ) (a : Read ℕ) (d : ReadsDecimal n text place a) where
  -- no stamp stands there
  pub over_none : {k : BadField} → a ≡ Err k → Shares text t place []
  unfolding Shares
  over_none e r o s w = let c = stamp_content r s in got_none tells_got d e r.stamp (o.0, c) (content_stands text place (decimal r.stamp) c)

  -- another one does
  pub over_other : (m : ℕ) (c : Cursor) → a ≡ Ok (m, c) → (m ≡ t → ⊥) → Shares text t place []
  unfolding Shares
  over_other m c e x r o s w = let z = stamp_content r s in x ((got_one tells_got d m c.at e).only r.stamp (o.0, z) (content_stands text place (decimal r.stamp) z) ∙ w)

-- ---- one record has one order
module _ (b : Board) (s : Controls) where
  none_agrees : OrdersAgree b [] [] s
  unfolding OrdersAgree
  none_agrees done done = (refl, refl)

  bus_agrees : (r : Record) → OrdersAgree b (r ∷ []) [] s
  unfolding OrdersAgree
  bus_agrees r (bus_first done) (bus_first done) = (refl, refl)

  line_agrees : (r : Record) → OrdersAgree b [] (r ∷ []) s
  unfolding OrdersAgree
  line_agrees r (line_first done) (line_first done) = (refl, refl)

  -- what is held of one record, of the channel d
  module _ (place : ℕ) (r : Record) where
    few : (d : Channel) → Few (held_by d (nothing_gathered place).held r)
    few d F = of_both (λ (n : ℕ). n ≤ most F) (same F d) 1 0 (omega arith) (omega arith)
    few d E = of_both (λ (n : ℕ). n ≤ most E) (same E d) 1 0 (omega arith) (omega arith)
    few d L = of_both (λ (n : ℕ). n ≤ most L) (same L d) 1 0 (omega arith) (omega arith)

    agrees : (d : Channel) → BusesAgree b (held_of (held_by d (nothing_gathered place).held r)) s
    agrees F F n = bus_agrees r
    agrees F E n = none_agrees
    agrees F L n = absurd (true_not_false n)
    agrees E F n = none_agrees
    agrees E E n = bus_agrees r
    agrees E L n = absurd (true_not_false n)
    agrees L F n = line_agrees r
    agrees L E n = line_agrees r
    agrees L L n = absurd (true_not_false n)

    last : (d : Channel) → lost_of (last_of b (held_by d (nothing_gathered place).held r) s) ≡ lost_after b s r
    unfolding after_buses after_lines
    last F = refl
    last E = refl
    last L = refl

    judged_one : (d : Channel) → Judged b (held_by d (nothing_gathered place).held r) s (alone_verdict b s r)
    unfolding Judged
    judged_one d = judged_so (held_by d (nothing_gathered place).held r) (lost_after b s r) (few d) (agrees d) (last d)
      where
        judged_so : (h : Held) (lost : Bool) → Few h → BusesAgree b (held_of h) s → lost_of (last_of b h s) ≡ lost → Judged b h s (pick lost Lost Passes)
        judged_so h true f a e = (f, a, e)
        judged_so h false f a e = (f, a, e)

-- ---- what `judge_at` finds there
module _ (text : List ℕ) (place : ℕ) (b : Board) (c : Controls) where
  pub judges_alone : (a : Read Record) → ReadsRecord text place a → (r : Record) (cur : Cursor) → a ≡ Ok (r, cur) → Shares text r.stamp cur.at [] →
      (j : Judgement) → j ≡ alone_judgement b c r cur.at → JudgesAt text place b c j
  unfolding Shares gathered_all
  judges_alone a d r cur e over j q =
      let x = got_one tells_got d r cur.at e in
      subst (JudgesAt text place b c) (sym (q ∙ ap (alone_judgement b c r) x.next))
      (found r [] (alone_verdict b c r) (x.ok, x.stands, refl, subst (λ (n : ℕ). Shares text r.stamp n []) x.next over) (judged_one b c place r (channel_of r.event)))
