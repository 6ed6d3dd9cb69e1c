-- What `judge_at` finds, and that it is determined.
use mathlib.Core.Path.{◌≡◌, refl, sym, subst}
use mathlib.Core.List.{List, [], ◌∷◌}
use Prim.Native.Nat.{ℕ}
use Rattle.record.specs.declared.Record.{Record}
use Rattle.record.specs.declared.Board.{Board}
use Rattle.std.specs.Prelude.{Ok, Err}
use Rattle.field.specs.declared.Cursor.{Cursor}
use Rattle.field.specs.declared.BadField.{BadField}
use Rattle.field.specs.Read.{Read}
use Rattle.field.proofs.Reading.{got_none, got_one}
use Rattle.line.specs.Records.{ReadsRecord}
use Rattle.field.proofs.Answers.{tells_got}
use Rattle.line.proofs.Theorems.{record_same}
use Rattle.controls.specs.declared.Controls.{Controls}
use Rattle.orders.specs.declared.Verdict.TheVariants.{Crowded}
use Rattle.orders.specs.Verdicts.{Judged}
use Rattle.orders.proofs.OneVerdict.{one_verdict}
use Rattle.stamps.specs.declared.Gathered.{Gathered}
use Rattle.stamps.specs.declared.Judgement.{Judgement}
use Rattle.stamps.specs.Gathering.{nothing_gathered, gathered_all, Shares}
use Rattle.stamps.specs.Judging.{judgement, JudgesAt, JudgesAll}
use Rattle.stamps.specs.Judging.JudgesAt.{nothing, found}
use Rattle.stamps.proofs.Sharing.{one_shares}

module _ (text : List ℕ) (place : ℕ) (b : Board) (c : Controls) where
  module _ (a : Read Record) (d : ReadsRecord text place a) where
    pub judges_none : {k : BadField} → a ≡ Err k → (j : Judgement) → j ≡ judgement Crowded 0 (nothing_gathered place) → JudgesAt text place b c j
    judges_none e j q = subst (JudgesAt text place b c) (sym q) (nothing (got_none tells_got d e))

    -- what was gathered from nothing begins with the record that was read
    pub judges_some : (r : Record) (cur : Cursor) → a ≡ Ok (r, cur) → (j : Judgement) → JudgesAll text place r.stamp b c j → JudgesAt text place b c j
    unfolding Shares
    judges_some r cur e j k =
        let u = k.gathers in
        subst (JudgesAt text place b c) (sym k.is)
        (subst (λ (y : Gathered). JudgesAt text place b c (judgement k.verdict r.stamp y)) (sym u.gathered)
        (begun u.records u.shares (subst (λ (y : Gathered). Judged b y.held c k.verdict) u.gathered k.judged)))
      where
        begun : (p : List Record) → Shares text r.stamp place p → Judged b (gathered_all (nothing_gathered place) p).held c k.verdict → JudgesAt text place b c (judgement k.verdict r.stamp (gathered_all (nothing_gathered place) p))
        begun [] s h = let x = got_one tells_got d r cur.at e in absurd (s r x.ok x.stands refl)
        begun (y ∷ p) s h =
            subst (λ (t : ℕ). JudgesAt text place b c (judgement k.verdict t (gathered_all (nothing_gathered place) (y ∷ p)))) s.2
            (found y p k.verdict (subst (λ (t : ℕ). Shares text t place (y ∷ p)) (sym s.2) s) h)

  -- any two answers that the promise of `judge_at` admits are equal
  pub judge_determined : {j k : Judgement} → JudgesAt text place b c j → JudgesAt text place b c k → j ≡ k
  unfolding Shares
  judge_determined (nothing n) (nothing m) = refl
  judge_determined (nothing n) (found r p v s h) = absurd (n r s.0 s.1)
  judge_determined (found r p v s h) (nothing n) = absurd (n r s.0 s.1)
  judge_determined (found r p v s h) (found x q w u k) =
      let e : r ≡ x = record_same text place r x s.0 u.0 s.1 u.1 in
      let es : r ∷ p ≡ x ∷ q = one_shares text x.stamp place (r ∷ p) (x ∷ q) (subst (λ (z : Record). Shares text z.stamp place (r ∷ p)) e s) u in
      let o : v ≡ w = one_verdict b (gathered_all (nothing_gathered place) (x ∷ q)).held c v w (subst (λ (l : List Record). Judged b (gathered_all (nothing_gathered place) l).held c v) es h) k in
      λ i. judgement (o i) (e i).stamp (gathered_all (nothing_gathered place) (es i))
