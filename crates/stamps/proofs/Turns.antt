-- The loop of `gather`: what was still to come at the start is still to come here.
use mathlib.Core.Path.{◌≡◌, refl, ap, subst, subst₂, ◌∙◌}
use mathlib.Core.List.{List, [], ◌∷◌}
use Prim.Native.Nat.{ℕ, ◌+◌, ◌-◌, ◌<◌}
use native.Mathlib.Omega.{arith}
use lib.ListN.{length}
use Rattle.record.specs.declared.Record.{Record}
use Rattle.std.specs.Prelude.{Ok, Err}
use Rattle.field.specs.declared.Cursor.{Cursor}
use Rattle.field.specs.declared.BadField.{BadField}
use Rattle.field.specs.Read.{Read}
use Rattle.field.proofs.Reading.{Got, got_none, got_one}
use Rattle.line.specs.Records.{spelled, RecordOk, ReadsRecord}
use Rattle.field.proofs.Answers.{tells_got}
use Rattle.text.proofs.Standing.{got_record_place}
use Rattle.stamps.specs.declared.Gathered.{Gathered}
use Rattle.stamps.specs.Gathering.{gathered_with, gathered_all, Shares, Gathers}

-- a reading at this place of this text
pub reads_here : {text z : List ℕ} {at k : ℕ} {a : Read Record} → z ≡ text → k ≡ at → ReadsRecord z k a → ReadsRecord text at a
reads_here {a} e f d = subst₂ (λ (l : List ℕ) (n : ℕ). ReadsRecord l n a) e f d

pub record Gathering (text : List ℕ) (t : ℕ) (first g : Gathered) : Type 0 where
  pub goes : (h : Gathered) → Gathers text t g h → Gathers text t first h

pub gathering_starts : (text : List ℕ) (t : ℕ) (first : Gathered) → Gathering text t first first
gathering_starts text t first = record { goes = λ h u. u }

module _ (text : List ℕ) (t : ℕ) (first g : Gathered) (k : Gathering text t first g) where
  -- a record more of the stamp
  one_more : (r : Record) (c : Cursor) → Got spelled RecordOk text g.next r c.at → r.stamp ≡ t → (m : Gathered) → m ≡ gathered_with g r c.at → Gathering text t first m
  unfolding Shares gathered_all
  one_more r c x s m f =
      let q : m ≡ gathered_with g r (g.next + length (spelled r)) = f ∙ ap (gathered_with g r) x.next in
      record {
        goes = λ h u. k.goes h (record {
          records = r ∷ u.records;
          shares = (x.ok, x.stands, s, subst (λ (n : Gathered). Shares text t n.next u.records) q u.shares);
          gathered = u.gathered ∙ ap (λ (n : Gathered). gathered_all n u.records) q;
        });
      }

  -- no further record of the stamp stands here
  over : Shares text t g.next [] → Gathers text t first g
  unfolding gathered_all
  over s = k.goes g (record { records = []; shares = s; gathered = refl })

  -- what was read here is of the stamp: it is taken, and the place after it is nearer to the text's end
  pub takes_on : (a : Read Record) → ReadsRecord text g.next a → (r : Record) (c : Cursor) → a ≡ Ok (r, c) → r.stamp ≡ t → (m : Gathered) → m ≡ gathered_with g r c.at →
      Gathering text t first m × (length text - m.next < length text - g.next)
  takes_on a d r c e s m f =
      let x = got_one tells_got d r c.at e in
      let p = got_record_place x in
      let n = ap (λ (y : Gathered). y.next) f in
      (one_more r c x s m f, omega (arith, p.0, p.1, n))

  -- it is not, or none was read
  pub takes_other : (a : Read Record) → ReadsRecord text g.next a → (r : Record) (c : Cursor) → a ≡ Ok (r, c) → (r.stamp ≡ t → ⊥) → Gathers text t first g
  unfolding Shares
  takes_other a d r c e n = over (λ y o s w. n (ap (λ (z : Record). z.stamp) ((got_one tells_got d r c.at e).only y o s) ∙ w))

  pub takes_none : (a : Read Record) → ReadsRecord text g.next a → {k : BadField} → a ≡ Err k → Gathers text t first g
  unfolding Shares
  takes_none a d e = over (λ y o s w. got_none tells_got d e y o s)
