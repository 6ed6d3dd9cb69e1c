-- The records that share a stamp from a place on: there is one list of them, it ends inside the text, and a readable text begins with them.
use mathlib.Core.Path.{◌≡◌, refl, sym, ap, subst, ◌∙◌}
use mathlib.Core.Logic.{◌⊎◌, inl, inr}
use mathlib.Core.List.{List, [], ◌∷◌, ◌++◌}
use Prim.Native.Nat.{ℕ, ◌+◌, ◌≤◌}
use native.Mathlib.Omega.{arith}
use native.Mathlib.Nat.{add-zero}
use lib.ListN.{length, drop, length-append, length-drop}
use lib.Seq.{drop-drop, drop-append_seam}
use Rattle.law.specs.Words.{All}
use Rattle.record.specs.declared.Record.{Record}
use Rattle.field.specs.Reads.{Stands}
use Rattle.field.proofs.Reading.{stands_length}
use Rattle.line.specs.Records.{spelled, RecordOk}
use Rattle.line.proofs.OutputLaws.{spelled_length_min}
use Rattle.line.proofs.Theorems.{record_same}
use Rattle.text.specs.Texts.{spelled_all}
use Rattle.stamps.specs.declared.Gathered.{Gathered}
use Rattle.stamps.specs.Gathering.{gathered_with, gathered_all, Shares, Gathers}

-- a record has seven bytes at least, and where it stands they are the text's
pub record_inside : (text : List ℕ) (at : ℕ) (r : Record) → RecordOk r → Stands text at (spelled r) → (at + 7 ≤ at + length (spelled r)) × (at + length (spelled r) ≤ length text)
record_inside text at r o s =
    let l = spelled_length_min r o.0 in
    (omega (arith, l), stands_length text (spelled r) at s (omega (arith, l)))

-- ---- one list
pub one_shares : (text : List ℕ) (t at : ℕ) (p q : List Record) → Shares text t at p → Shares text t at q → p ≡ q
unfolding Shares
one_shares text t at [] [] s u = refl
one_shares text t at [] (x ∷ q) s u = absurd (s x u.0 u.1 u.2)
one_shares text t at (r ∷ p) [] s u = absurd (u r s.0 s.1 s.2)
one_shares text t at (r ∷ p) (x ∷ q) s u =
    let e = record_same text at r x s.0 u.0 s.1 u.1 in
    let es = one_shares text t (at + length (spelled r)) p q s.3 (subst (λ (z : Record). Shares text t (at + length (spelled z)) q) (sym e) u.3) in
    λ i. e i ∷ es i

-- so what is gathered is determined
pub gathers_determined : (text : List ℕ) (t : ℕ) (first g h : Gathered) → Gathers text t first g → Gathers text t first h → g ≡ h
gathers_determined text t first g h u v = u.gathered ∙ ap (gathered_all first) (one_shares text t first.next u.records v.records u.shares v.shares) ∙ sym v.gathered

-- ---- where they end
pub all_next : (g : Gathered) (p : List Record) → (gathered_all g p).next ≡ g.next + length (spelled_all p)
unfolding gathered_all spelled_all
all_next g [] = omega arith
all_next g (r ∷ p) = all_next (gathered_with g r (g.next + length (spelled r))) p ∙ omega (arith, length-append (spelled r) (spelled_all p))

pub shares_inside : (text : List ℕ) (t at : ℕ) (p : List Record) → at ≤ length text → Shares text t at p → at + length (spelled_all p) ≤ length text
unfolding Shares spelled_all
shares_inside text t at [] l s = omega arith
shares_inside text t at (r ∷ p) l s =
    let i = shares_inside text t (at + length (spelled r)) p (record_inside text at r s.0 s.1).1 s.3 in
    omega (arith, i, length-append (spelled r) (spelled_all p))

-- ---- in a readable text
-- what comes next is of another stamp, if anything does
pub record Over (t : ℕ) (rest : List Record) : Type 0 where
  pub over : (rest ≡ []) ⊎ ((r : Record) × (l : List Record) × (rest ≡ r ∷ l) × (r.stamp ≡ t → ⊥))

-- the records rs, which are what stands from the place on, begin with p
pub record Begins (text : List ℕ) (t at : ℕ) (p rs : List Record) : Type 0 where
  pub rest : List Record
  pub whole : rs ≡ p ++ rest
  pub same : All (λ (r : Record). r.stamp ≡ t) p
  pub over : Over t rest
  pub ok : All RecordOk rest
  pub left : drop (at + length (spelled_all p)) text ≡ spelled_all rest

module _ (text : List ℕ) (t : ℕ) where
  ends_over : (at : ℕ) (rs : List Record) → Shares text t at [] → All RecordOk rs → drop at text ≡ spelled_all rs → Over t rs
  unfolding Shares All spelled_all
  ends_over at [] s o e = record { over = inl refl }
  ends_over at (r ∷ rs) s o e = record { over = inr (r, rs, refl, s r o.0 (record { rest = spelled_all rs; is = e })) }

  pub shares_begin : (at : ℕ) (p rs : List Record) → Shares text t at p → All RecordOk rs → drop at text ≡ spelled_all rs → Begins text t at p rs
  unfolding Shares All spelled_all
  shares_begin at [] rs s o e = record {
    rest = rs;
    whole = refl;
    same = tt;
    over = ends_over at rs s o e;
    ok = o;
    left = subst (λ (k : ℕ). drop k text ≡ spelled_all rs) (sym (add-zero at)) e;
  }
  shares_begin at (r ∷ p) [] s o e = absurd (let i = record_inside text at r s.0 s.1 in omega (arith, i.0, i.1, length-drop at text, ap length e))
  shares_begin at (r ∷ p) (x ∷ xs) s o e =
      let q : r ≡ x = record_same text at r x s.0 o.0 s.1 (record { rest = spelled_all xs; is = e }) in
      let d : drop (at + length (spelled r)) text ≡ spelled_all xs =
      sym (drop-drop (length (spelled r)) at text) ∙ ap (λ (l : List ℕ). drop (length (spelled r)) l) (e ∙ ap (λ (y : Record). spelled y ++ spelled_all xs) (sym q)) ∙ drop-append_seam (spelled r) (spelled_all xs) in
      let b = shares_begin (at + length (spelled r)) p xs s.3 o.1 d in
      let n : at + length (spelled r) + length (spelled_all p) ≡ at + length (spelled r ++ spelled_all p) = omega (arith, length-append (spelled r) (spelled_all p)) in
      record {
        rest = b.rest;
        whole = λ i. sym q i ∷ b.whole i;
        same = (s.2, b.same);
        over = b.over;
        ok = b.ok;
        left = subst (λ (k : ℕ). drop k text ≡ spelled_all b.rest) n b.left;
      }
