-- Lists of records that are good from a stamp and a state of the buses on.
use Prim.Native.Nat.{ℕ, ◌≤◌}
use native.Mathlib.Omega.{arith}
use mathlib.Core.Path.{◌≡◌, refl, sym, ap, ap₂, subst, ◌∙◌}
use mathlib.Core.List.{List, [], ◌∷◌, ◌++◌, append_assoc, append-nil}
use lib.ListN.{length, drop}
use lib.Seq.{drop-append_seam}
use Rattle.std.specs.Prelude.{Option, Some, None}
use Rattle.law.specs.Lists.{all_append, RisingFrom, from_rising, rising_from}
use Rattle.law.specs.Words.{All}
use Rattle.record.specs.declared.Record.{Record}
use Rattle.line.specs.Records.{spelled, RecordOk}
use Rattle.line.proofs.Theorems.{one_record}
use Rattle.text.specs.declared.buses.Buses.{Buses}
use Rattle.text.specs.Buses.{all_closed, onwards, after, Possible}
use Rattle.text.specs.Stamps.{last_stamp}
use Rattle.text.specs.Texts.{spelled_all, Acceptable}

pub never : {b : Buses} → None ≡ Some b → ⊥
never e = cc

-- by neighbours: t is the stamp before the list
abbrev pub StampsFrom : ℕ → List Record → Type 0
StampsFrom t rs = RisingFrom (λ (r : Record). r.stamp) t rs

pub record Good (t : ℕ) (m : Option Buses) (rs : List Record) : Type 0 where
  pub fits : All RecordOk rs
  pub rising : StampsFrom t rs
  pub possible : Possible (after m rs)

-- the first record may have any stamp
from_zero : (rs : List Record) → All (λ (r : Record). 0 ≤ r.stamp) rs
unfolding All
from_zero [] = tt
from_zero (r ∷ rs) = (omega arith, from_zero rs)

pub good_of : {rs : List Record} → All RecordOk rs → Acceptable rs → Good 0 (Some all_closed) rs
good_of {rs} o a = record { fits = o; rising = rising_from (λ (r : Record). r.stamp) 0 rs (from_zero rs) a.never_back; possible = a.possible }

pub acceptable_of : {rs : List Record} → Good 0 (Some all_closed) rs → Acceptable rs
acceptable_of {rs} g = record { never_back = from_rising (λ (r : Record). r.stamp) 0 rs g.rising; possible = g.possible }

-- ---- beginnings
after_impossible : (rs : List Record) → after None rs ≡ None
unfolding after
after_impossible [] = refl
after_impossible (r ∷ rs) = after_impossible rs

possible_first : (m : Option Buses) (rs : List Record) → Possible (after m rs) → Possible m
possible_first (Some b) rs p = (b, refl)
possible_first None rs p = absurd (never (sym (after_impossible rs) ∙ p.1))

module _ {t : ℕ} {m : Option Buses} {r : Record} {rs : List Record} (g : Good t m (r ∷ rs)) where
  pub good_first : RecordOk r
  unfolding All
  good_first = g.fits.0

  pub good_stamp : t ≤ r.stamp
  unfolding RisingFrom
  good_stamp = g.rising.0

  pub good_next : Possible (onwards m r.event)
  unfolding after
  good_next = possible_first (onwards m r.event) rs g.possible

  pub good_tail : Good r.stamp (onwards m r.event) rs
  unfolding All RisingFrom after
  good_tail = record { fits = g.fits.1; rising = g.rising.1; possible = g.possible }

pub good_none : (t : ℕ) (b : Buses) → Good t (Some b) []
unfolding All RisingFrom after
good_none t b = record { fits = tt; rising = tt; possible = (b, refl) }

pub good_one : {t : ℕ} {m : Option Buses} {r : Record} → RecordOk r → t ≤ r.stamp → Possible (onwards m r.event) → Good t m (r ∷ [])
unfolding All RisingFrom after
good_one o h p = record { fits = (o, tt); rising = (h, tt); possible = p }

-- ---- one record more
pub after_snoc : (m : Option Buses) (rs : List Record) (r : Record) → after m (rs ++ (r ∷ [])) ≡ onwards (after m rs) r.event
unfolding after
after_snoc m [] r = refl
after_snoc m (x ∷ rs) r = after_snoc (onwards m x.event) rs r

pub last_snoc : (t : ℕ) (rs : List Record) (r : Record) → last_stamp t (rs ++ (r ∷ [])) ≡ r.stamp
unfolding last_stamp
last_snoc t [] r = refl
last_snoc t (x ∷ rs) r = last_snoc x.stamp rs r

fits_snoc : (rs : List Record) (r : Record) → All RecordOk rs → RecordOk r → All RecordOk (rs ++ (r ∷ []))
unfolding All
fits_snoc rs r o p = all_append RecordOk rs (r ∷ []) o (p, tt)

rising_snoc : (t : ℕ) (rs : List Record) (r : Record) → StampsFrom t rs → last_stamp t rs ≤ r.stamp → StampsFrom t (rs ++ (r ∷ []))
unfolding RisingFrom last_stamp
rising_snoc t [] r n h = (h, tt)
rising_snoc t (x ∷ rs) r n h = (n.0, rising_snoc x.stamp rs r n.1 h)

pub good_snoc : {t : ℕ} {m : Option Buses} (rs : List Record) (r : Record) {b : Buses} → Good t m rs → RecordOk r → last_stamp t rs ≤ r.stamp → onwards (after m rs) r.event ≡ Some b → Good t m (rs ++ (r ∷ []))
good_snoc {t} {m} rs r {b} g o h e = record { fits = fits_snoc rs r g.fits o; rising = rising_snoc t rs r g.rising h; possible = (b, after_snoc m rs r ∙ e) }

pub all_snoc : (rs : List Record) (r : Record) → spelled_all (rs ++ (r ∷ [])) ≡ spelled_all rs ++ spelled r
unfolding spelled_all
all_snoc [] r = append-nil (spelled r)
all_snoc (x ∷ rs) r = ap (λ (l : List ℕ). spelled x ++ l) (all_snoc rs r) ∙ sym (append_assoc (spelled x) (spelled_all rs) (spelled r))

-- ---- two lists of good records at the front of the same bytes, neither of which can go on, are one
-- no record of a good list more stands at the front of the rest
abbrev pub Stop : ℕ → Option Buses → List Record → List ℕ → Type 0
Stop t m rs rest = (r : Record) (u : List ℕ) → rest ≡ spelled r ++ u → Good (last_stamp t rs) (after m rs) (r ∷ []) → ⊥

pub agree : (rs rs' : List Record) (t : ℕ) (m : Option Buses) → Good t m rs → Good t m rs' → (rest rest' : List ℕ) → Stop t m rs rest → Stop t m rs' rest' → spelled_all rs ++ rest ≡ spelled_all rs' ++ rest' → rs ≡ rs'
unfolding spelled_all last_stamp after
agree [] [] t m g g' rest rest' s s' e = refl
agree [] (r ∷ rs) t m g g' rest rest' s s' e =
    absurd (s r (spelled_all rs ++ rest') (e ∙ append_assoc (spelled r) (spelled_all rs) rest') (good_one (good_first g') (good_stamp g') (good_next g')))
agree (r ∷ rs) [] t m g g' rest rest' s s' e =
    absurd (s' r (spelled_all rs ++ rest) (sym e ∙ append_assoc (spelled r) (spelled_all rs) rest) (good_one (good_first g) (good_stamp g) (good_next g)))
agree (r ∷ rs) (r' ∷ rs') t m g g' rest rest' s s' e =
    let f = sym (append_assoc (spelled r) (spelled_all rs) rest) ∙ e ∙ append_assoc (spelled r') (spelled_all rs') rest' in
    let h = one_record r r' (spelled_all rs ++ rest) (spelled_all rs' ++ rest') (good_first g) (good_first g') f in
    ap₂ (λ (x : Record) (xs : List Record). x ∷ xs) h
    (agree rs rs' r.stamp (onwards m r.event) (good_tail g)
    (subst (λ (x : Record). Good x.stamp (onwards m x.event) rs') (sym h) (good_tail g')) rest rest' s
    (subst (λ (x : Record). Stop x.stamp (onwards m x.event) rs' rest') (sym h) s')
    (sym (drop-append_seam (spelled r) (spelled_all rs ++ rest)) ∙ ap (λ (l : List ℕ). drop (length (spelled r)) l) f
    ∙ ap (λ (x : Record). drop (length (spelled x)) (spelled r' ++ (spelled_all rs' ++ rest'))) h ∙ drop-append_seam (spelled r') (spelled_all rs' ++ rest')))
