-- The demands of any one answer x that the demand admits for rs: this is what a function's contract `Means m rs s x` gives its caller. Each follows from OneAnswer: what the demand says is one thing only.
use mathlib.Core.Path.{◌≡◌, refl, subst}
use mathlib.Core.Bool.{false}
use mathlib.Core.List.{List, []}
use mathlib.Core.Logic.{◌↔◌}
use Prim.Native.Nat.{ℕ}
use Rattle.meaning.specs.Meaning.{Rules, Outcome, Reason, Answer, settled, stopped, NeverBack, Allowed, outcome, before, at, Agreed, FirstReason, Passes, Earliest, Means}
use Rattle.meaning.proofs.Steps.{first_holds}
use Rattle.meaning.proofs.OneAnswer.{first_one, stamp_one, means_one, kept_means}
use Rattle.meaning.proofs.Stamped.{stamped}

module _ {A S R : Type 0} (m : Rules A S R) where
  stop_of_lem : (rs : List A) (s : S) (n : Reason) (t : ℕ) → Earliest m rs s n t → (x : Answer S R) → Means m rs s x → (v : Outcome S R) × (x ≡ stopped n t v)
  unfolding Means Passes
  stop_of_lem rs s n t h (settled v) k = absurd (k.0 t n (first_holds m rs s n t h.here))
  stop_of_lem rs s n t h (stopped j u v) k =
      let e = stamp_one m rs s u t j n k.0 h in
      let g = first_one m rs s t j n (subst (FirstReason m rs s j) e k.0.here) h.here in
      (v, λ i. stopped (g i) (e i) v)

  settled_of : (rs : List A) (s : S) → ((t : ℕ) → Passes m rs s t) → (x : Answer S R) → Means m rs s x → (v : Outcome S R) × (x ≡ settled v)
  unfolding Means Passes
  settled_of rs s h (settled v) k = (v, refl)
  settled_of rs s h (stopped n t v) k = absurd (h t n (first_holds m rs s n t k.0.here))

  module _ (rs : List A) (s : S) (x : Answer S R) (means : Means m rs s x) where
    -- it stops at t with the reason n exactly when t is the earliest such stamp, and n the first reason there
    pub stops_earliest : (n : Reason) (t : ℕ) → ((v : Outcome S R) × (x ≡ stopped n t v)) ↔ Earliest m rs s n t
    unfolding Means
    stops_earliest n t = ((λ e. (subst (Means m rs s) e.1 means).0), λ h. stop_of_lem rs s n t h x means)

    -- and what it shows is how every allowed order of the records before t ends
    pub stop_shows : (n : Reason) (t : ℕ) (v : Outcome S R) → x ≡ stopped n t v → (o : List A) → Allowed m (before m t rs) o → outcome m o s ≡ v
    unfolding Means Agreed
    stop_shows n t v e = (subst (Means m rs s) e means).1

    -- the stop's stamp is the stamp of a record, where the start's status is not lost
    pub stop_stamped : m.lost s ≡ false → (n : Reason) (t : ℕ) (v : Outcome S R) → x ≡ stopped n t v → at m t rs ≡ [] → ⊥
    stop_stamped sure n t v e = stamped m rs s sure n t ((stops_earliest n t).0 (v, e))

    -- settled exactly when there is no such stamp, and then every allowed order ends as shown
    pub settled_means : ((v : Outcome S R) × (x ≡ settled v)) ↔ ((t : ℕ) → Passes m rs s t)
    unfolding Means
    settled_means = ((λ e. (subst (Means m rs s) e.1 means).0), λ h. settled_of rs s h x means)

    pub settled_shows : (v : Outcome S R) → x ≡ settled v → (o : List A) → Allowed m rs o → outcome m o s ≡ v
    unfolding Means Agreed
    settled_shows v e = (subst (Means m rs s) e means).1

    module _ (readable : NeverBack m rs) where
      -- no other answer meets the demand
      pub determined : (y : Answer S R) → Means m rs s y → y ≡ x
      determined y h = means_one m rs s readable y x h means

      -- the lines in another allowed order: the same answer, stamp, state and replies
      pub order_of_lines : (ls : List A) → Allowed m rs ls → (y : Answer S R) → Means m ls s y → y ≡ x
      order_of_lines ls a y h = determined y (kept_means m rs ls a.keeps s y h)
