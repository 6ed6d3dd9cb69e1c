-- What the demand says is one thing only, and speaks of nothing but each channel's own order: two answers that it admits are equal, by the reason and the stamp; and the lines in another allowed order have the same channel lists, so the same allowed orders.
use mathlib.Core.Path.{◌≡◌, refl, sym, ap, subst, ◌∙◌}
use mathlib.Core.Bool.{Bool}
use mathlib.Core.List.{List}
use mathlib.Core.Logic.{⊎_elim}
use Prim.Native.Nat.{ℕ}
use lib.Dec.{eqb}
use Rattle.law.specs.Lists.{filter_both}
use Rattle.law.specs.Words.{filter}
use Rattle.meaning.specs.Meaning.{Channel, Rules, Outcome, Reason, crowded, differ, lost, Answer, settled, stopped, of, NeverBack, Allowed, before, Agreed, Alike, Crowded, Differ, Lost, Holds, FirstReason, Passes, Earliest, Means}
use Rattle.meaning.proofs.Allowing.{itself, back_filter}
use Rattle.meaning.proofs.Steps.{three, first_holds}

module _ {A S R : Type 0} (m : Rules A S R) where
  -- the demand admits one answer
  pub first_one : (rs : List A) (s : S) (t : ℕ) (n k : Reason) → FirstReason m rs s n t → FirstReason m rs s k t → n ≡ k
  unfolding FirstReason
  first_one rs s t crowded crowded h j = refl
  first_one rs s t crowded differ h j = absurd (j.0 h)
  first_one rs s t crowded lost h j = absurd (j.0 h)
  first_one rs s t differ crowded h j = absurd (h.0 j)
  first_one rs s t differ differ h j = refl
  first_one rs s t differ lost h j = absurd (j.1 h.1)
  first_one rs s t lost crowded h j = absurd (h.0 j)
  first_one rs s t lost differ h j = absurd (h.1 j.1)
  first_one rs s t lost lost h j = refl

  pub stamp_one : (rs : List A) (s : S) (t u : ℕ) (n k : Reason) → Earliest m rs s n t → Earliest m rs s k u → t ≡ u
  unfolding Passes
  stamp_one rs s t u n k h j =
      ⊎_elim (λ l. absurd (j.none_before t l n (first_holds m rs s n t h.here)))
      (λ z. ⊎_elim (λ e. e) (λ l. absurd (h.none_before u l k (first_holds m rs s k u j.here))) z) (three t u)

  pub agreed_one : (rs : List A) (s : S) (v w : Outcome S R) → NeverBack m rs → Agreed m rs s v → Agreed m rs s w → v ≡ w
  unfolding Agreed
  agreed_one rs s v w b h j = sym (h rs (itself m rs b)) ∙ j rs (itself m rs b)

  pub means_one : (rs : List A) (s : S) → NeverBack m rs → (x y : Answer S R) → Means m rs s x → Means m rs s y → x ≡ y
  unfolding Means Passes
  means_one rs s b (settled v) (settled w) h j = ap settled (agreed_one rs s v w b h.1 j.1)
  means_one rs s b (settled v) (stopped k u w) h j = absurd (h.0 u k (first_holds m rs s k u j.0.here))
  means_one rs s b (stopped n t v) (settled w) h j = absurd (j.0 t n (first_holds m rs s n t h.0.here))
  means_one rs s b (stopped n t v) (stopped k u w) h j =
      let e = stamp_one rs s t u n k h.0 j.0 in
      let f = first_one rs s u n k (subst (FirstReason m rs s n) e h.0.here) j.0.here in
      let g = agreed_one (before m u rs) s v w (back_filter m _ rs b) (subst (λ (z : ℕ). Agreed m (before m z rs) s v) e h.1) j.1 in
      λ i. stopped (f i) (e i) (g i)

  -- the demand speaks only of each channel's own order: ls and rs have the same channel lists
  module _ (rs ls : List A) (kept : (c : Channel) → of m c ls ≡ of m c rs) where
    kept_part : (q : A → Bool) (c : Channel) → of m c (filter q ls) ≡ of m c (filter q rs)
    kept_part q c = filter_both _ q ls ∙ ap (filter q) (kept c) ∙ filter_both q _ rs

    kept_allowed : (q : A → Bool) (o : List A) → Allowed m (filter q rs) o → Allowed m (filter q ls) o
    kept_allowed q o a = record { keeps = λ c. a.keeps c ∙ sym (kept_part q c); onward = a.onward }

    kept_agreed : (q : A → Bool) (s : S) (v : Outcome S R) → Agreed m (filter q ls) s v → Agreed m (filter q rs) s v
    unfolding Agreed
    kept_agreed q s v h o a = h o (kept_allowed q o a)

    kept_alike : (q : A → Bool) (s : S) → Alike m (filter q ls) s → Alike m (filter q rs) s
    unfolding Alike
    kept_alike q s h o p a b = h o p (kept_allowed q o a) (kept_allowed q p b)

    kept_holds : (s : S) (n : Reason) (t : ℕ) → Holds m rs s n t → Holds m ls s n t
    unfolding Holds Crowded Differ Lost
    kept_holds s crowded t h = (h.0, rw (kept_part (λ (a : A). eqb (m.stamp a) t) h.0) h.1)
    kept_holds s differ t h = λ k. h (kept_alike _ s k)
    kept_holds s lost t h = (h.0, kept_allowed _ h.0 h.1, h.2)

    kept_passes : (s : S) (t : ℕ) → Passes m ls s t → Passes m rs s t
    unfolding Passes
    kept_passes s t h n k = h n (kept_holds s n t k)

  module _ (rs ls : List A) (kept : (c : Channel) → of m c ls ≡ of m c rs) (s : S) where
    kept_first : (n : Reason) (t : ℕ) → FirstReason m ls s n t → FirstReason m rs s n t
    unfolding FirstReason Holds
    kept_first crowded t h = kept_holds ls rs (λ c. sym (kept c)) s crowded t h
    kept_first differ t h = ((λ c. h.0 (kept_holds rs ls kept s crowded t c)), kept_holds ls rs (λ c. sym (kept c)) s differ t h.1)
    kept_first lost t h = ((λ c. h.0 (kept_holds rs ls kept s crowded t c)), (λ d. h.1 (kept_holds rs ls kept s differ t d)), kept_holds ls rs (λ c. sym (kept c)) s lost t h.2)

    pub kept_means : (x : Answer S R) → Means m ls s x → Means m rs s x
    unfolding Means Agreed
    kept_means (settled v) h = ((λ t. kept_passes rs ls kept s t (h.0 t)), λ o a. h.1 o (record { keeps = λ c. a.keeps c ∙ sym (kept c); onward = a.onward }))
    kept_means (stopped n t v) h = (
      record { here = kept_first n t h.0.here; none_before = λ u l. kept_passes rs ls kept s u (h.0.none_before u l) },
      kept_agreed rs ls kept _ s v h.1,
    )
