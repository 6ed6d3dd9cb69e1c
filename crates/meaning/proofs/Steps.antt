-- One stamp of the replay: p the records of the stamp t, rest those above it. Each step says what the demand says of p ++ rest, from what it says of rest: the records so far by a stamp from t on are p and then those of rest.
use mathlib.Core.Path.{◌≡◌, refl, sym, ap, subst, ◌∙◌}
use mathlib.Core.Bool.{Bool, true, false}
use mathlib.Core.List.{List, [], ◌∷◌, ◌++◌, append-nil, append_cancel_left}
use mathlib.Core.Logic.{◌⊎◌, inl, inr, ⊎_elim}
use Prim.Native.Nat.{ℕ, ◌≤◌, ◌<◌}
use native.Mathlib.Omega.{arith}
use lib.ListN.{length}
use lib.Dec.{ltb}
use borrow.Author.Tests.{ltb-true, ltb-false, le-leb, lt-leb, lt-ltb, le-ltb, eq-eqb, ne_eqb}
use Rattle.law.specs.Lists.{keep_append, all_map, all_filter, filter_none, front_in, front_out}
use Rattle.law.specs.Words.{filter, keep, All}
use Rattle.meaning.specs.Meaning.{Channel, most, same, Rules, Outcome, Reason, crowded, differ, lost, Answer, settled, stopped, of, Allowed, after, replies, outcome, upto, before, at, Agreed, Alike, Crowded, Differ, Lost, Holds, FirstReason, Passes, Means}
use Rattle.meaning.proofs.Onward.{and_then, goes_on}
use Rattle.meaning.proofs.Allowing.{allowed_nothing, allowed_append, allowed_split}
use Rattle.law.specs.Choice.{true_not_false}

three_by : (u t : ℕ) (a b : Bool) → ltb u t ≡ a → ltb t u ≡ b → (u < t) ⊎ ((u ≡ t) ⊎ (t < u))
three_by u t true b e f = inl (ltb-true u t e)
three_by u t false true e f = inr (inr (ltb-true t u f))
three_by u t false false e f =
    let x : t ≤ u = ltb-false u t e in
    let y : u ≤ t = ltb-false t u f in
    inr (inl (omega arith))

pub three : (u t : ℕ) → (u < t) ⊎ ((u ≡ t) ⊎ (t < u))
three u t = three_by u t (ltb u t) (ltb t u) refl refl

module _ {A S R : Type 0} (m : Rules A S R) where
  -- two lists of records, one after the other
  pub after_append : (o p : List A) (s : S) → after m (o ++ p) s ≡ after m p (after m o s)
  unfolding after
  after_append [] p s = refl
  after_append (a ∷ o) p s = after_append o p (m.play s a)

  pub replies_append : (c : Channel) (o p : List A) (s : S) → replies m c (o ++ p) s ≡ replies m c o s ++ replies m c p (after m o s)
  unfolding after replies
  replies_append c [] p s = refl
  replies_append c (a ∷ o) p s = ap (keep (same c (m.channel a)) (m.says s a)) (replies_append c o p (m.play s a)) ∙ keep_append _ _ _ _

  pub outcome_append : (o p : List A) (s : S) → outcome m (o ++ p) s ≡ and_then (outcome m o s) (outcome m p (after m o s))
  outcome_append o p s = λ i. record { state = after_append o p s i; replies = λ c. replies_append c o p s i }

  pub then_cancel : (v w x : Outcome S R) → and_then v w ≡ and_then v x → w ≡ x
  then_cancel v w x e =
      let f : (c : Channel) → w.replies c ≡ x.replies c = λ c. append_cancel_left (v.replies c) (w.replies c) (x.replies c) (ap (λ (y : Outcome S R). y.replies c) e) in
      λ i. record { state = (e i).state; replies = λ c. f c i }

  -- where there is no record so far, and the status is not lost, nothing holds
  nothing_agreed : (s : S) → Agreed m [] s (outcome m [] s)
  unfolding Agreed
  nothing_agreed s o a = ap (λ (l : List A). outcome m l s) (allowed_nothing m o a)

  agreed_alike : (rs : List A) (s : S) (v : Outcome S R) → Agreed m rs s v → Alike m rs s
  unfolding Agreed Alike
  agreed_alike rs s v h o p a b = h o a ∙ sym (h p b)

  pub not_crowded_nothing : (rs : List A) (u : ℕ) → at m u rs ≡ [] → Crowded m rs u → ⊥
  unfolding Crowded filter
  not_crowded_nothing rs u e h =
      let none : length (of m h.0 (at m u rs)) ≡ 0 = rw e in
      let k : most h.0 < length (of m h.0 (at m u rs)) = h.1 in
      omega arith

  pub nothing_passes : (rs : List A) (s : S) (u : ℕ) → m.lost s ≡ false → at m u rs ≡ [] → upto m u rs ≡ [] → Passes m rs s u
  unfolding Passes Holds Differ Lost after
  nothing_passes rs s u k e f crowded h = not_crowded_nothing rs u e h
  nothing_passes rs s u k e f differ h = h (rw f (agreed_alike [] s _ (nothing_agreed s)))
  nothing_passes rs s u k e f lost h =
      let a : Allowed m [] h.0 = subst (λ (l : List A). Allowed m l h.0) f h.1 in
      true_not_false (sym h.2 ∙ ap (λ (l : List A). m.lost (after m l s)) (allowed_nothing m _ a) ∙ k)

  pub means_end : (s : S) → m.lost s ≡ false → Means m [] s (settled (outcome m [] s))
  unfolding Means filter
  means_end s k = ((λ t. nothing_passes [] s t k refl refl), nothing_agreed s)

  -- the first reason holds
  pub first_holds : (rs : List A) (s : S) (n : Reason) (t : ℕ) → FirstReason m rs s n t → Holds m rs s n t
  unfolding FirstReason Holds
  first_holds rs s crowded t h = h
  first_holds rs s differ t h = h.1
  first_holds rs s lost t h = h.2

  -- p records by the stamp t, all orders of which end alike, x one of them; k records above t: every allowed order of p and k goes by x's outcome
  module _ (p : List A) (t : ℕ) (hp : All (λ (a : A). m.stamp a ≤ t) p) (s : S) (alike : Alike m p s) (x : List A) (ax : Allowed m p x) (k : List A) (hk : All (λ (a : A). t < m.stamp a) k) where
    goes_by : (o : List A) → Allowed m (p ++ k) o → (y : List A) × Allowed m k y × (outcome m o s ≡ and_then (outcome m x s) (outcome m y (after m x s)))
    unfolding Alike
    goes_by o a =
        let z = allowed_split m p k t hp hk o a in
        let e = alike z.0 x z.2 ax in (
          z.1,
          z.3,
          ap (λ (l : List A). outcome m l s) z.4 ∙ outcome_append z.0 z.1 s
              ∙ ap (λ (v : Outcome S R). and_then v (outcome m z.1 v.state)) e,
        )

    agreed_on : (w : Outcome S R) → Agreed m k (after m x s) w → Agreed m (p ++ k) s (and_then (outcome m x s) w)
    unfolding Agreed
    agreed_on w h o a =
        let z = goes_by o a in
        z.2 ∙ ap (and_then (outcome m x s)) (h z.0 z.1)

    pub alike_on : Alike m k (after m x s) → Alike m (p ++ k) s
    unfolding Alike
    alike_on h o q a b =
        let y = goes_by o a in
        let z = goes_by q b in
        y.2 ∙ ap (and_then (outcome m x s)) (h y.0 z.0 y.1 z.1) ∙ sym z.2

    pub on_alike : Alike m (p ++ k) s → Alike m k (after m x s)
    unfolding Alike
    on_alike h y z a b = then_cancel (outcome m x s) (outcome m y (after m x s)) (outcome m z (after m x s))
        (sym (outcome_append x y s) ∙ h (x ++ y) (x ++ z) (allowed_append m p k x y t hp hk ax a) (allowed_append m p k x z t hp hk ax b) ∙ outcome_append x z s)

  module _ (p rest : List A) (t : ℕ) (hp : All (λ (a : A). m.stamp a ≡ t) p) (hr : All (λ (a : A). t < m.stamp a) rest) where
    -- the parts of p ++ rest by a stamp below t, at t, and above t
    rest_none : (q : A → Bool) → ((a : A) → t < m.stamp a → q a ≡ false) → filter q rest ≡ []
    rest_none q f = filter_none q rest (all_map _ _ f rest hr)

    at_low : (u : ℕ) → u < t → at m u (p ++ rest) ≡ []
    at_low u h = front_out _ p rest (all_map _ _ (λ a e. ne_eqb (m.stamp a) u (λ f. omega arith)) p hp)
        ∙ rest_none _ (λ a k. ne_eqb (m.stamp a) u (λ f. omega arith))

    upto_low : (u : ℕ) → u < t → upto m u (p ++ rest) ≡ []
    upto_low u h = front_out _ p rest (all_map _ _ (λ a e. lt-leb (m.stamp a) u (omega arith)) p hp)
        ∙ rest_none _ (λ a k. lt-leb (m.stamp a) u (omega arith))

    pub at_here : at m t (p ++ rest) ≡ p
    at_here = front_in _ p rest (all_map _ _ (λ a e. eq-eqb (m.stamp a) t e) p hp)
        ∙ ap (λ (l : List A). p ++ l) (rest_none _ (λ a k. ne_eqb (m.stamp a) t (λ f. omega arith))) ∙ append-nil p

    pub upto_here : upto m t (p ++ rest) ≡ p
    upto_here = front_in _ p rest (all_map _ _ (λ a e. le-leb (m.stamp a) t (omega arith)) p hp)
        ∙ ap (λ (l : List A). p ++ l) (rest_none _ (λ a k. lt-leb (m.stamp a) t k)) ∙ append-nil p

    pub before_here : before m t (p ++ rest) ≡ []
    before_here = front_out _ p rest (all_map _ _ (λ a e. le-ltb (m.stamp a) t (omega arith)) p hp)
        ∙ rest_none _ (λ a k. le-ltb (m.stamp a) t (omega arith))

    at_high : (u : ℕ) → t < u → at m u (p ++ rest) ≡ at m u rest
    at_high u h = front_out _ p rest (all_map _ _ (λ a e. ne_eqb (m.stamp a) u (λ f. omega arith)) p hp)

    upto_high : (u : ℕ) → t < u → upto m u (p ++ rest) ≡ p ++ upto m u rest
    upto_high u h = front_in _ p rest (all_map _ _ (λ a e. le-leb (m.stamp a) u (omega arith)) p hp)

    before_high : (u : ℕ) → t < u → before m u (p ++ rest) ≡ p ++ before m u rest
    before_high u h = front_in _ p rest (all_map _ _ (λ a e. lt-ltb (m.stamp a) u (omega arith)) p hp)

    hp≤ : All (λ (a : A). m.stamp a ≤ t) p
    hp≤ = all_map _ _ (λ a e. omega arith) p hp

    -- below t nothing holds, and there is nothing before t
    low_passes : (s : S) → m.lost s ≡ false → (u : ℕ) → u < t → Passes m (p ++ rest) s u
    low_passes s k u h = nothing_passes (p ++ rest) s u k (at_low u h) (upto_low u h)

    shows_nothing : (s : S) → Agreed m (before m t (p ++ rest)) s (outcome m [] s)
    shows_nothing s = rw before_here (nothing_agreed s)

    module _ (s : S) (sure : m.lost s ≡ false) where
      pub means_crowded : Crowded m (p ++ rest) t → Means m (p ++ rest) s (stopped crowded t (outcome m [] s))
      unfolding Means FirstReason
      means_crowded h = (record { here = h; none_before = low_passes s sure }, shows_nothing s)

      pub means_differ : (Crowded m (p ++ rest) t → ⊥) → (Alike m p s → ⊥) → Means m (p ++ rest) s (stopped differ t (outcome m [] s))
      unfolding Means FirstReason Differ
      means_differ c d = (
        record { here = (c, λ a. d (subst (λ (l : List A). Alike m l s) upto_here a)); none_before = low_passes s sure },
        shows_nothing s,
      )

      pub means_lost : (Crowded m (p ++ rest) t → ⊥) → Alike m p s → (x : List A) → Allowed m p x → m.lost (after m x s) ≡ true →
          Means m (p ++ rest) s (stopped lost t (outcome m [] s))
      unfolding Means FirstReason Differ Lost
      means_lost c d x a e = (
        record {
          here = (
            c,
            (λ h. h (subst (λ (l : List A). Alike m l s) (sym upto_here) d)),
            (x, subst (λ (l : List A). Allowed m l x) (sym upto_here) a, e),
          );
          none_before = low_passes s sure;
        },
        shows_nothing s,
      )

      -- x an order of p, after which the replay goes on
      module _ (free : Crowded m (p ++ rest) t → ⊥) (alike : Alike m p s) (x : List A) (ax : Allowed m p x) (still : m.lost (after m x s) ≡ false) where
        abbrev next : S
        next = after m x s

        above_upto : (u : ℕ) → All (λ (a : A). t < m.stamp a) (upto m u rest)
        above_upto u = all_filter _ _ rest hr

        -- above t, the same reasons hold of p ++ rest from s as of rest from the next state
        holds_rest : (n : Reason) (u : ℕ) → t < u → Holds m (p ++ rest) s n u → Holds m rest next n u
        unfolding Holds Crowded Differ Lost
        holds_rest crowded u g h = rw (at_high u g) at h
        holds_rest differ u g h = λ a. h (subst (λ (l : List A). Alike m l s) (sym (upto_high u g)) (alike_on p t hp≤ s alike x ax (upto m u rest) (above_upto u) a))
        holds_rest lost u g h =
            let z = goes_by p t hp≤ s alike x ax (upto m u rest) (above_upto u) h.0 (subst (λ (l : List A). Allowed m l h.0) (upto_high u g) h.1) in
            (z.0, z.1, sym (ap (λ (v : Outcome S R). m.lost v.state) z.2) ∙ h.2)

        rest_holds : (n : Reason) (u : ℕ) → t < u → Holds m rest next n u → Holds m (p ++ rest) s n u
        unfolding Holds Crowded Differ Lost
        rest_holds crowded u g h = rw (at_high u g) h
        rest_holds differ u g h = λ a. h (on_alike p t hp≤ s alike x ax (upto m u rest) (above_upto u) (subst (λ (l : List A). Alike m l s) (upto_high u g) a))
        rest_holds lost u g h = (
          x ++ h.0,
          subst (λ (l : List A). Allowed m l (x ++ h.0)) (sym (upto_high u g)) (allowed_append m p (upto m u rest) x h.0 t hp≤ (above_upto u) ax h.1),
          ap m.lost (after_append x h.0 s) ∙ h.2,
        )

        rest_first : (n : Reason) (u : ℕ) → t < u → FirstReason m rest next n u → FirstReason m (p ++ rest) s n u
        unfolding FirstReason Holds
        rest_first crowded u g h = rest_holds crowded u g h
        rest_first differ u g h = ((λ c. h.0 (holds_rest crowded u g c)), rest_holds differ u g h.1)
        rest_first lost u g h = ((λ c. h.0 (holds_rest crowded u g c)), (λ d. h.1 (holds_rest differ u g d)), rest_holds lost u g h.2)

        here_passes : Passes m (p ++ rest) s t
        unfolding Passes Holds Differ Lost Alike
        here_passes crowded h = free h
        here_passes differ h = h (subst (λ (l : List A). Alike m l s) (sym upto_here) alike)
        here_passes lost h =
            let a : Allowed m p h.0 = subst (λ (l : List A). Allowed m l h.0) upto_here h.1 in
            true_not_false (sym h.2 ∙ ap (λ (v : Outcome S R). m.lost v.state) (alike h.0 x a ax) ∙ still)

        passes_all : (u : ℕ) → (t < u → Passes m rest next u) → Passes m (p ++ rest) s u
        unfolding Passes
        passes_all u f n h = ⊎_elim (λ l. low_passes s sure u l n h) (λ k. ⊎_elim (λ e. here_passes n (subst (Holds m (p ++ rest) s n) e h)) (λ g. f g n (holds_rest n u g h)) k) (three u t)

        -- a reason that holds of the rest holds above t
        later : (n : Reason) (u : ℕ) → FirstReason m rest next n u → t < u
        unfolding Passes
        later n u h = ⊎_elim (λ l. absurd (low l)) (λ k. ⊎_elim (λ e. absurd (even e)) (λ g. g) k) (three u t)
          where
            none : u ≤ t → ⊥
            none l = nothing_passes rest next u still (rest_none _ (λ a k. ne_eqb (m.stamp a) u (λ f. omega arith))) (rest_none _ (λ a k. lt-leb (m.stamp a) u (omega arith)))
                n (first_holds rest next n u h)

            low : u < t → ⊥
            low l = none (omega arith)

            even : u ≡ t → ⊥
            even e = none (omega arith)

        pub means_on : (y : Answer S R) → Means m rest next y → Means m (p ++ rest) s (goes_on (outcome m x s) y)
        unfolding Means goes_on
        means_on (settled w) h = ((λ u. passes_all u (λ g. h.0 u)), agreed_on p t hp≤ s alike x ax rest hr w h.1)
        means_on (stopped n u w) h =
            let g = later n u h.0.here in (
              record { here = rest_first n u g h.0.here; none_before = λ v l. passes_all v (λ k. h.0.none_before v l) },
              subst (λ (l : List A). Agreed m l s (and_then (outcome m x s) w)) (sym (before_high u g)) (agreed_on p t hp≤ s alike x ax (before m u rest) (all_filter _ _ rest hr) w h.1),
            )
