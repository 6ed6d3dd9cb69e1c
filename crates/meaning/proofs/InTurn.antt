-- One channel after the other is an allowed order of a stamp's records.
use mathlib.Core.Path.{◌≡◌, refl, sym, ap, ap₂, subst, ◌∙◌}
use mathlib.Core.Bool.{Bool, true, false}
use mathlib.Core.List.{List, [], ◌∷◌, ◌++◌, append-nil}
use Prim.Native.Nat.{ℕ}
use Rattle.law.specs.Lists.{gather, all_map, all_filter, filter_append, filter_all, filter_none}
use Rattle.law.specs.Words.{filter, All}
use Rattle.meaning.specs.Meaning.{Channel, F, E, L, same, Rules, of, Allowed}
use Rattle.meaning.specs.Channels.{channels}
use Rattle.meaning.proofs.Channels.{same_self, same_is}
use Rattle.meaning.proofs.Allowing.{in_channel, level, all_channels}

-- all of a list, or nothing
unfoldable all_if : {A : Type 0} → Bool → List A → List A
all_if true l = l
all_if false l = []

-- each channel is met once
met_once : {A : Type 0} (d : Channel) (l : List A) → gather (λ c. all_if (same d c) l) channels ≡ l
unfolding gather all_if
met_once F l = append-nil l
met_once E l = append-nil l
met_once L l = append-nil l

module _ {A S R : Type 0} (m : Rules A S R) (p : List A) where
  abbrev pub in_turn : List A
  in_turn = gather (λ c. of m c p) channels

  part_by : (t : Bool) (d c : Channel) → same d c ≡ t → of m d (of m c p) ≡ all_if t (of m d p)
  unfolding all_if
  part_by true d c e =
      subst (λ (c : Channel). of m d (of m c p) ≡ of m d p) (sym (same_is d c e)) (filter_all _ (of m d p) (all_map _ _ (λ a i. ap (same d) i ∙ same_self d) _ (in_channel m d p)))
  part_by false d c e = filter_none _ (of m c p) (all_map _ _ (λ a i. ap (same d) i ∙ e) _ (in_channel m c p))

  part : (d : Channel) (cs : List Channel) → of m d (gather (λ c. of m c p) cs) ≡ gather (λ c. all_if (same d c) (of m d p)) cs
  unfolding gather filter
  part d [] = refl
  part d (c ∷ cs) = filter_append _ (of m c p) _ ∙ ap₂ ◌++◌ (part_by (same d c) d c refl) (part d cs)

  pub turns_allowed : (t : ℕ) → All (λ (a : A). m.stamp a ≡ t) p → Allowed m p in_turn
  turns_allowed t hp =
      let k : (d : Channel) → of m d in_turn ≡ of m d p = λ d. part d channels ∙ met_once d (of m d p) in
      record { keeps = k; onward = level m t _ (all_channels m _ _ (λ d. subst (All (λ (a : A). m.stamp a ≡ t)) (sym (k d)) (all_filter _ _ p hp))) }
