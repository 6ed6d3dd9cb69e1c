use Rattle.std.proofs.Common.{◌≡◌, ℕ, suc, refl, ap, sym, ◌∙◌, List, [], ◌∷◌, length, replicate, rules}
use Rattle.law.specs.Words.{by_place}
use Rattle.image.specs.Image.{image_of, each_place, on_image}
use Rattle.image.proofs.Fitting.{lengths_fit, lengths_unfit, on_fit, on_unfit}
use Rattle.image.proofs.fill_both.Goals as goal

-- filling with b sets every place to b
filled_from : (i : ℕ) (xs : List ℕ) (b : ℕ) → replicate (length xs) b ≡ by_place (λ k x. b) i xs
filled_from i [] b = refl
filled_from i (x ∷ xs) b = ap (λ (l : List ℕ). b ∷ l) (filled_from (suc i) xs b)

filled : (xs ys : List ℕ) (b : ℕ) → ys ≡ replicate (length xs) b → ys ≡ by_place (λ k x. b) 0 xs
filled xs ys b e = e ∙ filled_from 0 xs b

pub returns-then-masks-values : goal.returns-then-masks-values
returns-then-masks-values c =
    let s = c.args in
    sym (on_unfit (image_of s.values.now s.masks.now) (λ k b. s.c) (lengths_unfit (image_of s.values.now s.masks.now) c.if-masks-values.true))

pub returns : goal.returns
unfolding each_place
returns c =
    let s = c.args in
    let v = filled s.values.now c.fill.new.self s.c.value (c.fill.ensures.after (λ y e. search rules)) in
    let m = filled s.masks.now c.fill-2.new.self s.c.mask (c.fill-2.ensures.after (λ y e. search rules)) in
    let e : image_of (by_place (λ k b. s.c.value) 0 s.values.now) (by_place (λ k b. s.c.mask) 0 s.masks.now) ≡ on_image (λ k b. s.c) (image_of s.values.now s.masks.now) =
    sym (on_fit (image_of s.values.now s.masks.now) (λ k b. s.c) (lengths_fit (image_of s.values.now s.masks.now) c.if-masks-values.false)) in
    (λ i. record { values = v i; masks = m i }) ∙ e
