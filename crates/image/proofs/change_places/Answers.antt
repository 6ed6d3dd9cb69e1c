use Rattle.std.proofs.Common.{◌≡◌, ℕ, ◌+◌, ◌*◌, ◌∙◌, ap, refl, List, length, get_or, arith}
use Rattle.law.specs.Places.{next}
use Rattle.image.specs.Image.{each_place}
use Rattle.image.specs.Changing.{changed_place}
use Rattle.image.proofs.Pages.{of_value, of_mask, begun, turned, ended}
use Rattle.image.proofs.change_places.Goals as goal

pub loop-q-init : goal.loop-q-init
loop-q-init g c =
    let a = c.args in (
      begun (length a.bytes.now) a.number (changed_place g.rule a.bytes.now) (of_value a.masks.now) (λ b. b.value) (λ k x. refl) a.values.now,
      begun (length a.bytes.now) a.number (changed_place g.rule a.bytes.now) (of_mask a.values.now) (λ b. b.mask) (λ k x. refl) a.masks.now,
    )

pub loop-q-preserved : goal.loop-q-preserved
loop-q-preserved g c =
    let a = c.args in
    let l = c.loop-q in
    let size = length a.bytes.now in
    let rule = changed_place g.rule a.bytes.now in
    let k = size * a.number + l.q in
    let v : get_or l.values k 0 ≡ get_or a.values.now k 0 = ap (λ (xs : List ℕ). get_or xs k 0) l.invariant.0 ∙ next _ k a.values.now in
    let m : get_or l.masks k 0 ≡ get_or a.masks.now k 0 = ap (λ (xs : List ℕ). get_or xs k 0) l.invariant.1 ∙ next _ k a.masks.now in
    let e : c.step-n.result ≡ rule l.q (record { value = get_or a.values.now k 0; mask = get_or a.masks.now k 0 }) =
    c.requires.1.1.1 l.q _ _ _ (omega arith) c.step-n.ensures ∙ ap (rule l.q) (λ i. record { value = v i; mask = m i }) in (
      turned size a.number rule (of_value a.masks.now) (λ b. b.value) (λ k x. refl) a.values.now l.values l.q c.step-n.result
          (omega arith) (omega arith) l.invariant.0 e,
      turned size a.number rule (of_mask a.values.now) (λ b. b.mask) (λ k x. refl) a.masks.now l.masks l.q c.step-n.result
          (omega arith) (omega arith) l.invariant.1 e,
    )

pub returns : goal.returns
unfolding each_place
returns g c =
    let a = c.args in
    let l = c.loop-q in
    let size = length a.bytes.now in
    let rule = changed_place g.rule a.bytes.now in
    let v = l.invariant.0 ∙ ended size a.number rule (of_value a.masks.now) (λ b. b.value) (λ k x. refl) a.values.now l.q (omega arith) (omega arith) (omega arith) in
    let m = l.invariant.1 ∙ ended size a.number rule (of_mask a.values.now) (λ b. b.mask) (λ k x. refl) a.masks.now l.q (omega arith) (omega arith) (omega arith) in
    λ i. record { values = v i; masks = m i }
