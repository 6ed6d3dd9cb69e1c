-- Claims 36 to 38: the second engine. Assumes nothing.
use Prim.Native.Nat.{ℕ}
use native.Mathlib.Omega.{arith}
use mathlib.Core.Path.{◌≡◌, refl, sym, ap, subst, ◌∙◌}
use mathlib.Core.Bool.{true, false}
use mathlib.Core.Logic.{inl, inr, ⊎_elim}
use mathlib.Core.List.{List}
use lib.ListN.{length}
use borrow.Author.Tests.{ne_eqb}
use Rattle.law.specs.Choice.{split}
use Rattle.meaning.specs.Meaning.{after}
use Rattle.meaning.proofs.Allowing.{itself}
use Rattle.record.specs.declared.Board.{Board}
use Rattle.record.specs.declared.Record.{Record}
use Rattle.record.specs.Lengths.{result_length}
use Rattle.image.specs.Images.{Images, Kept, AllClean}
use Rattle.machine.specs.Machine.{machine_at_start, on_machine}
use Rattle.buffers.specs.Buffers.{fit_images, result_bytes}
use Rattle.buffers.proofs.Fit.{fit_images_says, fit_images_only, fit_says}
use Rattle.demands.proofs.Grounds.{settled_grounds}
use Rattle.demands.proofs.Readable.{readable_back}
use Rattle.demands.proofs.Stops.{settled_shows}
use Rattle.capture.specs.Merge.{Judgement, refused, merged, Judges}
use Rattle.engine.specs.Playing.{Lent, Played, played_as, unplayed, play_left, Plays}
use Rattle.raw.specs.Raw.{Pair, PlayClaims, PlayDetermined, PlaysWritten, LevelsAgree}
use Rattle.raw.proofs.Judged.{Way, unfit, refuses, accepts, kind, by_pair, answers, grounds}
use Rattle.raw.proofs.Claims.{clash, result_fit, result_unfit, pair_readable, refusal_number, refusal_low, refused_not_merged}

abbrev Fits : Lent → Type 0
Fits x = fit_images x.images x.result ≡ true

-- ---- how it can end
data Playing (levels trace : List ℕ) (x : Lent) (e : Played) : Type 0 where
  wrong : fit_images x.images x.result ≡ false → e ≡ unplayed 1 0 0 x → Playing levels trace x e
  no : (n l f : ℕ) → Fits x → Judges levels trace (refused n l f) → e ≡ played_as n (record { images = x.images; result = result_bytes n l 0 f }) → Playing levels trace x e
  yes : (b : Board) (m : List Record) → Fits x → Judges levels trace (merged b m) →
      e ≡ played_as 0 (record { images = (after (on_machine b) m (machine_at_start b x.images)).images; result = result_bytes 0 0 0 0 }) → Playing levels trace x e

long : (x : Lent) → Fits x → length x.result ≡ result_length
long x t = (fit_images_says x.images x.result t).result_long

by_judgement : {levels trace : List ℕ} {x : Lent} {e : Played} (j : Judgement) → Fits x → Judges levels trace j → e ≡ play_left j x → Playing levels trace x e
unfolding play_left unplayed
by_judgement {x = x} (refused n l f) t h q =
    no n l f t h (q ∙ ap (λ (r : List ℕ). played_as n (record { images = x.images; result = r })) (result_fit n l 0 f x.result (long x t)))
by_judgement {x = x} (merged b m) t h q =
    yes b m t h (q ∙ ap (λ (r : List ℕ). played_as 0 (record { images = (after (on_machine b) m (machine_at_start b x.images)).images; result = r })) (result_fit 0 0 0 0 x.result (long x t)))

playing : {levels trace : List ℕ} {x : Lent} {e : Played} → Plays levels trace x e → Playing levels trace x e
playing {x = x} p =
    split (fit_images x.images x.result) (λ t. let j = p.some t in by_judgement j.0 t j.1 (p.judged t j.0 j.1)) (λ t. wrong t (p.unfit t))

abbrev answer_of : Played → ℕ
answer_of w = w.answer

abbrev result_of : Played → List ℕ
result_of w = w.lent.result

abbrev images_of : Played → Images
images_of w = w.lent.images

unplayed_answer : (x : Lent) → (unplayed 1 0 0 x).answer ≡ 1
unfolding unplayed
unplayed_answer x = refl

unplayed_images : (x : Lent) → (unplayed 1 0 0 x).lent.images ≡ x.images
unfolding unplayed
unplayed_images x = refl

play_way : {levels trace : List ℕ} {x : Lent} {e : Played} → Playing levels trace x e → Way levels trace (Fits x) e.answer e.lent.result
play_way {x = x} (wrong t q) = unfit (λ u. clash u t) (ap answer_of q ∙ unplayed_answer x)
play_way (no n l f t h q) = refuses n l f t h (ap answer_of q) (ap result_of q)
play_way (yes b m t h q) = accepts b m t h (inl (ap answer_of q))

module _ {levels trace : List ℕ} {x : Lent} {e : Played} where
  zero_ground : Playing levels trace x e → e.answer ≡ 0 → Fits x × (b : Board) × (m : List Record) × Pair levels trace b m
  zero_ground (wrong t q) h = absurd (let k = ap answer_of q ∙ unplayed_answer x in omega arith)
  zero_ground (no n l f t j q) h = absurd (refusal_number j (inl (sym (ap answer_of q) ∙ h)))
  zero_ground (yes b m t j q) h = (t, b, m, kind (merged b m) j)

  zero_back : Playing levels trace x e → Fits x → (b : Board) (m : List Record) → Pair levels trace b m → e.answer ≡ 0
  zero_back (wrong t q) u b m z = clash u t
  zero_back (no n l f t j q) u b m z = refused_not_merged j (by_pair b m z)
  zero_back (yes c k t j q) u b m z = ap answer_of q

  zero_result : Playing levels trace x e → e.answer ≡ 0 → e.lent.result ≡ result_bytes 0 0 0 0
  zero_result (wrong t q) h = absurd (let k = ap answer_of q ∙ unplayed_answer x in omega arith)
  zero_result (no n l f t j q) h = absurd (refusal_number j (inl (sym (ap answer_of q) ∙ h)))
  zero_result (yes b m t j q) h = ap result_of q

  one_result : Playing levels trace x e → e.answer ≡ 1 → length x.result ≡ result_length → e.lent.result ≡ result_bytes 1 0 0 0
  unfolding unplayed
  one_result (wrong t q) h l = ap result_of q ∙ result_fit 1 0 0 0 x.result l
  one_result (no n l f t j q) h k = absurd (omega (arith, refusal_low j, ap answer_of q))
  one_result (yes b m t j q) h k = absurd (let s = ap answer_of q in omega arith)

  no_ten : Playing levels trace x e → (e.answer ≡ 10) → ⊥
  no_ten (wrong t q) h = let k = ap answer_of q ∙ unplayed_answer x in omega arith
  no_ten (no n l f t j q) h = refusal_number j (inr (sym (ap answer_of q) ∙ h))
  no_ten (yes b m t j q) h = let k = ap answer_of q in omega arith

  images_stay : Playing levels trace x e → (e.answer ≡ 0 → ⊥) → e.lent.images ≡ x.images
  images_stay (wrong t q) h = ap images_of q ∙ unplayed_images x
  images_stay (no n l f t j q) h = ap images_of q
  images_stay (yes b m t j q) h = absurd (h (ap answer_of q))

  nothing_written : Playing levels trace x e → (length x.result ≡ result_length → ⊥) → e ≡ played_as 1 x
  unfolding unplayed
  nothing_written (wrong t q) h = q ∙ ap (λ (r : List ℕ). played_as 1 (record { images = x.images; result = r })) (result_unfit 1 0 0 0 x.result (ne_eqb _ _ h))
  nothing_written (no n l f t j q) h = absurd (h (long x t))
  nothing_written (yes b m t j q) h = absurd (h (long x t))

-- ---- 36
pub play_claims : PlayClaims
play_claims levels trace x e p =
    let w = playing p in
    record {
      grounds = grounds (play_way w);
      zero = (zero_ground w, λ z. zero_back w z.0 z.1 z.2 z.3);
      zero_told = zero_result w;
      one_told = one_result w;
      no_other = ⊎_elim inl (λ s. ⊎_elim (λ u. absurd (no_ten w u)) inr s) (answers (play_way w));
      untouched = images_stay w;
      wrong_result_length = nothing_written w;
    }

pub play_determined : PlayDetermined
play_determined levels trace x e e' p q =
    split (fit_images x.images x.result) (λ t. let j = p.some t in p.judged t j.0 j.1 ∙ sym (q.judged t j.0 j.1)) (λ t. p.unfit t ∙ sym (q.unfit t))

-- ---- 37
pub plays_written : PlaysWritten
unfolding play_left
plays_written levels trace x e p t b m z = ap images_of (p.judged t (merged b m) (by_pair b m z))

-- ---- 38: through the replay's demand 4, with the written order itself
pub levels_agree : LevelsAgree
levels_agree levels trace b m z x e p l y r v same h =
    let g = (settled_grounds v).0 h in
    let taken = g.2 in
    let q = pair_readable z in
    let f = fit_says y taken.fits in
    let fits : Fits x = fit_images_only x.images x.result (record { kept = subst Kept same f.kept; result_long = l; clean = subst AllClean same f.clean }) in
    let shows = settled_shows v taken.fits taken.within q h m (itself (on_machine b) m (readable_back q)) in (
      zero_back (playing p) fits b m z,
      plays_written levels trace x e p fits b m z ∙ ap (λ (i : Images). (after (on_machine b) m (machine_at_start b i)).images) (sym same) ∙ sym shows.images,
    )
