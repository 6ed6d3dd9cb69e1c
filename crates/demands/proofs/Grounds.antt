-- Answers 0, 6, 7 and 8 have exact grounds, of any text and any buffers; with those of FirstBadLine each answer of the call has its own, and there is no other answer.
use mathlib.Core.Path.{◌≡◌, ap}
use mathlib.Core.Logic.{◌⊎◌, inl, inr, ◌↔◌, ⊎_elim}
use mathlib.Core.List.{List}
use Prim.Native.Nat.{ℕ, ◌≤◌}
use native.Mathlib.Omega.{arith}
use Rattle.meaning.specs.Meaning.{Reason, Passes, Earliest}
use Rattle.record.specs.declared.Answer.TheVariants.{BadBuffers, TooLong}
use Rattle.record.specs.declared.Board.{Board}
use Rattle.record.specs.declared.Record.{Record}
use Rattle.record.specs.Answers.{answer_number}
use Rattle.machine.specs.Machine.{machine_at_start, on_machine}
use Rattle.buffers.specs.Buffers.{Buffers}
use Rattle.call.specs.Replay.{Ended, reason_answer, Replays}
use Rattle.demands.specs.Grounds.{Taken}
use Rattle.demands.proofs.Ways.{Way, unfit, long, bad, played, way, refused_line_lem, line_number, reason_number, shown_answer}
use Rattle.demands.proofs.FirstBadLine.{number_of_lem}
use Rattle.demands.proofs.Stops.{stop_answer, settled_means}

module _ {text : List ℕ} {x : Buffers} {e : Ended} where
  taken : Way text x e → (e.answer ≡ 0) ⊎ (6 ≤ e.answer) → (b : Board) × (rs : List Record) × Taken text x b rs
  taken (unfit f q) h = let k = number_of_lem x BadBuffers 0 0 q in ⊎_elim (λ s. absurd (omega arith)) (λ s. absurd (omega arith)) h
  taken (long f l q) h = let k = number_of_lem x TooLong 0 0 q in ⊎_elim (λ s. absurd (omega arith)) (λ s. absurd (omega arith)) h
  taken (bad f l a n j w q) h =
      let k = number_of_lem x a n j q in
      let r = line_number (refused_line_lem w) in
      ⊎_elim (λ s. absurd (omega arith)) (λ s. absurd (omega arith)) h
  taken (played f l b rs w z m q) h = (b, rs, record { fits = f; within = l; readable = w })

  small : Way text x e → e.answer ≤ 8
  small (unfit f q) = omega (arith, number_of_lem x BadBuffers 0 0 q)
  small (long f l q) = omega (arith, number_of_lem x TooLong 0 0 q)
  small (bad f l a n j w q) = omega (arith, number_of_lem x a n j q, line_number (refused_line_lem w))
  small (played f l b rs w z m q) = let k = ap (λ (y : Ended). y.answer) q in ⊎_elim (λ s. omega arith) (λ s. omega arith) (shown_answer b rs z)

module _ {text : List ℕ} {x : Buffers} {e : Ended} (p : Replays text x e) where
  -- 0 exactly for a text that is taken and in which no stamp has a reason
  pub settled_grounds : (e.answer ≡ 0) ↔ ((b : Board) × (rs : List Record) × Taken text x b rs × ((t : ℕ) → Passes (on_machine b) rs (machine_at_start b x.images) t))
  settled_grounds = (
    (λ h. let k = taken (way p) (inl h) in (k.0, k.1, k.2, (settled_means p k.2.fits k.2.within k.2.readable).0 h)),
    λ h. (settled_means p h.2.fits h.2.within h.2.readable).1 h.3,
  )

  -- 6, 7, 8 exactly for a text that is taken and in which that reason is the first at the earliest stamp that has one
  pub stop_grounds : (n : Reason) → (e.answer ≡ answer_number (reason_answer n)) ↔ ((b : Board) × (rs : List Record) × Taken text x b rs × (t : ℕ) × Earliest (on_machine b) rs (machine_at_start b x.images) n t)
  stop_grounds n = (
    (λ h.
        let s = reason_number n in
        let k = taken (way p) (inr (omega arith)) in
        let t = (stop_answer p k.2.fits k.2.within k.2.readable n).0 h in
        (k.0, k.1, k.2, t.0, t.1)),
    λ h. (stop_answer p h.2.fits h.2.within h.2.readable n).1 (h.3, h.4),
  )

  -- there is no other answer
  pub no_other : e.answer ≤ 8
  no_other = small (way p)
