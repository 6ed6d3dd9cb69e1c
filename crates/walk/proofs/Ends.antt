-- What the call leaves, by what its tests said.
use mathlib.Core.Path.{◌≡◌, refl, sym, ap, subst, subst₂, ◌∙◌}
use mathlib.Core.Bool.{Bool, true, false}
use mathlib.Core.List.{List}
use Prim.Native.Nat.{ℕ}
use lib.Dec.{ltb}
use lib.ListN.{length, replicate}
use Rattle.std.specs.Prelude.{Ok, Err}
use Rattle.law.specs.Choice.{true_not_false}
use Rattle.record.specs.declared.Board.{Board}
use Rattle.record.specs.declared.Answer.{Answer}
use Rattle.record.specs.Answers.{answer_number}
use Rattle.field.specs.declared.Cursor.{Cursor}
use Rattle.image.specs.Images.{Images}
use Rattle.line.specs.Boards.{spelled_board}
use Rattle.text.specs.declared.checking.Refusal.{Refusal}
use Rattle.text.specs.Texts.{text_limit, Checked, Checks}
use Rattle.record.specs.Lengths.{replies_length, result_length}
use Rattle.times.specs.Times.{times_length}
use Rattle.buffers.specs.Buffers.{Buffers, fit, result_bytes, result_after}
use Rattle.buffers.proofs.Result.{result_written}
use Rattle.call.specs.Replay.{Ended, ended_as, refused_as, Replays}
use Rattle.call.specs.Run.{ended_with, Runs}

-- ---- after the loop the result is written
pub runs_written : (text : List ℕ) (first : ℕ) (b : Board) (x : Images) (never old : List ℕ) (a : Answer) (t c n : ℕ) (y : Images) (noted left res res' : List ℕ) →
    Runs text first b x never old (ended_with a t c y noted left) → never ≡ replicate times_length 0 → old ≡ replicate replies_length 0 → n ≡ answer_number a → res' ≡ result_after n t c 0 res → length res ≡ result_length →
    Runs text first b x (replicate times_length 0) (replicate replies_length 0) (ended_as n (record { images = y; times = noted; replies = left; result = res' }))
runs_written text first b x never old a t c n y noted left res res' r v z h w l =
    let k = w ∙ result_written n t c 0 res l in
    subst (λ (k : Ended). Runs text first b x (replicate times_length 0) (replicate replies_length 0) k)
    (λ i. ended_as (sym h i) (record { images = y; times = noted; replies = left; result = sym (k ∙ ap (λ (m : ℕ). result_bytes m t c 0) h) i }))
    (subst₂ (λ (u l : List ℕ). Runs text first b x u l (ended_with a t c y noted left)) v z r)

clash : {A : Type 0} {t : Bool} → t ≡ true → t ≡ false → A
clash h k = absurd (true_not_false (sym h ∙ k))

-- ---- refusals
abbrev refusal : ℕ → Buffers → List ℕ → Ended
refusal n x res = ended_as n (record { images = x.images; times = x.times; replies = x.replies; result = res })

refusal_is : (a : Answer) (line field n : ℕ) (x : Buffers) (res : List ℕ) → n ≡ answer_number a → res ≡ result_after (answer_number a) line 0 field x.result → refusal n x res ≡ refused_as a line field x
unfolding refused_as
refusal_is a line field n x res h w = λ i. refusal (h i) x (w i)

module _ (text : List ℕ) (x : Buffers) where
  pub replays_unfit : (n : ℕ) (res : List ℕ) → fit x ≡ false → n ≡ answer_number Answer.BadBuffers → res ≡ result_after (answer_number Answer.BadBuffers) 0 0 0 x.result → Replays text x (refusal n x res)
  replays_unfit n res u h w = record {
    unfit = λ k. refusal_is Answer.BadBuffers 0 0 n x res h w;
    long = λ k. clash k u;
    bad = λ k. clash k u;
    played = λ k. clash k u;
    read = λ k. clash k u;
  }

  module _ (fits : fit x ≡ true) where
    pub replays_long : (n : ℕ) (res : List ℕ) → ltb text_limit (length text) ≡ true → n ≡ answer_number Answer.TooLong → res ≡ result_after (answer_number Answer.TooLong) 0 0 0 x.result → Replays text x (refusal n x res)
    replays_long n res u h w = record {
      unfit = λ k. clash fits k;
      long = λ k l. refusal_is Answer.TooLong 0 0 n x res h w;
      bad = λ k l. clash u l;
      played = λ k l. clash u l;
      read = λ k l. clash u l;
    }

    module _ (short : ltb text_limit (length text) ≡ false) (r : Checked) (checks : Checks text r) where
      -- what the check answered
      abbrev IsReadable : Checked → Type 0
      IsReadable (Ok r) = Unit {0}
      IsReadable (Err e) = ⊥

      abbrev board_of : Board → Checked → Board
      board_of d (Ok r) = r.0
      board_of d (Err e) = d

      abbrev place_of : Checked → ℕ
      place_of (Ok r) = r.1.at
      place_of (Err e) = 0

      abbrev refusal_of : Refusal → Checked → Refusal
      refusal_of d (Ok r) = d
      refusal_of d (Err e) = e

      pub replays_bad : (k : Refusal) → r ≡ Err k → (n : ℕ) (res : List ℕ) → n ≡ answer_number k.answer → res ≡ result_after (answer_number k.answer) k.line 0 k.field x.result → Replays text x (refusal n x res)
      replays_bad k is n res h w = record {
        unfit = λ u. clash fits u;
        long = λ u l. clash l short;
        bad = λ u l c m f q.
            let e = sym is ∙ checks.refused c m f q in
            refusal_is k.answer k.line k.field n x res h w ∙ ap (λ (y : Checked). refused_as (refusal_of k y).answer (refusal_of k y).line (refusal_of k y).field x) e;
        played = λ u l b rs q. absurd (subst IsReadable (sym (checks.readable b rs q) ∙ is) tt);
        read = λ u l. checks.only;
      }

      pub replays_played : (b : Board) (c : Cursor) → r ≡ Ok (b, c) → (e : Ended) → Runs text c.at b x.images (replicate times_length 0) (replicate replies_length 0) e → Replays text x e
      replays_played b c is e runs = record {
        unfit = λ k. clash fits k;
        long = λ k l. clash l short;
        bad = λ k l a n f q. absurd (subst IsReadable (sym is ∙ checks.refused a n f q) tt);
        played = λ k l d rs q.
            let h = sym (checks.readable d rs q) ∙ is in
            let same-board : d ≡ b = ap (board_of d) h in
            let same_place : length (spelled_board d) ≡ c.at = ap place_of h in
            let go = subst (λ (y : Board). Runs text c.at y x.images (replicate times_length 0) (replicate replies_length 0) e) (sym same-board) runs in
            go.runs rs q (sym same_place) refl refl;
        read = λ k l. checks.only;
      }
