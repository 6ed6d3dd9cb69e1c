-- Both calls share one judgement: what each refusal's ground is, and that the judgement alone tells answer, line and field.
use Prim.Native.Nat.{ℕ, ◌≤◌}
use native.Mathlib.Omega.{arith}
use mathlib.Core.Path.{◌≡◌, refl, sym, ap, subst, ◌∙◌}
use mathlib.Core.Logic.{◌⊎◌, inl, inr, ⊎_elim}
use mathlib.Core.List.{List}
use lib.Dec.{ltb}
use lib.ListN.{length}
use borrow.Author.Tests.{lt-ltb, le-ltb, ltb-true, ltb-false}
use Rattle.law.specs.Choice.{pick_says}
use Rattle.record.specs.declared.Board.{Board}
use Rattle.record.specs.declared.Record.{Record}
use Rattle.record.specs.declared.Answer.{Answer}
use Rattle.record.specs.declared.LevelsAnswer.{LevelsAnswer}
use Rattle.record.specs.declared.LevelsAnswer.TheVariants.{BadLevel, Together, TooShort}
use Rattle.record.specs.Answers.{answer_number, levels_answer_number}
use Rattle.field.proofs.Answers.{zero_one}
use Rattle.text.specs.Texts.{text_limit, Refused}
use Rattle.level.specs.declared.Level.{Level}
use Rattle.level.specs.Rest.{resting, clash}
use Rattle.buffers.specs.Buffers.{result_bytes}
use Rattle.std.specs.Prelude.{Ok, Err}
use Rattle.capture.specs.Taken.{stamped}
use Rattle.capture.specs.Captures.{Fault, Before, none, line, fault_of, BadCapture, no_level, faulty}
use Rattle.capture.specs.Merge.{Judgement, refused, merged, Judges, long_trace, bad_trace, long_levels, bad_levels, both}
use Rattle.capture.proofs.OneJudgement.{one_judgement}
use Rattle.demands.specs.Grounds.{OfLine, three, four, five}
use Rattle.demands.proofs.Ways.{refused_line_lem, line_number}
use Rattle.raw.specs.Raw.{Pair, Long, trace_long, levels_long, LevelsBad, Grounds}

-- ---- a first bad line of the levels is 12 or 13
twelve_not_ten : {A : Type 0} → ◌≡◌ {A = Fault} (Err BadLevel) (Err TooShort) → A
twelve_not_ten h = absurd (cc)

thirteen_not_ten : {A : Type 0} → ◌≡◌ {A = Fault} (Err Together) (Err TooShort) → A
thirteen_not_ten h = absurd (cc)

nothing_not_ten : {A : Type 0} → ◌≡◌ {A = Fault} (Ok tt) (Err TooShort) → A
nothing_not_ten h = absurd (cc)

not_short : (ts : List Record) (p : Before) (l : Level) → fault_of ts p l ≡ Err TooShort → ⊥
unfolding fault_of
not_short ts none l e =
    ⊎_elim (λ z. ⊎_elim (λ y. twelve_not_ten y.1) (λ y. nothing_not_ten y.1) (pick_says (stamped ts l.stamp) _ _ _ z.1)) (λ z. twelve_not_ten z.1)
    (pick_says (resting l) _ _ _ e)
not_short ts (line a) l e =
    ⊎_elim (λ z. twelve_not_ten z.1)
    (λ z.
    ⊎_elim (λ y. twelve_not_ten y.1) (λ y. ⊎_elim (λ x. thirteen_not_ten x.1) (λ x. nothing_not_ten x.1) (pick_says (clash a l) _ _ _ y.1))
    (pick_says (stamped ts l.stamp) _ _ _ z.1))
    (pick_says (ltb l.stamp a.stamp) _ _ _ e)

no_short : {ts : List Record} {text : List ℕ} {a : LevelsAnswer} {n : ℕ} → BadCapture ts text a n → a ≡ TooShort → ⊥
no_short (no_level ls b s g) e = zero_one (cc)
no_short {ts} (faulty ls l a b o s g) e = not_short ts _ l (g ∙ ap (λ (x : LevelsAnswer). Err x) e)

bad_number : {ts : List Record} {text : List ℕ} (a : LevelsAnswer) {n : ℕ} → BadCapture ts text a n → 12 ≤ levels_answer_number a
bad_number BadLevel h = omega arith
bad_number Together h = omega arith
bad_number TooShort h = absurd (no_short h refl)

is_twelve : (a : LevelsAnswer) → levels_answer_number a ≡ 12 → a ≡ BadLevel
is_twelve BadLevel h = refl
is_twelve Together h = absurd (omega arith)
is_twelve TooShort h = absurd (omega arith)

is_thirteen : (a : LevelsAnswer) → levels_answer_number a ≡ 13 → a ≡ Together
is_thirteen BadLevel h = absurd (omega arith)
is_thirteen Together h = refl
is_thirteen TooShort h = absurd (omega arith)

one_line : (a c : Answer) → OfLine a → OfLine c → answer_number a ≡ answer_number c → a ≡ c
one_line a c three three e = refl
one_line a c three four e = absurd (omega arith)
one_line a c three five e = absurd (omega arith)
one_line a c four three e = absurd (omega arith)
one_line a c four four e = refl
one_line a c four five e = absurd (omega arith)
one_line a c five three e = absurd (omega arith)
one_line a c five four e = absurd (omega arith)
one_line a c five five e = refl

-- ---- the grounds of a refusal, by answer, line and field
pub data Ground (levels trace : List ℕ) : ℕ → ℕ → ℕ → Type 0 where
  long : Long levels trace → Ground levels trace 2 0 0
  of_line : (a : Answer) (n f : ℕ) → OfLine a → length trace ≤ text_limit → Refused trace a n f → Ground levels trace (answer_number a) n f
  of_levels : (a : LevelsAnswer) (n : ℕ) → LevelsBad levels trace a n → Ground levels trace (levels_answer_number a) n 0

abbrev kind_of : List ℕ → List ℕ → Judgement → Type 0
kind_of levels trace (refused n l f) = Ground levels trace n l f
kind_of levels trace (merged b m) = Pair levels trace b m

module _ {levels trace : List ℕ} where
  pub kind : (j : Judgement) → Judges levels trace j → kind_of levels trace j
  kind j (long_trace l) = long (trace_long (ltb-true _ _ l))
  kind j (bad_trace a n f t w) = of_line a n f (refused_line_lem w) (ltb-false _ _ t) w
  kind j (long_levels b rs t q l) = long (levels_long b rs (ltb-false _ _ t) q (ltb-true _ _ l))
  kind j (bad_levels b rs a n t q s w) = of_levels a n (b, rs, record { trace_within = ltb-false _ _ t; readable = q; levels_within = ltb-false _ _ s }, w)
  kind j (both b rs ls m t q s c p) =
      record { rs = rs; ls = ls; accepted = record { read = record { trace_within = ltb-false _ _ t; readable = q; levels_within = ltb-false _ _ s }; captures = c }; merged = p }

  by_long : Long levels trace → Judges levels trace (refused 2 0 0)
  by_long (trace_long h) = long_trace (lt-ltb _ _ h)
  by_long (levels_long b rs t q h) = long_levels b rs (le-ltb _ _ t) q (lt-ltb _ _ h)

  by_line : (a : Answer) (n f : ℕ) → length trace ≤ text_limit → Refused trace a n f → Judges levels trace (refused (answer_number a) n f)
  by_line a n f t w = bad_trace a n f (le-ltb _ _ t) w

  by_levels : (a : LevelsAnswer) (n : ℕ) → LevelsBad levels trace a n → Judges levels trace (refused (levels_answer_number a) n 0)
  by_levels a n z = let r = z.2 in bad_levels z.0 z.1 a n (le-ltb _ _ r.trace_within) r.readable (le-ltb _ _ r.levels_within) z.3

  pub by_pair : (b : Board) (m : List Record) → Pair levels trace b m → Judges levels trace (merged b m)
  by_pair b m z =
      let r = z.accepted.read in
      both b z.rs z.ls m (le-ltb _ _ r.trace_within) r.readable (le-ltb _ _ r.levels_within) z.accepted.captures z.merged

  -- ---- by its number
  ground_two : {n l f : ℕ} → Ground levels trace n l f → n ≡ 2 → Long levels trace
  ground_two (long z) e = z
  ground_two (of_line a n f o t w) e = absurd (omega (arith, line_number o))
  ground_two (of_levels a n z) e = absurd (omega (arith, bad_number a z.3))

  ground_line : {n l f : ℕ} → Ground levels trace n l f → (a : Answer) → OfLine a → n ≡ answer_number a → (length trace ≤ text_limit) × (k : ℕ) × (g : ℕ) × Refused trace a k g
  ground_line (long z) a o e = absurd (omega (arith, line_number o))
  ground_line (of_line a n f o t w) c p e = (t, n, f, subst (λ (x : Answer). Refused trace x n f) (one_line a c o p e) w)
  ground_line (of_levels a n z) c p e = absurd (omega (arith, bad_number a z.3, line_number p))

  ground_levels : {n l f : ℕ} → Ground levels trace n l f → 12 ≤ n → (a : LevelsAnswer) × (n ≡ levels_answer_number a) × (k : ℕ) × LevelsBad levels trace a k
  ground_levels (long z) h = absurd (omega arith)
  ground_levels (of_line a n f o t w) h = absurd (omega (arith, line_number o))
  ground_levels (of_levels a n z) h = (a, refl, n, z)

  ground_number : {n l f : ℕ} → Ground levels trace n l f → (2 ≤ n) × ((n ≤ 5) ⊎ ((n ≡ 12) ⊎ (n ≡ 13)))
  ground_number (long z) = (omega arith, inl (omega arith))
  ground_number (of_line a n f o t w) = (omega (arith, line_number o), inl (omega (arith, line_number o)))
  ground_number (of_levels a n z) = (omega (arith, bad_number a z.3), inr (last a (bad_number a z.3)))
    where
      last : (a : LevelsAnswer) → 12 ≤ levels_answer_number a → (levels_answer_number a ≡ 12) ⊎ (levels_answer_number a ≡ 13)
      last BadLevel h = inl refl
      last Together h = inr refl
      last TooShort h = absurd (omega arith)

pub ground_low : {levels trace : List ℕ} {n l f : ℕ} → Ground levels trace n l f → 2 ≤ n
ground_low g = (ground_number g).0

pub number_apart : {levels trace : List ℕ} {n l f : ℕ} → Ground levels trace n l f → (n ≡ 0) ⊎ (n ≡ 10) → ⊥
number_apart g e =
    let z = ground_number g in
    let low = z.0 in
    ⊎_elim (λ s. omega arith) (λ s. ⊎_elim (λ u. omega arith) (λ u. ⊎_elim (λ v. omega arith) (λ v. omega arith) u) z.1) e

-- ---- how a call can end: one way for each of its checks, in their order
pub data Way (levels trace : List ℕ) (Fits : Type 0) (answer : ℕ) (result : List ℕ) : Type 0 where
  unfit : (Fits → ⊥) → answer ≡ 1 → Way levels trace Fits answer result
  refuses : (n l f : ℕ) → Fits → Judges levels trace (refused n l f) → answer ≡ n → result ≡ result_bytes n l 0 f → Way levels trace Fits answer result
  accepts : (b : Board) (m : List Record) → Fits → Judges levels trace (merged b m) → (answer ≡ 0) ⊎ (answer ≡ 10) → Way levels trace Fits answer result

abbrev number_or : Judgement → ℕ
number_or (refused n l f) = n
number_or (merged b m) = 0

abbrev bytes_or : List ℕ → Judgement → List ℕ
bytes_or r (refused n l f) = result_bytes n l 0 f
bytes_or r (merged b m) = r

module _ {levels trace : List ℕ} {Fits : Type 0} {answer : ℕ} {result : List ℕ} where
  -- a judgement that refuses is the one that is told
  told : Way levels trace Fits answer result → Fits → {n l f : ℕ} → 2 ≤ n → Judges levels trace (refused n l f) → (answer ≡ n) × (result ≡ result_bytes n l 0 f)
  told (unfit g e) t h j = absurd (g t)
  told (refuses n l f g k e r) t h j = let s = one_judgement k j in (e ∙ ap number_or s, r ∙ ap (bytes_or result) s)
  told (accepts b m g k e) t h j = absurd (let s = ap number_or (one_judgement k j) in omega arith)

  refused_ground : Way levels trace Fits answer result → 2 ≤ answer → (answer ≡ 10 → ⊥) → Fits × (n : ℕ) × (l : ℕ) × (f : ℕ) × Ground levels trace n l f × (answer ≡ n)
  refused_ground (unfit g e) h t = absurd (omega arith)
  refused_ground (refuses n l f g k e r) h t = (g, n, l, f, kind (refused n l f) k, e)
  refused_ground (accepts b m g k e) h t = ⊎_elim (λ s. absurd (omega arith)) (λ s. absurd (t s)) e

  fits_of : Way levels trace Fits answer result → (answer ≡ 1 → ⊥) → Fits
  fits_of (unfit g e) h = absurd (h e)
  fits_of (refuses n l f g k e r) h = g
  fits_of (accepts b m g k e) h = g

  not_one : Way levels trace Fits answer result → answer ≡ 1 → Fits → ⊥
  not_one (unfit g e) h t = g t
  not_one (refuses n l f g k e r) h t = omega (arith, (ground_number (kind (refused n l f) k)).0)
  not_one (accepts b m g k e) h t = ⊎_elim (λ s. omega arith) (λ s. omega arith) e

  is_one : Way levels trace Fits answer result → (Fits → ⊥) → answer ≡ 1
  is_one (unfit g e) h = e
  is_one (refuses n l f g k e r) h = absurd (h g)
  is_one (accepts b m g k e) h = absurd (h g)

  pub answers : Way levels trace Fits answer result → (answer ≤ 5) ⊎ ((answer ≡ 10) ⊎ ((answer ≡ 12) ⊎ (answer ≡ 13)))
  answers (unfit g e) = inl (omega arith)
  answers (refuses n l f g k e r) = ⊎_elim (λ s. inl (omega arith)) (λ s. ⊎_elim (λ u. inr (inr (inl (e ∙ u)))) (λ u. inr (inr (inr (e ∙ u)))) s) (ground_number (kind (refused n l f) k)).1
  answers (accepts b m g k e) = ⊎_elim (λ s. inl (omega arith)) (λ s. inr (inl s)) e

  module _ (w : Way levels trace Fits answer result) where
    trace_ground : (a : Answer) → OfLine a → answer ≡ answer_number a → Fits × (length trace ≤ text_limit) × (n : ℕ) × (f : ℕ) × Refused trace a n f
    trace_ground a o e =
        let k = line_number o in
        let z = refused_ground w (omega arith) (λ s. omega arith) in
        let y = ground_line z.4 a o (sym z.5 ∙ e) in
        (z.0, y.0, y.1, y.2, y.3)

    levels_ground : (a : LevelsAnswer) (is : (c : LevelsAnswer) → levels_answer_number c ≡ levels_answer_number a → c ≡ a) → 12 ≤ levels_answer_number a → answer ≡ levels_answer_number a → Fits × (n : ℕ) × LevelsBad levels trace a n
    levels_ground a is h e =
        let z = refused_ground w (omega arith) (λ s. omega arith) in
        let y = ground_levels z.4 (let q = z.5 in omega arith) in
        (z.0, y.2, subst (λ (c : LevelsAnswer). LevelsBad levels trace c y.2) (is y.0 (sym y.1 ∙ sym z.5 ∙ e)) y.3)

    pub grounds : Grounds levels trace Fits answer result
    grounds = record {
      one = (not_one w, is_one w);
      two = (
        (λ e. let z = refused_ground w (omega arith) (λ s. omega arith) in (z.0, ground_two z.4 (sym z.5 ∙ e))),
        λ z. (told w z.0 (omega arith) (by_long z.1)).0,
      );
      two_told = λ e. let z = refused_ground w (omega arith) (λ s. omega arith) in (told w z.0 (omega arith) (by_long (ground_two z.4 (sym z.5 ∙ e)))).1;
      of_trace = λ a o. (trace_ground a o, λ z. let k = line_number o in (told w z.0 (omega arith) (by_line a z.2 z.3 z.1 z.4)).0);
      of_trace_told = λ a o e n f r. let k = line_number o in let z = trace_ground a o e in (told w z.0 (omega arith) (by_line a n f z.1 r)).1;
      twelve = (levels_ground BadLevel is_twelve (omega arith), λ z. (told w z.0 (omega arith) (by_levels BadLevel z.1 z.2)).0);
      twelve_told = λ e n z. (told w (fits_of w (λ s. omega arith)) (omega arith) (by_levels BadLevel n z)).1;
      thirteen = (levels_ground Together is_thirteen (omega arith), λ z. (told w z.0 (omega arith) (by_levels Together z.1 z.2)).0);
      thirteen_told = λ e n z. (told w (fits_of w (λ s. omega arith)) (omega arith) (by_levels Together n z)).1;
    }
