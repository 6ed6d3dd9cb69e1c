-- Laws of a line's fields and of the first bad one.
use Prim.Native.Nat.{ℕ, suc, ◌+◌, ◌≤◌, ◌<◌}
use native.Mathlib.Omega.{arith}
use mathlib.Core.Path.{◌≡◌, refl, sym, ap, subst, ◌∙◌}
use mathlib.Core.Bool.{Bool, true, false}
use mathlib.Core.List.{List, [], ◌∷◌, ◌++◌}
use lib.Dec.{eqb}
use lib.ListN.{length, drop, get_or, drop_of_length-le}
use lib.Seq.{drop-cons, drop-drop, drop-append_seam}
use borrow.Author.Tests.{eq-eqb, ne_eqb, eqb-true, eqb-false}
use Rattle.law.specs.Choice.{split, true_not_false, both, of_both}
use Rattle.law.specs.Words.{pick}
use Rattle.field.specs.Ends.{tab_byte, lf_byte}
use Rattle.field.specs.Reads.{Stands}
use Rattle.field.specs.Fields.{on_first, fields_of, first_of, Places, first_bad, same, spells}
use Rattle.field.specs.Readers.{content_at, ends_here}
use Rattle.field.proofs.Answers.{GotWord, NoWord}

-- ---- the same bytes
pub same_refl : (w : List ℕ) → same w w ≡ true
unfolding same
same_refl [] = refl
same_refl (b ∷ w) = rw (eq-eqb b b refl) (same_refl w)

pub same_says : (u v : List ℕ) → same u v ≡ true → u ≡ v
unfolding same
same_says [] [] e = refl
same_says [] (b ∷ v) e = absurd (true_not_false (sym e))
same_says (a ∷ u) [] e = absurd (true_not_false (sym e))
same_says (a ∷ u) (b ∷ v) e = let z = both (eqb a b) (same u v) e in λ i. eqb-true a b z.0 i ∷ same_says u v z.1 i

pub same_not : (u v : List ℕ) → (u ≡ v → ⊥) → same u v ≡ false
same_not u v n = split (same u v) (λ e. absurd (n (same_says u v e))) (λ e. e)

-- ---- a content has no tab and no LF
unfoldable pub Plain : List ℕ → Type 0
Plain [] = Unit {0}
Plain (b ∷ w) = (b ≡ tab_byte → ⊥) × (b ≡ lf_byte → ⊥) × Plain w

pub plain_append : (u v : List ℕ) → Plain u → Plain v → Plain (u ++ v)
unfolding Plain
plain_append [] v p q = q
plain_append (b ∷ u) v p q = (p.0, p.1, plain_append u v p.2 q)

-- the same as a test, for words that are written out
abbrev pub is_plain : List ℕ → Bool
is_plain [] = true
is_plain (b ∷ w) = pick (eqb b tab_byte) false (pick (eqb b lf_byte) false (is_plain w))

pub plain_of : (w : List ℕ) → is_plain w ≡ true → Plain w
unfolding Plain
plain_of [] e = tt
plain_of (b ∷ w) e =
    split (eqb b tab_byte) (λ g. absurd (true_not_false (sym (simp g at e))))
    (λ g. split (eqb b lf_byte) (λ h. absurd (true_not_false (sym (simp (g, h) at e)))) (λ h. (eqb-false b tab_byte g, eqb-false b lf_byte h, plain_of w (simp (g, h) at e))))

-- ---- the first field, and what comes after it
-- the fields after one that ends here
abbrev pub more_after : List ℕ → List (List ℕ)
more_after [] = []
more_after (b ∷ l) = pick (eqb b tab_byte) (fields_of l) []

pub record First (l : List ℕ) : Type 0 where
  pub word : List ℕ
  pub rest : List ℕ
  pub are : fields_of l ≡ word ∷ more_after rest
  pub is : l ≡ word ++ rest
  pub ends : ends_here rest ≡ true

first_more : (b : ℕ) (l : List ℕ) → First l → First (b ∷ l)
unfolding fields_of
first_more b l f = split (eqb b lf_byte) (λ e. lf (eqb-true b lf_byte e)) (λ e. split (eqb b tab_byte) (λ g. tab (eqb-true b tab_byte g)) (λ g. other e g))
  where
    lf : b ≡ lf_byte → First (b ∷ l)
    lf e = subst (λ (k : ℕ). First (k ∷ l)) (sym e) (record { word = []; rest = lf_byte ∷ l; are = refl; is = refl; ends = refl })

    tab : b ≡ tab_byte → First (b ∷ l)
    tab e = subst (λ (k : ℕ). First (k ∷ l)) (sym e) (record { word = []; rest = tab_byte ∷ l; are = refl; is = refl; ends = refl })

    other : eqb b lf_byte ≡ false → eqb b tab_byte ≡ false → First (b ∷ l)
    other e g = record { word = b ∷ f.word; rest = f.rest; are = simp (e, g, f.are); is = ap (λ (k : List ℕ). b ∷ k) f.is; ends = f.ends }

pub fields_first : (l : List ℕ) → First l
unfolding fields_of
fields_first [] = record { word = []; rest = []; are = refl; is = refl; ends = refl }
fields_first (b ∷ l) = first_more b l (fields_first l)

-- a content that stands and ends is the first field
pub fields_plain : (w rest : List ℕ) → Plain w → ends_here rest ≡ true → fields_of (w ++ rest) ≡ w ∷ more_after rest
unfolding fields_of Plain
fields_plain [] [] p e = refl
fields_plain [] (b ∷ l) p e = split (eqb b tab_byte) (λ g. tab (eqb-true b tab_byte g)) (λ g. let h : eqb b lf_byte ≡ true = simp g at e in simp (g, h))
  where
    tab : b ≡ tab_byte → fields_of (b ∷ l) ≡ [] ∷ more_after (b ∷ l)
    tab g = subst (λ (k : ℕ). fields_of (k ∷ l) ≡ [] ∷ more_after (k ∷ l)) (sym g) refl
fields_plain (b ∷ w) rest p e = simp (ne_eqb b lf_byte p.1, ne_eqb b tab_byte p.0, fields_plain w rest p.2 e)

-- what comes after bytes that stand
pub rest_at : (text w rest : List ℕ) (at : ℕ) → drop at text ≡ w ++ rest → drop (at + length w) text ≡ rest
rest_at text w rest at e = sym (drop-drop (length w) at text) ∙ ap (λ (l : List ℕ). drop (length w) l) e ∙ drop-append_seam w rest

module _ (text : List ℕ) (at : ℕ) where
  pub content_first : content_at text at ≡ (fields_first (drop at text)).word
  unfolding content_at
  content_first = ap first_of (fields_first (drop at text)).are

  -- the content stands here, and ends
  pub content_stands : (w : List ℕ) → content_at text at ≡ w → Stands text at w
  content_stands w e = let f = fields_first (drop at text) in record { rest = f.rest; is = f.is ∙ ap (λ (u : List ℕ). u ++ f.rest) (sym content_first ∙ e) }

  pub content_ends : (w : List ℕ) → content_at text at ≡ w → ends_here (drop (at + length w) text) ≡ true
  content_ends w e =
      let f = fields_first (drop at text) in
      ap ends_here (rest_at text w f.rest at (f.is ∙ ap (λ (u : List ℕ). u ++ f.rest) (sym content_first ∙ e))) ∙ f.ends

  -- the fields from here on, where the content is known
  pub content_fields : (w : List ℕ) → content_at text at ≡ w → fields_of (drop at text) ≡ w ∷ more_after (drop (at + length w) text)
  content_fields w e =
      let f = fields_first (drop at text) in
      f.are ∙ (λ i. (sym content_first ∙ e) i ∷ more_after (sym (rest_at text w f.rest at (f.is ∙ ap (λ (u : List ℕ). u ++ f.rest) (sym content_first ∙ e))) i))

  -- bytes with no tab and no LF that stand here and end here are the content
  pub content_is : (w : List ℕ) → Plain w → Stands text at w → ends_here (drop (at + length w) text) ≡ true → content_at text at ≡ w
  unfolding content_at
  content_is w p s e =
      ap (λ (l : List ℕ). first_of (fields_of l)) s.is
      ∙ ap first_of (fields_plain w s.rest p (ap ends_here (sym (rest_at text w s.rest at s.is)) ∙ e))

-- ---- a content that goes on
one_plain : (b : ℕ) (l : List ℕ) → ends_here (b ∷ l) ≡ false → Plain (b ∷ [])
unfolding Plain
one_plain b l e = (λ z. true_not_false (sym (simp (eq-eqb b tab_byte z)) ∙ e), λ z. true_not_false (sym (of_both (λ (y : Bool). y ≡ true) (eqb b tab_byte) true (eqb b lf_byte) refl (eq-eqb b lf_byte z)) ∙ e), tt)

first_on : (b : ℕ) (fs : List (List ℕ)) → first_of (on_first b fs) ≡ b ∷ first_of fs
first_on b [] = refl
first_on b (w ∷ ws) = refl

fields_on : (w l : List ℕ) → Plain w → first_of (fields_of (w ++ l)) ≡ w ++ first_of (fields_of l)
unfolding fields_of Plain
fields_on [] l p = refl
fields_on (b ∷ w) l p = simp (ne_eqb b lf_byte p.1, ne_eqb b tab_byte p.0) (first_on b (fields_of (w ++ l)) ∙ ap (λ (v : List ℕ). b ∷ v) (fields_on w l p.2))

-- bytes stand here and the content goes on after them
pub content_longer : (text : List ℕ) (at : ℕ) (w : List ℕ) → Plain w → Stands text at w → ends_here (drop (at + length w) text) ≡ false → (b : ℕ) × (u : List ℕ) × (content_at text at ≡ w ++ (b ∷ u))
unfolding content_at
content_longer text at w p s e = go s.rest (rest_at text w s.rest at s.is) (ap (λ (l : List ℕ). first_of (fields_of l)) s.is ∙ fields_on w s.rest p)
  where
    go : (l : List ℕ) → drop (at + length w) text ≡ l → first_of (fields_of (drop at text)) ≡ w ++ first_of (fields_of l) → (b : ℕ) × (u : List ℕ) × (first_of (fields_of (drop at text)) ≡ w ++ (b ∷ u))
    go [] q c = absurd (true_not_false (sym (ap ends_here q) ∙ e))
    go (b ∷ l) q c = (b, first_of (fields_of l), c ∙ ap (λ (v : List ℕ). w ++ v) (fields_on (b ∷ []) l (one_plain b l (sym (ap ends_here q) ∙ e))))

-- ---- whether a content ends at a place of a text
pub ends_out : (text : List ℕ) (at : ℕ) → length text ≤ at → true ≡ ends_here (drop at text)
ends_out text at h = sym (ap ends_here (drop_of_length-le text h))

pub ends_byte : (text : List ℕ) (at : ℕ) → at < length text → ends_here (drop at text) ≡ pick (eqb (get_or text at 0) tab_byte) true (eqb (get_or text at 0) lf_byte)
ends_byte text at h = ap ends_here (drop-cons text at 0 h)

-- ---- the first bad field
pub first_no : (t : List ℕ → Bool) (ts : Places) (n : ℕ) (w : List ℕ) (ws : List (List ℕ)) → t w ≡ false → first_bad (t ∷ ts) n (w ∷ ws) ≡ n
unfolding first_bad
first_no t ts n w ws e = rw e

pub first_yes : (t : List ℕ → Bool) (ts : Places) (n : ℕ) (w : List ℕ) (ws : List (List ℕ)) → t w ≡ true → first_bad (t ∷ ts) n (w ∷ ws) ≡ first_bad ts (suc n) ws
unfolding first_bad
first_yes t ts n w ws e = rw (e, first_bad)

none_there : (ts : Places) (n : ℕ) → first_bad ts n [] ≡ n
unfolding first_bad
none_there [] n = refl
none_there (t ∷ ts) n = refl

none_due : (ts : Places) (n : ℕ) (fs : List (List ℕ)) → ts ≡ [] → first_bad ts n fs ≡ n
unfolding first_bad
none_due ts n fs e = ap (λ (z : Places). first_bad z n fs) e

-- the number is at least the first field's, and at most one past the last place's
pub number_within : (ts : Places) (n : ℕ) (fs : List (List ℕ)) → (n ≤ first_bad ts n fs) × (first_bad ts n fs ≤ n + length ts)
unfolding first_bad
number_within [] n fs = (omega arith, omega arith)
number_within (t ∷ ts) n [] = (omega arith, omega arith)
number_within (t ∷ ts) n (w ∷ ws) =
    let z = number_within ts (suc n) ws in
    of_both (λ (k : ℕ). (n ≤ k) × (k ≤ n + length (t ∷ ts))) (t w) (first_bad ts (suc n) ws) n (omega (arith, z.0), omega (arith, z.1)) (omega arith, omega arith)

-- A test of a content, and the values whose spellings it allows.
pub record Tests {A : Type 0} (t : List ℕ → Bool) (spell : A → List ℕ) (Ok : A → Type 0) : Type 0 where
  pub yes : (x : A) → Ok x → t (spell x) ≡ true
  pub says : (w : List ℕ) → t w ≡ true → (x : A) × Ok x × (w ≡ spell x)
  pub plain : (x : A) → Ok x → Plain (spell x)

-- The number told from a place on, where field n is due there and passes the test t; what is due after it may depend on its content and on the fields after it.
abbrev pub number_at : (List ℕ → Bool) → (List ℕ → List (List ℕ) → Places) → ℕ → List ℕ → ℕ → ℕ
number_at t due n text at =
    first_bad (t ∷ due (first_of (fields_of (drop at text))) (drop 1 (fields_of (drop at text)))) n (fields_of (drop at text))

module _ (t : List ℕ → Bool) (due : List ℕ → List (List ℕ) → Places) (n : ℕ) (text : List ℕ) (at : ℕ) where
  -- by the content and what comes after it
  number_by : (w : List ℕ) → content_at text at ≡ w → number_at t due n text at ≡ first_bad (t ∷ due w (more_after (drop (at + length w) text))) n (w ∷ more_after (drop (at + length w) text))
  number_by w e = ap (λ (fs : List (List ℕ)). first_bad (t ∷ due (first_of fs) (drop 1 fs)) n fs) (content_fields text at w e)

  -- the content is not allowed: its own number
  pub number_here : t (content_at text at) ≡ false → number_at t due n text at ≡ n
  number_here e = number_by (content_at text at) refl ∙ first_no t (due (content_at text at) (more_after (drop (at + length (content_at text at)) text))) n (content_at text at) (more_after (drop (at + length (content_at text at)) text)) e

  module _ (w : List ℕ) (e : content_at text at ≡ w) (y : t w ≡ true) where
    number_after : number_at t due n text at ≡ first_bad (due w (more_after (drop (at + length w) text))) (suc n) (more_after (drop (at + length w) text))
    number_after = number_by w e ∙ first_yes t (due w (more_after (drop (at + length w) text))) n w (more_after (drop (at + length w) text)) y

    -- it is, and nothing is due after it: the next number
    pub number_last : ((fs : List (List ℕ)) → due w fs ≡ []) → number_at t due n text at ≡ suc n
    number_last d = number_after ∙ none_due (due w (more_after (drop (at + length w) text))) (suc n) (more_after (drop (at + length w) text)) (d (more_after (drop (at + length w) text)))

    -- it is, and no tab comes after it: the next number
    pub number_missing : {p : ℕ} → p ≡ at + length w → NoWord (tab_byte ∷ []) text p → number_at t due n text at ≡ suc n
    number_missing {p} q m = number_after ∙ (λ i. first_bad (due w (no_more i)) (suc n) (no_more i)) ∙ none_there (due w []) (suc n)
      where
        more : (l : List ℕ) → drop p text ≡ l → more_after l ≡ []
        more [] z = refl
        more (b ∷ l) z = split (eqb b tab_byte) (λ g. absurd (m tt tt (record { rest = l; is = z ∙ ap (λ (k : ℕ). k ∷ l) (eqb-true b tab_byte g) }))) (λ g. simp g)

        no_more : more_after (drop (at + length w) text) ≡ []
        no_more = ap (λ (k : ℕ). more_after (drop k text)) (sym q) ∙ more (drop p text) refl

    -- it is, and its tab: what the rest says
    pub number_later : {p q : ℕ} → p ≡ at + length w → GotWord (tab_byte ∷ []) text p q → number_at t due n text at ≡ first_bad (due w (fields_of (drop q text))) (suc n) (fields_of (drop q text))
    number_later {p} {q} z h = number_after ∙ (λ i. first_bad (due w (after i)) (suc n) (after i))
      where
        after : more_after (drop (at + length w) text) ≡ fields_of (drop q text)
        after =
            ap (λ (k : ℕ). more_after (drop k text)) (sym z) ∙ ap more_after h.stands.is
            ∙ ap fields_of (sym (ap (λ (k : ℕ). drop k text) h.next ∙ rest_at text (tab_byte ∷ []) h.stands.rest p h.stands.is))

-- ---- a test by the number that the digits give
pub spells_tests : (in_range : ℕ → Bool) (number : List ℕ → ℕ) (spell : ℕ → List ℕ) (Ok : ℕ → Type 0) → ((x : ℕ) → Ok x → in_range x ≡ true) → ((x : ℕ) → in_range x ≡ true → Ok x)
    → ((x : ℕ) → Ok x → number (spell x) ≡ x) → ((x : ℕ) → Ok x → Plain (spell x)) → Tests (spells in_range number spell) spell Ok
spells_tests in_range number spell Ok a b c d = record {
  yes = λ x o. let e = c x o in simp (ap in_range e ∙ a x o, ap (λ (m : ℕ). same (spell x) (spell m)) e ∙ same_refl (spell x));
  says = λ w e. let z = both (in_range (number w)) (same w (spell (number w))) e in (number w, b (number w) z.0, same_says w (spell (number w)) z.1);
  plain = d;
}
