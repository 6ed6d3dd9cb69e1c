-- What becomes of one byte under a list of entries: only programs of its page and erases that reach its sector change it.
use mathlib.Core.Path.{◌≡◌, refl, sym, ap, ◌∙◌, subst}
use mathlib.Core.Bool.{Bool, true, false, not}
use mathlib.Core.Logic.{◌⊎◌, inl, inr, ⊎_elim}
use mathlib.Core.List.{List, [], ◌∷◌, ◌++◌}
use Prim.Native.Nat.{ℕ, zero, suc, ◌/◌, ◌%◌, ◌≤◌, ◌<◌}
use native.Mathlib.Omega.{arith}
use lib.Bits.{bit_and, and_self}
use lib.Dec.{eqb, ltb}
use lib.ListN.{get_or}
use borrow.Author.Tests.{eqb-true, eqb-false, ltb-true, ltb-false}
use Rattle.law.specs.Words.{pick}
use Rattle.law.specs.Choice.{split, true_not_false}
use Rattle.cell.proofs.Disjoint.{and_assoc}
use Rattle.flash.specs.Code.{sector_of, sector_locked}
use Rattle.page.specs.Geometry.{flash_page}
use Rattle.fewest.specs.Below.{joined_below}
use Rattle.fewest.specs.Entries.{Entry, sector_erase, chip_erase, program, starts, byte_after, byte_after_all, has, is_chip_erase}

-- ---- what holds of an entry of a list

pub has_if : (f g : Entry → Bool) → ((o : Entry) → f o ≡ true → g o ≡ true) → (os : List Entry) → has f os ≡ true → has g os ≡ true
unfolding has
has_if f g h [] e = e
has_if f g h (o ∷ os) e =
    split (f o) (λ t. rw (h o t) refl)
    (λ t. split (g o) (λ u. rw u refl) (λ u. rw u (has_if f g h os (rw t at e))))

pub has_either : (f g h : Entry → Bool) → ((o : Entry) → f o ≡ true → (g o ≡ true) ⊎ (h o ≡ true))
    → (os : List Entry) → has f os ≡ true → (has g os ≡ true) ⊎ (has h os ≡ true)
unfolding has
has_either f g h w [] e = inl e
has_either f g h w (o ∷ os) e =
    split (f o) (λ t. ⊎_elim (λ (u : g o ≡ true). inl (rw u refl)) (λ (u : h o ≡ true). inr (rw u refl)) (w o t))
    (λ t.
    ⊎_elim (λ (u : has g os ≡ true). inl (later g o os u)) (λ (u : has h os ≡ true). inr (later h o os u))
    (has_either f g h w os (rw t at e)))
  where
    later : (g : Entry → Bool) (o : Entry) (os : List Entry) → has g os ≡ true → has g (o ∷ os) ≡ true
    later g o os u = split (g o) (λ t. rw t refl) (λ t. rw (t, u) refl)

pub has_none : (f : Entry → Bool) (o : Entry) (os : List Entry) → has f (o ∷ os) ≡ false → (f o ≡ false) × (has f os ≡ false)
unfolding has
has_none f o os e = split (f o) (λ t. absurd (true_not_false (rw t at e))) (λ t. (t, rw t at e))

-- ---- which entries are cycles of a page, of a sector, of the chip

module _ (status : ℕ) where
  abbrev pub programs_page : ℕ → Entry → Bool
  programs_page n (sector_erase s) = false
  programs_page n chip_erase = false
  programs_page n (program m bytes) = pick (starts status (program m bytes)) (eqb n m) false

  abbrev pub erases_sector : ℕ → Entry → Bool
  erases_sector s (sector_erase t) = pick (starts status (sector_erase t)) (eqb s t) false
  erases_sector s chip_erase = false
  erases_sector s (program m bytes) = false

  abbrev pub erases_chip : Entry → Bool
  erases_chip (sector_erase t) = false
  erases_chip chip_erase = starts status chip_erase
  erases_chip (program m bytes) = false

  -- an erase that reaches sector s
  abbrev pub clears : ℕ → Entry → Bool
  clears s (sector_erase t) = pick (starts status (sector_erase t)) (eqb s t) false
  clears s chip_erase = pick (starts status chip_erase) (not (sector_locked status s)) false
  clears s (program m bytes) = false

  pub clears_if_sector : (s : ℕ) (o : Entry) → erases_sector s o ≡ true → clears s o ≡ true
  clears_if_sector s (sector_erase t) e = e
  clears_if_sector s chip_erase e = absurd (true_not_false (sym e))
  clears_if_sector s (program m bytes) e = absurd (true_not_false (sym e))

  pub clears_if_chip : (s : ℕ) → sector_locked status s ≡ false → (o : Entry) → erases_chip o ≡ true → clears s o ≡ true
  clears_if_chip s u (sector_erase t) e = absurd (true_not_false (sym e))
  clears_if_chip s u chip_erase e = rw (e, u) refl
  clears_if_chip s u (program m bytes) e = absurd (true_not_false (sym e))

  first_true : (a b : Bool) → pick a b false ≡ true → a ≡ true
  first_true true b e = refl
  first_true false b e = e

  pub sector_or_chip : (s : ℕ) (o : Entry) → clears s o ≡ true → (erases_sector s o ≡ true) ⊎ (erases_chip o ≡ true)
  sector_or_chip s (sector_erase t) e = inl e
  sector_or_chip s chip_erase e = inr (first_true _ _ e)
  sector_or_chip s (program m bytes) e = absurd (true_not_false (sym e))

  pub chip_erase_is : (o : Entry) → erases_chip o ≡ true → is_chip_erase o ≡ true
  chip_erase_is (sector_erase t) e = e
  chip_erase_is chip_erase e = refl
  chip_erase_is (program m bytes) e = e

  -- ---- one byte

  -- what a program brings for place k
  abbrev pub brings : Entry → ℕ → ℕ
  brings (sector_erase s) k = 0
  brings chip_erase k = 0
  brings (program n bytes) k = get_or bytes (k % flash_page) 0

  merge : (a b : Bool) (x v : ℕ) → pick a (pick b x v) v ≡ pick (pick a b false) x v
  merge true b x v = refl
  merge false b x v = refl

  pub byte_after_lem : (o : Entry) (k v : ℕ)
      → byte_after status o k v ≡ pick (clears (sector_of k) o) 255 (pick (programs_page (k / flash_page) o) (bit_and v (brings o k)) v)
  byte_after_lem (sector_erase s) k v = merge (starts status (sector_erase s)) (eqb (sector_of k) s) 255 v
  byte_after_lem chip_erase k v = merge (starts status chip_erase) (not (sector_locked status (sector_of k))) 255 v
  byte_after_lem (program n bytes) k v = merge (starts status (program n bytes)) (eqb (k / flash_page) n) (bit_and v (brings (program n bytes) k)) v

  pub after_append : (xs ys : List Entry) (k v : ℕ) → byte_after_all status (xs ++ ys) k v ≡ byte_after_all status ys k (byte_after_all status xs k v)
  unfolding byte_after_all
  after_append [] ys k v = refl
  after_append (o ∷ xs) ys k v = after_append xs ys k (byte_after status o k v)

  -- no program of its page and no erase: the byte stays
  pub stays : (os : List Entry) (k v : ℕ) → has (programs_page (k / flash_page)) os ≡ false → has (clears (sector_of k)) os ≡ false
      → byte_after_all status os k v ≡ v
  unfolding byte_after_all
  stays [] k v p c = refl
  stays (o ∷ os) k v p c =
      let p2 = has_none (programs_page (k / flash_page)) o os p in
      let c2 = has_none (clears (sector_of k)) o os c in
      let here : byte_after status o k v ≡ v = byte_after_lem o k v ∙ rw (c2.0, p2.0) refl in
      ap (λ (x : ℕ). byte_after_all status os k x) here ∙ stays os k v p2.1 c2.1

  -- no program of its page, and an erase: the byte is ff
  pub blanked : (os : List Entry) (k v : ℕ) → has (programs_page (k / flash_page)) os ≡ false → has (clears (sector_of k)) os ≡ true
      → byte_after_all status os k v ≡ 255
  unfolding byte_after_all has
  blanked [] k v p c = absurd (true_not_false (sym c))
  blanked (o ∷ os) k v p c =
      let p2 = has_none (programs_page (k / flash_page)) o os p in
      split (has (clears (sector_of k)) os) (λ t. blanked os k (byte_after status o k v) p2.1 t)
      (λ t. split (clears (sector_of k) o)
      (λ u.
      let here : byte_after status o k v ≡ 255 = byte_after_lem o k v ∙ rw u refl in
      stays os k (byte_after status o k v) p2.1 t ∙ here)
      (λ u. absurd (true_not_false (sym (rw (u, t) at c)))))

  -- w has no bit that v has not
  abbrev pub Under : ℕ → ℕ → Type 0
  Under w v = bit_and v w ≡ w

  under_and : (v d : ℕ) → Under (bit_and v d) v
  under_and v d = sym (and_assoc v v d) ∙ ap (λ (x : ℕ). bit_and x d) (and_self v)

  under_trans : (w u v : ℕ) → Under w u → Under u v → Under w v
  under_trans w u v a b = ap (bit_and v) (sym a) ∙ sym (and_assoc v u w) ∙ ap (λ (x : ℕ). bit_and x w) b ∙ a

  -- no erase: no bit rises
  pub falls : (os : List Entry) (k v : ℕ) → has (clears (sector_of k)) os ≡ false → Under (byte_after_all status os k v) v
  unfolding byte_after_all
  falls [] k v c = and_self v
  falls (o ∷ os) k v c =
      let c2 = has_none (clears (sector_of k)) o os c in
      let here : Under (byte_after status o k v) v =
      subst (λ (x : ℕ). Under x v) (sym (byte_after_lem o k v ∙ rw c2.0 refl))
      (either (programs_page (k / flash_page) o) (bit_and v (brings o k)) v (under_and v (brings o k)) (and_self v)) in
      under_trans (byte_after_all status os k (byte_after status o k v)) (byte_after status o k v) v (falls os k (byte_after status o k v) c2.1) here
    where
      either : (t : Bool) (a v : ℕ) → Under a v → Under v v → Under (pick t a v) v
      either true a v p q = p
      either false a v p q = q

  -- ---- lists laid one after the other, of which one alone changes the byte

  pub joined_none : (n m k v : ℕ) (f : ℕ → List Entry) → ((i x : ℕ) → (i ≡ m → ⊥) → byte_after_all status (f i) k x ≡ x)
      → n ≤ m → byte_after_all status (joined_below n f) k v ≡ v
  unfolding joined_below byte_after_all
  joined_none zero m k v f h l = refl
  joined_none (suc n) m k v f h l =
      after_append (joined_below n f) (f n) k v
      ∙ h n (byte_after_all status (joined_below n f) k v) (λ (e : n ≡ m). omega arith)
      ∙ joined_none n m k v f h (omega arith)

  pub joined_one : (n m k v : ℕ) (f : ℕ → List Entry) → ((i x : ℕ) → (i ≡ m → ⊥) → byte_after_all status (f i) k x ≡ x)
      → m < n → byte_after_all status (joined_below n f) k v ≡ byte_after_all status (f m) k v
  unfolding joined_below
  joined_one zero m k v f h l = absurd (omega arith)
  joined_one (suc n) m k v f h l =
      after_append (joined_below n f) (f n) k v
      ∙ split (eqb n m)
      (λ t.
      let e = eqb-true n m t in
      ap (λ (x : ℕ). byte_after_all status (f n) k x) (joined_none n m k v f h (omega arith)) ∙ ap (λ (i : ℕ). byte_after_all status (f i) k v) e)
      (λ t.
      let ne = eqb-false n m t in
      h n (byte_after_all status (joined_below n f) k v) ne ∙ joined_one n m k v f h (below n m l ne))
    where
      below : (n m : ℕ) → m < suc n → (n ≡ m → ⊥) → m < n
      below n m l ne = split (ltb m n) (λ t. ltb-true m n t) (λ t. let g = ltb-false m n t in absurd (ne (omega arith)))
