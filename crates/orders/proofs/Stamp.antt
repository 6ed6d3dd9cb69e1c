-- What the branches of `bus_next` and `line_next` decide.
use mathlib.Core.Path.{◌≡◌, refl, sym, ap, subst, ◌∙◌}
use mathlib.Core.Bool.{Bool, false}
use mathlib.Core.List.{List, [], ◌∷◌, ◌++◌, append_assoc, append-nil}
use Prim.Native.Nat.{ℕ, ◌+◌, ◌≤◌, ◌<◌}
use native.Mathlib.Numerals.{add-one}
use native.Mathlib.Omega.{arith}
use lib.ListN.{length, take, drop, get_or, set, length-set}
use lib.Seq.{take-suc-set}
use Rattle.std.proofs.Common.{drop_of_length-le, drop-cons, length-take-le}
use Rattle.meaning.specs.Meaning.{F, most}
use Rattle.law.specs.Deciding.{Decides, decides_true, decides_false, decides_as}
use Rattle.law.specs.Rest.{rest_cons, rest_nil}
use Rattle.record.specs.declared.Board.{Board}
use Rattle.record.specs.declared.Record.{Record}
use Rattle.record.specs.declared.Skeleton.{Skeleton}
use Rattle.record.specs.declared.Skeleton.TheVariants.{Silent}
use Rattle.controls.specs.declared.Controls.{Controls}
use Rattle.controls.specs.declared.Moved.{Moved}
use Rattle.controls.specs.Play.{moved_of}
use Rattle.tied.specs.Orders.{Agree, AgreeBus, Order, done, bus_first, line_first, after, replies, buses_first, after_buses, said_buses, after_lines, AnyTwo}
use Rattle.tied.proofs.Orders.{after_reference, replies_reference, reference_two, two_reference, agree_none, none_agree, agree_both, agree_buses, agree_lines, bus_agree, line_agree, reply_agree, rest_agree, agree_rest}
use Rattle.orders.specs.declared.tying.Tied.{Tied}
use Rattle.orders.specs.declared.tying.Outcome.{Outcome}
use Rattle.orders.specs.Stamp.{BusesPlayed, Reference, Settled, played, bus, reply, line, buses_from, lines_from, AgreeFrom, BusAgrees, LineAgrees, Met}
use Rattle.orders.specs.Verdicts.{says}

-- there is room for every reply
all_told : (h : Tied) (w : Outcome) → h.buses.count ≤ length w.replies
all_told h w = let few = h.buses_few in let room = w.room in omega arith

module _ (h : Tied) (w : Outcome) (ib il : ℕ) (s : Controls) where
  -- none is left
  pub none_left : {b : Bool} → h.buses.count ≤ ib → h.lines.count ≤ il → Decides b (s ≡ w.controls) → Decides b (AgreeFrom h ib il s w)
  unfolding AgreeFrom
  none_left p q d =
      rw (rest_nil h.buses.records _ ib h.buses_in p, rest_nil h.lines.records _ il h.lines_in q, rest_nil w.replies _ ib (all_told h w) p)
      (decides_as d (λ e. agree_none (bus h) (reply h) (line h) s w.controls [] e refl) (none_agree (bus h) (reply h) (line h) s w.controls []))

  -- a bus record is left
  module _ (d : Record) (p : ib < h.buses.count) where
    pub bus_fails : Decides false (BusAgrees (get_or h.buses.records ib d) h ib il s w) → Decides false (AgreeFrom h ib il s w)
    unfolding AgreeFrom BusAgrees
    bus_fails n =
        decides_false (λ a. n.fails refl (bus_agree (bus h) (reply h) (line h) s w.controls _ (rw (rest_cons h.buses.records _ ib h.buses_in d p) at a)))

    pub buses_left : h.lines.count ≤ il → BusAgrees (get_or h.buses.records ib d) h ib il s w → AgreeFrom h ib il s w
    unfolding AgreeFrom BusAgrees
    buses_left q a =
        rw (rest_cons h.buses.records _ ib h.buses_in d p, rest_nil h.lines.records _ il h.lines_in q)
        (agree_buses (bus h) (reply h) (line h) s w.controls _ (rw (rest_nil h.lines.records _ il h.lines_in q) at a))

    pub both_left : {b : Bool} (e : Record) → il < h.lines.count → BusAgrees (get_or h.buses.records ib d) h ib il s w → Decides b (LineAgrees (get_or h.lines.records il e) h ib il s w) → Decides b (AgreeFrom h ib il s w)
    unfolding AgreeFrom BusAgrees LineAgrees
    both_left e q a l =
        let cs = rest_cons h.buses.records _ ib h.buses_in d p in
        let ls = rest_cons h.lines.records _ il h.lines_in e q in
        decides_as l
        (λ g. rw (cs, ls) (agree_both (bus h) (reply h) (line h) s w.controls _ (rw ls at a) (rw cs at g)))
        (λ g. line_agree (bus h) (reply h) (line h) s w.controls _ (rw ls at g))

  pub lines_left : {b : Bool} (e : Record) → h.buses.count ≤ ib → il < h.lines.count → Decides b (LineAgrees (get_or h.lines.records il e) h ib il s w) → Decides b (AgreeFrom h ib il s w)
  unfolding AgreeFrom LineAgrees
  lines_left e p q l =
      let bs = rest_nil h.buses.records _ ib h.buses_in p in
      let ls = rest_cons h.lines.records _ il h.lines_in e q in
      decides_as l
      (λ g. rw (bs, ls) (agree_lines (bus h) (reply h) (line h) s w.controls _ (rw bs at g)))
      (λ g. line_agree (bus h) (reply h) (line h) s w.controls _ (rw ls at g))

-- a bus record comes first: its reply is compared, then the rest
module _ (h : Tied) (w : Outcome) (ib il : ℕ) (s : Controls) (r : Record) (d : Skeleton) (p : ib < h.buses.count) (st : Moved) (e : st ≡ moved_of h.board s r) where
  pub reply_first : BusAgrees r h ib il s w → st.reply ≡ get_or w.replies ib d
  unfolding BusAgrees
  reply_first a =
      ap (λ (x : Moved). x.reply) e ∙
      reply_agree (bus h) (reply h) (line h) s w.controls r _ _ _ _ (rw (rest_cons w.replies _ ib (all_told h w) d p) at a)

  pub after_bus : {b : Bool} → st.reply ≡ get_or w.replies ib d → Decides b (AgreeFrom h (ib + 1) il st.controls w) → Decides b (BusAgrees r h ib il s w)
  unfolding AgreeFrom BusAgrees
  after_bus q g =
      let rs = rest_cons w.replies _ ib (all_told h w) d p in
      let e₀ : reply h s r ≡ get_or w.replies ib d = sym (ap (λ (x : Moved). x.reply) e) ∙ q in
      decides_as (rw e at g)
      (λ a. rw rs (agree_rest (bus h) (reply h) (line h) s w.controls r _ _ _ _ e₀ a))
      (λ a. rest_agree (bus h) (reply h) (line h) s w.controls r _ _ _ _ (rw rs at a))

-- of any records and replies, each as many as a count says, whatever may share a stamp: every order from two places on agrees, and every order that begins with one bus record
module _ (b : Board) (buses lines : List Record) (replies : List Skeleton) (bs ls : ℕ) (end : Controls) where
  abbrev pub Agrees : ℕ → ℕ → Controls → Type 0
  Agrees ib il s = Agree (played b) (says b) (played b) (drop ib (take bs buses)) (drop il (take ls lines)) s end (drop ib (take bs replies))

  abbrev pub Begins : Record → ℕ → ℕ → Controls → Type 0
  Begins r ib il s = AgreeBus (played b) (says b) (played b) r (drop (ib + 1) (take bs buses)) (drop il (take ls lines)) s end (drop ib (take bs replies))

  -- what every order of the rest, from where a record leads, says of the orders that begin with it, and the other way round
  module _ (told : bs ≤ length replies) (ib il : ℕ) (s : Controls) (r : Record) (p : ib < bs) where
    pub closing : (d : Skeleton) (m : Controls) → moved_of b s r ≡ record { controls = m; reply = get_or replies ib d } → Agrees (ib + 1) il m → Begins r ib il s
    closing d m e a =
        let goes : Agrees (ib + 1) il (played b s r) = subst (λ (x : Moved). Agrees (ib + 1) il x.controls) (sym e) a in
        rw (rest_cons replies _ ib told d p) (agree_rest (played b) (says b) (played b) s end r _ _ _ _ (ap (λ (x : Moved). x.reply) e) goes)

    bus_after : Begins r ib il s → Agrees (ib + 1) il (played b s r)
    bus_after a = rest_agree (played b) (says b) (played b) s end r _ _ _ _ (rw (rest_cons replies _ ib told Silent p) at a)

  module _ (all : ls ≤ length lines) (ib il : ℕ) (s : Controls) (d : Record) (q : il < ls) (n : Controls) (e : n ≡ played b s (get_or lines il d)) where
    line_after : Agrees ib il s → Agrees ib (il + 1) n
    line_after a = rw e (line_agree (played b) (says b) (played b) s end _ (rw (rest_cons lines _ il all d q) at a))

  -- where a bus record was played and then a line record
  pub meets : bs ≤ length replies → ls ≤ length lines → (ib il : ℕ) (s : Controls) (r : Record) → ib < bs → (d : Record) → il < ls → (m : Controls) → m ≡ played b (played b s r) (get_or lines il d) → Begins r ib il s → ib < bs → Agrees (ib + 1) (il + 1) m
  meets told all ib il s r p d q m e a _ = line_after all (ib + 1) il (played b s r) d q m e (bus_after told ib il s r p a)

-- the same of what is tied
module _ (h : Tied) (w : Outcome) (ib il : ℕ) where
  pub closing_tied : (s : Controls) (r : Record) (d : Skeleton) → ib < h.buses.count → (m : Controls) → moved_of h.board s r ≡ record { controls = m; reply = get_or w.replies ib d } → AgreeFrom h (ib + 1) il m w → BusAgrees r h ib il s w
  unfolding AgreeFrom BusAgrees
  closing_tied s r d p m e a = closing h.board h.buses.records h.lines.records w.replies h.buses.count h.lines.count w.controls (all_told h w) ib il s r p d m e a

  pub meets_tied : (s : Controls) (b : Record) → ib < h.buses.count → (d : Record) → il < h.lines.count → (m : Controls) → m ≡ line h (bus h s b) (get_or h.lines.records il d) → BusAgrees b h ib il s w → Met h ib il m w
  unfolding AgreeFrom BusAgrees Met
  meets_tied s b p d q m e a = meets h.board h.buses.records h.lines.records w.replies h.buses.count h.lines.count w.controls (all_told h w) h.lines_in ib il s b p d q m e a

  -- where the next line record follows
  pub meets_on : (m : Controls) (d : Record) → il + 1 < h.lines.count → (n : Controls) → n ≡ line h m (get_or h.lines.records (il + 1) d) → Met h ib il m w → Met h ib (il + 1) n w
  unfolding AgreeFrom Met
  meets_on m d q n e k = λ p. line_after h.board h.buses.records h.lines.records w.replies h.buses.count h.lines.count w.controls h.lines_in (ib + 1) (il + 1) m d q n e (k p)

beyond : {m n : ℕ} → m ≤ n → n < m → ⊥
beyond p q = omega arith

module _ (h : Tied) (w : Outcome) (ib il : ℕ) (m : Controls) where
  pub meets_none : h.buses.count ≤ ib → Met h ib il m w
  unfolding Met
  meets_none p = λ q. absurd (beyond p q)

  pub met : Met h ib il m w → ib < h.buses.count → AgreeFrom h (ib + 1) (il + 1) m w
  unfolding Met
  met k p = k p

pub after_line : (h : Tied) (w : Outcome) (ib il : ℕ) (s : Controls) (r : Record) (n : Controls) → n ≡ line h s r → {b : Bool} → Decides b (AgreeFrom h ib (il + 1) n w) → Decides b (LineAgrees r h ib il s w)
unfolding AgreeFrom LineAgrees
after_line h w ib il s r n e g = rw e at g

-- the loop over the bus records xs, at its head: `rs` has the replies so far, s is the state so far
pub record Playing (h : Tied) (xs : List Record) (s₀ : Controls) (rs : List Skeleton) (s : Controls) (i : ℕ) : Type 0 where
  pub long : length rs ≡ most F
  pub state : after_buses (bus h) (drop i xs) s ≡ after_buses (bus h) xs s₀
  pub said : take i rs ++ said_buses (bus h) (reply h) (drop i xs) s ≡ said_buses (bus h) (reply h) xs s₀

module _ (h : Tied) (xs : List Record) (is : xs ≡ buses_from h 0) (s₀ : Controls) (rs : List Skeleton) (s : Controls) (i : ℕ) (p : Playing h xs s₀ rs s i) where
  all_buses : length xs ≡ h.buses.count
  all_buses = rw is (length-take-le h.buses.count h.buses.records h.buses_in)

  pub playing_goes : (d : Record) (st : Moved) → st ≡ moved_of h.board s (get_or xs i d) → i < length xs → Playing h xs s₀ (set rs i st.reply) st.controls (i + 1)
  unfolding after_buses said_buses
  playing_goes d st e b =
      let few : h.buses.count ≤ most F = h.buses_few in
      let here : i < length rs = omega (arith, p.long, all_buses) in
      rw e (record {
        long = simp length-set p.long;
        state = rw add-one (rw (drop-cons xs i d) at p.state);
        said = rw (add-one, take-suc-set rs i _ here, append_assoc) (rw (drop-cons xs i d) at p.said);
      })

  pub playing_ends : length xs ≤ i → i ≤ length xs → (w : Outcome) → w.controls ≡ s → w.replies ≡ rs → BusesPlayed h s₀ w
  unfolding after_buses said_buses
  playing_ends b l w e f =
      let none = drop_of_length-le xs {i = i} b in
      let last : i ≡ h.buses.count = omega (arith, all_buses) in
      record {
        controls = e ∙ (rw (none, is) at p.state);
        replies = ap (take h.buses.count) f ∙ (rw (none, append-nil, last, is) at p.said);
      }

-- the loop over the line records xs
abbrev pub Lining : Tied → List Record → Controls → Controls → ℕ → Type 0
Lining h xs s₀ s i = after_lines (line h) (drop i xs) s ≡ after_lines (line h) xs s₀

module _ (h : Tied) (xs : List Record) (s₀ s : Controls) (i : ℕ) (p : Lining h xs s₀ s i) where
  pub lining_goes : (d : Record) (st : Moved) → st ≡ moved_of h.board s (get_or xs i d) → i < length xs → Lining h xs s₀ st.controls (i + 1)
  unfolding after_lines
  lining_goes d st e b = rw (e, add-one) (rw (drop-cons xs i d) at p)

  pub lining_ends : xs ≡ lines_from h 0 → length xs ≤ i → s ≡ after_lines (line h) (lines_from h 0) s₀
  unfolding after_lines
  lining_ends is b = rw (drop_of_length-le xs {i = i} b, is) at p

-- what follows the last step of the reference
pub referred : (h : Tied) (s l : Controls) (w : Outcome) → BusesPlayed h s w → l ≡ after_lines (line h) (lines_from h 0) w.controls → (v : Outcome) → v.controls ≡ l → v.replies ≡ w.replies → Reference h s v
referred h s l w p e v f g =
    record {
      controls = f ∙ e ∙ ap (after_lines (line h) (lines_from h 0)) p.controls ∙ sym (after_reference (bus h) (reply h) (line h) (buses_from h 0) (lines_from h 0) s);
      replies = ap (take h.buses.count) g ∙ p.replies ∙ sym (replies_reference (bus h) (reply h) (line h) (buses_from h 0) (lines_from h 0) s);
    }

-- to agree with the reference is to be settled
pub settles : (h : Tied) (s : Controls) (w : Outcome) → Reference h s w → {b : Bool} → Decides b (AgreeFrom h 0 0 s w) → Decides b (Settled h s)
unfolding AgreeFrom Settled
settles h s w r d =
    decides_as (rw (r.controls, r.replies) at d) (reference_two (bus h) (reply h) (line h) _ _ s) (two_reference (bus h) (reply h) (line h) _ _ s)

-- with no line record, or no bus record, there is one order only
alone : {S B L R : Type 0} (b : S → B → S) (r : S → B → R) (l : S → L → S) (bs : List B) (ls : List L) (s : S) → ((o : Order B L bs ls) → o ≡ buses_first bs ls) → AnyTwo b r l bs ls s
alone b r l bs ls s one o p =
    let e = one o ∙ sym (one p) in
    (ap (λ (x : Order _ _ bs ls). after b r l x s) e, ap (λ (x : Order _ _ bs ls). replies b r l x s) e)

no_lines : {B L : Type 0} (bs : List B) (o : Order B L bs []) → o ≡ buses_first bs []
unfolding buses_first
no_lines [] done = refl
no_lines (b ∷ bs) (bus_first o) = ap bus_first (no_lines bs o)

no_buses : {B L : Type 0} (ls : List L) (o : Order B L [] ls) → o ≡ buses_first [] ls
unfolding buses_first
no_buses [] done = refl
no_buses (l ∷ ls) (line_first o) = ap line_first (no_buses ls o)

module _ (h : Tied) (s : Controls) where
  pub lineless : h.lines.count ≡ 0 → Settled h s
  unfolding Settled
  lineless e =
      rw (rest_nil h.lines.records h.lines.count 0 h.lines_in (omega arith))
      (alone (bus h) (reply h) (line h) (buses_from h 0) [] s (no_lines (buses_from h 0)))

  pub busless : h.buses.count ≡ 0 → Settled h s
  unfolding Settled
  busless e =
      rw (rest_nil h.buses.records h.buses.count 0 h.buses_in (omega arith))
      (alone (bus h) (reply h) (line h) [] (lines_from h 0) s (no_buses (lines_from h 0)))
