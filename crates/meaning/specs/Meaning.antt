-- Believed: What the demand says, in its own words. Nothing here computes a replay.
use Rattle.std.specs.Prelude.{◌≡◌, Bool, true, List, [], ◌∷◌, ℕ, ◌<◌, length, leb, ltb, eqb}
use Rattle.law.specs.Words.{filter, keep, Rising}

pub data Channel : Type 0 where
  F E L : Channel

-- channels are told apart by their numbers
abbrev pub number : Channel → ℕ
number F = 0
number E = 1
number L = 2

abbrev pub same : Channel → Channel → Bool
same c d = eqb (number c) (number d)

-- the most records of a channel that may share a stamp
abbrev pub most : Channel → ℕ
most F = 8
most E = 8
most L = 2

-- the machine: A a record of the trace, S its state, R a reply
pub record Rules (A S R : Type 0) : Type 0 where
  pub channel : A → Channel
  pub stamp : A → ℕ
  pub play : S → A → S
  pub says : S → A → R
  pub lost : S → Bool

-- how an order ends: the machine's state, and each channel's replies in the channel's own order
pub record Outcome (S R : Type 0) : Type 0 where
  pub state : S
  pub replies : Channel → List R

pub data Reason : Type 0 where
  crowded differ lost : Reason

-- what a replay says
pub data Answer (S R : Type 0) : Type 0 where
  settled : Outcome S R → Answer S R
  stopped : Reason → ℕ → Outcome S R → Answer S R

module _ {A S R : Type 0} (m : Rules A S R) where
  -- the records of one channel
  abbrev pub of : Channel → List A → List A
  of c rs = filter (λ (a : A). same c (m.channel a)) rs

  -- no later record has an earlier stamp
  abbrev pub NeverBack : List A → Type 0
  NeverBack rs = Rising m.stamp rs

  -- o is an allowed order of rs: each channel's own order is kept, and no stamp goes back
  pub record Allowed (rs o : List A) : Type 0 where
    pub keeps : (c : Channel) → of c o ≡ of c rs
    pub onward : NeverBack o

  -- the state after an order, and a channel's replies in it
  unfoldable pub after : List A → S → S
  after [] s = s
  after (a ∷ o) s = after o (m.play s a)

  unfoldable pub replies : Channel → List A → S → List R
  replies c [] s = []
  replies c (a ∷ o) s = keep (same c (m.channel a)) (m.says s a) (replies c o (m.play s a))

  abbrev pub outcome : List A → S → Outcome S R
  outcome o s = record { state = after o s; replies = λ c. replies c o s }

  -- the records so far by a stamp, those before it, and its own
  abbrev pub upto : ℕ → List A → List A
  upto t rs = filter (λ (a : A). leb (m.stamp a) t) rs

  abbrev pub before : ℕ → List A → List A
  before t rs = filter (λ (a : A). ltb (m.stamp a) t) rs

  abbrev pub at : ℕ → List A → List A
  at t rs = filter (λ (a : A). eqb (m.stamp a) t) rs

  -- every allowed order of rs ends so
  unfoldable pub Agreed : List A → S → Outcome S R → Type 0
  Agreed rs s v = (o : List A) → Allowed rs o → outcome o s ≡ v

  -- any two allowed orders of rs end alike
  unfoldable pub Alike : List A → S → Type 0
  Alike rs s = (o p : List A) → Allowed rs o → Allowed rs p → outcome o s ≡ outcome p s

  -- the three reasons at a stamp t of the trace rs, played from s
  unfoldable pub Crowded : List A → ℕ → Type 0
  Crowded rs t = (c : Channel) × (most c < length (of c (at t rs)))

  unfoldable pub Differ : List A → S → ℕ → Type 0
  Differ rs s t = Alike (upto t rs) s → ⊥

  -- an allowed order of the records so far ends with the status lost (where none differ: then each does)
  unfoldable pub Lost : List A → S → ℕ → Type 0
  Lost rs s t = (o : List A) × Allowed (upto t rs) o × (m.lost (after o s) ≡ true)

  unfoldable pub Holds : List A → S → Reason → ℕ → Type 0
  Holds rs s crowded t = Crowded rs t
  Holds rs s differ t = Differ rs s t
  Holds rs s lost t = Lost rs s t

  -- n is the first of the reasons that holds at t
  unfoldable pub FirstReason : List A → S → Reason → ℕ → Type 0
  FirstReason rs s crowded t = Crowded rs t
  FirstReason rs s differ t = (Crowded rs t → ⊥) × Differ rs s t
  FirstReason rs s lost t = (Crowded rs t → ⊥) × (Differ rs s t → ⊥) × Lost rs s t

  -- no reason holds at t
  unfoldable pub Passes : List A → S → ℕ → Type 0
  Passes rs s t = (n : Reason) → Holds rs s n t → ⊥

  -- t is the earliest stamp at which a reason holds, and n the first that holds there
  pub record Earliest (rs : List A) (s : S) (n : Reason) (t : ℕ) : Type 0 where
    pub here : FirstReason rs s n t
    pub none_before : (u : ℕ) → u < t → Passes rs s u

  -- the demand: what an answer must be
  unfoldable pub Means : List A → S → Answer S R → Type 0
  Means rs s (settled v) = ((t : ℕ) → Passes rs s t) × Agreed rs s v
  Means rs s (stopped n t v) = Earliest rs s n t × Agreed (before t rs) s v
