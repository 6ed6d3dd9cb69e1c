-- Believed: The replies line by line: each line takes the next of its channel's replies.
use Rattle.std.specs.Prelude.{List, [], ◌∷◌, ◌++◌, take, drop}
use Rattle.law.specs.Words.{pick}
use Rattle.meaning.specs.Meaning.{Channel, same, Rules, Outcome}

module _ {A S R : Type 0} (m : Rules A S R) where
  -- the replies to the lines as written, each in its place
  unfoldable pub said : List A → S → List R
  said [] s = []
  said (a ∷ o) s = m.says s a ∷ said o (m.play s a)

  -- an outcome's replies, each at its line: a line takes the next of its channel's, and leaves the rest
  unfoldable pub laid : List A → (Channel → List R) → List R
  laid [] f = []
  laid (a ∷ rs) f = take 1 (f (m.channel a)) ++ laid rs (λ c. pick (same c (m.channel a)) (drop 1 (f c)) (f c))

  abbrev pub shown_at : List A → Outcome S R → List R
  shown_at rs v = laid rs v.replies
