-- What comes first, then what follows.
use mathlib.Core.List.{◌++◌}
use Rattle.meaning.specs.Meaning.{Outcome, Answer, settled, stopped}

abbrev pub and_then : {S R : Type 0} → Outcome S R → Outcome S R → Outcome S R
and_then v w = record { state = w.state; replies = λ c. v.replies c ++ w.replies c }

unfoldable pub goes_on : {S R : Type 0} → Outcome S R → Answer S R → Answer S R
goes_on v (settled w) = settled (and_then v w)
goes_on v (stopped n t w) = stopped n t (and_then v w)
