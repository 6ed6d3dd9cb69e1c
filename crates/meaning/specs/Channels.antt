-- The channels in a list, what is summed over them, and the part of one.
use Rattle.std.specs.Prelude.{List, [], ◌∷◌, ℕ, ◌+◌}
use Rattle.law.specs.Words.{filter}
use Rattle.meaning.specs.Meaning.{Channel, F, E, L, same, most}

abbrev pub channels : List Channel
channels = F ∷ (E ∷ (L ∷ []))

abbrev pub sum_over : List Channel → (Channel → ℕ) → ℕ
sum_over [] f = 0
sum_over (c ∷ cs) f = f c + sum_over cs f

abbrev pub sum : (Channel → ℕ) → ℕ
sum f = sum_over channels f

-- the most records that may share a stamp
abbrev pub most_in_all : ℕ
most_in_all = sum most

-- the part of one channel, of what has one
abbrev pub of_channel : {A : Type 0} → (A → Channel) → Channel → List A → List A
of_channel {A} channel c l = filter (λ (a : A). same c (channel a)) l
