use Rattle.std.proofs.Common.{rules}
use Rattle.field.proofs.Reading.{rest_some, rest_none}
use Rattle.field.proofs.WordLaws.{word_past, word_miss, word_here}
use Rattle.field.proofs.word.read_word.Goals.{in_default-via-in-Some+else-starts_with, in_default-via-in-None+else-is_empty}
use Rattle.field.proofs.word.read_word.Goals as goal

pub returns-in-Some : goal.returns-in-Some
returns-in-Some c = word_here _ _ _ _ (rest_some _ _ _ c.get.ensures.lookup c.in-Some.is) c.starts_with.ensures.value c.if-starts_with.true

pub returns-in_default : goal.returns-in_default
returns-in_default c = elim c.in_default.branch [
  | in_default-via-in-Some+else-starts_with w ↦ word_miss _ _ _ _ (rest_some _ _ _ c.get.ensures.lookup w.in-Some.is) w.starts_with.ensures.value w.if-starts_with.false
  | in_default-via-in-None+else-is_empty w ↦ word_past _ _ _ _ (rest_none _ _ c.get.ensures.lookup w.in-None.is) (search rules)
]
