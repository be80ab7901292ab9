-- The ones of a text (document 01: the holes of the chain), and what counting them answers. These are definitions.
use Rattle.std.specs.Prelude.{List, [], ◌∷◌, ℕ, ◌+◌, length}
use Rattle.std.specs.Int.Count.{ones}
use Rattle.answers.specs.Answers.{counted, answered}
use Rattle.answers.specs.Refusals.{first_of, text_refusal}
use Rattle.answers.specs.declared.Answer.{Answer}

-- the holes of a card are the ones of its byte; the holes of the chain are those of its cards
unfoldable pub ones_of : (t : List ℕ) → ℕ
ones_of [] = 0
ones_of (c ∷ cs) = ones c + ones_of cs

-- the status of counting: 6
unfoldable pub count_status : (n : ℕ) → ℕ
count_status n = first_of (text_refusal n ∷ [])

-- counting works out only the holes
unfoldable pub count_answer : (t : List ℕ) → Answer
count_answer t = answered (count_status (length t)) (counted (ones_of t))
