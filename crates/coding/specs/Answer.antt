-- What a call says, as words: the number that it gives, and the words of a step's answer.
use Rattle.std.specs.Prelude.{List, [], ◌∷◌, ℕ, ◌+◌, eqb}
use Rattle.laws.specs.Choice.{pick}
use Rattle.tracker.specs.declared.Transfers.{Transfers}
use Rattle.tracker.specs.Answer.{Said, ok, wait, moved, read, done, same, no}

-- "0 .. or 4,294,967,296 plus the refusal"
abbrev pub refused_by : ℕ → ℕ
refused_by c = 4294967296 + c

abbrev pub number_of : Said → ℕ
number_of ok = 0
number_of wait = 0
number_of moved = 0
number_of (read v k) = 0
number_of (done k) = 0
number_of (same k) = 0
number_of (no c) = refused_by c

-- "`answer` has 6 words: what was said .., the value, the turns", the blocks fetched and written back, and one that is 0
abbrev pub answer_words : ℕ
answer_words = 6

abbrev pub answer_of : ℕ → ℕ → ℕ → Transfers → List ℕ
answer_of said v k t = said ∷ v ∷ k ∷ t.fetched ∷ t.back ∷ 0 ∷ []

-- "1 wait, 2 moved, 3 read, 4 done, 5 same"; an accepted issue or drain is 0, and a refusal the number that its call gives
abbrev pub said_coded : Said → Transfers → List ℕ
said_coded ok t = answer_of 0 0 0 t
said_coded wait t = answer_of 1 0 0 t
said_coded moved t = answer_of 2 0 0 t
said_coded (read v k) t = answer_of 3 v k t
said_coded (done k) t = answer_of 4 0 k t
said_coded (same k) t = answer_of 5 0 k t
said_coded (no c) t = answer_of (refused_by c) 0 0 t

-- the words of a step's answer; refused, they stay as they came
abbrev pub answer_coded : Said → Transfers → List ℕ → List ℕ
answer_coded s t w = pick (eqb (number_of s) 0) (said_coded s t) w
