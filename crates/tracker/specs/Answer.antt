-- What a call says, in 01's words, numbers and values.
use Rattle.std.specs.Prelude.{ℕ}
use Rattle.tracker.specs.declared.Answer.{Answer}
use Rattle.tracker.specs.declared.Answer.TheVariants.{Accepted, Wait, Moved, Read, Done, Same, No}

-- `ok`, `wait`, `moved`, `read V turns K`, `done turns K`, `same turns K` or `no C`
pub data Said : Type 0 where
  ok : Said
  wait : Said
  moved : Said
  read : (v k : ℕ) → Said
  done : (k : ℕ) → Said
  same : (k : ℕ) → Said
  no : (c : ℕ) → Said

-- what each case of an answer says
abbrev pub says : Answer → Said
says Accepted = ok
says Wait = wait
says Moved = moved
says (Read v k) = read v k
says (Done k) = done k
says (Same k) = same k
says (No c) = no c
