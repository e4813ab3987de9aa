-- DEMAND 1, one result: of any result, and any two, that a function's contract allows for one input. The contract is the one that is proved of the code, not a copy of it.
use Rattle.std.specs.Prelude.{List, ℕ}
use contract.Lifetimes.{Lfts}
use borrow.Fn.Kinds.{ParamKind, ResultKind, Dens, res_t, ended_of, Out}
use denote.Triple.Clauses.{AtExit}

-- P holds of any two answers x and y, with the parameters as they are left, s and t
abbrev pub OfAnyTwo : {n : ℕ} (ps : List (ParamKind n)) (r : ResultKind n) → Out n ps r → ((κs : Lfts n) (x y : (res_t r κs).Denot) (s t : AtExit (ended_of n ps r) κs) → Type 0) → Type 0
OfAnyTwo {n} ps r post P = (κs : Lfts n) (a : Dens κs ps) (x y : (res_t r κs).Denot) (s t : AtExit (ended_of n ps r) κs) → post κs a x s → post κs a y t → P κs x y s t

-- P holds of any answer x to the arguments a, with the parameters as they are left, s
abbrev pub OfAny : {n : ℕ} (ps : List (ParamKind n)) (r : ResultKind n) → Out n ps r → ((κs : Lfts n) (a : Dens κs ps) (x : (res_t r κs).Denot) (s : AtExit (ended_of n ps r) κs) → Type 0) → Type 0
OfAny {n} ps r post P = (κs : Lfts n) (a : Dens κs ps) (x : (res_t r κs).Denot) (s : AtExit (ended_of n ps r) κs) → post κs a x s → P κs a x s
