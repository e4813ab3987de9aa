-- `opening` meets its contract: the reader's own numbers.
use Rattle.std.proofs.Common.{length}
use Rattle.std.proofs.lemmas.Result.{err_from_is_err_and}
use Rattle.reader.specs.Read.{opened_reader}
use Rattle.reader.proofs.opening.Goals as goal

pub returns-in_err-reader : goal.returns-in_err-reader
unfolding opened_reader
returns-in_err-reader c =
    let p = err_from_is_err_and c.from_residual.result c.from_residual.ensures.1 in
    let told = c.in_err-reader.ensures in
    rw (p.1, p.2) (λ i. record { refusal = told.2 i; length = length (told.0 i); place = 0 })

pub returns : goal.returns
unfolding opened_reader
returns c = let told = c.in_ok-reader.ensures in λ i. record { refusal = told.2 i; length = length (told.0 i); place = told.1 i }
