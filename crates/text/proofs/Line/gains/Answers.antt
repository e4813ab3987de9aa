-- `text::Line::gains` meets its contract: the transfers of an ending, or nothing.
use mathlib.Core.Logic.{⊎_elim}
use Rattle.text.proofs.Lines.{gains-ok, gains-wait, gains-moved, gains-read, gains-done, gains-same, gains-no, gains-none, gains-put}
use Rattle.text.proofs.Line.gains.Goals as goal

pub returns-in-Read : goal.returns-in-Read
returns-in-Read c =
    let a = c.args in
    gains-put a.answer a.transfers a.self.now c.transfers.new.self
    (⊎_elim (λ p. gains-read _ _ p.0 p.1 p.2) (λ p. ⊎_elim (λ q. gains-done _ _ q.0 q.1) (λ q. gains-same _ _ q.0 q.1) p) c.in-Read.is)
    c.transfers.ensures

pub returns-in-Accepted : goal.returns-in-Accepted
returns-in-Accepted c =
    let a = c.args in
    gains-none a.answer a.transfers a.self.now
    (⊎_elim (λ p. gains-ok _ _ p)
    (λ p. ⊎_elim (λ q. gains-wait _ _ q) (λ q. ⊎_elim (λ r. gains-moved _ _ r) (λ r. gains-no _ _ r.0 r.1) q) p) c.in-Accepted.is)
