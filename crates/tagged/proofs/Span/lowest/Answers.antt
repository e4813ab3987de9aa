-- A's own group, or what the search finds.
use mathlib.Core.Path.{sym, ◌∙◌}
use native.Mathlib.Omega.{arith}
use Rattle.laws.proofs.Scan.{first_from-hit, first_from-none}
use Rattle.tagged.specs.Tagged.{is_tagged, lowest}
use Rattle.tagged.proofs.Marked.{tagged_is}
use Rattle.tagged.proofs.Refusals.{lowest-found, lowest-none}
use Rattle.tagged.proofs.Span.lowest.Goals as goal

pub returns-then-self : goal.returns-then-self
unfolding lowest
returns-then-self c =
    let s = c.args.self in
    let m = s.memory in
    lowest-none m.n m.bytes.now s.a s.b s.b (sym (first_from-none (is_tagged m.n m.bytes.now) s.a s.b (λ k h l. absurd (omega arith)))) (omega arith)

pub returns-then-plain_group-ne0 : goal.returns-then-plain_group-ne0
unfolding lowest
returns-then-plain_group-ne0 c =
    let s = c.args.self in
    let m = s.memory in
    lowest-found m.n m.bytes.now s.a s.b s.a
    (sym (first_from-hit (is_tagged m.n m.bytes.now) s.a s.b (omega arith) (tagged_is m.n m.bytes.now s.a (λ z. c.if-plain_group-ne0.true (c.plain_group.ensures ∙ z)))))
    (omega arith)
