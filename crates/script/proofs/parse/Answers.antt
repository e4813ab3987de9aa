-- `script::parse` meets its contract: by the line's length.
use mathlib.Core.Path.{◌∙◌}
use Rattle.script.proofs.Lines.{too_long, not-too-long}
use Rattle.script.proofs.parse.Goals as goal

pub returns-then-line-le64 : goal.returns-then-line-le64
returns-then-line-le64 c = c.of_fields.ensures ∙ not-too-long _ c.if-line-le64.true

pub returns-else-line-le64 : goal.returns-else-line-le64
returns-else-line-le64 c = too_long _ c.if-line-le64.false
