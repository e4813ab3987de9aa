-- `script::of_fields` meets its contract: by how many times the line is cut, and by its letter.
use mathlib.Core.Path.{◌∙◌, sym}
use Rattle.script.proofs.Lines.{drain-line, no-drain-line, step_line_lem, no-step-line, no-three, new_line_lem, read-line, no-four-line, no_six, write-line, no-write-line}
use Rattle.script.proofs.of_fields.Goals as goal

pub returns-then-is_letter : goal.returns-then-is_letter
returns-then-is_letter c = drain-line _ c.in_default.ensures (sym c.if-is_letter.ensures)

pub returns-else-is_letter : goal.returns-else-is_letter
returns-else-is_letter c = no-drain-line _ c.in_default.ensures (sym c.if-is_letter.ensures)

pub returns-then-is_letter-2 : goal.returns-then-is_letter-2
returns-then-is_letter-2 c =
    rw c.in-Some.ensures (c.step_line.ensures ∙ step_line_lem _ c.in_default-cut.ensures _ (sym c.if-is_letter-2.ensures))

pub returns-else-is_letter-2 : goal.returns-else-is_letter-2
returns-else-is_letter-2 c =
    rw c.in-Some.ensures (no-step-line _ c.in_default-cut.ensures _ (sym c.if-is_letter-2.ensures))

pub returns-in_err-c : goal.returns-in_err-c
returns-in_err-c c =
    rw (c.from_residual.ensures, c.in-Some.ensures, c.in-Some-cut.ensures) (no-three _ c.in_err-c.ensures _ _)

pub returns-then-is_letter-3 : goal.returns-then-is_letter-3
returns-then-is_letter-3 c =
    rw (c.in-Some.ensures, c.in-Some-cut.ensures, c.in_ok-c.ensures)
    (c.new_line.ensures ∙ new_line_lem _ c.in_default-cut-2.ensures _ _ _ (sym c.if-is_letter-3.ensures))

pub returns-then-is_letter-4 : goal.returns-then-is_letter-4
returns-then-is_letter-4 c =
    rw (c.in-Some.ensures, c.in-Some-cut.ensures, c.in_ok-c.ensures)
    (c.read_line.ensures ∙ read-line _ c.in_default-cut-2.ensures _ _ _ (sym c.if-is_letter-3.ensures) (sym c.if-is_letter-4.ensures))

pub returns-else-is_letter-4 : goal.returns-else-is_letter-4
returns-else-is_letter-4 c =
    rw (c.in-Some.ensures, c.in-Some-cut.ensures, c.in_ok-c.ensures)
    (no-four-line _ c.in_default-cut-2.ensures _ _ _ (sym c.if-is_letter-3.ensures) (sym c.if-is_letter-4.ensures))

pub returns-in-None : goal.returns-in-None
returns-in-None c =
    rw (c.in-Some.ensures, c.in-Some-cut.ensures, c.in_ok-c.ensures, c.in-Some-cut-2.ensures)
    (c.write_line.ensures ∙ write-line _ c.in-None.ensures _ _ _ _ (sym c.if-is_letter-5.ensures))

pub returns-in-None-2 : goal.returns-in-None-2
returns-in-None-2 c =
    rw (c.in-Some.ensures, c.in-Some-cut.ensures, c.in_ok-c.ensures, c.in-Some-cut-2.ensures)
    (no-write-line _ c.in-None.ensures _ _ _ _ (sym c.if-is_letter-5.ensures))

pub returns-in-Some-cut-3 : goal.returns-in-Some-cut-3
returns-in-Some-cut-3 c =
    rw (c.in-Some.ensures, c.in-Some-cut.ensures, c.in_ok-c.ensures, c.in-Some-cut-2.ensures, c.in-Some-cut-3.ensures)
    (no_six _ _ _ _ _ _)
