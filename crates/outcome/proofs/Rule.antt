-- A step that leaves what one rule says leaves what an equal rule says.
use mathlib.Core.Path.{◌≡◌, sym, ◌∙◌}
use Rattle.rules.specs.Step.{Turned}

pub by-rule : {want rule left : Turned} → want ≡ rule → left ≡ rule → left ≡ want
by-rule e s = s ∙ sym e
