-- The true test of a word, from its lowest one upwards: before each turn the bits of `bits` are left, and the others are good.
use Rattle.memory.proofs.Truth.{Left}
use Rattle.memory.proofs.word_true.Given as goal

abbrev pub invariant-loop-bits : goal.invariant-loop-bits
invariant-loop-bits l = Left l.first l.blocks l.memory l.i l.bits

abbrev pub decreases-loop-bits : goal.decreases-loop-bits
decreases-loop-bits l = l.bits
