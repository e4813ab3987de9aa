-- 02, E13: runs of groups and their bits, in its order.
use Rattle.std.specs.Prelude.{List, Bool, not, ℕ, ◌+◌, ◌-◌, ◌/◌, ◌%◌, eqb}
use Rattle.laws.specs.Choice.{either, implies}
use Rattle.laws.specs.Scan.{all}
use Rattle.geometry.specs.TagMemory.{groups, group_place}
use Rattle.block.specs.Block.{group_at, bit_at, put_bit}

-- "one bit for a run of c data blocks, c one of 4, 8, 16, 32"
unfoldable pub is_run : ℕ → Bool
is_run c = either (eqb c 4) (either (eqb c 8) (either (eqb c 16) (eqb c 32)))

-- "so c groups of the 16n; the last run may be shorter": the run of group g, and how many runs there are, 16n / c rounded up
unfoldable pub run_of : ℕ → ℕ → ℕ
run_of c g = g / c

unfoldable pub runs : ℕ → ℕ → ℕ
runs n c = (groups n + c - 1) / c

-- "Tags, zeros too, fill 64n lent bytes as in 01": group g of the tags
abbrev pub group_in : List ℕ → ℕ → ℕ
group_in tags g = group_at tags (group_place g)

-- "bits fill whole bytes, lowest first": how many bytes, run r's bit, and the bits with run r's made v
unfoldable pub bits_length : ℕ → ℕ → ℕ
bits_length n c = (runs n c + 7) / 8

unfoldable pub run_bit : List ℕ → ℕ → ℕ
run_bit bits r = bit_at bits (r / 8) (r % 8)

unfoldable pub put_run_bit : List ℕ → ℕ → ℕ → List ℕ
put_run_bit bits r v = put_bit bits (r / 8) (r % 8) v

-- "whether any is non-zero": some group of the 16n that is in run r
unfoldable pub any_in : ℕ → ℕ → List ℕ → ℕ → Bool
any_in n c tags r = not (all (λ g. implies (eqb (run_of c g) r) (eqb (group_in tags g) 0)) (groups n))
