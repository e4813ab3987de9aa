-- 02 E4: blocks fetched and blocks written back, as sums.
use Rattle.std.specs.Prelude.{ℕ, ◌+◌, min}
use Rattle.tracker.specs.declared.Transfers.{Transfers}

abbrev pub none : Transfers
none = record { fetched = 0; back = 0 }

-- "a sum stays at 255 once there", each by itself
abbrev pub most_transfers : ℕ
most_transfers = 255

abbrev pub plus : Transfers → Transfers → Transfers
plus a b = record { fetched = min (a.fetched + b.fetched) most_transfers; back = min (a.back + b.back) most_transfers }
