-- Lines of 01's Case R, and lines that are not of the form, computed on their bytes.
use mathlib.Core.Path.{◌≡◌, refl}
use mathlib.Core.List.{[], ◌∷◌}
use mathlib.Core.Bool.{true, false}
use lib.ListN.{replicate}
use Rattle.laws.specs.Choice.{both, either}
use Rattle.laws.specs.Scan.{all}
use Rattle.script.specs.Script.{news, reads, writes, steps, drains, bad, fields, digit_of, spells, is_numeral, is_letter, is_order, step_line, new_line, read_line, write_line, of_fields, asks_for}

-- `n 2 3 2`
first-line : asks_for (110 ∷ 32 ∷ 50 ∷ 32 ∷ 51 ∷ 32 ∷ 50 ∷ []) ≡ news 2 3 2
unfolding asks_for of_fields step_line new_line read_line write_line is_letter is_order is_numeral spells digit_of fields all both either
first-line = refl

-- `w 0 17 0000000a t`
write-line : asks_for (119 ∷ 32 ∷ 48 ∷ 32 ∷ 49 ∷ 55 ∷ 32 ∷ 48 ∷ 48 ∷ 48 ∷ 48 ∷ 48 ∷ 48 ∷ 48 ∷ 97 ∷ 32 ∷ 116 ∷ []) ≡ writes 0 17 10 false
unfolding asks_for of_fields step_line new_line read_line write_line is_letter is_order is_numeral spells digit_of fields all both either
write-line = refl

-- `w 7 12799 ffffffff b`
write-bottom-line : asks_for (119 ∷ 32 ∷ 55 ∷ 32 ∷ 49 ∷ 50 ∷ 55 ∷ 57 ∷ 57 ∷ 32 ∷ 102 ∷ 102 ∷ 102 ∷ 102 ∷ 102 ∷ 102 ∷ 102 ∷ 102 ∷ 32 ∷ 98 ∷ []) ≡ writes 7 12799 4294967295 true
unfolding asks_for of_fields step_line new_line read_line write_line is_letter is_order is_numeral spells digit_of fields all both either
write-bottom-line = refl

-- `s 1`
step_line_lem : asks_for (115 ∷ 32 ∷ 49 ∷ []) ≡ steps 1
unfolding asks_for of_fields step_line new_line read_line write_line is_letter is_order is_numeral spells digit_of fields all both either
step_line_lem = refl

-- `r 0 17 b`
read-line : asks_for (114 ∷ 32 ∷ 48 ∷ 32 ∷ 49 ∷ 55 ∷ 32 ∷ 98 ∷ []) ≡ reads 0 17 true
unfolding asks_for of_fields step_line new_line read_line write_line is_letter is_order is_numeral spells digit_of fields all both either
read-line = refl

-- `r 0 17 t`
read-top-line : asks_for (114 ∷ 32 ∷ 48 ∷ 32 ∷ 49 ∷ 55 ∷ 32 ∷ 116 ∷ []) ≡ reads 0 17 false
unfolding asks_for of_fields step_line new_line read_line write_line is_letter is_order is_numeral spells digit_of fields all both either
read-top-line = refl

-- `d`
drain-line : asks_for (100 ∷ []) ≡ drains
unfolding asks_for of_fields step_line new_line read_line write_line is_letter is_order is_numeral spells digit_of fields all both either
drain-line = refl

-- `s 999999999`
nine-digits-line : asks_for (115 ∷ 32 ∷ 57 ∷ 57 ∷ 57 ∷ 57 ∷ 57 ∷ 57 ∷ 57 ∷ 57 ∷ 57 ∷ []) ≡ steps 999999999
unfolding asks_for of_fields step_line new_line read_line write_line is_letter is_order is_numeral spells digit_of fields all both either
nine-digits-line = refl

-- `s 000000001`
leading-zeros-line : asks_for (115 ∷ 32 ∷ 48 ∷ 48 ∷ 48 ∷ 48 ∷ 48 ∷ 48 ∷ 48 ∷ 48 ∷ 49 ∷ []) ≡ steps 1
unfolding asks_for of_fields step_line new_line read_line write_line is_letter is_order is_numeral spells digit_of fields all both either
leading-zeros-line = refl

-- `s 0000000001`
ten-digits-line : asks_for (115 ∷ 32 ∷ 48 ∷ 48 ∷ 48 ∷ 48 ∷ 48 ∷ 48 ∷ 48 ∷ 48 ∷ 48 ∷ 49 ∷ []) ≡ bad
unfolding asks_for of_fields step_line new_line read_line write_line is_letter is_order is_numeral spells digit_of fields all both either
ten-digits-line = refl

-- `s` and a space
no-digits-line : asks_for (115 ∷ 32 ∷ []) ≡ bad
unfolding asks_for of_fields step_line new_line read_line write_line is_letter is_order is_numeral spells digit_of fields all both either
no-digits-line = refl

-- `w 0 17 0000000A t`
upper-case-hex-line : asks_for (119 ∷ 32 ∷ 48 ∷ 32 ∷ 49 ∷ 55 ∷ 32 ∷ 48 ∷ 48 ∷ 48 ∷ 48 ∷ 48 ∷ 48 ∷ 48 ∷ 65 ∷ 32 ∷ 116 ∷ []) ≡ bad
unfolding asks_for of_fields step_line new_line read_line write_line is_letter is_order is_numeral spells digit_of fields all both either
upper-case-hex-line = refl

-- `w 0 17 000000a t`
seven-hex-digits-line : asks_for (119 ∷ 32 ∷ 48 ∷ 32 ∷ 49 ∷ 55 ∷ 32 ∷ 48 ∷ 48 ∷ 48 ∷ 48 ∷ 48 ∷ 48 ∷ 97 ∷ 32 ∷ 116 ∷ []) ≡ bad
unfolding asks_for of_fields step_line new_line read_line write_line is_letter is_order is_numeral spells digit_of fields all both either
seven-hex-digits-line = refl

-- `s`, two spaces, `1`
two-spaces-line : asks_for (115 ∷ 32 ∷ 32 ∷ 49 ∷ []) ≡ bad
unfolding asks_for of_fields step_line new_line read_line write_line is_letter is_order is_numeral spells digit_of fields all both either
two-spaces-line = refl

-- a space and `d`
space-before-line : asks_for (32 ∷ 100 ∷ []) ≡ bad
unfolding asks_for of_fields step_line new_line read_line write_line is_letter is_order is_numeral spells digit_of fields all both either
space-before-line = refl

-- `s 1` and a space
space-after-line : asks_for (115 ∷ 32 ∷ 49 ∷ 32 ∷ []) ≡ bad
unfolding asks_for of_fields step_line new_line read_line write_line is_letter is_order is_numeral spells digit_of fields all both either
space-after-line = refl

-- an empty line
empty-line : asks_for ([]) ≡ bad
unfolding asks_for of_fields step_line new_line read_line write_line is_letter is_order is_numeral spells digit_of fields all both either
empty-line = refl

-- `r 0 17`
no-order-line : asks_for (114 ∷ 32 ∷ 48 ∷ 32 ∷ 49 ∷ 55 ∷ []) ≡ bad
unfolding asks_for of_fields step_line new_line read_line write_line is_letter is_order is_numeral spells digit_of fields all both either
no-order-line = refl

-- `r 0 17 x`
another-order-line : asks_for (114 ∷ 32 ∷ 48 ∷ 32 ∷ 49 ∷ 55 ∷ 32 ∷ 120 ∷ []) ≡ bad
unfolding asks_for of_fields step_line new_line read_line write_line is_letter is_order is_numeral spells digit_of fields all both either
another-order-line = refl

-- `dd`
longer-letter-line : asks_for (100 ∷ 100 ∷ []) ≡ bad
unfolding asks_for of_fields step_line new_line read_line write_line is_letter is_order is_numeral spells digit_of fields all both either
longer-letter-line = refl

-- `d` and a carriage return
return-line : asks_for (100 ∷ 13 ∷ []) ≡ bad
unfolding asks_for of_fields step_line new_line read_line write_line is_letter is_order is_numeral spells digit_of fields all both either
return-line = refl

-- `w 0 17 0000000a t t`
six-fields-line : asks_for (119 ∷ 32 ∷ 48 ∷ 32 ∷ 49 ∷ 55 ∷ 32 ∷ 48 ∷ 48 ∷ 48 ∷ 48 ∷ 48 ∷ 48 ∷ 48 ∷ 97 ∷ 32 ∷ 116 ∷ 32 ∷ 116 ∷ []) ≡ bad
unfolding asks_for of_fields step_line new_line read_line write_line is_letter is_order is_numeral spells digit_of fields all both either
six-fields-line = refl

-- 65 bytes
too-long-line : asks_for (replicate 65 100) ≡ bad
unfolding asks_for of_fields step_line new_line read_line write_line is_letter is_order is_numeral spells digit_of fields all both either
too-long-line = refl
