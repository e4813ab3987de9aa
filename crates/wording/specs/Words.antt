-- The words of an answer's text, byte by byte: replay writes them, drift reads them.
use Rattle.std.specs.Prelude.{List, [], ◌∷◌, ℕ}

abbrev pub space : List ℕ
space = 32 ∷ []

abbrev pub newline : List ℕ
newline = 10 ∷ []

-- `ok`, `wait`, `moved`
abbrev pub ok_word : List ℕ
ok_word = 111 ∷ 107 ∷ []

abbrev pub wait_word : List ℕ
wait_word = 119 ∷ 97 ∷ 105 ∷ 116 ∷ []

abbrev pub moved_word : List ℕ
moved_word = 109 ∷ 111 ∷ 118 ∷ 101 ∷ 100 ∷ []

-- `no `
abbrev pub no_word : List ℕ
no_word = 110 ∷ 111 ∷ 32 ∷ []

-- `read `, `done`, `same`, and ` turns ` before a count
abbrev pub read_word : List ℕ
read_word = 114 ∷ 101 ∷ 97 ∷ 100 ∷ 32 ∷ []

abbrev pub done_word : List ℕ
done_word = 100 ∷ 111 ∷ 110 ∷ 101 ∷ []

abbrev pub same_word : List ℕ
same_word = 115 ∷ 97 ∷ 109 ∷ 101 ∷ []

abbrev pub turns_word : List ℕ
turns_word = 32 ∷ 116 ∷ 117 ∷ 114 ∷ 110 ∷ 115 ∷ 32 ∷ []

-- ` in ` and ` out `, before an ending's transfers
abbrev pub in_word : List ℕ
in_word = 32 ∷ 105 ∷ 110 ∷ 32 ∷ []

abbrev pub out_word : List ℕ
out_word = 32 ∷ 111 ∷ 117 ∷ 116 ∷ 32 ∷ []
