-- The generated script: one line for each place from 1 to the count, each from a state of its own.
use Rattle.std.specs.Prelude.{ℕ, zero, suc, ◌+◌, ◌*◌, ◌/◌, ◌%◌, ◌^◌, ◌==◌, false, List, [], ◌∷◌, ◌++◌, if◌then◌else◌, codes, flat_map}
use Rattle.std.specs.List.{range_with_len}
use Rattle.std.specs.Fmt.{decimal, digit_glyph}

-- the state that follows a state
abbrev pub following : ℕ → ℕ
following x = (x * 6364136223846793005 + 1442695040888963407) % 2 ^ 64

-- the state of the line at a place, where place 0 has the start
abbrev pub state_at : ℕ → ℕ → ℕ
state_at start zero = start
state_at start (suc place) = following (state_at start place)

-- which of the four kinds a state's line is
abbrev pub kind_of : ℕ → ℕ
kind_of x = x / 2 ^ 56 % 4

-- the client of a state's line, from 1 to 16
abbrev pub client_of : ℕ → ℕ
client_of x = 1 + x / 2 ^ 24 % 16

-- the name of a state's line: `o` and a number below 3000
abbrev pub name_of : ℕ → List ℕ
name_of x = codes "o" ++ decimal (x / 2 ^ 32 % 3000)

-- the lowest hexadecimal digits of a number, so many of them, the highest first
unfoldable pub hex_digits : ℕ → ℕ → List ℕ
hex_digits zero x = []
hex_digits (suc k) x = hex_digits k (x / 16) ++ digit_glyph false (x % 16) ∷ []

-- a line of some words: a space between each two, and a newline behind the last
abbrev pub line_from : List (List ℕ) → List ℕ
line_from [] = codes "\n"
line_from (word ∷ []) = word ++ codes "\n"
line_from (word ∷ next ∷ words) = word ++ (codes " " ++ line_from (next ∷ words))

-- the words of a request to write, which carries its place and the state's sixteen digits
abbrev pub write_words : List ℕ → ℕ → ℕ → List (List ℕ)
write_words verb place x = codes "op" ∷ decimal (client_of x) ∷ decimal place ∷ name_of x ∷ verb ∷
    hex_digits 16 x ∷ []

-- the words of a request to read
abbrev pub read_words : List (List ℕ) → ℕ → List (List ℕ)
read_words verb x = codes "get" ∷ decimal (client_of x) ∷ name_of x ∷ verb

-- the words of the line at a place, from its state
abbrev pub words_of : ℕ → ℕ → List (List ℕ)
words_of place x =
    if kind_of x == 0 then write_words (codes "writefull") place x else (
    if kind_of x == 1 then write_words (codes "append") place x else (
    if kind_of x == 2 then read_words (codes "read" ∷ codes "0" ∷ codes "0" ∷ []) x else
    read_words (codes "stat" ∷ []) x))

-- the line at a place, from its state
abbrev pub line_of : ℕ → ℕ → List ℕ
line_of place x = line_from (words_of place x)

-- the script: the lines of the places from 1 to the count, one after the other
abbrev pub script_of : ℕ → ℕ → List ℕ
script_of count start = flat_map (λ place. line_of place (state_at start place))
    (range_with_len 1 count)
