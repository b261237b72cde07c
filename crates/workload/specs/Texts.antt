-- Lines of a text, and words of a line.
use Rattle.std.specs.Prelude.{◌==◌, ◌&&◌, ℕ, Bool, List, [], ◌∷◌, Option, Some, None, not, length}
use Rattle.std.specs.Char.{is_ascii_graphic}
use Rattle.std.specs.List.{list_all, slice_split}

-- the part behind the last line end is a line unless it is empty
abbrev pub last_part : List ℕ → List (List ℕ)
last_part [] = []
last_part (byte ∷ bytes) = (byte ∷ bytes) ∷ []

-- the parts of a text between line ends, without the empty part behind the last line end
abbrev pub ended_parts : List (List ℕ) → List (List ℕ)
ended_parts [] = []
ended_parts (part ∷ []) = last_part part
ended_parts (part ∷ next ∷ more) = part ∷ ended_parts (next ∷ more)

-- the lines of a text, each ended by LF; the last LF may be missing
unfoldable pub lines_of : List ℕ → List (List ℕ)
lines_of text = ended_parts (slice_split (λ byte. byte == 10) text)

-- the words of a line, with one space between each two
unfoldable pub words_of : List ℕ → List (List ℕ)
words_of line = slice_split (λ byte. byte == 32) line

-- the words that are left behind a space, if there is one
abbrev pub words_left : Option (List ℕ) → List (List ℕ)
words_left None = []
words_left (Some rest) = words_of rest

-- a word has one byte or more, each from 0x21 to 0x7E
abbrev pub is_word : List ℕ → Bool
is_word word = not (length word == 0) && list_all is_ascii_graphic word

-- each part of the line between spaces is a word
unfoldable pub is_shaped : List ℕ → Bool
is_shaped line = list_all is_word (words_of line)
