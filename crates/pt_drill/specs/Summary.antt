-- What mode drill writes of the output of its script.
use Rattle.std.specs.Prelude.{ℕ, ◌==◌, ◌||◌, if◌then◌else◌, Bool, false, List, [], ◌∷◌, ◌++◌, codes, decimal, count_by, sum_by}
use Rattle.std.specs.List.{slice_split, list_all}
use Rattle.std.specs.Char.{is_ascii_digit}
use Rattle.std.specs.Str.{bytes_eq}
use Rattle.std.specs.Str.Parse.{digits_value}
use Rattle.pt_drill.specs.Drill.{line}

-- the lines of a text, without the line feeds
abbrev pub lines_of : List ℕ → List (List ℕ)
lines_of text = slice_split (λ b. b == 10) text

-- how many lines of a text are this word
abbrev pub count_of : List ℕ → List ℕ → ℕ
count_of word text = count_by (λ l. bytes_eq l word) (lines_of text)

-- the number that a line of decimal digits writes, 0 where the line has another byte
abbrev pub number_on : List ℕ → ℕ
number_on l = if list_all is_ascii_digit l then digits_value 10 l else 0

-- the sum of the numbers that lines of a text write
abbrev pub sum_of : List ℕ → ℕ
sum_of text = sum_by number_on (lines_of text)

-- so many answers are sat and unsat, and the sets have so many states together
abbrev pub summary_of : ℕ → ℕ → ℕ → ℕ → ℕ → List ℕ
summary_of seed size sat unsat states =
    line (codes "drill " ++ decimal seed ++ codes " " ++ decimal size ++ codes ": " ++ decimal sat ++ codes " sat, " ++ decimal unsat ++ codes " unsat, " ++ decimal states ++ codes " states")

-- the line that sums up the output of the script of this seed and this size
abbrev pub summary : ℕ → ℕ → List ℕ → List ℕ
summary seed size output = summary_of seed size (count_of (codes "sat") output) (count_of (codes "unsat") output) (sum_of output)

-- whether a line feed stands before the last byte
abbrev pub has_lines : List ℕ → Bool
has_lines [] = false
has_lines (b ∷ []) = false
has_lines (b ∷ c ∷ text) = (b == 10) || has_lines (c ∷ text)

-- the last line of a text, with its line feed
abbrev pub last_line : List ℕ → List ℕ
last_line [] = []
last_line (b ∷ text) = if has_lines (b ∷ text) then last_line text else b ∷ text
