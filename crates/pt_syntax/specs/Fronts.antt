-- What code says of the front of a text.
use Rattle.std.specs.Prelude.{ℕ, ◌-◌, ◌≤◌, ◌<◌, ◌≡◌, ⊤, List, [], ◌∷◌, length, take, drop}
use Rattle.pt_syntax.specs.declared.sexpr.Leaf.{Leaf}
use Rattle.pt_syntax.specs.declared.sexpr.Leaf.TheVariants as leaf
use Rattle.pt_syntax.specs.declared.front.WordKind.{WordKind}
use Rattle.pt_syntax.specs.declared.front.WordKind.TheVariants as kind
use Rattle.pt_syntax.specs.declared.front.Front.{Front}
use Rattle.pt_syntax.specs.declared.front.Front.TheVariants as front
use Rattle.pt_syntax.specs.Lexemes.{Lexeme, Gap, Opening, Closing, Word, Unclosed, Malformed, lexeme}

-- the leaf that a word's bytes stand for
abbrev pub leaf_of : WordKind → List ℕ → Leaf
leaf_of kind.Numeral bytes = leaf.Numeral bytes
leaf_of kind.Constant bytes = leaf.Constant
leaf_of kind.Text bytes = leaf.Text bytes
leaf_of kind.Symbol bytes = leaf.Symbol bytes
leaf_of kind.Quoted bytes = leaf.Symbol (take (length bytes - 2) (drop 1 bytes))
leaf_of kind.Keyword bytes = leaf.Keyword (drop 1 bytes)

-- the least number of its bytes
abbrev pub least_len : WordKind → ℕ
least_len kind.Quoted = 2
least_len word = 1

abbrev pub lexeme_of : Front → List ℕ → Lexeme
lexeme_of (front.Gap n) text = Gap n
lexeme_of front.Opening text = Opening
lexeme_of front.Closing text = Closing
lexeme_of (front.Word n word) text = Word n (leaf_of word (take n text))
lexeme_of front.Unclosed text = Unclosed
lexeme_of front.Malformed text = Malformed

-- it has bytes, and no more than the text
abbrev pub Fits : Front → List ℕ → Type 0
Fits (front.Gap n) text = (0 < n) × (n ≤ length text)
Fits (front.Word n word) text = (0 < n) × (n ≤ length text) × (least_len word ≤ n)
Fits other text = ⊤

abbrev pub IsFrontOf : Lexeme → Front → List ℕ → Type 0
IsFrontOf x f text = (lexeme_of f text ≡ x) × Fits f text

abbrev pub front_lexeme : List ℕ → Lexeme
front_lexeme [] = Malformed
front_lexeme (b ∷ bytes) = lexeme b bytes

abbrev pub IsFront : Front → List ℕ → Type 0
IsFront f text = IsFrontOf (front_lexeme text) f text
