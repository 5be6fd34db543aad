-- What stands at the front of a text, from what code finds there.
use Rattle.std.proofs.Common.{◌≡◌, ◌≢◌, ℕ, suc, ◌+◌, ◌-◌, ◌<◌, ◌≤◌, ◌⊎◌, inl, inr, List, [], ◌∷◌, ◌++◌, length, take, drop, get_or, refl, arith, ap, sym, subst, ◌∙◌, append_assoc, Bool, true, false, cond}
use Rattle.std.proofs.lemmas.Bool.Decides.{nat_tests}
use Rattle.std.proofs.lemmas.List.{length-take-le, length-take, take-take, take_more, drop_more}
use Rattle.std.proofs.lemmas.List.Sums.{prefix_len-le-length}
use Rattle.std.proofs.lemmas.List.Folds.{length-prefix_len}
use Rattle.std.proofs.Math.Bool.{beq}
use Rattle.std.specs.List.{prefix_len, position_or_len, list_any, list_all}
use Rattle.std.specs.Prelude.{Option, Some, None, option_map, ◌==◌, not, ◌&&◌, ◌||◌, if◌then◌else◌, take_while}
use Rattle.pt_syntax.specs.declared.sexpr.Leaf.TheVariants as leaf
use Rattle.pt_syntax.specs.declared.front.Front.{Front}
use Rattle.pt_syntax.specs.declared.front.Front.TheVariants as front
use Rattle.pt_syntax.specs.declared.front.WordKind.TheVariants as kind
use Rattle.pt_syntax.specs.Bytes.{is_space, ends_line, is_digit, is_letter, is_symbol_byte, is_printable}
use Rattle.pt_syntax.specs.Lexemes.{Lexeme, Gap, Word, Unclosed, Malformed, lexeme, run, number, based, keyword, quoted, literal, literal_rest}
use Rattle.pt_syntax.specs.Fronts.{leaf_of, IsFrontOf, IsFront}

-- ---- choices

pub yes : {A : Type 0} (t : Bool) (a b : A) → t ≡ true → (if t then a else b) ≡ a
yes true a b h = refl
yes false a b h = cc

pub no : {A : Type 0} (t : Bool) (a b x : A) → t ≡ false → b ≡ x → (if t then a else b) ≡ x
no false a b x h e = e
no true a b x h e = cc

is_not : (b n : ℕ) → b ≢ n → (b == n) ≡ false
is_not b n h = grind (arith, nat_tests)

-- ---- a front stays that of a longer text

within_take : (n k : ℕ) (text : List ℕ) → n ≤ length (take k text) → (n ≤ k) × (n ≤ length text)
within_take n k text h = omega (arith, length-take k text)

pub longer : (f : Front) (k : ℕ) (text : List ℕ) (x : Lexeme) → IsFrontOf x f (take k text) → IsFrontOf x f text
longer (front.Gap n) k text x h = (h.0, (h.1.0, (within_take n k text h.1.1).1))
longer front.Opening k text x h = h
longer front.Closing k text x h = h
longer (front.Word n word) k text x h =
    let fits = within_take n k text h.1.1 in
    (subst (λ w. Word n (leaf_of word w) ≡ x) (take-take n k text fits.0) h.0, (h.1.0, fits.1, h.1.2))
longer front.Unclosed k text x h = h
longer front.Malformed k text x h = h

-- ---- quoted symbols

not_found : (p : ℕ → Bool) (xs : List ℕ) → position_or_len p xs ≡ length xs → list_any p xs ≡ false
not_found p [] h = refl
not_found p (x ∷ xs) h = by (p x) (not_found p xs) h
  where
    by : (b : Bool) → (position_or_len p xs ≡ length xs → list_any p xs ≡ false) → cond (not b) (1 + prefix_len (λ y. not (p y)) xs) 0 ≡ suc (length xs) → (b || list_any p xs) ≡ false
    by true rest e = absurd (omega arith)
    by false rest e = rest (omega arith)

found : (p : ℕ → Bool) (xs : List ℕ) → position_or_len p xs ≢ length xs → list_any p xs ≡ true
found p [] h = absurd (h refl)
found p (x ∷ xs) h = by (p x) (found p xs) h
  where
    by : (b : Bool) → (position_or_len p xs ≢ length xs → list_any p xs ≡ true) → cond (not b) (1 + prefix_len (λ y. not (p y)) xs) 0 ≢ suc (length xs) → (b || list_any p xs) ≡ true
    by true rest e = refl
    by false rest e = rest (λ same. e (omega arith))

pub quoted_open : (bytes : List ℕ) → position_or_len (λ c. c == 124) bytes ≡ length bytes → Unclosed ≡ quoted bytes
quoted_open bytes h = sym (yes (not (list_any (λ c. c == 124) bytes)) _ _ (ap not (not_found (λ c. c == 124) bytes h)))

pub quoted_bad : (bytes : List ℕ) (n : ℕ) → n ≡ position_or_len (λ c. c == 124) bytes → n ≢ length bytes → false ≡ list_all (λ c. is_printable c && not (c == 92)) (take n bytes) → Malformed ≡ quoted bytes
quoted_bad bytes n e ne h =
    let there : list_any (λ c. c == 124) bytes ≡ true = found (λ c. c == 124) bytes (λ same. ne (e ∙ same)) in
    let bad : list_all (λ c. is_printable c && not (c == 92)) (take (position_or_len (λ c. c == 124) bytes) bytes) ≡ false = sym (subst (λ k. false ≡ list_all (λ c. is_printable c && not (c == 92)) (take k bytes)) e h) in
    sym (no _ _ _ _ (ap not there) (no _ _ _ _ bad refl))

pub quoted_good : (bytes : List ℕ) (n : ℕ) → n ≡ position_or_len (λ c. c == 124) bytes → n ≤ length bytes → n ≢ length bytes → true ≡ list_all (λ c. is_printable c && not (c == 92)) (take n bytes) → IsFrontOf (quoted bytes) (front.Word (n + 2) kind.Quoted) (124 ∷ bytes)
quoted_good bytes n e le ne h =
    let there : list_any (λ c. c == 124) bytes ≡ true = found (λ c. c == 124) bytes (λ same. ne (e ∙ same)) in
    let good : list_all (λ c. is_printable c && not (c == 92)) (take (position_or_len (λ c. c == 124) bytes) bytes) ≡ true = sym (subst (λ k. true ≡ list_all (λ c. is_printable c && not (c == 92)) (take k bytes)) e h) in
    let is : quoted bytes ≡ Word (length (take (position_or_len (λ c. c == 124) bytes) bytes) + 2) (leaf.Symbol (take (position_or_len (λ c. c == 124) bytes) bytes)) = no _ _ _ _ (ap not there) (yes _ _ _ good) in
    let size : length (take n bytes) ≡ n = length-take-le n bytes le in
    let sum : n + 2 ≡ suc (suc n) = omega arith in
    let whole : length (take (suc n) bytes) ≡ suc n = length-take-le (suc n) bytes (omega arith) in
    let less : suc (length (take (suc n) bytes)) - 2 ≡ n = omega arith in
    let inside : take (suc (length (take (suc n) bytes)) - 2) (take (suc n) bytes) ≡ take n bytes = ap (λ k. take k (take (suc n) bytes)) less ∙ take-take n (suc n) bytes (omega arith) in
    let shown : Word (suc (suc n)) (leaf.Symbol (take (suc (length (take (suc n) bytes)) - 2) (take (suc n) bytes))) ≡ Word (length (take n bytes) + 2) (leaf.Symbol (take n bytes)) = rw (inside, size, sum) refl in
    rw (sum, is) (subst (λ k. Word (suc (suc n)) (leaf.Symbol (take (suc (length (take (suc n) bytes)) - 2) (take (suc n) bytes))) ≡ Word (length (take k bytes) + 2) (leaf.Symbol (take k bytes))) e shown, (omega arith, omega arith, omega arith))

-- ---- strings

one_more : (passed : List ℕ) (x : ℕ) (o : Option (List ℕ)) → option_map (λ rest. (passed ++ x ∷ []) ++ rest) o ≡ option_map (λ rest. passed ++ rest) (option_map (λ rest. x ∷ rest) o)
one_more passed x None = refl
one_more passed x (Some rest) = ap Some (append_assoc passed (x ∷ []) rest)

inside_step : (passed rest : List ℕ) (x : ℕ) (q : Bool) → option_map (λ r. (passed ++ x ∷ []) ++ r) (literal_rest (not (beq true q)) rest) ≡ option_map (λ r. passed ++ r) (option_map (λ r. x ∷ r) (literal_rest (not q) rest))
inside_step passed rest x true = one_more passed x (literal_rest false rest)
inside_step passed rest x false = one_more passed x (literal_rest true rest)

outside_step : (passed rest : List ℕ) (x : ℕ) (q : Bool) → q ≡ true → option_map (λ r. (passed ++ x ∷ []) ++ r) (literal_rest (not (beq false q)) rest) ≡ option_map (λ r. passed ++ r) (if q then option_map (λ r. x ∷ r) (literal_rest true rest) else Some [])
outside_step passed rest x true h = one_more passed x (literal_rest true rest)
outside_step passed rest x false h = cc

literal_more : (passed rest : List ℕ) (x : ℕ) (s : Bool) → ((s ≡ false) × (x ≡ 34)) ⊎ (s ≡ true) → option_map (λ r. (passed ++ x ∷ []) ++ r) (literal_rest (not (beq s (x == 34))) rest) ≡ option_map (λ r. passed ++ r) (literal_rest s (x ∷ rest))
literal_more passed rest x true h = inside_step passed rest x (x == 34)
literal_more passed rest x false (inl h) = outside_step passed rest x (x == 34) (ap (λ y. y == 34) h.1)
literal_more passed rest x false (inr h) = cc

pub literal_step : (bytes : List ℕ) (i : ℕ) (s : Bool) → i < length bytes → ((s ≡ false) × (get_or bytes i 0 ≡ 34)) ⊎ (s ≡ true) → option_map (λ r. take (i + 1) bytes ++ r) (literal_rest (not (beq s (get_or bytes i 0 == 34))) (drop (i + 1) bytes)) ≡ option_map (λ r. take i bytes ++ r) (literal_rest s (drop i bytes))
literal_step bytes i s lt h = rw (take_more bytes i 0 lt, drop_more bytes i 0 lt) (literal_more (take i bytes) (drop (i + 1) bytes) (get_or bytes i 0) s h)

-- ---- the whole front, by its first byte

pub front_comment : (text behind : List ℕ) (n : ℕ) → 0 < length text → get_or text 0 0 ≡ 59 → behind ≡ drop 1 text → n ≡ prefix_len (λ c. not (ends_line c)) behind → IsFront (front.Gap (n + 1)) text
front_comment [] behind n pos h d e = absurd (omega arith)
front_comment (b ∷ bytes) behind n pos h d e =
    let here : n ≡ prefix_len (λ c. not (ends_line c)) bytes = e ∙ ap (λ w. prefix_len (λ c. not (ends_line c)) w) d in
    let size : n + 1 ≡ 1 + length (take_while (λ c. not (ends_line c)) bytes) = omega (arith, length-prefix_len (λ c. not (ends_line c)) bytes) in
    (ap Gap size ∙ sym (ap (λ x. lexeme x bytes) h), (omega arith, omega (arith, prefix_len-le-length (λ c. not (ends_line c)) bytes)))

run_size : (b : ℕ) (bytes : List ℕ) → is_symbol_byte b ≡ true → take_while is_symbol_byte (b ∷ bytes) ≡ run b bytes
run_size b bytes h = ap (λ t. take (cond t (1 + prefix_len is_symbol_byte bytes) 0) (b ∷ bytes)) h ∙ ap (λ k. take k (b ∷ bytes)) (one_plus (prefix_len is_symbol_byte bytes))
  where
    one_plus : (k : ℕ) → 1 + k ≡ suc k
    one_plus k = omega arith

digit_in_symbol : (b : ℕ) → is_digit b ≡ true → is_symbol_byte b ≡ true
digit_in_symbol b h = by (is_letter b) _ _ h
  where
    by : (l d m : Bool) → d ≡ true → (l || d || m) ≡ true
    by true d m e = refl
    by false true m e = refl
    by false false m e = cc

pub front_digit : (text word : List ℕ) (f : Front) → 0 < length text → is_space (get_or text 0 0) ≡ false → get_or text 0 0 ≢ 59 → get_or text 0 0 ≢ 40 → get_or text 0 0 ≢ 41 → is_digit (get_or text 0 0) ≡ true → word ≡ take_while is_symbol_byte text → IsFrontOf (number word) f word → IsFront f text
front_digit [] word f pos hs hc ho hl hd e g = absurd (omega arith)
front_digit (b ∷ bytes) word f pos hs hc ho hl hd e g =
    let is : lexeme b bytes ≡ number (run b bytes) = no _ _ _ _ hs (no _ _ _ _ (is_not b 59 hc) (no _ _ _ _ (is_not b 40 ho) (no _ _ _ _ (is_not b 41 hl) (yes _ _ _ hd)))) in
    let whole : word ≡ run b bytes = e ∙ run_size b bytes (digit_in_symbol b hd) in
    subst (λ x. IsFrontOf x f (b ∷ bytes)) (sym is) (longer f (suc (prefix_len is_symbol_byte bytes)) (b ∷ bytes) (number (run b bytes)) (subst (λ w. IsFrontOf (number w) f w) whole g))

pub front_symbol : (text word : List ℕ) → 0 < length text → is_space (get_or text 0 0) ≡ false → get_or text 0 0 ≢ 59 → get_or text 0 0 ≢ 40 → get_or text 0 0 ≢ 41 → is_digit (get_or text 0 0) ≡ false → is_symbol_byte (get_or text 0 0) ≡ true → word ≡ take_while is_symbol_byte text → IsFront (front.Word (length word) kind.Symbol) text
front_symbol [] word pos hs hc ho hl hd hy e = absurd (omega arith)
front_symbol (b ∷ bytes) word pos hs hc ho hl hd hy e =
    let is : lexeme b bytes ≡ Word (length (run b bytes)) (leaf.Symbol (run b bytes)) = no _ _ _ _ hs (no _ _ _ _ (is_not b 59 hc) (no _ _ _ _ (is_not b 40 ho) (no _ _ _ _ (is_not b 41 hl) (no _ _ _ _ hd (yes _ _ _ hy))))) in
    let whole : word ≡ run b bytes = e ∙ run_size b bytes hy in
    let size : length (run b bytes) ≡ suc (prefix_len is_symbol_byte bytes) = ap suc (length-prefix_len is_symbol_byte bytes) in
    let cut : take (length (run b bytes)) (b ∷ bytes) ≡ run b bytes = ap (λ k. take k (b ∷ bytes)) size in
    subst (λ w. IsFront (front.Word (length w) kind.Symbol) (b ∷ bytes)) (sym whole)
    (ap (λ w. Word (length (run b bytes)) (leaf.Symbol w)) cut ∙ sym is, (omega arith, omega (arith, prefix_len-le-length is_symbol_byte bytes), omega arith))

-- behind a byte that begins a number of another base, or a keyword
pub front_based : (text behind word : List ℕ) (f : Front) → 0 < length text → get_or text 0 0 ≡ 35 → behind ≡ drop 1 text → word ≡ take_while is_symbol_byte behind → IsFrontOf (based word) f (35 ∷ word) → IsFront f text
front_based [] behind word f pos h d e g = absurd (omega arith)
front_based (b ∷ bytes) behind word f pos h d e g =
    let whole : word ≡ take_while is_symbol_byte bytes = e ∙ ap (take_while is_symbol_byte) d in
    subst (λ x. IsFrontOf (lexeme x bytes) f (x ∷ bytes)) (sym h) (longer f (suc (prefix_len is_symbol_byte bytes)) (35 ∷ bytes) (lexeme 35 bytes) (subst (λ w. IsFrontOf (based w) f (35 ∷ w)) whole g))

pub front_keyword : (text behind word : List ℕ) (f : Front) → 0 < length text → get_or text 0 0 ≡ 58 → behind ≡ drop 1 text → word ≡ take_while is_symbol_byte behind → IsFrontOf (keyword word) f (58 ∷ word) → IsFront f text
front_keyword [] behind word f pos h d e g = absurd (omega arith)
front_keyword (b ∷ bytes) behind word f pos h d e g =
    let whole : word ≡ take_while is_symbol_byte bytes = e ∙ ap (take_while is_symbol_byte) d in
    subst (λ x. IsFrontOf (lexeme x bytes) f (x ∷ bytes)) (sym h) (longer f (suc (prefix_len is_symbol_byte bytes)) (58 ∷ bytes) (lexeme 58 bytes) (subst (λ w. IsFrontOf (keyword w) f (58 ∷ w)) whole g))

pub front_literal : (text behind : List ℕ) (f : Front) → 0 < length text → get_or text 0 0 ≡ 34 → behind ≡ drop 1 text → IsFrontOf (literal (literal_rest true behind)) f (34 ∷ behind) → IsFront f text
front_literal [] behind f pos h d g = absurd (omega arith)
front_literal (b ∷ bytes) behind f pos h d g = subst (λ x. IsFrontOf (lexeme x bytes) f (x ∷ bytes)) (sym h) (subst (λ w. IsFrontOf (literal (literal_rest true w)) f (34 ∷ w)) d g)

pub front_quoted : (text behind : List ℕ) (f : Front) → 0 < length text → get_or text 0 0 ≡ 124 → behind ≡ drop 1 text → IsFrontOf (quoted behind) f (124 ∷ behind) → IsFront f text
front_quoted [] behind f pos h d g = absurd (omega arith)
front_quoted (b ∷ bytes) behind f pos h d g = subst (λ x. IsFrontOf (lexeme x bytes) f (x ∷ bytes)) (sym h) (subst (λ w. IsFrontOf (quoted w) f (124 ∷ w)) d g)
