-- The last line of a text, from the front.
use Rattle.std.proofs.Common.{◌≡◌, ◌≢◌, ℕ, ◌+◌, ◌-◌, ◌<◌, ◌≤◌, ◌==◌, if◌then◌else◌, true, false, List, [], ◌∷◌, length, length-drop, drop, take, get_or, refl, sym, subst, ◌∙◌, arith}
use Rattle.std.proofs.lemmas.List.{at_drop_more, take_all}
use Rattle.std.proofs.lemmas.Bool.Decides.{nat_tests}
use Rattle.pt_drill.specs.Summary.{has_lines, last_line}

-- the last line, where `here` is the line that goes on with the rest
abbrev pub behind : List ℕ → List ℕ → List ℕ
behind here rest = if has_lines rest then last_line rest else here

pub behind-self : (text : List ℕ) → behind text text ≡ last_line text
behind-self [] = refl
behind-self (b ∷ text) = elim (has_lines (b ∷ text)) as (λ v. (if v then (if v then last_line text else b ∷ text) else b ∷ text) ≡ (if v then last_line text else b ∷ text)) [ true ↦ refl | false ↦ refl ]

-- a line feed before the last byte
feed : (here : List ℕ) (b c : ℕ) (rest : List ℕ) → (b == 10) ≡ true → behind here (b ∷ c ∷ rest) ≡ last_line (c ∷ rest)
feed here b c rest is = rw is refl

-- another byte
other : (here : List ℕ) (b c : ℕ) (rest : List ℕ) → (b == 10) ≡ false → behind here (b ∷ c ∷ rest) ≡ behind here (c ∷ rest)
other here b c rest is = rw is (elim (has_lines (c ∷ rest)) as (λ v. (if v then (if v then last_line (c ∷ rest) else b ∷ c ∷ rest) else here) ≡ (if v then last_line (c ∷ rest) else here)) [ true ↦ refl | false ↦ refl ])

-- two bytes of a text, at j and behind it
two : (F : List ℕ → List ℕ) (text : List ℕ) (j i : ℕ) → i ≡ j + 1 → i < length text → F (drop j text) ≡ F (get_or text j 0 ∷ get_or text i 0 ∷ drop (i + 1) text)
two F text j i next h =
    at_drop_more F text j 0 (omega arith)
    ∙ subst (λ (k : ℕ). F (get_or text j 0 ∷ drop k text) ≡ F (get_or text j 0 ∷ get_or text i 0 ∷ drop (i + 1) text)) next (at_drop_more (λ (l : List ℕ). F (get_or text j 0 ∷ l)) text i 0 h)

behind-feed : (text here : List ℕ) (j i : ℕ) → i ≡ j + 1 → i < length text → get_or text j 0 ≡ 10 → behind here (drop j text) ≡ behind (drop i text) (drop i text)
behind-feed text here j i next h is =
    let test : (get_or text j 0 == 10) ≡ true = grind (arith, nat_tests) in
    two (behind here) text j i next h ∙ feed here (get_or text j 0) (get_or text i 0) (drop (i + 1) text) test ∙ sym (at_drop_more last_line text i 0 h) ∙ sym (behind-self (drop i text))

behind-other : (text here : List ℕ) (j i : ℕ) → i ≡ j + 1 → i < length text → get_or text j 0 ≢ 10 → behind here (drop j text) ≡ behind here (drop i text)
behind-other text here j i next h is =
    let test : (get_or text j 0 == 10) ≡ false = grind (arith, nat_tests) in
    two (behind here) text j i next h ∙ other here (get_or text j 0) (get_or text i 0) (drop (i + 1) text) test ∙ sym (at_drop_more (behind here) text i 0 h)

-- one byte is left at most
ends : (here rest : List ℕ) → length rest ≤ 1 → behind here rest ≡ here
ends here [] few = refl
ends here (b ∷ []) few = refl
ends here (b ∷ c ∷ rest) few = absurd (omega (arith, few))

-- ---- the loop, whose number i stands behind the byte that is looked at

pub next-feed : (text : List ℕ) (start new i : ℕ) → new ≡ i → 1 ≤ i → i < length text → get_or text (i - 1) 0 ≡ 10 → last_line text ≡ behind (drop start text) (drop (i - 1) text) → last_line text ≡ behind (drop new text) (drop (i + 1 - 1) text)
next-feed text start new i is some h byte same =
    let back : i ≡ i + 1 - 1 = omega arith in
    subst (λ (n : ℕ). last_line text ≡ behind (drop n text) (drop (i + 1 - 1) text)) (sym is)
    (subst (λ (n : ℕ). last_line text ≡ behind (drop i text) (drop n text)) back
    (same ∙ behind-feed text (drop start text) (i - 1) i (omega arith) h byte))

pub next-other : (text : List ℕ) (start new i : ℕ) → new ≡ start → 1 ≤ i → i < length text → get_or text (i - 1) 0 ≢ 10 → last_line text ≡ behind (drop start text) (drop (i - 1) text) → last_line text ≡ behind (drop new text) (drop (i + 1 - 1) text)
next-other text start new i is some h byte same =
    let back : i ≡ i + 1 - 1 = omega arith in
    subst (λ (n : ℕ). last_line text ≡ behind (drop n text) (drop (i + 1 - 1) text)) (sym is)
    (subst (λ (n : ℕ). last_line text ≡ behind (drop start text) (drop n text)) back
    (same ∙ behind-other text (drop start text) (i - 1) i (omega arith) h byte))

pub at-end : (text : List ℕ) (start i : ℕ) → length text ≤ i → start ≤ length text → last_line text ≡ behind (drop start text) (drop (i - 1) text) → take (length text - start) (drop start text) ≡ last_line text
at-end text start i past within same =
    take_all (length text - start) (drop start text) (omega (arith, length-drop start text))
    ∙ sym (ends (drop start text) (drop (i - 1) text) (omega (arith, past, length-drop (i - 1) text)))
    ∙ sym same
