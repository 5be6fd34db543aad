-- The set of a combined language is the combined set.
use Rattle.std.proofs.Common.{◌≡◌, ◌↔◌, inl, inr, ℕ, List, [], ◌∷◌, ◌++◌, Bool, true, false, refl, ap, ◌∙◌, subst}
use Rattle.std.specs.Prelude.{IsTrue}
use Rattle.pt_sets.specs.Words.{Vector}
use Rattle.pt_sets.specs.Sets.{SameSet}
use Rattle.pt_sets.specs.Languages.{Language, KeepsSignExtension, Encodes, SetOf}
use Rattle.pt_sets.proofs.Acceptance.{some-word, accepts-value}
use Rattle.pt_formula.specs.declared.Op.{Op}
use Rattle.pt_formula.specs.declared.Op.TheVariants.{And, Or, Iff, Xor}
use Rattle.pt_product.specs.Operations.{truth, Connects, combined, combined_language}

true-is : (b : Bool) → IsTrue b → b ≡ true
true-is b h = h

is-true : IsTrue true
is-true = refl

is-not-false : IsTrue false → ⊥
is-not-false h = (cc)

-- the answer of an operation is true exactly where the operation holds of the answers
truth-connects : (op : Op) (a b : Bool) → IsTrue (truth op a b) ↔ Connects op (IsTrue a) (IsTrue b)
truth-connects And true true = (λ h. (is-true, is-true), λ h. is-true)
truth-connects And true false = (λ h. absurd (is-not-false h), λ h. h.1)
truth-connects And false b = (λ h. absurd (is-not-false h), λ h. absurd (is-not-false h.0))
truth-connects Or true b = (λ h. inl is-true, λ h. is-true)
truth-connects Or false true = (λ h. inr is-true, λ h. is-true)
truth-connects Or false false = (λ h. absurd (is-not-false h), λ h. elim h [ inl x ↦ x | inr y ↦ y ])
truth-connects Iff true true = (λ h. (λ x. x, λ x. x), λ h. is-true)
truth-connects Iff true false = (λ h. absurd (is-not-false h), λ h. h.0 is-true)
truth-connects Iff false true = (λ h. absurd (is-not-false h), λ h. h.1 is-true)
truth-connects Iff false false = (λ h. (λ x. x, λ x. x), λ h. is-true)
truth-connects Xor true true = (λ h. absurd (is-not-false h), λ h. elim h [ inl x ↦ absurd (x.1 is-true) | inr y ↦ absurd (y.0 is-true) ])
truth-connects Xor true false = (λ h. inl (is-true, is-not-false), λ h. is-true)
truth-connects Xor false true = (λ h. inr (is-not-false, is-true), λ h. is-true)
truth-connects Xor false false = (λ h. absurd (is-not-false h), λ h. elim h [ inl x ↦ x.0 | inr y ↦ y.1 ])

-- an operation holds of facts that go together
connects-moved : (op : Op) (A B C D : Type 0) → A ↔ C → B ↔ D → Connects op A B → Connects op C D
connects-moved And A B C D f g h = (f.0 h.0, g.0 h.1)
connects-moved Or A B C D f g (inl a) = inl (f.0 a)
connects-moved Or A B C D f g (inr b) = inr (g.0 b)
connects-moved Iff A B C D f g h = (λ c. g.0 (h.0 (f.1 c)), λ d. f.0 (h.1 (g.1 d)))
connects-moved Xor A B C D f g (inl h) = inl (f.0 h.0, λ d. h.1 (g.1 d))
connects-moved Xor A B C D f g (inr h) = inr ((λ c. h.0 (f.1 c)), g.0 h.1)

turned : (A B : Type 0) → A ↔ B → B ↔ A
turned A B f = (f.1, f.0)

-- a word is accepted exactly where its vector is in the set
accepts : (t : ℕ) (X : Language) (w : List ℕ) (s : ℕ) (z : Vector) → KeepsSignExtension t X → Encodes t w s z → IsTrue (X w s) ↔ SetOf t X z
accepts t X w s z keeps word = subst (λ (y : Vector). IsTrue (X w s) ↔ SetOf t X y) word.meaning (accepts-value t X w s keeps word.letters word.sign)

combined-keeps : (t : ℕ) (op : Op) (X Y : Language) → KeepsSignExtension t X → KeepsSignExtension t Y → KeepsSignExtension t (combined_language op X Y)
combined-keeps t op X Y keeps_x keeps_y = record {
  keeps = λ w s ws hs. ap (λ (b : Bool). truth op b (Y (w ++ s ∷ []) s)) (keeps_x.keeps w s ws hs) ∙ ap (truth op (X w s)) (keeps_y.keeps w s ws hs);
}

pub combined-SetOf : (t : ℕ) (op : Op) (X Y : Language) → KeepsSignExtension t X → KeepsSignExtension t Y → SameSet t (SetOf t (combined_language op X Y)) (combined op (SetOf t X) (SetOf t Y))
combined-SetOf t op X Y keeps_x keeps_y = record {
  agrees = λ z count.
      let (w, s, encodes) = some-word z in
      let word : Encodes t w s z = subst (λ (n : ℕ). Encodes n w s z) count encodes in
      let whole = accepts t (combined_language op X Y) w s z (combined-keeps t op X Y keeps_x keeps_y) word in
      let in_x = accepts t X w s z keeps_x word in
      let in_y = accepts t Y w s z keeps_y word in
      let answer = truth-connects op (X w s) (Y w s) in (
        λ h. connects-moved op (IsTrue (X w s)) (IsTrue (Y w s)) (SetOf t X z) (SetOf t Y z) in_x in_y (answer.0 (whole.1 h)),
        λ h. whole.0 (answer.1 (connects-moved op (SetOf t X z) (SetOf t Y z) (IsTrue (X w s)) (IsTrue (Y w s)) (turned (IsTrue (X w s)) (SetOf t X z) in_x) (turned (IsTrue (Y w s)) (SetOf t Y z) in_y) h)),
      );
}

-- over sets that are equal to the operands
pub combined-same : (t : ℕ) (op : Op) (X Y S T : Vector → Type 0) → SameSet t X S → SameSet t Y T → SameSet t (combined op X Y) (combined op S T)
combined-same t op X Y S T same_x same_y = record {
  agrees = λ z count.
      let f = same_x.agrees z count in
      let g = same_y.agrees z count in
      (connects-moved op (X z) (Y z) (S z) (T z) f g, connects-moved op (S z) (T z) (X z) (Y z) (turned (X z) (S z) f) (turned (Y z) (T z) g));
}
