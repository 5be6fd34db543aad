-- The set of a widened language is the widened set.
use Rattle.std.proofs.Common.{◌≡◌, ◌↔◌, ℕ, ◌+◌, ◌*◌, ◌/◌, ◌%◌, ◌<◌, List, [], ◌∷◌, ◌++◌, length, refl, ap, sym, ◌∙◌, subst, arith}
use Rattle.std.specs.Prelude.{slice_index_or, ℤ, pos, neg_ℤ, ◌+ℤ◌, ◌*ℤ◌}
use Rattle.std.specs.Int.{bit_at}
use Rattle.std.specs.List.{AllByRecursion}
use Rattle.std.proofs.lemmas.Option.{slice_get-get_or, get_or_from_slice_get}
use Rattle.std.proofs.lemmas.Nat.Bits.{bit_at-lt}
use Rattle.pt_sets.specs.Words.{Vector, AreLetters, doubled_plus, sign_vector, value, after_digits}
use Rattle.pt_sets.specs.Sets.{SameSet, residual_by}
use Rattle.pt_sets.specs.Languages.{Language, SameLanguage, quotient, KeepsSignExtension, Encodes, SetOf}
use Rattle.pt_sets.specs.Costs.{restricted, SameResidual}
use Rattle.pt_sets.specs.Restricting.{IsTrackMap, selected, restricted_all, widened, widened_language}
use Rattle.pt_sets.proofs.WordValues.{slice_get-doubled_plus, slice_get-sign_vector, value-letter, length-value}
use Rattle.pt_sets.proofs.Digits.{length-after_digits}
use Rattle.pt_sets.proofs.Counting.{SameSet-sym, SameSet-trans}
use Rattle.pt_sets.proofs.Acceptance.{some-word, accepts-value, quotient-keeps, quotient-residual, same-sets}
use Rattle.pt_sets.proofs.Restricted.{restricted-IsLetter, restricted_all-AreLetters, restricted_all-append}

low-digit : (d r : ℕ) → d < 2 → (d + 2 * r) % 2 ≡ d
low-digit d r h = omega arith

high-digits : (d r : ℕ) → d < 2 → (d + 2 * r) / 2 ≡ r
high-digits d r h = omega arith

-- the selected components of a sign's vector are the vector of the restricted sign
selected-sign_vector : (t s : ℕ) (m : List ℕ) → AllByRecursion (λ i. i < t) m → selected m (sign_vector t s) ≡ sign_vector (length m) (restricted m s)
selected-sign_vector t s [] within = refl
selected-sign_vector t s (i ∷ m) within =
    let d = bit_at s i in
    let r = restricted m s in
    let small = bit_at-lt s i in
    let first : slice_index_or (sign_vector t s) i (pos 0) ≡ neg_ℤ (pos d) = get_or_from_slice_get (sign_vector t s) i (neg_ℤ (pos d)) (pos 0) (slice_get-sign_vector t s i within.0) in
    ap (λ (x : ℤ). x ∷ selected m (sign_vector t s)) (first ∙ ap (λ (e : ℕ). neg_ℤ (pos e)) (sym (low-digit d r small)))
    ∙ ap (λ (z : Vector). neg_ℤ (pos ((d + 2 * r) % 2)) ∷ z) (selected-sign_vector t s m within.1 ∙ ap (sign_vector (length m)) (sym (high-digits d r small)))

-- the selected components behind a letter stand behind the restricted letter
selected-doubled_plus : (t a : ℕ) (z : Vector) (m : List ℕ) → length z ≡ t → AllByRecursion (λ i. i < t) m → selected m (doubled_plus a z) ≡ doubled_plus (restricted m a) (selected m z)
selected-doubled_plus t a z [] count within = refl
selected-doubled_plus t a z (i ∷ m) count within =
    let d = bit_at a i in
    let r = restricted m a in
    let small = bit_at-lt a i in
    let x = slice_index_or z i (pos 0) in
    let inside : i < length z = subst (λ (n : ℕ). i < n) (sym count) within.0 in
    let first : slice_index_or (doubled_plus a z) i (pos 0) ≡ (pos 2 *ℤ x +ℤ pos d) =
    get_or_from_slice_get (doubled_plus a z) i (pos 2 *ℤ x +ℤ pos d) (pos 0) (slice_get-doubled_plus a i z x (slice_get-get_or z i (pos 0) inside)) in
    ap (λ (y : ℤ). y ∷ selected m (doubled_plus a z)) (first ∙ ap (λ (e : ℕ). pos 2 *ℤ x +ℤ pos e) (sym (low-digit d r small)))
    ∙ ap (λ (y : Vector). (pos 2 *ℤ x +ℤ pos ((d + 2 * r) % 2)) ∷ y) (selected-doubled_plus t a z m count within.1 ∙ ap (λ (b : ℕ). doubled_plus b (selected m z)) (sym (high-digits d r small)))

-- the selected components of a word's value are the value of the restricted word
pub selected-value : (t : ℕ) (m w : List ℕ) (s : ℕ) → AllByRecursion (λ i. i < t) m → selected m (value t (w ++ s ∷ [])) ≡ value (length m) (restricted_all m w ++ restricted m s ∷ [])
selected-value t m [] s within = selected-sign_vector t s m within
selected-value t m (a ∷ w) s within =
    ap (selected m) (value-letter t a w s)
    ∙ selected-doubled_plus t a (value t (w ++ s ∷ [])) m (length-value t (w ++ s ∷ [])) within
    ∙ ap (doubled_plus (restricted m a)) (selected-value t m w s within)
    ∙ sym (value-letter (length m) (restricted m a) (restricted_all m w) (restricted m s))

-- the set of a widened language is the widened set
pub widened-SetOf : (k t : ℕ) (m : List ℕ) (X : Language) → IsTrackMap k t m → KeepsSignExtension k X → SameSet t (SetOf t (widened_language m X)) (widened m (SetOf k X))
widened-SetOf k t m X fits keeps = record { agrees = λ z count. (into z, back z count) }
  where
    meaning : (w : List ℕ) (s : ℕ) → selected m (value t (w ++ s ∷ [])) ≡ value k (restricted_all m w ++ restricted m s ∷ [])
    meaning w s = selected-value t m w s fits.within ∙ ap (λ (n : ℕ). value n (restricted_all m w ++ restricted m s ∷ [])) fits.count

    into : (z : Vector) → SetOf t (widened_language m X) z → widened m (SetOf k X) z
    into z (w, s, encodes, accepted) = (
      restricted_all m w,
      restricted m s,
      record {
        letters = restricted_all-AreLetters k t m w fits;
        sign = restricted-IsLetter k t m s fits;
        meaning = sym (meaning w s) ∙ ap (selected m) encodes.meaning;
      },
      accepted,
    )

    back : (z : Vector) → length z ≡ t → widened m (SetOf k X) z → SetOf t (widened_language m X) z
    back z count member =
        let (w, s, encodes) = some-word z in
        let word : Encodes t w s z = subst (λ (n : ℕ). Encodes n w s z) count encodes in
        let value_is : selected m z ≡ value k (restricted_all m w ++ restricted m s ∷ []) = ap (selected m) (sym word.meaning) ∙ meaning w s in
        let accepted = (accepts-value k X (restricted_all m w) (restricted m s) keeps (restricted_all-AreLetters k t m w fits) (restricted-IsLetter k t m s fits)).1
        (subst (SetOf k X) value_is member) in
        (w, s, word, accepted)

-- a widened language keeps sign extension
pub widened-keeps : (k t : ℕ) (m : List ℕ) (X : Language) → IsTrackMap k t m → KeepsSignExtension k X → KeepsSignExtension t (widened_language m X)
widened-keeps k t m X fits keeps = record {
  keeps = λ w s ws hs.
      ap (λ (u : List ℕ). X u (restricted m s)) (restricted_all-append m w (s ∷ []))
      ∙ keeps.keeps (restricted_all m w) (restricted m s) (restricted_all-AreLetters k t m w fits) (restricted-IsLetter k t m s fits);
}

-- the set of a quotient of the widened language is the residual of the widened set
quotient-widened-SetOf : (k t : ℕ) (m : List ℕ) (X : Language) (w : List ℕ) → IsTrackMap k t m → KeepsSignExtension k X → AreLetters t w →
    SameSet t (SetOf t (quotient (widened_language m X) w)) (residual_by (widened m (SetOf k X)) w)
quotient-widened-SetOf k t m X w fits keeps letters =
    let W = widened_language m X in
    let first = quotient-residual t W w (widened-keeps k t m X fits keeps) letters in
    let same = widened-SetOf k t m X fits keeps in
    SameSet-trans t (SetOf t (quotient W w)) (residual_by (SetOf t W) w) (residual_by (widened m (SetOf k X)) w) first
    (record { agrees = λ z count. same.agrees (after_digits w z) (length-after_digits w z ∙ count) })

-- widened residuals are equal exactly where the quotients of the widened language are
pub widened-SameResidual : (k t : ℕ) (m : List ℕ) (X : Language) (v w : List ℕ) → IsTrackMap k t m → KeepsSignExtension k X → AreLetters t v → AreLetters t w →
    SameResidual t (widened m (SetOf k X)) v w ↔ SameLanguage t (quotient (widened_language m X) v) (quotient (widened_language m X) w)
widened-SameResidual k t m X v w fits keeps vs ws =
    let W = widened_language m X in
    let W_keeps = widened-keeps k t m X fits keeps in
    let S = widened m (SetOf k X) in
    let at_v = quotient-widened-SetOf k t m X v fits keeps vs in
    let at_w = quotient-widened-SetOf k t m X w fits keeps ws in
    let sets = same-sets t (quotient W v) (quotient W w) (quotient-keeps t W v vs W_keeps) (quotient-keeps t W w ws W_keeps) in (
      λ same. sets.0 (SameSet-trans t (SetOf t (quotient W v)) (residual_by S v) (SetOf t (quotient W w)) at_v
          (SameSet-trans t (residual_by S v) (residual_by S w) (SetOf t (quotient W w)) same (SameSet-sym t (SetOf t (quotient W w)) (residual_by S w) at_w))),
      λ same. SameSet-trans t (residual_by S v) (SetOf t (quotient W v)) (residual_by S w) (SameSet-sym t (SetOf t (quotient W v)) (residual_by S v) at_v)
          (SameSet-trans t (SetOf t (quotient W v)) (SetOf t (quotient W w)) (residual_by S w) (sets.1 same) at_w),
    )
