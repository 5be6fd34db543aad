-- Stable classes are the classes of equal sets, and the automaton of the classes has their sets.
use Rattle.std.proofs.Common.{◌≡◌, ◌≢◌, ℕ, ◌<◌, Bool, List, [], ◌∷◌, ap, sym, ◌∙◌, subst}
use Rattle.pt_sets.specs.Words.{AreLetters, IsLetter}
use Rattle.pt_sets.specs.Sets.{VectorSet, SameSet}
use Rattle.pt_sets.specs.Languages.{SameLanguage}
use Rattle.pt_sets.specs.Automata.{Automaton, IsReduced, language, run, SetOfState}
use Rattle.pt_refine.specs.Reduction.{Reduction, IsReductionOf}
use Rattle.pt_refine.specs.Refining.{Told}

-- equal classes have equal answers, if outputs are equal and successors stay in equal classes
module _ (t n : ℕ) (to : ℕ → ℕ → ℕ) (out : ℕ → ℕ → Bool) where
  pub told-empty : (q r s : ℕ) → IsLetter t s → out q s ≢ out r s → Told t to out q r
  told-empty q r s letter ne = ([], s, tt, letter, ne)

  pub told-letter : (q r l : ℕ) → IsLetter t l → Told t to out (to q l) (to r l) → Told t to out q r
  told-letter q r l letter told = (l ∷ told.0, told.1, (letter, told.2), told.3, told.4)

  pub told-differs : (q r : ℕ) → Told t to out q r → ¬ SameLanguage t (language to out q) (language to out r)
  told-differs q r told same = told.4 (same.agrees told.0 told.1 told.2 told.3)

  module _ (inside : (q l : ℕ) → q < n → IsLetter t l → to q l < n) (class : ℕ → ℕ)
      (outputs : (q r s : ℕ) → q < n → r < n → class q ≡ class r → IsLetter t s → out q s ≡ out r s)
      (stable : (q r l : ℕ) → q < n → r < n → class q ≡ class r → IsLetter t l → class (to q l) ≡ class (to r l)) where
    agree : (w : List ℕ) (s q r : ℕ) → q < n → r < n → class q ≡ class r → AreLetters t w → IsLetter t s → language to out q w s ≡ language to out r w s
    agree [] s q r q_in r_in e letters letter = outputs q r s q_in r_in e letter
    agree (l ∷ w) s q r q_in r_in e letters letter =
        agree w s (to q l) (to r l) (inside q l q_in letters.0) (inside r l r_in letters.0) (stable q r l q_in r_in e letters.0) letters.1 letter

    pub one-class-same : (q r : ℕ) → q < n → r < n → class q ≡ class r → SameLanguage t (language to out q) (language to out r)
    one-class-same q r q_in r_in e = record { agrees = λ w s letters letter. agree w s q r q_in r_in e letters letter }

    -- the automaton of the classes
    module _ (to' : ℕ → ℕ → ℕ) (out' : ℕ → ℕ → Bool)
        (next_is : (q l : ℕ) → q < n → IsLetter t l → to' (class q) l ≡ class (to q l))
        (out_is : (q s : ℕ) → q < n → IsLetter t s → out' (class q) s ≡ out q s) where
      follows : (w : List ℕ) (s q : ℕ) → q < n → AreLetters t w → IsLetter t s → language to' out' (class q) w s ≡ language to out q w s
      follows [] s q q_in letters letter = out_is q s q_in letter
      follows (l ∷ w) s q q_in letters letter =
          ap (λ c. out' (run to' out' c w) s) (next_is q l q_in letters.0) ∙ follows w s (to q l) (inside q l q_in letters.0) letters.1 letter

      pub class-set : (q : ℕ) → q < n → SameLanguage t (language to' out' (class q)) (language to out q)
      class-set q q_in = record { agrees = λ w s letters letter. follows w s q q_in letters letter }

pub SameSet-sym : {t : ℕ} {X Y : VectorSet} → SameSet t X Y → SameSet t Y X
SameSet-sym same = record { agrees = λ z len. ((same.agrees z len).1, (same.agrees z len).0) }

pub SameSet-trans : {t : ℕ} {X Y Z : VectorSet} → SameSet t X Y → SameSet t Y Z → SameSet t X Z
SameSet-trans first second = record {
  agrees = λ z len. (λ x. (second.agrees z len).0 ((first.agrees z len).0 x), λ x. (first.agrees z len).1 ((second.agrees z len).1 x));
}

-- a reduction is reduced
pub reduction-reduced : (a : Automaton) (r : Reduction) → IsReductionOf a r → IsReduced r.table
reduction-reduced a r made = λ c d c_in d_in same.
    let p = made.members c c_in in
    let q = made.members d d_in in
    let at_c : SameSet a.tracks (SetOfState r.table c) (SetOfState a p.0) = subst (λ (e : ℕ). SameSet a.tracks (SetOfState r.table e) (SetOfState a p.0)) p.2 (made.sets p.0 p.1) in
    let at_d : SameSet a.tracks (SetOfState r.table d) (SetOfState a q.0) = subst (λ (e : ℕ). SameSet a.tracks (SetOfState r.table e) (SetOfState a q.0)) q.2 (made.sets q.0 q.1) in
    let between : SameSet a.tracks (SetOfState r.table c) (SetOfState r.table d) = subst (λ (t : ℕ). SameSet t (SetOfState r.table c) (SetOfState r.table d)) made.tracks same in
    let equal = SameSet-trans (SameSet-sym at_c) (SameSet-trans between at_d) in
    sym p.2 ∙ (made.one_class p.0 q.0 p.1 q.1).1 equal ∙ q.2
