-- A finished search over families: its table, and how many families there are.
use Rattle.std.proofs.Common.{◌≡◌, ◌≢◌, IsTrue, ◌↔◌, subst, sym, ℕ, suc, ◌*◌, ◌^◌, ◌<◌, ◌≤◌, Bool, List, [], ◌∷◌, length, Some, slice_get, arith}
use Rattle.std.specs.List.{AllByRecursion}
use Rattle.pt_sets.specs.Words.{Vector, IsLetter, AreLetters}
use Rattle.pt_sets.specs.Sets.{SameSet}
use Rattle.pt_sets.specs.Languages.{KeepsSignExtension, Encodes, SetOf}
use Rattle.pt_sets.specs.Automata.{Automaton, IsAutomaton, IsReduced, language_of, SetOfState}
use Rattle.pt_sets.specs.Costs.{CostIs, CostAbove}
use Rattle.pt_sets.specs.Numbering.{Numbering, IsReached}
use Rattle.pt_sets.proofs.Numbered.{numbering-above, numbering-cost, state-means, is-automaton}
use Rattle.pt_sets.proofs.Acceptance.{some-word}
use Rattle.pt_sets.proofs.Counting.{SameSet-trans}
use Rattle.pt_sets.proofs.Running.{state-keeps}
use Rattle.pt_project.specs.Projecting.{projected, AcceptsWithout}
use Rattle.pt_project.specs.Families.{IsFamily, IsStepFamily, ShowsFamily, same_family}
use Rattle.pt_project.proofs.Projected.{sign-closure, projected-same}
use Rattle.pt_project.proofs.FamilyLaws.{family-one, family-back, family-first, family-next, MeansFamily, means-base, means-next, sign-kept, first-closes}

module _ (a : Automaton) (start n k : ℕ) (X : Vector → Type 0) (shape : IsAutomaton a) (tracks : a.tracks ≡ suc n) (inside : start < a.states) (short : k ≤ n) (same : SameSet (suc n) (SetOfState a start) X) where
  abbrev pub Stands : List ℕ → List ℕ → Type 0
  Stands w F = IsFamily a start n k w F

  abbrev pub Step : List ℕ → ℕ → List ℕ → Type 0
  Step F b G = IsStepFamily a k F b G

  abbrev pub Shows : List ℕ → ℕ → Bool → Type 0
  Shows F s b = ShowsFamily a n k F s b

  abbrev pub FamilyNumbering : List (List ℕ) → List Bool → List ℕ → ℕ → Type 0
  FamilyNumbering families outputs edges m = Numbering n (start ∷ []) Stands Step Shows families outputs edges m

  -- more families than the bound are more families of residuals
  pub families-above : IsReduced a → (families : List (List ℕ)) (outputs : List Bool) (edges : List ℕ) (m B : ℕ) (F : List ℕ) → FamilyNumbering families outputs edges m → IsReached n Stands F → AllByRecursion (λ G. G ≢ F) families → length families ≡ B →
      CostAbove (same_family n k X) n B
  families-above reduced families outputs edges m B F numbering reached new count =
      numbering-above n (start ∷ []) Stands Step Shows (same_family n k X)
      (λ v w F G letters_v letters_w. family-one a start n k X shape tracks inside short same reduced v w F G)
      families outputs edges m B F numbering reached new count

  module _ (families : List (List ℕ)) (outputs : List Bool) (edges : List ℕ) (done : FamilyNumbering families outputs edges (length families * 2 ^ n)) where
    -- as many families of residuals as families
    pub families-cost : IsReduced a → CostIs (same_family n k X) n (length families)
    families-cost reduced =
        numbering-cost n (start ∷ []) Stands Step Shows families outputs edges done (same_family n k X)
        (λ v w F G letters_v letters_w. family-one a start n k X shape tracks inside short same reduced v w F G)
        (λ v w F letters_v letters_w. family-back a start n k X shape tracks inside short same v w F)
        (λ w l F G letters letter. family-next a start n k X shape tracks inside short same w F l G letter)
        (family-first a start n k X shape tracks inside short same)

    means : (w : List ℕ) (i s : ℕ) (F : List ℕ) → slice_get families i ≡ Some F → AreLetters n w → IsLetter n s → MeansFamily a start n k X shape tracks inside short same F w s (language_of (record { tracks = n; states = length families; outputs = outputs; edges = edges }) i w s)
    means =
        state-means n (start ∷ []) Stands Step Shows families outputs edges done (MeansFamily a start n k X shape tracks inside short same)
        (λ F s b reached sign. means-base a start n k X shape tracks inside short same F s b)
        (λ F G l w s b reached letter letters sign. means-next a start n k X shape tracks inside short same F G l w s b letter)

    closes : (w : List ℕ) (s : ℕ) → AreLetters n w → IsLetter n s → IsTrue (language_of (record { tracks = n; states = length families; outputs = outputs; edges = edges }) 0 w s) ↔ AcceptsWithout n k (language_of a start) w s
    closes w s letters sign = first-closes a start n k X shape tracks inside short same w s _ (means w 0 s (start ∷ []) done.begins letters sign)

    -- the first state has the projection
    pub families-set : SameSet n (SetOfState (record { tracks = n; states = length families; outputs = outputs; edges = edges }) 0) (projected k X)
    families-set =
        let table : Automaton = record { tracks = n; states = length families; outputs = outputs; edges = edges } in
        let L = language_of a start in
        let keeps : KeepsSignExtension (suc n) L = subst (λ (t : ℕ). KeepsSignExtension t L) tracks (state-keeps a shape start inside) in
        let equal : SameSet (suc n) (SetOf (suc n) L) X = subst (λ (t : ℕ). SameSet (suc n) (SetOf t L) X) tracks same in
        let P : Vector → Type 0 = projected k (SetOf (suc n) L) in
        SameSet-trans n (SetOfState table 0) P (projected k X)
        (record {
          agrees = λ z count. (
            λ (w, s, e, accepted). subst P e.meaning ((sign-closure n k L w s short keeps e.letters e.sign).0 ((closes w s e.letters e.sign).0 accepted)),
            λ member.
                let (w, s, encodes) = some-word z in
                let e : Encodes n w s z = subst (λ (t : ℕ). Encodes t w s z) count encodes in
                (w, s, e, (closes w s e.letters e.sign).1 ((sign-closure n k L w s short keeps e.letters e.sign).1 (subst P (sym e.meaning) member))),
          );
        })
        (projected-same n k (SetOf (suc n) L) X short equal)

    pub families-automaton : length families ≤ 65536 → IsAutomaton (record { tracks = n; states = length families; outputs = outputs; edges = edges })
    families-automaton few =
        is-automaton n (start ∷ []) Stands Step Shows families outputs edges done (MeansFamily a start n k X shape tracks inside short same)
        (λ F s b reached sign. means-base a start n k X shape tracks inside short same F s b)
        (λ F G l w s b reached letter letters sign. means-next a start n k X shape tracks inside short same F G l w s b letter)
        (let fits : a.tracks ≤ 10 = shape.tracks in omega (arith, tracks))
        few
        (λ F s b c reached sign. sign-kept a start n k X shape tracks inside short same F s b c reached)
