-- A set is bounded exactly where each strongly connected part of its automaton is tame.
use Rattle.std.proofs.Common.{◌≡◌, ◌≢◌, ◌⊎◌, inl, inr, ℕ, zero, suc, ◌^◌, ◌<◌, ◌≤◌, List, [], length, refl, ap, sym, ◌∙◌, subst, arith}
use Rattle.std.specs.Prelude.{slice_index, slice_index_or}
use Rattle.std.proofs.lemmas.Bool.{cases_eq, cases_lt}
use Rattle.std.proofs.lemmas.List.{get_or_default}
use Rattle.pt_sets.specs.Words.{IsLetter}
use Rattle.pt_sets.specs.Sets.{VectorSet, residual, residual_by}
use Rattle.pt_sets.specs.Automata.{Automaton, IsAutomaton, next_of, SetOfState, Reaches, Reaches.here, Reaches.further}
use Rattle.pt_sets.proofs.Counting.{SameSet-sym}
use Rattle.pt_sets.proofs.Reaching.{Reaches-trans}
use Rattle.pt_scc.specs.Components.{AreComponents, IsEdge, IsIn}
use Rattle.pt_handles.specs.Expansion.{Expands}
use Rattle.pt_query.specs.Queries.{IsBounded}
use Rattle.pt_query.specs.Tame.{IsSingle, HasLoop, IsTame}
use Rattle.pt_query.proofs.Bounds.{bounded-same, bounded-residual, bounded-residual_by, bounded-single, bounded-by-residuals, total, size-total}
use Rattle.pt_query.proofs.Singles.{next-residual, rank-bounded, rank-cycle}

-- the first step of a path
first-step : {Q : Type 0} (step : Q → Q → Type 0) (a c : Q) → Reaches step a c → (a ≡ c) ⊎ ((b : Q) × step a b × Reaches step b c)
first-step step a c here = inl refl
first-step step a c (further b d path edge) =
    elim (first-step step a b path) [
      | inl same ↦ inr (d, subst (λ x. step x d) (sym same) edge, here)
      | inr (x, first, rest) ↦ inr (x, first, further b d rest edge)
    ]

module _ (a : Automaton) (valid : IsAutomaton a) where
  bounded-next : (q l : ℕ) → q < a.states → IsLetter a.tracks l → IsBounded a.tracks (SetOfState a q) → IsBounded a.tracks (SetOfState a (next_of a q l))
  bounded-next q l inside is_l bounded =
      bounded-same a.tracks (residual (SetOfState a q) l) (SetOfState a (next_of a q l)) (SameSet-sym a.tracks (SetOfState a (next_of a q l)) (residual (SetOfState a q) l) (next-residual a valid q l inside is_l)) (bounded-residual a.tracks (SetOfState a q) l bounded)

  reached-bounded : (q r : ℕ) → q < a.states → Reaches (IsEdge a) q r → IsBounded a.tracks (SetOfState a q) → (r < a.states) × IsBounded a.tracks (SetOfState a r)
  reached-bounded q r inside here bounded = (inside, bounded)
  reached-bounded q r inside (further b c path (l, is_l, is)) bounded =
      let at = reached-bounded q b inside path bounded in (
        subst (λ (x : ℕ). x < a.states) is (valid.closed b l at.0 is_l),
        subst (λ (x : ℕ). IsBounded a.tracks (SetOfState a x)) is (bounded-next b l at.0 is_l at.1),
      )

  -- whether one of the first n letters leads back
  loop-below : (q n : ℕ) → ((l : ℕ) × (l < n) × (next_of a q l ≡ q)) ⊎ ((l : ℕ) → l < n → next_of a q l ≢ q)
  loop-below q zero = inr (λ l h. absurd (omega arith))
  loop-below q (suc n) =
      elim (cases_eq (next_of a q n) q) [
        | inl same ↦ inl (n, omega arith, same)
        | inr other ↦ elim (loop-below q n) [
          | inl (l, below, same) ↦ inl (l, omega (arith, below), same)
          | inr none ↦ inr (λ l h. elim (cases_eq l n) [ inl same ↦ subst (λ (m : ℕ). next_of a q m ≢ q) (sym same) other | inr less ↦ none l (omega (arith, h, less)) ])
        ]
      ]

  module _ (parts : List (List ℕ)) (are : AreComponents a.states (IsEdge a) parts) where
    abbrev part : ℕ → List ℕ
    part i = slice_index_or parts i []

    abbrev head : ℕ → ℕ
    head i = slice_index (part i) 0

    in-part : (i k : ℕ) → k < length (part i) → IsIn parts i (slice_index (part i) k)
    in-part i k h = (k, h, get_or_default (part i) k (slice_index (part i) k) 0 h)

    pub head-inside : (i : ℕ) → i < length parts → head i < a.states
    head-inside i h = are.partition.in_range i (head i) (in-part i 0 (are.partition.inhabited i h))

    only-head : (i q : ℕ) → length (part i) ≤ 1 → IsIn parts i q → q ≡ head i
    only-head i q few (k, h, is) = let zero_k : k ≡ 0 = omega (arith, few, h) in sym is ∙ get_or_default (part i) k q 0 h ∙ ap (slice_index (part i)) zero_k

    module _ (all : (i : ℕ) → i < length parts → IsTame a (part i)) where
      go : (f i : ℕ) → i < f → i < length parts → (q : ℕ) → IsIn parts i q → IsBounded a.tracks (SetOfState a q)
      go zero i small h q in_i = absurd (omega arith)
      go (suc f) i small h q in_i = choose (λ j lt r in_j. go f j (omega (arith, lt, small)) (omega (arith, lt, h)) r in_j) (cases_lt 1 (length (part i))) (loop-below (head i) (2 ^ a.tracks))
        where
          cyclic : (1 < length (part i)) ⊎ HasLoop a (head i) → IsBounded a.tracks (SetOfState a q)
          cyclic cycle = (reached-bounded (head i) q (head-inside i h) (are.connected i (head i) q (in-part i 0 (are.partition.inhabited i h)) in_i) (bounded-single a.tracks (SetOfState a (head i)) (all i h cycle))).1

          choose : ((j : ℕ) → j < i → (r : ℕ) → IsIn parts j r → IsBounded a.tracks (SetOfState a r)) → (1 < length (part i)) ⊎ (length (part i) ≤ 1) → ((l : ℕ) × (l < 2 ^ a.tracks) × (next_of a (head i) l ≡ head i)) ⊎ ((l : ℕ) → l < 2 ^ a.tracks → next_of a (head i) l ≢ head i) → IsBounded a.tracks (SetOfState a q)
          choose earlier (inl more) loops = cyclic (inl more)
          choose earlier (inr few) (inl (l, is_l, is)) = cyclic (inr (l, is_l, is))
          choose earlier (inr few) (inr none) =
              let is_q = only-head i q few in_i in
              let inside = are.partition.in_range i q in_i in
              bounded-by-residuals a.tracks (SetOfState a q)
              (λ l is_l.
              let r = next_of a q l in
              let in_r = valid.closed q l inside is_l in
              let (j, h_j, in_j) = are.partition.covered r in_r in
              let le = are.ordered i j q r in_i in_j (l, is_l, refl) in
              let other : j ≢ i = λ same. none l is_l (ap (λ (x : ℕ). next_of a x l) (sym is_q) ∙ only-head i r few (subst (λ (k : ℕ). IsIn parts k r) same in_j)) in
              let below = earlier j (omega (arith, le, other)) r in_j in
              bounded-same a.tracks (SetOfState a r) (residual (SetOfState a q) l) (next-residual a valid q l inside is_l) below)

      pub tame-bounded : (q : ℕ) → q < a.states → IsBounded a.tracks (SetOfState a q)
      tame-bounded q inside = let (i, h, in_i) = are.partition.covered q inside in go (suc i) i (omega arith) h q in_i

    module _ (X : VectorSet) (start : ℕ) (e : Expands a.tracks X a start) (bounded : IsBounded a.tracks X) where
      state-bounded : (q : ℕ) → q < a.states → IsBounded a.tracks (SetOfState a q)
      state-bounded q inside =
          let (w, letters, same) = e.reached q inside in
          bounded-same a.tracks (residual_by X w) (SetOfState a q) (SameSet-sym a.tracks (SetOfState a q) (residual_by X w) same) (bounded-residual_by a.tracks X w bounded)

      on-cycle : (q l : ℕ) → q < a.states → IsLetter a.tracks l → Reaches (IsEdge a) (next_of a q l) q → IsSingle a.tracks (SetOfState a q)
      on-cycle q l inside is_l back =
          let (B, at_most) = state-bounded q inside in
          let m = total a.tracks B in
          rank-cycle a valid (suc m) q l inside is_l back (rank-bounded a valid m q inside (λ z len h. size-total a.tracks B z len (at_most z len h)))

      pub bounded-tame : (i : ℕ) → i < length parts → IsTame a (part i)
      bounded-tame i h (inr (l, is_l, is)) = on-cycle (head i) l (head-inside i h) is_l (subst (λ (r : ℕ). Reaches (IsEdge a) r (head i)) (sym is) here)
      bounded-tame i h (inl more) =
          let q = head i in
          let r = slice_index (part i) 1 in
          let in_q = in-part i 0 (omega (arith, more)) in
          let in_r = in-part i 1 more in
          let apart : q ≢ r = λ same. (let e0 = are.partition.once i 0 1 (omega (arith, more)) more same in omega (arith, e0)) in
          elim (first-step (IsEdge a) q r (are.connected i q r in_q in_r)) [
            | inl same ↦ absurd (apart same)
            | inr (b, (l, is_l, is), rest) ↦
                let back = Reaches-trans (IsEdge a) b r q rest (are.connected i r q in_r in_q) in
                on-cycle q l (head-inside i h) is_l (subst (λ (x : ℕ). Reaches (IsEdge a) x q) (sym is) back)
          ]
