-- States that have no vector but that of one sign.
use Rattle.std.proofs.Common.{◌≡◌, ◌≢◌, ◌⊎◌, inl, inr, ℕ, zero, suc, ◌^◌, ◌<◌, ◌≤◌, List, [], ◌∷◌, ◌++◌, length, ap, sym, ◌∙◌, subst, arith}
use Rattle.std.proofs.lemmas.Bool.{cases_eq}
use Rattle.pt_sets.specs.Words.{Vector, IsLetter, AreLetters, doubled_plus, sign_vector, value, parities, halves}
use Rattle.pt_sets.specs.Sets.{SameSet, residual}
use Rattle.pt_sets.specs.Automata.{Automaton, IsAutomaton, IsReduced, next_of, SetOfState, Reaches, Reaches.here, Reaches.further}
use Rattle.pt_sets.proofs.Digits.{length-doubled_plus, length-sign_vector, doubled_plus-injective, doubled_plus-sign_vector, sign_vector-injective, sign_vector-doubled_plus}
use Rattle.pt_sets.proofs.Halving.{size, size-halves, length-halves, parities-letter, doubled_plus-halves, sign_vector-parities}
use Rattle.pt_sets.proofs.WordValues.{length-value, value-letter}
use Rattle.pt_sets.proofs.Acceptance.{some-word}
use Rattle.pt_sets.proofs.Running.{state-residual}
use Rattle.pt_scc.specs.Components.{IsEdge}
use Rattle.pt_query.specs.Tame.{IsSingle, IsOff}

module _ (a : Automaton) (valid : IsAutomaton a) where
  -- a successor has the residual
  pub next-residual : (q l : ℕ) → q < a.states → IsLetter a.tracks l → SameSet a.tracks (SetOfState a (next_of a q l)) (residual (SetOfState a q) l)
  next-residual q l inside is_l = state-residual a valid q (l ∷ []) inside (is_l, tt)

  in-next : (q l : ℕ) (y : Vector) → q < a.states → IsLetter a.tracks l → length y ≡ a.tracks → SetOfState a (next_of a q l) y → SetOfState a q (doubled_plus l y)
  in-next q l y inside is_l len h = ((next-residual q l inside is_l).agrees y len).0 h

  to-next : (q l : ℕ) (y : Vector) → q < a.states → IsLetter a.tracks l → length y ≡ a.tracks → SetOfState a q (doubled_plus l y) → SetOfState a (next_of a q l) y
  to-next q l y inside is_l len h = ((next-residual q l inside is_l).agrees y len).1 h

  single-next : (q l : ℕ) → q < a.states → IsLetter a.tracks l → IsSingle a.tracks (SetOfState a q) → IsSingle a.tracks (SetOfState a (next_of a q l))
  single-next q l inside is_l (s, is_s, only) = (
    s,
    is_s,
    λ y len h. sym (sign_vector-doubled_plus a.tracks s l y is_s is_l len (sym (only (doubled_plus l y) (length-doubled_plus l y ∙ len) (in-next q l y inside is_l len h)))).1,
  )

  -- so many steps lead to states that have no vector but that of one sign
  abbrev Rank : ℕ → ℕ → Type 0
  Rank zero q = IsSingle a.tracks (SetOfState a q)
  Rank (suc n) q = IsSingle a.tracks (SetOfState a q) ⊎ ((l : ℕ) → IsLetter a.tracks l → Rank n (next_of a q l))

  rank-more : (n q : ℕ) → Rank n q → Rank (suc n) q
  rank-more zero q single = inl single
  rank-more (suc n) q (inl single) = inl single
  rank-more (suc n) q (inr all) = inr (λ l is_l. rank-more n (next_of a q l) (all l is_l))

  rank-next : (n q l : ℕ) → q < a.states → IsLetter a.tracks l → Rank n q → Rank n (next_of a q l)
  rank-next zero q l inside is_l single = single-next q l inside is_l single
  rank-next (suc n) q l inside is_l (inl single) = inl (single-next q l inside is_l single)
  rank-next (suc n) q l inside is_l (inr all) = rank-more n (next_of a q l) (all l is_l)

  reached-within : (q r : ℕ) → q < a.states → Reaches (IsEdge a) q r → r < a.states
  reached-within q r inside here = inside
  reached-within q r inside (further b c path (l, is_l, is)) = subst (λ (x : ℕ). x < a.states) is (valid.closed b l (reached-within q b inside path) is_l)

  rank-reached : (n q r : ℕ) → q < a.states → Reaches (IsEdge a) q r → Rank n q → Rank n r
  rank-reached n q r inside here rank = rank
  rank-reached n q r inside (further b c path (l, is_l, is)) rank = subst (Rank n) is (rank-next n b l (reached-within q b inside path) is_l (rank-reached n q b inside path rank))

  -- a state on a cycle
  pub rank-cycle : (n q l : ℕ) → q < a.states → IsLetter a.tracks l → Reaches (IsEdge a) (next_of a q l) q → Rank n q → IsSingle a.tracks (SetOfState a q)
  rank-cycle zero q l inside is_l back single = single
  rank-cycle (suc n) q l inside is_l back (inl single) = single
  rank-cycle (suc n) q l inside is_l back (inr all) = rank-cycle n q l inside is_l back (rank-reached n (next_of a q l) q (valid.closed q l inside is_l) back (all l is_l))

  pub rank-bounded : (m q : ℕ) → q < a.states → ((z : Vector) → length z ≡ a.tracks → SetOfState a q z → size z ≤ m) → Rank (suc m) q
  rank-bounded zero q inside small =
      inr (λ l is_l. (
        l,
        is_l,
        λ y len h.
            let z = doubled_plus l y in
            let z_len : length z ≡ a.tracks = length-doubled_plus l y ∙ len in
            let none = small z z_len (in-next q l y inside is_l len h) in
            let s = parities z in
            let is : sign_vector a.tracks s ≡ z = ap (λ (t : ℕ). sign_vector t s) (sym z_len) ∙ sign_vector-parities z (omega arith) in
            let is_s = subst (λ (t : ℕ). s < 2 ^ t) z_len (parities-letter z) in
            let both = sign_vector-doubled_plus a.tracks s l y is_s is_l len is in
            sym both.1 ∙ ap (sign_vector a.tracks) both.0,
      ))
  rank-bounded (suc m) q inside small =
      inr (λ l is_l. rank-bounded m (next_of a q l) (valid.closed q l inside is_l)
      (λ y len h.
      let z = doubled_plus l y in
      let z_len : length z ≡ a.tracks = length-doubled_plus l y ∙ len in
      let bound = small z z_len (in-next q l y inside is_l len h) in
      let is_p = subst (λ (t : ℕ). parities z < 2 ^ t) z_len (parities-letter z) in
      let same = (doubled_plus-injective a.tracks l (parities z) y (halves z) is_l is_p len (length-halves z ∙ z_len) (sym (doubled_plus-halves z))).1 in
      let half = size-halves z in
      let is = ap size same in
      omega (arith, bound, half, is)))

  -- The state leads to itself by s.
  module _ (q s : ℕ) (inside : q < a.states) (is_s : IsLetter a.tracks s) (loops : next_of a q s ≡ q) where
    loop-word : ((l : ℕ) → IsLetter a.tracks l → l ≢ s → IsOff a q l) → (w : List ℕ) (r : ℕ) → AreLetters a.tracks w → IsLetter a.tracks r → SetOfState a q (value a.tracks (w ++ r ∷ [])) → value a.tracks (w ++ r ∷ []) ≡ sign_vector a.tracks s
    loop-word off [] r all is_r h = elim (cases_eq r s) [ inl same ↦ ap (sign_vector a.tracks) same | inr other ↦ absurd ((off r is_r other).0 h) ]
    loop-word off (l ∷ w) r all is_r h =
        let rest = value a.tracks (w ++ r ∷ []) in
        let len = length-value a.tracks (w ++ r ∷ []) in
        let split = value-letter a.tracks l w r in
        let next = to-next q l rest inside all.0 len (subst (SetOfState a q) split h) in
        elim (cases_eq l s) [
          | inl same ↦
              let here : SetOfState a q rest = subst (λ (x : ℕ). SetOfState a x rest) (ap (next_of a q) same ∙ loops) next in
              let ih = loop-word off w r all.1 is_r here in
              split ∙ ap (doubled_plus l) ih ∙ ap (λ (x : ℕ). doubled_plus x (sign_vector a.tracks s)) same ∙ doubled_plus-sign_vector a.tracks s
          | inr other ↦ absurd ((off l all.0 other).1 rest len next)
        ]

    pub loop-single : ((l : ℕ) → IsLetter a.tracks l → l ≢ s → IsOff a q l) → IsSingle a.tracks (SetOfState a q)
    loop-single off = (
      s,
      is_s,
      λ z len h.
          let (w, r, encodes) = some-word z in
          let ws = subst (λ (t : ℕ). AreLetters t w) len encodes.letters in
          let is_r = subst (λ (t : ℕ). IsLetter t r) len encodes.sign in
          let meaning = subst (λ (t : ℕ). value t (w ++ r ∷ []) ≡ z) len encodes.meaning in
          sym meaning ∙ loop-word off w r ws is_r (subst (SetOfState a q) (sym meaning) h),
    )

    pub single-off : IsSingle a.tracks (SetOfState a q) → (l : ℕ) → IsLetter a.tracks l → l ≢ s → IsOff a q l
    single-off (x, is_x, only) l is_l other = (no-sign, λ y len h. no-next y len h)
      where
        no-sign : SetOfState a q (sign_vector a.tracks l) → ⊥
        no-sign h =
            let len = length-sign_vector a.tracks l in
            let here : SetOfState a (next_of a q s) (sign_vector a.tracks l) = subst (λ (r : ℕ). SetOfState a r (sign_vector a.tracks l)) (sym loops) h in
            let twice = only (doubled_plus s (sign_vector a.tracks l)) (length-doubled_plus s (sign_vector a.tracks l) ∙ len) (in-next q s (sign_vector a.tracks l) inside is_s len here) in
            let once = only (sign_vector a.tracks l) len h in
            let same = sign_vector-doubled_plus a.tracks x s (sign_vector a.tracks l) is_x is_s len (sym twice) in
            let is = sign_vector-injective a.tracks l x is_l is_x once in
            other (is ∙ same.0)

        no-next : (y : Vector) → length y ≡ a.tracks → SetOfState a (next_of a q l) y → ⊥
        no-next y len h =
            let whole = only (doubled_plus l y) (length-doubled_plus l y ∙ len) (in-next q l y inside is_l len h) in
            let same = sign_vector-doubled_plus a.tracks x l y is_x is_l len (sym whole) in
            let in_q : SetOfState a q (sign_vector a.tracks l) = subst (λ (z : Vector). SetOfState a q z) (whole ∙ ap (sign_vector a.tracks) same.0) (in-next q l y inside is_l len h) in
            no-sign in_q

  -- a state of a reduced automaton that has no vector but that of a sign leads to itself by the sign
  pub single-loops : IsReduced a → (q : ℕ) → q < a.states → IsSingle a.tracks (SetOfState a q) → (l : ℕ) × IsLetter a.tracks l × (next_of a q l ≡ q)
  single-loops reduced q inside (s, is_s, only) = (
    s,
    is_s,
    reduced (next_of a q s) q (valid.closed q s inside is_s) inside (record {
      agrees = λ y len. (
        λ h.
            let whole = only (doubled_plus s y) (length-doubled_plus s y ∙ len) (in-next q s y inside is_s len h) in
            let same = sign_vector-doubled_plus a.tracks s s y is_s is_s len (sym whole) in
            subst (SetOfState a q) (whole ∙ same.1) (in-next q s y inside is_s len h),
        λ h.
            let is = only y len h in
            to-next q s y inside is_s len (subst (SetOfState a q) (is ∙ sym (doubled_plus-sign_vector a.tracks s) ∙ ap (doubled_plus s) (sym is)) h),
      );
    }),
  )
