-- Fresh words are the shortest words of the members.
use Rattle.std.proofs.Common.{◌≡◌, ◌≢◌, ℕ, zero, suc, ◌<◌, List, [], ◌∷◌, ◌++◌, length, replicate, Option, None, Some, refl, ap, sym, ◌∙◌, subst, arith, append_assoc, length-append}
use Rattle.std.proofs.lemmas.List.{append-nil}
use Rattle.pt_sets.specs.Words.{Vector, AreLetters, IsWord, value}
use Rattle.pt_sets.specs.Automata.{Automaton, IsAutomaton, next_of, SetOfState}
use Rattle.pt_sets.specs.Shortlex.{IsShortestWord}
use Rattle.pt_sets.proofs.Running.{state-accepts}
use Rattle.pt_sets.proofs.WordValues.{length-value}
use Rattle.pt_sets.proofs.SameValues.{split-sign, shortest-exists, word-repeats, value-repeated}
use Rattle.pt_query.specs.Fresh.{IsFreshFrom, IsAcceptedFrom}
use Rattle.pt_query.proofs.Least.{IsAccepted, shortest-accepted}
use Rattle.pt_query.proofs.FreshWords.{fresh-accepted}
use Rattle.pt_query.proofs.Listed.{fresh-letters}

accepted-split : (a : Automaton) (q : ℕ) (v : List ℕ) (s : ℕ) → IsAcceptedFrom a q (v ++ s ∷ []) → IsAccepted a q v s
accepted-split a q [] s h = record { letters = tt; sign = h.0; accepted = h.1 }
accepted-split a q (l ∷ []) s h = record { letters = (h.0, tt); sign = h.1.0; accepted = h.1.1 }
accepted-split a q (l ∷ m ∷ v) s h = let rest = accepted-split a (next_of a q l) (m ∷ v) s h.1 in record { letters = (h.0, rest.letters); sign = rest.sign; accepted = rest.accepted }

-- a repeated sign is not fresh
no-repeat : (a : Automaton) (before : Option ℕ) (q : ℕ) (x : List ℕ) (s n : ℕ) → IsFreshFrom a before q (x ++ s ∷ s ∷ replicate n s) → ⊥
no-repeat a before q [] s zero h = h.1.1 refl
no-repeat a before q [] s (suc n) h = no-repeat a (Some s) (next_of a q s) [] s n h.1
no-repeat a before q (l ∷ []) s n h = no-repeat a (Some l) (next_of a q l) [] s n h.1
no-repeat a before q (l ∷ m ∷ x) s n h = no-repeat a (Some l) (next_of a q l) (m ∷ x) s n h.1

fresh-join : (a : Automaton) (before : Option ℕ) (q : ℕ) (v : List ℕ) (r : ℕ) → IsAccepted a q v r → (v ≡ [] → before ≢ Some r) → ((x : List ℕ) → v ≡ x ++ r ∷ [] → ⊥) → IsFreshFrom a before q (v ++ r ∷ [])
fresh-join a before q [] r is first last = (is.sign, first refl, is.accepted)
fresh-join a before q (l ∷ []) r is first last = (is.letters.0, (is.sign, λ e. last [] (let same : l ≡ r = cc in ap (λ (x : ℕ). x ∷ []) same), is.accepted))
fresh-join a before q (l ∷ m ∷ v) r is first last =
    (is.letters.0, fresh-join a (Some l) (next_of a q l) (m ∷ v) r (record { letters = is.letters.1; sign = is.sign; accepted = is.accepted }) (λ e. absurd (cc)) (λ x e. last (l ∷ x) (ap (λ (u : List ℕ). l ∷ u) e)))

module _ (a : Automaton) (valid : IsAutomaton a) (q : ℕ) (inside : q < a.states) where
  pub fresh-member : (u : List ℕ) → IsFreshFrom a None q u → IsWord a.tracks u × SetOfState a q (value a.tracks u) × IsShortestWord u (value a.tracks u)
  fresh-member u h = (word, member, shortest)
    where
      some : (w : List ℕ) → IsFreshFrom a None q w → 0 < length w
      some [] h = absurd h
      some (s ∷ w) h = omega arith

      word : IsWord a.tracks u
      word = record { nonempty = some u h; letters = fresh-letters a None q u h }

      len : length (value a.tracks u) ≡ a.tracks
      len = length-value a.tracks u

      member : SetOfState a q (value a.tracks u)
      member =
          let (v, s, split) = split-sign u (some u h) in
          let is = accepted-split a q v s (subst (IsAcceptedFrom a q) split (fresh-accepted a None q u h)) in
          subst (λ (x : List ℕ). SetOfState a q (value a.tracks x)) (sym split) ((state-accepts a valid q v s inside is.letters is.sign).0 is.accepted)

      shortest : IsShortestWord u (value a.tracks u)
      shortest =
          let z = value a.tracks u in
          let (w, is_w) = shortest-exists z in
          let word_z : IsWord (length z) u = subst (λ (t : ℕ). IsWord t u) (sym len) word in
          let (x, s, n, split_w, split_u) = word-repeats z w u is_w word_z (ap (λ (t : ℕ). value t u) len) in
          from w x s n is_w split_w split_u
        where
          from : (w x : List ℕ) (s n : ℕ) → IsShortestWord w (value a.tracks u) → w ≡ x ++ s ∷ [] → u ≡ w ++ replicate n s → IsShortestWord u (value a.tracks u)
          from w x s zero is_w split_w split_u = subst (λ (y : List ℕ). IsShortestWord y (value a.tracks u)) (sym (split_u ∙ append-nil w)) is_w
          from w x s (suc n) is_w split_w split_u =
              absurd (no-repeat a None q x s n (subst (IsFreshFrom a None q) (split_u ∙ ap (λ (y : List ℕ). y ++ s ∷ replicate n s) split_w ∙ append_assoc x (s ∷ []) (s ∷ replicate n s)) h))

  pub member-fresh : (y : Vector) (u : List ℕ) → length y ≡ a.tracks → SetOfState a q y → IsShortestWord u y → IsFreshFrom a None q u
  member-fresh y u len member is =
      let (v, r, split, accepted) = shortest-accepted a valid q inside y len member u is in
      subst (IsFreshFrom a None q) (sym split) (fresh-join a None q v r accepted (λ e none. absurd (cc)) (λ x e. repeated x v r split accepted e))
    where
      repeated : (x v : List ℕ) (r : ℕ) → u ≡ v ++ r ∷ [] → IsAccepted a q v r → v ≡ x ++ r ∷ [] → ⊥
      repeated x v r split accepted e =
          let whole : u ≡ x ++ r ∷ r ∷ [] = split ∙ ap (λ (w : List ℕ). w ++ r ∷ []) e ∙ append_assoc x (r ∷ []) (r ∷ []) in
          let t = length y in
          let same : value t (x ++ r ∷ []) ≡ y = sym (value-repeated t x r) ∙ ap (value t) (sym whole) ∙ is.meaning in
          let letters = subst (AreLetters a.tracks) e accepted.letters in
          let word : IsWord t (x ++ r ∷ []) = record { nonempty = (let more = length-append x (r ∷ []) in omega (arith, more)); letters = subst (λ (n : ℕ). AreLetters n (x ++ r ∷ [])) (sym len) letters } in
          let le = is.shortest (x ++ r ∷ []) word same in
          let long = ap length split ∙ length-append v (r ∷ []) in
          let short = ap length e in
          omega (arith, le, long, short)
