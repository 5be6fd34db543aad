-- The automaton of the classes.
use Rattle.std.proofs.Common.{◌≡◌, inl, inr, ℕ, ◌+◌, ◌*◌, ◌^◌, ◌<◌, ◌≤◌, Bool, true, false, cond, List, length, get_or, refl, ap, sym, ◌∙◌, arith, below_more}
use Rattle.std.specs.Prelude.{◌↔◌}
use Rattle.std.proofs.lemmas.Bool.{cases_eq}
use Rattle.pt_sets.specs.Languages.{SameLanguage}
use Rattle.pt_sets.specs.Automata.{Automaton, IsAutomaton, next_of, output_of, language_of}
use Rattle.pt_sets.proofs.Running.{state-same}
use Rattle.pt_refine.specs.Reduction.{IsReductionOf}
use Rattle.pt_refine.specs.Refining.{IsStable, AreMembers}
use Rattle.pt_refine.proofs.Meaning.{told-differs, one-class-same, class-set}

-- The rows of the classes are an automaton, which has the sets of the members.
module _ (a : Automaton) (numbers members : List ℕ) (count : ℕ) (outputs : List Bool) (edges : List ℕ) (shape : IsAutomaton a) (classes : IsStable a numbers count) (some : AreMembers numbers members count)
    (outputs_len : length outputs ≡ count * 2 ^ a.tracks) (edges_len : length edges ≡ count * 2 ^ a.tracks)
    (output_rows : (c s : ℕ) → c < count → s < 2 ^ a.tracks → get_or outputs (c * 2 ^ a.tracks + s) false ≡ output_of a (get_or members c 0) s)
    (edge_rows : (c l : ℕ) → c < count → l < 2 ^ a.tracks → get_or edges (c * 2 ^ a.tracks + l) 0 ≡ get_or numbers (next_of a (get_or members c 0) l) 0) where
  abbrev reduced : Automaton
  reduced = record { tracks = a.tracks; states = count; outputs = outputs; edges = edges }

  in_states : (c : ℕ) → c < count → get_or members c 0 < a.states
  in_states c c_in = let lt = some.within c c_in in let size = classes.separates.numbering.size in omega arith

  pub next-row : (q l : ℕ) → q < a.states → l < 2 ^ a.tracks → get_or edges (get_or numbers q 0 * 2 ^ a.tracks + l) 0 ≡ get_or numbers (next_of a q l) 0
  next-row q l q_in letter =
      let c_in = classes.separates.numbering.below q q_in in
      edge_rows (get_or numbers q 0) l c_in letter
      ∙ classes.stable (get_or members (get_or numbers q 0) 0) q l (in_states (get_or numbers q 0) c_in) q_in (some.member (get_or numbers q 0) c_in) letter

  pub output-row : (q s : ℕ) → q < a.states → s < 2 ^ a.tracks → get_or outputs (get_or numbers q 0 * 2 ^ a.tracks + s) false ≡ output_of a q s
  output-row q s q_in letter =
      let c_in = classes.separates.numbering.below q q_in in
      output_rows (get_or numbers q 0) s c_in letter
      ∙ classes.separates.alike (get_or members (get_or numbers q 0) 0) q (in_states (get_or numbers q 0) c_in) q_in (some.member (get_or numbers q 0) c_in) s letter

  pub rows-automaton : IsAutomaton (record { tracks = a.tracks; states = count; outputs = outputs; edges = edges })
  rows-automaton = record {
    tracks = shape.tracks;
    some_state = let lt = classes.separates.numbering.below 0 shape.some_state in omega arith;
    few_states = let le = classes.few in let top = shape.few_states in omega arith;
    outputs = outputs_len;
    edges = edges_len;
    closed = λ c l c_in letter. rw (edge_rows c l c_in letter) (classes.separates.numbering.below (next_of a (get_or members c 0) l) (shape.closed (get_or members c 0) l (in_states c c_in) letter));
    sign = λ c c_in s letter.
        let m = get_or members c 0 in
        let m_in = in_states c c_in in
        let end = next_of a m s in
        let end_in = shape.closed m s m_in letter in
        output_rows c s c_in letter
        ∙ shape.sign m m_in s letter
        ∙ sym (output-row end s end_in letter)
        ∙ ap (λ d. get_or outputs (d * 2 ^ a.tracks + s) false) (sym (edge_rows c s c_in letter));
  }

  -- words tell the classes
  classes-languages : (p q : ℕ) → p < a.states → q < a.states → (get_or numbers p 0 ≡ get_or numbers q 0) ↔ SameLanguage a.tracks (language_of a p) (language_of a q)
  classes-languages p q p_in q_in = (
    λ e. one-class-same a.tracks a.states (next_of a) (output_of a) shape.closed (λ i. get_or numbers i 0)
        (λ x y s x_in y_in same letter. classes.separates.alike x y x_in y_in same s letter)
        (λ x y l x_in y_in same letter. classes.stable x y l x_in y_in same letter) p q p_in q_in e,
    λ same. elim (cases_eq (get_or numbers p 0) (get_or numbers q 0)) [
      | inl e ↦ e
      | inr ne ↦ absurd (told-differs a.tracks a.states (next_of a) (output_of a) p q (classes.separates.apart p q p_in q_in ne) same)
    ],
  )

  -- a class has the language of its members
  class-language : (q : ℕ) → q < a.states →
      SameLanguage a.tracks (language_of (record { tracks = a.tracks; states = count; outputs = outputs; edges = edges }) (get_or numbers q 0)) (language_of a q)
  class-language q q_in = class-set a.tracks a.states (next_of a) (output_of a) shape.closed (λ i. get_or numbers i 0)
      (λ x y s x_in y_in same letter. classes.separates.alike x y x_in y_in same s letter)
      (λ x y l x_in y_in same letter. classes.stable x y l x_in y_in same letter)
      (λ c l. get_or edges (c * 2 ^ a.tracks + l) 0) (λ c s. get_or outputs (c * 2 ^ a.tracks + s) false)
      (λ x l x_in letter. next-row x l x_in letter) (λ x s x_in letter. output-row x s x_in letter) q q_in

  pub rows-reduction : IsReductionOf a (record { table = record { tracks = a.tracks; states = count; outputs = outputs; edges = edges }; classes = numbers })
  rows-reduction = record {
    length = classes.separates.numbering.size;
    tracks = refl;
    within = λ q q_in. classes.separates.numbering.below q q_in;
    one_class = λ p q p_in q_in.
        let words = classes-languages p q p_in q_in in
        let sets = state-same a a p q shape shape refl p_in q_in in
        (λ e. sets.1 (words.0 e), λ same. words.1 (sets.0 same));
    sets = λ q q_in.
        let c_in = classes.separates.numbering.below q q_in in
        (state-same reduced a (get_or numbers q 0) q rows-automaton shape refl c_in q_in).1 (class-language q q_in);
    members = λ c c_in. let m_in = in_states c c_in in (get_or members c 0, m_in, some.member c c_in);
  }
