-- Chains of edges, and the rows that they are dealt to.
use Rattle.std.proofs.Common.{◌≡◌, ◌≢◌, ◌⊎◌, inl, inr, ℕ, ◌+◌, ◌*◌, ◌/◌, ◌%◌, ◌^◌, ◌<◌, ◌≤◌, List, [], ◌∷◌, ◌++◌, length, set, get_or, refl, ap, sym, ◌∙◌, subst, arith}
use Rattle.std.specs.Global.{Vec}
use Rattle.std.specs.List.{Contains}
use Rattle.std.proofs.lemmas.Bool.{cases_eq, cases_lt}
use Rattle.std.proofs.lemmas.Nat.{div-add-mod'}
use Rattle.std.proofs.lemmas.List.{get_or_append_left, get_or_push, get_or-set_same, get_or-set_other, length-set, length_push}
use Rattle.pt_sets.specs.Automata.{Automaton, IsAutomaton, next_of}
use Rattle.pt_refine.specs.Halving.{IsLayout}
use Rattle.pt_refine.specs.Dealing.{IsLast, AreChains, row_of, Deals, AreDealt}
use Rattle.pt_refine.proofs.Cells.{row-is, column-is, cell-in, row-in, column-in}
use Rattle.pt_refine.proofs.Rows.{none-in, row-kept, row-here, row-only}

-- an edge leads to a state
pub edge-in : (a : Automaton) (i : ℕ) → IsAutomaton a → i < length a.edges → get_or a.edges i 0 < a.states
edge-in a i shape lt =
    let k = 2 ^ a.tracks in
    let size = shape.edges in
    let at : i < a.states * k = omega arith in
    subst (λ (x : ℕ). get_or a.edges x 0 < a.states) (div-add-mod' i k) (shape.closed (i / k) (i % k) (row-in i a.states k at) (column-in i a.states k at))

last-none : (edges : ℕ → ℕ) (t : ℕ) → IsLast edges t 0 0
last-none edges t = record { within = omega arith; leads = λ x e. absurd (omega arith); greatest = λ x lt e. absurd (omega arith) }

last-here : (edges : ℕ → ℕ) (t c : ℕ) → edges c ≡ t → IsLast edges t (c + 1) (c + 1)
last-here edges t c is = record {
  within = omega arith;
  leads = λ x e. let same : x ≡ c = omega arith in ap edges same ∙ is;
  greatest = λ x lt e. lt;
}

last-other : {edges : ℕ → ℕ} {t c m : ℕ} → IsLast edges t c m → edges c ≢ t → IsLast edges t (c + 1) m
last-other {edges} {t} {c} {m} was ne = record {
  within = let le = was.within in omega arith;
  leads = was.leads;
  greatest = λ x lt e. elim (cases_lt x c) [
    | inl before ↦ was.greatest x before e
    | inr past ↦ let same : x ≡ c = omega arith in absurd (ne (ap edges (sym same) ∙ e))
  ];
}

-- the chains of the first c edges
pub record ChainsTo (edges : ℕ → ℕ) (n c : ℕ) (last before : List ℕ) : Type 0 where
  pub last_len : length last ≡ n
  pub before_len : length before ≡ c
  pub ends : (t : ℕ) → t < n → IsLast edges t c (get_or last t 0)
  pub links : (x : ℕ) → x < c → IsLast edges (edges x) x (get_or before x 0)

pub chains-none : (edges : ℕ → ℕ) (n : ℕ) (last before : List ℕ) → length last ≡ n → length before ≡ 0 → ((t : ℕ) → t < n → get_or last t 0 ≡ 0) → ChainsTo edges n 0 last before
chains-none edges n last before size empty zeros = record {
  last_len = size;
  before_len = empty;
  ends = λ t t_in. subst (λ (m : ℕ). IsLast edges t 0 m) (sym (zeros t t_in)) (last-none edges t);
  links = λ x lt. absurd (omega arith);
}

pub chains-more : {edges : ℕ → ℕ} {n c : ℕ} {last before : List ℕ} → ChainsTo edges n c last before → (t m : ℕ) → edges c ≡ t → t < n → m ≡ get_or last t 0 →
    ChainsTo edges n (c + 1) (set last t (c + 1)) (before ++ m ∷ [])
chains-more {edges} {n} {c} {last} {before} was t m t_is t_in m_is =
    let size = was.last_len in
    let count = was.before_len in
    record {
      last_len = length-set last t (c + 1) ∙ size;
      before_len = let longer = length_push before m in omega arith;
      ends = λ s s_in. elim (cases_eq s t) [
        | inl e ↦ subst (λ (i : ℕ). IsLast edges i (c + 1) (get_or (set last t (c + 1)) i 0)) (sym e)
            (subst (λ (y : ℕ). IsLast edges t (c + 1) y) (sym (get_or-set_same last t (c + 1) 0 (omega arith))) (last-here edges t c t_is))
        | inr ne ↦ subst (λ (y : ℕ). IsLast edges s (c + 1) y) (sym (get_or-set_other last t s (c + 1) 0 ne)) (last-other (was.ends s s_in) (λ e. ne (sym e ∙ t_is)))
      ];
      links = λ x lt. elim (cases_lt x c) [
        | inl old ↦ subst (λ (y : ℕ). IsLast edges (edges x) x y) (sym (get_or_append_left before (m ∷ []) 0 x (omega arith))) (was.links x old)
        | inr past ↦
            let same : c ≡ x = omega arith in
            let is : get_or (before ++ m ∷ []) c 0 ≡ get_or last t 0 = get_or_push before m 0 c count ∙ m_is in
            let at_t : IsLast edges (edges c) c (get_or last t 0) = subst (λ (s : ℕ). IsLast edges s c (get_or last t 0)) (sym t_is) (was.ends t t_in) in
            subst (λ (y : ℕ). IsLast edges (edges y) y (get_or (before ++ m ∷ []) y 0)) same (subst (λ (y : ℕ). IsLast edges (edges c) c y) (sym is) at_t)
      ];
    }

pub chains-all : (a : Automaton) (c : ℕ) (last before : List ℕ) → ChainsTo (λ i. get_or a.edges i 0) a.states c last before → c ≡ length a.edges → AreChains a last before
chains-all a c last before chains all =
    let whole : ChainsTo (λ i. get_or a.edges i 0) a.states (length a.edges) last before = subst (λ (i : ℕ). ChainsTo (λ j. get_or a.edges j 0) a.states i last before) all chains in
    record { last_len = whole.last_len; before_len = whole.before_len; ends = whole.ends; links = whole.links }

-- the edges into t from the last one down to place `next` were dealt
pub record DealsDown (a : Automaton) (t next : ℕ) (old new : List (Vec ℕ)) : Type 0 where
  pub within : next ≤ length a.edges
  pub leads : (x : ℕ) → next ≡ x + 1 → get_or a.edges x 0 ≡ t
  pub kept : (q l : ℕ) → Contains (row_of old l) q → Contains (row_of new l) q
  pub sound : (q l : ℕ) → Contains (row_of new l) q → Contains (row_of old l) q ⊎ ((q < a.states) × (next_of a q l ≡ t))
  pub complete : (q l : ℕ) → q < a.states → l < 2 ^ a.tracks → next_of a q l ≡ t → next ≤ q * 2 ^ a.tracks + l → Contains (row_of new l) q

pub deals-begin : (a : Automaton) (t next : ℕ) (rows : List (Vec ℕ)) → IsAutomaton a → IsLast (λ i. get_or a.edges i 0) t (length a.edges) next → DealsDown a t next rows rows
deals-begin a t next rows shape last = record {
  within = last.within;
  leads = last.leads;
  kept = λ q l inside. inside;
  sound = λ q l inside. inl inside;
  complete = λ q l q_in l_in to past.
      let lt : q * 2 ^ a.tracks + l < length a.edges = let h = cell-in q (2 ^ a.tracks) l a.states q_in l_in in let size = shape.edges in omega arith in
      let below = last.greatest (q * 2 ^ a.tracks + l) lt to in
      absurd (omega arith);
}

pub deals-more : {a : Automaton} {t next : ℕ} {rows old : List (Vec ℕ)} → DealsDown a t next rows old → (x next' : ℕ) (new : List (Vec ℕ)) → IsAutomaton a → next ≡ x + 1 →
    IsLast (λ i. get_or a.edges i 0) (get_or a.edges x 0) x next' → row_of new (x % 2 ^ a.tracks) ≡ row_of old (x % 2 ^ a.tracks) ++ x / 2 ^ a.tracks ∷ [] →
    ((z : ℕ) → z ≢ x % 2 ^ a.tracks → row_of new z ≡ row_of old z) → DealsDown a t next' rows new
deals-more {a} {t} {next} {rows} {old} was x next' new shape next_is last added others =
    let k = 2 ^ a.tracks in
    let le = was.within in
    let size = shape.edges in
    let x_in : x < a.states * k = omega arith in
    let x_to = was.leads x next_is in
    let back = div-add-mod' x k in
    record {
      within = let low = last.within in omega arith;
      leads = λ y e. last.leads y e ∙ x_to;
      kept = λ q l inside. row-kept (x / k) (x % k) old new added others l q (was.kept q l inside);
      sound = λ q l inside. elim (row-only (x / k) (x % k) old new added others l q inside) [
        | inl before ↦ was.sound q l before
        | inr here ↦
            let q_in : q < a.states = subst (λ (i : ℕ). i < a.states) (sym here.0) (row-in x a.states k x_in) in
            let cell : q * k + l ≡ x = ap (λ i. i * k + l) here.0 ∙ ap (λ i. x / k * k + i) here.1 ∙ back in
            inr (q_in, ap (λ i. get_or a.edges i 0) cell ∙ x_to)
      ];
      complete = λ q l q_in l_in to low. elim (cases_lt x (q * k + l)) [
        | inl above ↦ row-kept (x / k) (x % k) old new added others l q (was.complete q l q_in l_in to (omega arith))
        | inr at_most ↦ elim (cases_eq (q * k + l) x) [
          | inr ne ↦ let lt = last.greatest (q * k + l) (omega arith) (to ∙ sym x_to) in absurd (omega arith)
          | inl e ↦
              let q_is : x / k ≡ q = ap (λ i. i / k) (sym e) ∙ row-is q k l l_in in
              let l_is : x % k ≡ l = ap (λ i. i % k) (sym e) ∙ column-is q k l l_in in
              let here = row-here (x / k) (x % k) old new added others in
              let at_q : Contains (row_of new (x % k)) q = subst (λ (i : ℕ). Contains (row_of new (x % k)) i) q_is here in
              subst (λ (i : ℕ). Contains (row_of new i) q) l_is at_q
        ]
      ];
    }

pub deals-all : {a : Automaton} {t next : ℕ} {old new : List (Vec ℕ)} → DealsDown a t next old new → next ≡ 0 → Deals a t old new
deals-all was none = record { kept = was.kept; sound = was.sound; complete = λ q l q_in l_in to. was.complete q l q_in l_in to (omega arith) }

-- the edges into the states of class c at the places before i were dealt
pub record DealtTo (a : Automaton) (place class : ℕ → ℕ) (c i : ℕ) (rows : List (Vec ℕ)) : Type 0 where
  pub sound : (q l : ℕ) → Contains (row_of rows l) q → (q < a.states) × (class (next_of a q l) ≡ c)
  pub complete : (q l : ℕ) → q < a.states → l < 2 ^ a.tracks → class (next_of a q l) ≡ c → place (next_of a q l) < i → Contains (row_of rows l) q

module _ (a : Automaton) (shape : IsAutomaton a) (count : ℕ) (order place class starts ends marked : ℕ → ℕ) (lay : IsLayout a.states count order place class starts ends marked) (c : ℕ) (c_in : c < count) where
  pub dealt-none : (rows : List (Vec ℕ)) → ((y : ℕ) → row_of rows y ≡ []) → DealtTo a place class c (starts c) rows
  dealt-none rows empty = record {
    sound = λ q l inside. absurd (none-in rows l q (empty l) inside);
    complete = λ q l q_in l_in is before.
        let within = lay.within (next_of a q l) (shape.closed q l q_in l_in) in
        let low = within.0 in
        let same = ap starts is in
        absurd (omega arith);
  }

  pub dealt-more : (i : ℕ) (old new : List (Vec ℕ)) → DealtTo a place class c i old → starts c ≤ i → i < ends c → Deals a (order i) old new → DealtTo a place class c (i + 1) new
  dealt-more i old new was low high deals =
      let member = lay.members c i c_in low high in
      record {
        sound = λ q l inside. elim (deals.sound q l inside) [
          | inl before ↦ was.sound q l before
          | inr here ↦ (here.0, ap class here.1 ∙ member.1)
        ];
        complete = λ q l q_in l_in is before. elim (cases_lt (place (next_of a q l)) i) [
          | inl old ↦ deals.kept q l (was.complete q l q_in l_in is old)
          | inr past ↦
              let at : place (next_of a q l) ≡ i = omega arith in
              deals.complete q l q_in l_in (sym (lay.there (next_of a q l) (shape.closed q l q_in l_in)) ∙ ap order at)
        ];
      }

  pub dealt-all : (i : ℕ) (rows : List (Vec ℕ)) → DealtTo a place class c i rows → ends c ≤ i → AreDealt a class c rows
  dealt-all i rows was all = record {
    sound = was.sound;
    complete = λ q l q_in l_in is.
        let within = lay.within (next_of a q l) (shape.closed q l q_in l_in) in
        let high = within.1 in
        let same = ap ends is in
        was.complete q l q_in l_in is (omega arith);
  }
