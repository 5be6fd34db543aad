-- Marks of the nodes that a node reaches, set from the node down.
use Rattle.std.proofs.Common.{◌≡◌, ◌⊎◌, inl, inr, ℕ, zero, suc, ◌+◌, ◌-◌, ◌<◌, ◌≤◌, ◌==◌, nat_lt, Bool, true, false, List, [], ◌∷◌, map, get_or, length, refl, ap, sym, subst, ◌∙◌, arith}
use Rattle.std.specs.Prelude.{slice_set, slice_get, None, replicate}
use Rattle.std.specs.List.{AllByRecursion, range_with_len}
use Rattle.std.proofs.lemmas.List.{get_or-set_same, get_or-set_other, length-set}
use Rattle.std.proofs.lemmas.Bool.Decides.{nat_tests}
use Rattle.pt_base.specs.Elements.{ContainsByRecursion}
use Rattle.pt_formula.specs.Formulas.{node_at, entry_node, children, IsFormula}
use Rattle.pt_terms.specs.Theory.{reaches_within}
use Rattle.pt_terms.specs.Copies.{marked_all, marks_of}
use Rattle.pt_terms.proofs.ReachLaws.{Nodes, IsEarlier, reaches-closed, reaches-self, reached-from, reaches-down}

abbrev pub Has : List Bool → ℕ → Type 0
Has marks i = get_or marks i false ≡ true

pub same-or-not : (i j : ℕ) → (i ≡ j) ⊎ (i ≡ j → ⊥)
same-or-not i j = by-test (i == j) refl
  where
    by-test : (t : Bool) → (i == j) ≡ t → (i ≡ j) ⊎ (i ≡ j → ⊥)
    by-test true e = inl (grind (arith, nat_tests))
    by-test false e = inr (λ same. let yes : (i == j) ≡ true = grind (arith, nat_tests) in absurd cc)

set-keeps : (marks : List Bool) (j i : ℕ) → j < length marks → Has marks i → Has (slice_set marks j true) i
set-keeps marks j i lt h = elim (same-or-not i j) [
  | inl same ↦ subst (λ x. Has (slice_set marks j true) x) (sym same) (get_or-set_same marks j true false lt)
  | inr other ↦ get_or-set_other marks j i true false other ∙ h
]

set-back : (marks : List Bool) (j i : ℕ) → Has (slice_set marks j true) i → Has marks i ⊎ (i ≡ j)
set-back marks j i h = elim (same-or-not i j) [
  | inl same ↦ inr same
  | inr other ↦ inl (sym (get_or-set_other marks j i true false other) ∙ h)
]

less-or-same : (m a : ℕ) → a ≤ m → (m ≡ a → ⊥) → a < m
less-or-same m a le differs = by-test (nat_lt a m) refl
  where
    by-test : (t : Bool) → nat_lt a m ≡ t → a < m
    by-test true e = grind (arith, nat_tests)
    by-test false e = let back : m ≤ a = grind (arith, nat_tests) in absurd (differs (omega (arith, le, back)))

abbrev Within : List ℕ → ℕ → Type 0
Within is n = (c : ℕ) → ContainsByRecursion c is → c < n

all-length : (marks : List Bool) (is : List ℕ) → length (marked_all marks is) ≡ length marks
all-length marks [] = refl
all-length marks (i ∷ is) = all-length (slice_set marks i true) is ∙ length-set marks i true

all-keep : (marks : List Bool) (is : List ℕ) (i : ℕ) → Within is (length marks) → Has marks i → Has (marked_all marks is) i
all-keep marks [] i within h = h
all-keep marks (j ∷ is) i within h = all-keep (slice_set marks j true) is i (λ c k. subst (λ n. c < n) (sym (length-set marks j true)) (within c (inr k))) (set-keeps marks j i (within j (inl refl)) h)

all-set : (marks : List Bool) (is : List ℕ) (i : ℕ) → Within is (length marks) → ContainsByRecursion i is → Has (marked_all marks is) i
all-set marks [] i within h = absurd h
all-set marks (j ∷ is) i within h = elim h [
  | inl same ↦ all-keep (slice_set marks j true) is i rest (subst (λ x. Has (slice_set marks j true) x) (sym same) (get_or-set_same marks j true false (within j (inl refl))))
  | inr k ↦ all-set (slice_set marks j true) is i rest k
]
  where
    rest : Within is (length (slice_set marks j true))
    rest c k = subst (λ n. c < n) (sym (length-set marks j true)) (within c (inr k))

all-back : (marks : List Bool) (is : List ℕ) (i : ℕ) → Has (marked_all marks is) i → Has marks i ⊎ ContainsByRecursion i is
all-back marks [] i h = inl h
all-back marks (j ∷ is) i h = elim (all-back (slice_set marks j true) is i h) [
  | inl k ↦ elim (set-back marks j i k) [ inl m ↦ inl m | inr same ↦ inr (inl same) ]
  | inr k ↦ inr (inr k)
]

every : (P : ℕ → Type 0) (cs : List ℕ) → AllByRecursion P cs → (c : ℕ) → ContainsByRecursion c cs → P c
every P [] h c at = absurd at
every P (x ∷ cs) h c at = elim at [ inl same ↦ subst P (sym same) h.0 | inr k ↦ every P cs h.1 c k ]

within-or-none : {X : Type 0} (xs : List X) (i : ℕ) → (i < length xs) ⊎ (slice_get xs i ≡ None)
within-or-none [] i = inr refl
within-or-none (x ∷ xs) zero = inl (omega arith)
within-or-none (x ∷ xs) (suc i) = elim (within-or-none xs i) [ inl h ↦ inl (omega arith) | inr e ↦ inr e ]

-- after k nodes from a down
pub record AreMarked (f : Nodes) (a k : ℕ) (marks : List Bool) : Type 0 where
  pub size : length marks ≡ a + 1
  pub sound : (i : ℕ) → Has marks i → reaches_within a f a i ≡ true
  pub self : Has marks a
  pub done : (d c : ℕ) → a < d + k → reaches_within a f a d ≡ true → ContainsByRecursion c (children (node_at f d)) → Has marks c

no-mark : (n i : ℕ) (marks : List Bool) → ((j : ℕ) → get_or marks j false ≡ false) → Has marks i → ⊥
no-mark n i marks none h = let no : get_or marks i false ≡ false = none i in absurd cc

pub marked-start : (f : Nodes) → IsEarlier f → (a : ℕ) (marks : List Bool) → length marks ≡ a + 1 → ((j : ℕ) → get_or marks j false ≡ false) → AreMarked f a 0 (slice_set marks a true)
marked-start f earlier a marks size none = record {
  size = length-set marks a true ∙ size;
  sound = λ i h. elim (set-back marks a i h) [ inl k ↦ absurd (no-mark a i marks none k) | inr same ↦ subst (λ x. reaches_within a f a x ≡ true) (sym same) (reaches-self a f a) ];
  self = get_or-set_same marks a true false (omega (arith, size));
  done = λ d c lt r h. let le : d ≤ a = reaches-down f earlier a a d r in absurd (omega (arith, le, lt));
}

pub marked-node : (f : Nodes) → IsEarlier f → (a k : ℕ) (marks : List Bool) → k ≤ a → AreMarked f a k marks → Has marks (a - k) → AreMarked f a (k + 1) (marked_all marks (children (node_at f (a - k))))
marked-node f earlier a k marks le h has = record {
  size = all-length marks (children (node_at f (a - k))) ∙ h.size;
  sound = λ i m. elim (all-back marks (children (node_at f (a - k))) i m) [ inl old ↦ h.sound i old | inr c ↦ reaches-closed f earlier a (a - k) i (h.sound (a - k) has) c ];
  self = all-keep marks (children (node_at f (a - k))) a within h.self;
  done = λ d c lt r at. elim (same-or-not d (a - k)) [
    | inl same ↦ all-set marks (children (node_at f (a - k))) c within (subst (λ x. ContainsByRecursion c (children (node_at f x))) same at)
    | inr other ↦ all-keep marks (children (node_at f (a - k))) c within (h.done d c (later d lt other) r at)
  ];
}
  where
    within : Within (children (node_at f (a - k))) (length marks)
    within c at = let lt : c < a - k = earlier (a - k) c at in omega (arith, lt, h.size)

    later : (d : ℕ) → a < d + (k + 1) → (d ≡ a - k → ⊥) → a < d + k
    later d lt other = by-case (same-or-not (d + k) a)
      where
        by-case : ((d + k ≡ a) ⊎ (d + k ≡ a → ⊥)) → a < d + k
        by-case (inl same) = absurd (other (omega (arith, same, le)))
        by-case (inr differs) = less-or-same (d + k) a (omega (arith, lt)) differs

pub marked-skip : (f : Nodes) → IsEarlier f → (a k : ℕ) (marks : List Bool) → k ≤ a → AreMarked f a k marks → (Has marks (a - k) → ⊥) → AreMarked f a (k + 1) marks
marked-skip f earlier a k marks le h has = record {
  size = h.size;
  sound = h.sound;
  self = h.self;
  done = λ d c lt r at. elim (same-or-not (d + k) a) [
    | inl same ↦ let here : d ≡ a - k = omega (arith, same, le) in absurd (has (from (reached-from a f a (a - k) (subst (λ x. reaches_within a f a x ≡ true) here r))))
    | inr other ↦ h.done d c (less-or-same (d + k) a (omega (arith, lt)) other) r at
  ];
}
  where
    from : ((a - k ≡ a) ⊎ ((e : ℕ) × (reaches_within a f a e ≡ true) × ContainsByRecursion (a - k) (children (node_at f e)))) → Has marks (a - k)
    from (inl same) = subst (λ x. Has marks x) (sym same) h.self
    from (inr r) = let lt : a - k < r.0 = earlier r.0 (a - k) r.2 in h.done r.0 (a - k) (omega (arith, lt, le)) r.1 r.2

list-is : (marks : List Bool) (r : ℕ → Bool) (k : ℕ) → ((i : ℕ) → i < length marks → get_or marks i false ≡ r (k + i)) → marks ≡ map r (range_with_len k (length marks))
list-is [] r k h = refl
list-is (m ∷ marks) r k h = ap (λ x. x ∷ marks) (h zero (omega arith) ∙ ap r first) ∙ ap (λ xs. r k ∷ xs) (list-is marks r (k + 1) (λ i lt. later i lt))
  where
    first : k + zero ≡ k
    first = omega arith

    later : (i : ℕ) → i < length marks → get_or marks i false ≡ r (k + 1 + i)
    later i lt = let same : k + suc i ≡ k + 1 + i = omega arith in subst (λ x. get_or marks i false ≡ r x) same (h (suc i) (omega (arith, lt)))

agree : (x y : Bool) → (x ≡ true → y ≡ true) → (y ≡ true → x ≡ true) → x ≡ y
agree true true h g = refl
agree true false h g = sym (h refl)
agree false true h g = g refl
agree false false h g = refl

pub marked-end : (f : Nodes) → IsEarlier f → (a k : ℕ) (marks : List Bool) → a < k → AreMarked f a k marks → marks ≡ marks_of f a
marked-end f earlier a k marks lt h = list-is marks (reaches_within a f a) 0 (λ i l. let same : i ≡ 0 + i = omega arith in agree (get_or marks i false) (reaches_within a f a i) (h.sound i) (λ r. from i (reached-from a f a i r)) ∙ ap (reaches_within a f a) same) ∙ ap (λ n. map (reaches_within a f a) (range_with_len 0 n)) h.size
  where
    from : (i : ℕ) → ((i ≡ a) ⊎ ((e : ℕ) × (reaches_within a f a e ≡ true) × ContainsByRecursion i (children (node_at f e)))) → Has marks i
    from i (inl same) = subst (λ x. Has marks x) (sym same) h.self
    from i (inr r) = h.done r.0 i (omega (arith, lt)) r.1 r.2

-- children of the nodes of a formula come earlier
pub earlier_of : (f : Nodes) → IsFormula f → IsEarlier f
earlier_of f whole i c at = by-place (within-or-none f i)
  where
    by-place : ((i < length f) ⊎ (slice_get f i ≡ None)) → c < i
    by-place (inl lt) = every (λ c. c < i) (children (node_at f i)) (whole.each i lt).earlier c at
    by-place (inr none) = absurd (subst (λ o. ContainsByRecursion c (children (entry_node o))) none at)

pub children_within : (f : Nodes) → IsFormula f → (a i : ℕ) (marks : List Bool) → i ≤ a → length marks ≡ a + 1 → i < length f → AllByRecursion (λ c. c < length marks) (children (node_at f i))
children_within f whole a i marks le size lt = wider (children (node_at f i)) (whole.each i lt).earlier
  where
    wider : (cs : List ℕ) → AllByRecursion (λ c. c < i) cs → AllByRecursion (λ c. c < length marks) cs
    wider [] h = tt
    wider (c ∷ cs) h = (omega (arith, h.0, size, le), wider cs h.1)

pub none_marked : (n j : ℕ) → get_or (replicate n false) j false ≡ false
none_marked zero j = refl
none_marked (suc n) zero = refl
none_marked (suc n) (suc j) = none_marked n j

replicate-length : (n : ℕ) → length (replicate n false) ≡ n
replicate-length zero = refl
replicate-length (suc n) = ap suc (replicate-length n)

pub marked-first : (f : Nodes) → IsEarlier f → (a : ℕ) (marks : List Bool) → marks ≡ replicate (a + 1) false → AreMarked f a 0 (slice_set marks a true)
marked-first f earlier a marks none = marked-start f earlier a marks (ap length none ∙ replicate-length (a + 1)) (λ j. ap (λ xs. get_or xs j false) none ∙ none_marked (a + 1) j)

pub same-default : (marks : List Bool) (i : ℕ) (d e : Bool) → i < length marks → get_or marks i d ≡ get_or marks i e
same-default [] i d e lt = absurd (omega arith)
same-default (m ∷ marks) zero d e lt = refl
same-default (m ∷ marks) (suc i) d e lt = same-default marks i d e (omega arith)
