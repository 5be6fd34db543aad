-- What is kept of a scope is kept by each command that fits it.
use Rattle.std.proofs.Common.{◌≡◌, ◌⊎◌, inl, inr, ℕ, ◌+◌, ◌-◌, ◌<◌, ◌≤◌, nat_le, Bool, true, false, if◌then◌else◌, List, [], ◌∷◌, ◌++◌, length, filter, arith, refl, sym, ap, subst}
use Rattle.std.proofs.lemmas.Bool.Decides.{nat_tests}
use Rattle.std.specs.List.{AllByRecursion}
use Rattle.pt_base.specs.Elements.{ContainsByRecursion, AnyByRecursion}
use Rattle.pt_formula.specs.Formulas.{variables_of}
use Rattle.pt_terms.specs.declared.meaning.Meaning.{Meaning}
use Rattle.pt_terms.specs.declared.meaning.Meaning.TheVariants.{Int, Bool as Truth}
use Rattle.pt_terms.specs.declared.meaning.Constant.{Constant}
use Rattle.pt_read.specs.declared.command.CommandKind.{CommandKind}
use Rattle.pt_read.specs.declared.command.CommandKind.TheVariants as kind
use Rattle.pt_terms.specs.Elaboration.{Work}
use Rattle.pt_grammar.specs.Words.{Name}
use Rattle.pt_read.specs.Scope.{State, Assertion, with_symbol, popped, after}
use Rattle.pt_terms.specs.Names.{Symbol, Use, Constant_of, Defined, constant_in, constants_in}
use Rattle.pt_read.specs.Lasting.{IsConstantUpTo, IsUseSound, AreInOrder, IsSound}
use Rattle.pt_read.specs.Fits.{FitsKind, IsConstant, IsMeaning, free_of}
use Rattle.pt_read.specs.Reader.{with_work}
use Rattle.pt_read.proofs.SortLemmas.{Longer, no-longer, has-more, have-more, integers-more}
use Rattle.pt_read.proofs.Prefixes.{front-length}
use Rattle.pt_read.proofs.Fitting.{any-join-left, any-join-right, any-split}
use Rattle.pt_terms.specs.Free.{IsFront, IsWhole}

-- ---- lists

all-weaker : {A : Type 0} (P R : A → Type 0) (xs : List A) → ((x : A) → P x → R x) → AllByRecursion P xs → AllByRecursion R xs
all-weaker P R [] f h = tt
all-weaker P R (x ∷ xs) f h = (f x h.0, all-weaker P R xs f h.1)

all-last : {A : Type 0} (P : A → Type 0) (xs : List A) (x : A) → AllByRecursion P xs → P x → AllByRecursion P (xs ++ x ∷ [])
all-last P [] x h k = (k, tt)
all-last P (y ∷ xs) x h k = (h.0, all-last P xs x h.1 k)

all-filter : {A : Type 0} (P : A → Type 0) (p : A → Bool) (xs : List A) → AllByRecursion P xs → AllByRecursion (λ x. P x × (p x ≡ true)) (filter p xs)
all-filter P p [] h = tt
all-filter P p (x ∷ xs) h = by-test (p x) refl (all-filter P p xs h.1)
  where
    by-test : (b : Bool) → p x ≡ b → AllByRecursion (λ x. P x × (p x ≡ true)) (filter p xs) → AllByRecursion (λ x. P x × (p x ≡ true)) (if b then x ∷ filter p xs else filter p xs)
    by-test true e go = ((h.0, e), go)
    by-test false e go = go

up_to : ℕ → Symbol → Bool
up_to level s = nat_le s.level level

le-of : (a b : ℕ) → nat_le a b ≡ true → a ≤ b
le-of a b e = grind (arith, nat_tests)

le-true : (a b : ℕ) → a ≤ b → nat_le a b ≡ true
le-true a b h = grind (arith, nat_tests)

-- a constant of low level stays one beside a new name
constant-beside : (level v : ℕ) (xs : List Symbol) (x : Symbol) → IsConstantUpTo level xs v → IsConstantUpTo level (xs ++ x ∷ []) v
constant-beside level v [] x h = absurd h
constant-beside level v (y ∷ xs) x h = by-test (nat_le y.level level) (constant-beside level v xs x) h
  where
    P : Constant → Type 0
    P c = c.variable ≡ v

    by-test : (b : Bool) → (IsConstantUpTo level xs v → IsConstantUpTo level (xs ++ x ∷ []) v) → AnyByRecursion P (constants_in (if b then y ∷ filter (λ (s : Symbol). nat_le s.level level) xs else filter (λ (s : Symbol). nat_le s.level level) xs)) → AnyByRecursion P (constants_in (if b then y ∷ filter (λ (s : Symbol). nat_le s.level level) (xs ++ x ∷ []) else filter (λ (s : Symbol). nat_le s.level level) (xs ++ x ∷ [])))
    by-test true go k = elim (any-split P (constant_in y y.stands_for) (constants_in (filter (λ (s : Symbol). nat_le s.level level) xs)) k) [ inl d ↦ any-join-left P (constant_in y y.stands_for) (constants_in (filter (λ (s : Symbol). nat_le s.level level) (xs ++ x ∷ []))) d | inr d ↦ any-join-right P (constant_in y y.stands_for) (constants_in (filter (λ (s : Symbol). nat_le s.level level) (xs ++ x ∷ []))) (go d) ]
    by-test false go k = go k

-- where no level is higher every constant counts
constant-all : (level v : ℕ) (xs : List Symbol) → AllByRecursion (λ (s : Symbol). s.level ≤ level) xs → AnyByRecursion (λ (c : Constant). c.variable ≡ v) (constants_in xs) → IsConstantUpTo level xs v
constant-all level v [] all h = h
constant-all level v (x ∷ xs) all h = by-test (nat_le x.level level) (le-true x.level level all.0) (constant-all level v xs all.1)
  where
    P : Constant → Type 0
    P c = c.variable ≡ v

    by-test : (b : Bool) → b ≡ true → (AnyByRecursion P (constants_in xs) → IsConstantUpTo level xs v) → AnyByRecursion P (constants_in (if b then x ∷ filter (λ (s : Symbol). nat_le s.level level) xs else filter (λ (s : Symbol). nat_le s.level level) xs))
    by-test true e go = elim (any-split P (constant_in x x.stands_for) (constants_in xs) h) [ inl d ↦ any-join-left P (constant_in x x.stands_for) (constants_in (filter (λ (s : Symbol). nat_le s.level level) xs)) d | inr d ↦ any-join-right P (constant_in x x.stands_for) (constants_in (filter (λ (s : Symbol). nat_le s.level level) xs)) (go d) ]
    by-test false e go = absurd cc

-- what a pop leaves keeps the constants of lower levels
constant-popped : (level low v : ℕ) (xs : List Symbol) → level ≤ low → IsConstantUpTo level xs v → IsConstantUpTo level (filter (λ (s : Symbol). nat_le s.level low) xs) v
constant-popped level low v [] le h = h
constant-popped level low v (x ∷ xs) le h = by-test (nat_le x.level low) refl (nat_le x.level level) refl (constant-popped level low v xs le) h
  where
    P : Constant → Type 0
    P c = c.variable ≡ v

    Left : List Symbol
    Left = filter (λ (s : Symbol). nat_le s.level low) xs

    by-test : (a : Bool) → nat_le x.level low ≡ a → (b : Bool) → nat_le x.level level ≡ b → (IsConstantUpTo level xs v → IsConstantUpTo level Left v) → AnyByRecursion P (constants_in (if b then x ∷ filter (λ (s : Symbol). nat_le s.level level) xs else filter (λ (s : Symbol). nat_le s.level level) xs)) → IsConstantUpTo level (if a then x ∷ Left else Left) v
    by-test true e true f go k = subst (λ b. AnyByRecursion P (constants_in (if b then x ∷ filter (λ (s : Symbol). nat_le s.level level) Left else filter (λ (s : Symbol). nat_le s.level level) Left))) (sym f)
        (elim (any-split P (constant_in x x.stands_for) (constants_in (filter (λ (s : Symbol). nat_le s.level level) xs)) k) [ inl d ↦ any-join-left P (constant_in x x.stands_for) (constants_in (filter (λ (s : Symbol). nat_le s.level level) Left)) d | inr d ↦ any-join-right P (constant_in x x.stands_for) (constants_in (filter (λ (s : Symbol). nat_le s.level level) Left)) (go d) ])
    by-test true e false f go k = subst (λ b. AnyByRecursion P (constants_in (if b then x ∷ filter (λ (s : Symbol). nat_le s.level level) Left else filter (λ (s : Symbol). nat_le s.level level) Left))) (sym f) (go k)
    by-test false e true f go k = let le' : x.level ≤ level = le-of x.level level f in let yes' : nat_le x.level low ≡ true = le-true x.level low (omega arith) in absurd cc
    by-test false e false f go k = go k

-- ---- uses in another state

abbrev SymbolsSound : State → List Symbol → Type 0
SymbolsSound s xs = AllByRecursion (λ (x : Symbol). (x.level ≤ s.depth) × IsUseSound s x.level x.stands_for) xs

-- the same formula and at least as many numbers, and constants that last
use-moved : (s t : State) (level : ℕ) (u : Use) → s.formula ≡ t.formula → Longer s.given t.given → ((v : ℕ) → IsConstantUpTo level s.symbols v → IsConstantUpTo level t.symbols v) → IsUseSound s level u → IsUseSound t level u
use-moved s t level (Constant_of v x) e le keep h = has-more s.given t.given v x le h
use-moved s t level (Defined ps ss m) e le keep h = (
  (h.0.0, have-more s.given t.given ps ss le h.0.1),
  meaning m h.1,
  subst (AllByRecursion (λ v. ContainsByRecursion v ps ⊎ IsConstantUpTo level t.symbols v)) (frees m)
      (all-weaker (λ v. ContainsByRecursion v ps ⊎ IsConstantUpTo level s.symbols v) (λ v. ContainsByRecursion v ps ⊎ IsConstantUpTo level t.symbols v) (free_of s m) (λ v k. elim k [ inl d ↦ inl d | inr d ↦ inr (keep v d) ]) h.2),
)
  where
    meaning : (m : Meaning) → IsMeaning s m → IsMeaning t m
    meaning (Int f) k = (k.0, integers-more s.given t.given f.terms le k.1)
    meaning (Truth i) k = subst (λ f. i < length f) e k

    frees : (m : Meaning) → free_of s m ≡ free_of t m
    frees (Int f) = refl
    frees (Truth i) = ap (λ f. variables_of f i) e

-- nodes and numbers that are added
use-grown : (s : State) (w : Work) (level : ℕ) (u : Use) → IsWhole w.formula → (front : IsFront s.formula w.formula) → Longer s.given w.given → IsUseSound s level u → IsUseSound (with_work w s) level u
use-grown s w level (Constant_of v x) whole front le h = has-more s.given w.given v x le h
use-grown s w level (Defined ps ss m) whole front le h =
    ((h.0.0, have-more s.given w.given ps ss le h.0.1), meaning m h.1, frees m h.1 h.2)
  where
    meaning : (m : Meaning) → IsMeaning s m → IsMeaning (with_work w s) m
    meaning (Int f) k = (k.0, integers-more s.given w.given f.terms le k.1)
    meaning (Truth i) k = let size : length s.formula ≤ length w.formula = front-length s.formula w.formula front in omega (arith, k, size)

    frees : (m : Meaning) → IsMeaning s m → AllByRecursion (λ v. ContainsByRecursion v ps ⊎ IsConstantUpTo level s.symbols v) (free_of s m) → AllByRecursion (λ v. ContainsByRecursion v ps ⊎ IsConstantUpTo level s.symbols v) (free_of (with_work w s) m)
    frees (Int f) r k = k
    frees (Truth i) r k = subst (AllByRecursion (λ v. ContainsByRecursion v ps ⊎ IsConstantUpTo level s.symbols v)) (sym (whole.fronts s.formula front.0 i front.1 r)) k

-- ---- states

pub sound-grown : (s : State) (w : Work) → IsWhole w.formula → IsFront s.formula w.formula → Longer s.given w.given → IsSound s → IsSound (with_work w s)
sound-grown s w whole front le h = record {
  symbols = all-weaker (λ (x : Symbol). (x.level ≤ s.depth) × IsUseSound s x.level x.stands_for) (λ (x : Symbol). (x.level ≤ s.depth) × IsUseSound (with_work w s) x.level x.stands_for) s.symbols (λ x k. (k.0, use-grown s w x.level x.stands_for whole front le k.1)) h.symbols;
  order = h.order;
  assertions = all-weaker (λ (a : Assertion). (a.level ≤ s.depth) × (a.term < length s.formula) × (a.conjunction < length s.formula)) (λ (a : Assertion). (a.level ≤ s.depth) × (a.term < length w.formula) × (a.conjunction < length w.formula)) s.assertions (λ a k. let size : length s.formula ≤ length w.formula = front-length s.formula w.formula front in (k.0, omega (arith, k.1, size), omega (arith, k.2, size))) h.assertions;
}

pub levels-low : (s : State) (xs : List Symbol) → SymbolsSound s xs → AllByRecursion (λ (x : Symbol). x.level ≤ s.depth) xs
levels-low s xs h = all-weaker (λ (x : Symbol). (x.level ≤ s.depth) × IsUseSound s x.level x.stands_for) (λ (x : Symbol). x.level ≤ s.depth) xs (λ x k. k.0) h

sound-symbol : (s : State) (name : Name) (u : Use) → IsSound s → IsUseSound (with_symbol name u s) s.depth u → IsSound (with_symbol name u s)
sound-symbol s name u h k = record {
  symbols = all-last (λ (x : Symbol). (x.level ≤ s.depth) × IsUseSound (with_symbol name u s) x.level x.stands_for) s.symbols (record { name = name; stands_for = u; level = s.depth })
      (all-weaker (λ (x : Symbol). (x.level ≤ s.depth) × IsUseSound s x.level x.stands_for) (λ (x : Symbol). (x.level ≤ s.depth) × IsUseSound (with_symbol name u s) x.level x.stands_for) s.symbols (λ x d. (d.0, use-moved s (with_symbol name u s) x.level x.stands_for refl (no-longer s.given) (λ v. constant-beside x.level v s.symbols (record { name = name; stands_for = u; level = s.depth })) d.1)) h.symbols)
      (omega arith, k);
  order = h.order;
  assertions = h.assertions;
}

ordered-last : (xs : List Assertion) (x : Assertion) → AreInOrder xs → AllByRecursion (λ (a : Assertion). a.level ≤ x.level) xs → AreInOrder (xs ++ x ∷ [])
ordered-last [] x h k = (tt, tt)
ordered-last (y ∷ xs) x h k = (all-last (λ (b : Assertion). y.level ≤ b.level) xs x h.0 k.0, ordered-last xs x h.1 k.1)

ordered-filter : (low : ℕ) (xs : List Assertion) → AreInOrder xs → AreInOrder (filter (λ (a : Assertion). nat_le a.level low) xs)
ordered-filter low [] h = tt
ordered-filter low (x ∷ xs) h = by-test (nat_le x.level low) (ordered-filter low xs h.1)
  where
    by-test : (b : Bool) → AreInOrder (filter (λ (a : Assertion). nat_le a.level low) xs) → AreInOrder (if b then x ∷ filter (λ (a : Assertion). nat_le a.level low) xs else filter (λ (a : Assertion). nat_le a.level low) xs)
    by-test true go = (all-weaker (λ (b : Assertion). (x.level ≤ b.level) × (nat_le b.level low ≡ true)) (λ (b : Assertion). x.level ≤ b.level) (filter (λ (a : Assertion). nat_le a.level low) xs) (λ b k. k.0) (all-filter (λ (b : Assertion). x.level ≤ b.level) (λ (a : Assertion). nat_le a.level low) xs h.0), go)
    by-test false go = go

abbrev AssertionSound : State → Assertion → Type 0
AssertionSound s a = (a.level ≤ s.depth) × (a.term < length s.formula) × (a.conjunction < length s.formula)

pub sound-after : (s : State) (k : CommandKind) → FitsKind k s → IsSound s → IsSound (after k s)
sound-after s (kind.Declare name v t) fits h = sound-symbol s name (Constant_of v t) h fits.sort
sound-after s (kind.Define d) fits h =
    sound-symbol s d.name (Defined d.parameters d.sorts d.meaning) h (
      (fits.parameters.0, fits.parameters.1),
      meaning d.meaning fits.meaning,
      frees d.meaning (all-weaker (λ v. ContainsByRecursion v d.parameters ⊎ IsConstant s v) (λ v. ContainsByRecursion v d.parameters ⊎ IsConstantUpTo s.depth (s.symbols ++ record { name = d.name; stands_for = Defined d.parameters d.sorts d.meaning; level = s.depth } ∷ []) v) (free_of s d.meaning)
          (λ v k. elim k [ inl c ↦ inl c | inr c ↦ inr (constant-beside s.depth v s.symbols (record { name = d.name; stands_for = Defined d.parameters d.sorts d.meaning; level = s.depth }) (constant-all s.depth v s.symbols (levels-low s s.symbols h.symbols) c)) ]) fits.free),
    )
  where
    t : State
    t = with_symbol d.name (Defined d.parameters d.sorts d.meaning) s

    meaning : (m : Meaning) → IsMeaning s m → IsMeaning t m
    meaning (Int f) k = k
    meaning (Truth i) k = k

    frees : (m : Meaning) → AllByRecursion (λ v. ContainsByRecursion v d.parameters ⊎ IsConstantUpTo s.depth t.symbols v) (free_of s m) → AllByRecursion (λ v. ContainsByRecursion v d.parameters ⊎ IsConstantUpTo s.depth t.symbols v) (free_of t m)
    frees (Int f) k = k
    frees (Truth i) k = k
sound-after s (kind.Assert term c) fits h = record {
  symbols = all-weaker (λ (x : Symbol). (x.level ≤ s.depth) × IsUseSound s x.level x.stands_for) (λ (x : Symbol). (x.level ≤ s.depth) × IsUseSound (after (kind.Assert term c) s) x.level x.stands_for) s.symbols (λ x k. (k.0, use-moved s (after (kind.Assert term c) s) x.level x.stands_for refl (no-longer s.given) (λ v d. d) k.1)) h.symbols;
  order = ordered-last s.assertions (record { term = term; conjunction = c; level = s.depth }) h.order (all-weaker (AssertionSound s) (λ (a : Assertion). a.level ≤ s.depth) s.assertions (λ a k. k.0) h.assertions);
  assertions = all-last (AssertionSound s) s.assertions (record { term = term; conjunction = c; level = s.depth }) h.assertions (omega arith, fits.term, fits.node);
}
sound-after s (kind.Push n) fits h = record {
  symbols = all-weaker (λ (x : Symbol). (x.level ≤ s.depth) × IsUseSound s x.level x.stands_for) (λ (x : Symbol). (x.level ≤ s.depth + n) × IsUseSound (after (kind.Push n) s) x.level x.stands_for) s.symbols (λ x k. (omega (arith, k.0), use-moved s (after (kind.Push n) s) x.level x.stands_for refl (no-longer s.given) (λ v d. d) k.1)) h.symbols;
  order = h.order;
  assertions = all-weaker (AssertionSound s) (AssertionSound (after (kind.Push n) s)) s.assertions (λ a k. (omega (arith, k.0), k.1, k.2)) h.assertions;
}
sound-after s (kind.Pop n) fits h = record {
  symbols = all-weaker (λ (x : Symbol). ((x.level ≤ s.depth) × IsUseSound s x.level x.stands_for) × (nat_le x.level (s.depth - n) ≡ true)) (λ (x : Symbol). (x.level ≤ s.depth - n) × IsUseSound (popped n s) x.level x.stands_for) (filter (λ (x : Symbol). nat_le x.level (s.depth - n)) s.symbols)
      (λ x k. (le-of x.level (s.depth - n) k.1, use-moved s (popped n s) x.level x.stands_for refl (no-longer s.given) (λ v. constant-popped x.level (s.depth - n) v s.symbols (le-of x.level (s.depth - n) k.1)) k.0.1))
      (all-filter (λ (x : Symbol). (x.level ≤ s.depth) × IsUseSound s x.level x.stands_for) (λ (x : Symbol). nat_le x.level (s.depth - n)) s.symbols h.symbols);
  order = ordered-filter (s.depth - n) s.assertions h.order;
  assertions = all-weaker (λ (a : Assertion). AssertionSound s a × (nat_le a.level (s.depth - n) ≡ true)) (AssertionSound (popped n s)) (filter (λ (a : Assertion). nat_le a.level (s.depth - n)) s.assertions) (λ a k. (le-of a.level (s.depth - n) k.1, k.0.1, k.0.2)) (all-filter (AssertionSound s) (λ (a : Assertion). nat_le a.level (s.depth - n)) s.assertions h.assertions);
}
sound-after s kind.Reset fits h = record { symbols = tt; order = tt; assertions = tt }
sound-after s kind.SetLogic fits h = h
sound-after s kind.SetInfo fits h = h
sound-after s (kind.SetOption o) fits h = h
sound-after s kind.CheckSat fits h = h
sound-after s (kind.GetValue cs) fits h = h
sound-after s kind.GetModel fits h = h
sound-after s (kind.Echo literal) fits h = h
sound-after s kind.Exit fits h = h
sound-after s (kind.SetEqual p q) fits h = h
sound-after s (kind.SetSubset p q) fits h = h
sound-after s (kind.SetEmpty p) fits h = h
sound-after s (kind.SetFinite p) fits h = h
sound-after s (kind.SetStates p) fits h = h
sound-after s (kind.SetMember p zs) fits h = h
sound-after s (kind.SetList p k) fits h = h
