-- Options of words, by the values that the words give.
use Rattle.std.proofs.Common.{◌≡◌, ◌<◌, ◌≤◌, ◌⊎◌, ◌∙◌, ◌++◌, ◌^◌, ℕ, zero, suc, inl, inr, refl, sym, ap, ap₂, subst, arith, List, [], ◌∷◌, Option, Some, None, length, codes}
use Rattle.std.specs.Prelude.{decimal, slice_index_or, unwrap_or}
use Rattle.std.specs.List.{Contains}
use Rattle.std.proofs.lemmas.Bool.{cases_lt}
use Rattle.std.proofs.lemmas.Fmt.{decimal_injective}
use Rattle.std.proofs.lemmas.List.{get_or_default}
use Rattle.pt_options.specs.declared.given.Mode.{Mode}
use Rattle.pt_options.specs.declared.given.Mode.TheVariants.{Solve, Drill}
use Rattle.pt_options.specs.declared.given.Options.{Options}
use Rattle.pt_options.specs.Options.{names, start, AreSettings, Gives, GivesDrill, GivesMode, GivesNumber, GivesNumberOr, GiveOptions, HasName, IsAbsent}
use Rattle.pt_options.specs.Values.{AreValues, HaveOptions, IsDrill, IsMode, IsNumber, IsNumberOr, IsValue}
use Rattle.pt_options.proofs.Starts.{one_rest}

mode : Contains names (codes "mode")
mode = (0, omega arith, refl)

workers : Contains names (codes "workers")
workers = (1, omega arith, refl)

states : Contains names (codes "states")
states = (2, omega arith, refl)

seed : Contains names (codes "seed")
seed = (3, omega arith, refl)

size : Contains names (codes "size")
size = (4, omega arith, refl)

-- ---- an option has one value

module _ (words : List (List ℕ)) (settings : AreSettings words) (name : List ℕ) (known : Contains names name) where
  at_other : (v w : List ℕ) (i j : ℕ) → i < j → j < length words → slice_index_or words i (start name ++ v) ≡ start name ++ v
      → slice_index_or words j (start name ++ w) ≡ start name ++ w → ⊥
  at_other v w i j before lt first second =
      settings.once name known i j (start name ++ v) before lt (v, first) (w, get_or_default words j (start name ++ v) (start name ++ w) lt ∙ second)

  pub one_value : (v w : List ℕ) → Gives words name v → Gives words name w → v ≡ w
  one_value v w g h = elim (cases_lt g.0 h.0) [
    | inl before ↦ absurd (at_other v w g.0 h.0 before h.1 g.2 h.2)
    | inr later ↦ elim (cases_lt h.0 g.0) [
      | inl after ↦ absurd (at_other w v h.0 g.0 after g.1 h.2 g.2)
      | inr same ↦
          let place : g.0 ≡ h.0 = omega arith in
          let moved : slice_index_or words h.0 (start name ++ v) ≡ start name ++ v = subst (λ (k : ℕ). slice_index_or words k (start name ++ v) ≡ start name ++ v) place g.2 in
          one_rest (start name) v w (sym moved ∙ get_or_default words h.0 (start name ++ v) (start name ++ w) h.1 ∙ h.2)
    ]
  ]

  pub given : (v : List ℕ) (value : Option (List ℕ)) → Gives words name v → IsValue words name value → value ≡ Some v
  given v None g absent = absurd (absent v g)
  given v (Some w) g h = ap Some (one_value w v h g)

  pub is_absent : (value : Option (List ℕ)) → IsAbsent words name → IsValue words name value → value ≡ None
  is_absent None absent h = refl
  is_absent (Some w) absent h = absurd (absent w h)

  pub gives : (v : List ℕ) (value : Option (List ℕ)) → value ≡ Some v → IsValue words name value → Gives words name v
  gives v value is h = subst (IsValue words name) is h

  pub absent : (value : Option (List ℕ)) → value ≡ None → IsValue words name value → IsAbsent words name
  absent value is h = subst (IsValue words name) is h

  pub number_given : (value : Option (List ℕ)) (least most n : ℕ) → IsValue words name value → IsNumber value least most n → GivesNumber words name least most n
  number_given value least most n h is = (is.0, is.1, gives (decimal n) value is.2 h)

  pub number_of : (value : Option (List ℕ)) (least most n : ℕ) → IsValue words name value → GivesNumber words name least most n → IsNumber value least most n
  number_of value least most n h g = (g.0, g.1, given (decimal n) value g.2 h)

  pub number_or_given : (value : Option (List ℕ)) (least most default n : ℕ) → IsValue words name value → IsNumberOr value least most default n → GivesNumberOr words name least most default n
  number_or_given value least most default n h (inl is) = inl (number_given value least most n h is)
  number_or_given value least most default n h (inr is) = inr (absent value is.0 h, is.1)

  pub number_or_of : (value : Option (List ℕ)) (least most default n : ℕ) → IsValue words name value → GivesNumberOr words name least most default n → IsNumberOr value least most default n
  number_or_of value least most default n h (inl g) = inl (number_of value least most n h g)
  number_or_of value least most default n h (inr g) = inr (is_absent value g.0 h, g.1)

  pub one_number : (least most m n : ℕ) → most < 2 ^ 64 → GivesNumber words name least most m → GivesNumber words name least most n → m ≡ n
  one_number least most m n fits g h = decimal_injective m n (omega (arith, g.1)) (omega (arith, h.1)) (one_value (decimal m) (decimal n) g.2 h.2)

  pub one_number_or : (least most default m n : ℕ) → most < 2 ^ 64 → GivesNumberOr words name least most default m → GivesNumberOr words name least most default n → m ≡ n
  one_number_or least most default m n fits (inl g) (inl h) = one_number least most m n fits g h
  one_number_or least most default m n fits (inl g) (inr h) = absurd (h.0 (decimal m) g.2)
  one_number_or least most default m n fits (inr g) (inl h) = absurd (g.0 (decimal n) h.2)
  one_number_or least most default m n fits (inr g) (inr h) = g.1 ∙ sym h.1

-- ---- the values give the options that the words give

module _ (words : List (List ℕ)) (settings : AreSettings words) (value : List ℕ → Option (List ℕ)) (values : AreValues words value) where
  mode_given : (m : Mode) → IsMode (value (codes "mode")) m → GivesMode words m
  mode_given Solve (inl is) = inl (gives words settings (codes "mode") mode (codes "solve") (value (codes "mode")) is (values (codes "mode") mode))
  mode_given Solve (inr is) = inr (absent words settings (codes "mode") mode (value (codes "mode")) is (values (codes "mode") mode))
  mode_given Drill is = gives words settings (codes "mode") mode (codes "drill") (value (codes "mode")) is (values (codes "mode") mode)

  mode_of : (m : Mode) → GivesMode words m → IsMode (value (codes "mode")) m
  mode_of Solve (inl g) = inl (given words settings (codes "mode") mode (codes "solve") (value (codes "mode")) g (values (codes "mode") mode))
  mode_of Solve (inr g) = inr (is_absent words settings (codes "mode") mode (value (codes "mode")) g (values (codes "mode") mode))
  mode_of Drill g = given words settings (codes "mode") mode (codes "drill") (value (codes "mode")) g (values (codes "mode") mode)

  drill_given : (m : Mode) (a b : ℕ) → IsDrill (value (codes "seed")) (value (codes "size")) m a b → GivesDrill words m a b
  drill_given Solve a b is = (
    absent words settings (codes "seed") seed (value (codes "seed")) is.0 (values (codes "seed") seed),
    absent words settings (codes "size") size (value (codes "size")) is.1 (values (codes "size") size),
    is.2,
    is.3,
  )
  drill_given Drill a b is = (
    number_given words settings (codes "seed") seed (value (codes "seed")) 0 2147483647 a (values (codes "seed") seed) is.0,
    number_given words settings (codes "size") size (value (codes "size")) 1 4096 b (values (codes "size") size) is.1,
  )

  drill_of : (m : Mode) (a b : ℕ) → GivesDrill words m a b → IsDrill (value (codes "seed")) (value (codes "size")) m a b
  drill_of Solve a b g = (
    is_absent words settings (codes "seed") seed (value (codes "seed")) g.0 (values (codes "seed") seed),
    is_absent words settings (codes "size") size (value (codes "size")) g.1 (values (codes "size") size),
    g.2,
    g.3,
  )
  drill_of Drill a b g = (
    number_of words settings (codes "seed") seed (value (codes "seed")) 0 2147483647 a (values (codes "seed") seed) g.0,
    number_of words settings (codes "size") size (value (codes "size")) 1 4096 b (values (codes "size") size) g.1,
  )

  pub options_given : (o : Options) → HaveOptions value o → GiveOptions words o
  options_given o h = record {
    settings = settings;
    mode = mode_given o.mode h.mode;
    workers = number_or_given words settings (codes "workers") workers (value (codes "workers")) 1 16 1 o.workers (values (codes "workers") workers) h.workers;
    states = number_or_given words settings (codes "states") states (value (codes "states")) 1 65536 16384 o.states (values (codes "states") states) h.states;
    drill = drill_given o.mode o.seed o.size h.drill;
  }

  pub options_of : (o : Options) → GiveOptions words o → HaveOptions value o
  options_of o g = record {
    mode = mode_of o.mode g.mode;
    workers = number_or_of words settings (codes "workers") workers (value (codes "workers")) 1 16 1 o.workers (values (codes "workers") workers) g.workers;
    states = number_or_of words settings (codes "states") states (value (codes "states")) 1 65536 16384 o.states (values (codes "states") states) g.states;
    drill = drill_of o.mode o.seed o.size g.drill;
  }

-- ---- words give one list of options

module _ (words : List (List ℕ)) (settings : AreSettings words) where
  -- the two words of the mode differ
  solve_drill : codes "solve" ≡ codes "drill" → ⊥
  solve_drill e =
      let bad : ◌≡◌ {A = ℕ} 115 100 = ap (λ (text : List ℕ). slice_index_or text 0 0) e in
      absurd (omega arith)

  modes_differ : GivesMode words Solve → GivesMode words Drill → ⊥
  modes_differ (inl g) h = solve_drill (one_value words settings (codes "mode") mode (codes "solve") (codes "drill") g h)
  modes_differ (inr none) h = none (codes "drill") h

  one_mode : (m n : Mode) → GivesMode words m → GivesMode words n → m ≡ n
  one_mode Solve Solve g h = refl
  one_mode Solve Drill g h = absurd (modes_differ g h)
  one_mode Drill Solve g h = absurd (modes_differ h g)
  one_mode Drill Drill g h = refl

  one_drill : (m : Mode) (a b c d : ℕ) → GivesDrill words m a b → GivesDrill words m c d → (a ≡ c) × (b ≡ d)
  one_drill Solve a b c d g h = (g.2 ∙ sym h.2, g.3 ∙ sym h.3)
  one_drill Drill a b c d g h = (
    one_number words settings (codes "seed") seed 0 2147483647 a c (omega arith) g.0 h.0,
    one_number words settings (codes "size") size 1 4096 b d (omega arith) g.1 h.1,
  )

pub one_options : (words : List (List ℕ)) (one two : Options) → GiveOptions words one → GiveOptions words two → one ≡ two
one_options words one two g h =
    let mode_is : one.mode ≡ two.mode = one_mode words g.settings one.mode two.mode g.mode h.mode in
    let drill_is = one_drill words g.settings one.mode one.seed one.size two.seed two.size g.drill (subst (λ (m : Mode). GivesDrill words m two.seed two.size) (sym mode_is) h.drill) in
    let workers_is : one.workers ≡ two.workers = one_number_or words g.settings (codes "workers") workers 1 16 1 one.workers two.workers (omega arith) g.workers h.workers in
    let states_is : one.states ≡ two.states = one_number_or words g.settings (codes "states") states 1 65536 16384 one.states two.states (omega arith) g.states h.states in
    λ i. record { mode = mode_is i; workers = workers_is i; states = states_is i; seed = drill_is.0 i; size = drill_is.1 i }
