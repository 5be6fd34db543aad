-- From the options that were read to those that the words give, by their mode.
use Rattle.std.proofs.Common.{◌≡◌, ℕ, ◌≤◌, List, [], refl, inl, inr, sym, subst, ◌∙◌, arith}
use Rattle.std.specs.Prelude.{Option, Some, None, IfSome, codes}
use Rattle.pt_options.specs.declared.given.Mode.{Mode}
use Rattle.pt_options.specs.declared.given.Mode.TheVariants.{Solve, Drill}
use Rattle.pt_options.specs.declared.given.Options.{Options}
use Rattle.pt_options.specs.Options.{GiveOptions, AreOptions, GivesNumberOr, GivesDrill}
use Rattle.pt_drill.specs.Drill.{drill_text}
use Rattle.pt_main.specs.declared.status.Status.{Status}
use Rattle.pt_main.specs.declared.status.Status.TheVariants as status
use Rattle.pt_main.specs.Ending.{Answers}
use Rattle.pt_main.specs.Modes.{OfOptions, OfScript, AreInRange, AnswersIn, WroteFrontIn, script_in}
use Rattle.pt_main.proofs.Streaming.{wrote-nothing}
use Rattle.pt_main.proofs.Endings.{front_of_nothing}

-- ---- ranges

in_bounds : (words : List (List ℕ)) (name : List ℕ) (least most default n : ℕ) → GivesNumberOr words name least most default n → least ≤ default → default ≤ most → (least ≤ n) × (n ≤ most)
in_bounds words name least most default n (inl gives) low high = (gives.0, gives.1)
in_bounds words name least most default n (inr none) low high = (omega (arith, none.1, low), omega (arith, none.1, high))

small : (words : List (List ℕ)) (mode : Mode) (seed size : ℕ) → GivesDrill words mode seed size → size ≤ 4096
small words Solve seed size gives = omega (arith, gives.3)
small words Drill seed size gives = gives.1.1

pub in_range : (words : List (List ℕ)) (o : Options) → GiveOptions words o → AreInRange o
in_range words o gives =
    let states = in_bounds words (codes "states") 1 65536 16384 o.states gives.states (omega arith) (omega arith) in
    let workers = in_bounds words (codes "workers") 1 16 1 o.workers gives.workers (omega arith) (omega arith) in
    record {
      some_state = omega (arith, states.0);
      few_states = states.1;
      some_worker = omega (arith, workers.0);
      few_workers = workers.1;
      small = small words o.mode o.seed o.size gives.drill;
    }

-- ---- what holds of the options that were read

-- words give one list of options
abbrev pub OneOptions : Type 0
OneOptions = (words : List (List ℕ)) (one two : Options) → GiveOptions words one → GiveOptions words two → one ≡ two

pub of_given : OneOptions → (words : List (List ℕ)) (given : Options) (P : Options → Type 0) → GiveOptions words given → P given → OfOptions words P
of_given law words given P gives holds = λ o also. subst P (law words given o gives also) holds

pub of_solve : OneOptions → (words : List (List ℕ)) (given : Options) (bytes : Option (List ℕ)) (P : Options → List ℕ → Type 0) → GiveOptions words given → given.mode ≡ Solve → IfSome bytes (P given) → OfScript bytes words P
of_solve law words given bytes P gives is holds =
    of_given law words given (λ (o : Options). IfSome (script_in o.mode o bytes) (P o)) gives (subst (λ (m : Mode). IfSome (script_in m given bytes) (P given)) (sym is) holds)

pub of_drill : OneOptions → (words : List (List ℕ)) (given : Options) (bytes : Option (List ℕ)) (P : Options → List ℕ → Type 0) → GiveOptions words given → given.mode ≡ Drill → P given (drill_text given.seed given.size) → OfScript bytes words P
of_drill law words given bytes P gives is holds =
    of_given law words given (λ (o : Options). IfSome (script_in o.mode o bytes) (P o)) gives (subst (λ (m : Mode). IfSome (script_in m given bytes) (P given)) (sym is) holds)

-- what holds of all options and scripts
pub of_all : (words : List (List ℕ)) (bytes : Option (List ℕ)) (P : Options → List ℕ → Type 0) → ((o : Options) (text : List ℕ) → P o text) → OfScript bytes words P
of_all words bytes P holds = λ o gives. told (script_in o.mode o bytes) (P o) (holds o)
  where
    told : (left : Option (List ℕ)) (Q : List ℕ → Type 0) → ((text : List ℕ) → Q text) → IfSome left Q
    told None Q all = tt
    told (Some text) Q all = all text

-- what holds where there are no options
pub of_none : (words : List (List ℕ)) (P : Options → Type 0) → ¬ AreOptions words → OfOptions words P
of_none words P none = λ o gives. absurd (none (o, gives))

-- a mode is not another
pub apart : {A : Type 0} (mode : Mode) → mode ≡ Solve → mode ≡ Drill → A
apart mode solve drill = absurd (let e : Solve ≡ Drill = sym solve ∙ drill in cc)

-- ---- what was written

same_answers : (o : Options) (text : List ℕ) (old new : Option (List ℕ)) (how : Status) → Answers text o.states old new how → AnswersIn Solve o text old new how
same_answers o text old new status.Done h = h
same_answers o text old new status.Refused h = h
same_answers o text old new status.Usage h = h
same_answers o text old new status.ReadFault h = h
same_answers o text old new status.WriteFault h = h
same_answers o text old new status.NoMemory h = h
same_answers o text old new (status.StoreFull shard) h = h

pub solve_answers : (mode : Mode) (o : Options) (text : List ℕ) (old new : Option (List ℕ)) (how : Status) → mode ≡ Solve → Answers text o.states old new how → AnswersIn mode o text old new how
solve_answers mode o text old new how is h = subst (λ (m : Mode). AnswersIn m o text old new how) (sym is) (same_answers o text old new how h)

pub nothing_in : (mode : Mode) (o : Options) (text : List ℕ) (a : Option (List ℕ)) → WroteFrontIn mode o text a a
nothing_in Solve o text a = front_of_nothing text o.states a
nothing_in Drill o text a = ([], inl refl, wrote-nothing a)
