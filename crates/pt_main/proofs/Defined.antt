-- Words and bytes define one output.
use Rattle.std.proofs.Common.{◌≡◌, ℕ, Bool, true, false, List, ◌++◌, refl, inl, inr, ap, sym, subst, ◌∙◌}
use Rattle.pt_options.specs.declared.given.Mode.{Mode}
use Rattle.pt_options.specs.declared.given.Mode.TheVariants.{Solve, Drill}
use Rattle.pt_options.specs.declared.given.Options.{Options}
use Rattle.pt_options.specs.Options.{AreOptions}
use Rattle.pt_drill.specs.Drill.{drill_text}
use Rattle.pt_drill.specs.Summary.{summary, last_line}
use Rattle.pt_main.specs.Output.{IsOutput, IsFrontOf, IsFrontOfOutput}
use Rattle.pt_main.specs.Modes.{IsDrillOutput, IsOutputIn, IsDefined, IsFrontIn, IsFrontOfDefined}
use Rattle.pt_main.proofs.ByMode.{OneOptions}

abbrev pub OneOutput : Type 0
OneOutput = (text : List ℕ) (bound : ℕ) (one two : List ℕ) (first second : Bool) → IsOutput text bound one first → IsOutput text bound two second → (one ≡ two) × (first ≡ second)

abbrev pub HaveOutputs : Type 0
HaveOutputs = (text : List ℕ) (bound : ℕ) → (out : List ℕ) × (refused : Bool) × IsOutput text bound out refused

abbrev pub FrontsArePrefixes : Type 0
FrontsArePrefixes = (text : List ℕ) (bound : ℕ) (front out : List ℕ) (refused : Bool) → IsFrontOfOutput text bound front → IsOutput text bound out refused → IsFrontOf front out

-- ---- one output

one_drill : OneOutput → (o : Options) (one two : List ℕ) (first second : Bool) → IsDrillOutput o one first → IsDrillOutput o two second → (one ≡ two) × (first ≡ second)
one_drill law o one two false false (v, a, e) (w, b, f) = (e ∙ ap (summary o.seed o.size) (law (drill_text o.seed o.size) o.states v w false false a b).0 ∙ sym f, refl)
one_drill law o one two true true (v, a, e) (w, b, f) = (e ∙ ap last_line (law (drill_text o.seed o.size) o.states v w true true a b).0 ∙ sym f, refl)
one_drill law o one two false true (v, a, e) (w, b, f) = let differ : false ≡ true = (law (drill_text o.seed o.size) o.states v w false true a b).1 in absurd cc
one_drill law o one two true false (v, a, e) (w, b, f) = let differ : true ≡ false = (law (drill_text o.seed o.size) o.states v w true false a b).1 in absurd cc

one_in : OneOutput → (mode : Mode) (o : Options) (bytes one two : List ℕ) (first second : Bool) → IsOutputIn mode o bytes one first → IsOutputIn mode o bytes two second → (one ≡ two) × (first ≡ second)
one_in law Solve o bytes one two first second a b = law bytes o.states one two first second a b
one_in law Drill o bytes one two first second a b = one_drill law o one two first second a b

pub one_defined : OneOptions → OneOutput → (words : List (List ℕ)) (bytes one two : List ℕ) (first second : Bool) → IsDefined words bytes one first → IsDefined words bytes two second → (one ≡ two) × (first ≡ second)
one_defined options law words bytes one two first second (o, gives, a) (p, also, b) =
    one_in law o.mode o bytes one two first second a (subst (λ (q : Options). IsOutputIn q.mode q bytes two second) (options words p o also gives) b)

-- ---- an output

drill_defined : (o : Options) (whole : List ℕ) (refused : Bool) → IsOutput (drill_text o.seed o.size) o.states whole refused → (out : List ℕ) × (refused : Bool) × IsDrillOutput o out refused
drill_defined o whole false is = (summary o.seed o.size whole, false, (whole, is, refl))
drill_defined o whole true is = (last_line whole, true, (whole, is, refl))

defined_in : HaveOutputs → (mode : Mode) (o : Options) (bytes : List ℕ) → (out : List ℕ) × (refused : Bool) × IsOutputIn mode o bytes out refused
defined_in law Solve o bytes = law bytes o.states
defined_in law Drill o bytes = let (whole, refused, is) = law (drill_text o.seed o.size) o.states in drill_defined o whole refused is

pub defined : HaveOutputs → (words : List (List ℕ)) (bytes : List ℕ) → AreOptions words → (out : List ℕ) × (refused : Bool) × IsDefined words bytes out refused
defined law words bytes (o, gives) = let (out, refused, is) = defined_in law o.mode o bytes in (out, refused, (o, gives, is))

-- ---- fronts

front_in : OneOutput → FrontsArePrefixes → (mode : Mode) (o : Options) (bytes front out : List ℕ) (refused : Bool) → IsFrontIn mode o bytes front → IsOutputIn mode o bytes out refused → IsFrontOf front out
front_in one law Solve o bytes front out refused a b = law bytes o.states front out refused a b
front_in one law Drill o bytes front out refused (inl none) b = (out, ap (λ (l : List ℕ). l ++ out) (sym none))
front_in one law Drill o bytes front out refused (inr (all, how, is, begins)) b = subst (IsFrontOf front) (one_drill one o all out how refused is b).0 begins

pub front_of_defined : OneOptions → OneOutput → FrontsArePrefixes → (words : List (List ℕ)) (bytes front out : List ℕ) (refused : Bool) → IsFrontOfDefined words bytes front → IsDefined words bytes out refused → IsFrontOf front out
front_of_defined options one law words bytes front out refused (o, gives, a) (p, also, b) =
    front_in one law o.mode o bytes front out refused a (subst (λ (q : Options). IsOutputIn q.mode q bytes out refused) (options words p o also gives) b)
