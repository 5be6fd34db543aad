-- Definitions, a parameter at a time.
use Rattle.std.proofs.Common.{◌≡◌, ℕ, List, [], ◌∷◌, ◌++◌, map, reverse, refl, ap, sym, subst, ◌∙◌}
use Rattle.std.specs.Prelude.{Result, Ok, Err, Some}
use Rattle.std.specs.List.{AllByRecursion}
use Rattle.std.proofs.lemmas.List.{append-nil, reverse-append}
use Rattle.pt_syntax.specs.declared.sexpr.SExpr.{SExpr}
use Rattle.pt_syntax.specs.declared.kinds.ReadRefusal.{ReadRefusal}
use Rattle.pt_terms.specs.declared.meaning.Sort.{Sort as VariableSort}
use Rattle.pt_terms.specs.declared.meaning.Bound.{Bound}
use Rattle.pt_terms.specs.Sorts.{HasSort}
use Rattle.pt_read.specs.declared.command.CommandKind.{CommandKind}
use Rattle.pt_terms.specs.Elaboration.{Work, Elab, give, follow, ◌>>=◌}
use Rattle.pt_terms.specs.Environment.{outermost}
use Rattle.pt_terms.specs.Gives.{Gives, Fails, Grows}
use Rattle.pt_terms.specs.Sound.{IsBoundIn, IsUseIn, IsEnvIn}
use Rattle.pt_read.proofs.ItemLemmas.{NamesStay}
use Rattle.pt_grammar.specs.Words.{Name}
use Rattle.pt_read.specs.Scope.{State}
use Rattle.pt_terms.specs.Names.{Symbol, Env, bind}
use Rattle.pt_grammar.specs.Exprs.{items_of, place_of, items_or_none}
use Rattle.pt_terms.specs.Terms.{variable, with_pair, named_sort, as_bound}
use Rattle.pt_read.specs.Commands.{distinct_variables, defined, new_name}
use Rattle.pt_read.specs.Defining.{Parameters, parameter_named, parameters_from, definition_of, defined_by}

follow_same : {A B : Type 0} (r : Result (A × Work) ReadRefusal) (f g : A → Elab B) → ((a : A) (w : Work) → f a w ≡ g a w) → follow r f ≡ follow r g
follow_same (Ok r) f g e = e r.0 r.1
follow_same (Err e') f g e = refl

follow_follow : {A B C : Type 0} (r : Result (A × Work) ReadRefusal) (f : A → Elab B) (g : B → Elab C) → follow (follow r f) g ≡ follow r (λ a. f a >>= g)
follow_follow (Ok r) f g = refl
follow_follow (Err e) f g = refl

names_bound : (done : List (Name × ℕ × VariableSort)) → map (λ b. b.0) (map as_bound done) ≡ map (λ x. x.0) done
names_bound [] = refl
names_bound (x ∷ done) = ap (λ ns. x.0 ∷ ns) (names_bound done)

abbrev numbers_of : List (Name × ℕ × VariableSort) → List ℕ
numbers_of done = reverse (map (λ p. p.1) done)

abbrev sorts_of : List (Name × ℕ × VariableSort) → List VariableSort
sorts_of done = reverse (map (λ p. p.2) done)

-- what is known of variables, as parameters that are bound
abbrev seen : List (Name × ℕ × VariableSort) → Parameters
seen done = (map as_bound done, numbers_of done, sorts_of done)

seen_more : (x : Name × ℕ × VariableSort) (done : List (Name × ℕ × VariableSort)) → ◌≡◌ {A = Parameters} (seen (x ∷ done)) (as_bound x ∷ map as_bound done, numbers_of done ++ x.1 ∷ [], sorts_of done ++ x.2 ∷ [])
seen_more x done =
    ap (λ (ns : List ℕ). (as_bound x ∷ map as_bound done, ns, sorts_of (x ∷ done))) (reverse-append (x.1 ∷ []) (map (λ p. p.1) done))
    ∙ ap (λ (ss : List VariableSort). (as_bound x ∷ map as_bound done, numbers_of done ++ x.1 ∷ [], ss)) (reverse-append (x.2 ∷ []) (map (λ p. p.2) done))

abbrev one_more : List (Name × ℕ × VariableSort) → Name × ℕ × VariableSort → Elab Parameters
one_more done x = give (as_bound x ∷ map as_bound done, numbers_of done ++ x.1 ∷ [], sorts_of done ++ x.2 ∷ [])

abbrev others : List SExpr → Parameters → Elab Parameters
others es r = parameters_from r es

abbrev made : {B : Type 0} → (Parameters → Elab B) → List (Name × ℕ × VariableSort) → Elab B
made f ps = f (seen ps)

-- the variables, and then what is made of them
variables_then : {B : Type 0} (f : Parameters → Elab B) (done : List (Name × ℕ × VariableSort)) (es : List SExpr) (w : Work)
    → follow (distinct_variables done es w) (made f) ≡ follow (parameters_from (seen done) es w) f
variables_then f done [] w = refl
variables_then f done (e ∷ es) w =
    follow_follow (variable (map (λ x. x.0) done) e w) (λ x. distinct_variables (x ∷ done) es) (made f)
    ∙ follow_same (variable (map (λ x. x.0) done) e w) (λ x v. follow (distinct_variables (x ∷ done) es v) (made f)) (λ x v. follow (follow (one_more done x v) (others es)) f)
    (λ x v. variables_then f (x ∷ done) es v ∙ ap (λ (ps : Parameters). follow (parameters_from ps es v) f) (seen_more x done))
    ∙ sym (follow_follow (variable (map (λ x. x.0) done) e w) (λ x v. follow (one_more done x v) (others es)) f)
    ∙ ap (λ r. follow r f) (sym (follow_follow (variable (map (λ x. x.0) done) e w) (one_more done) (others es)))
    ∙ ap (λ ns. follow (follow (follow (variable ns e w) (one_more done)) (others es)) f) (sym (names_bound done))

-- a definition is what its steps give
pub defined_same : (s : State) (name parameters sort body : SExpr) (w : Work) → defined s name parameters sort body w ≡ defined_by s name parameters sort body w
defined_same s name parameters sort body w = follow_same (new_name s name w) _ _ (λ x v. variables_then (λ ps. named_sort sort >>= λ t. definition_of x s body ps t) [] (items_or_none (items_of parameters)) v)

pub gives_defined : (s : State) (name parameters sort body : SExpr) (old new : Work) (r : Result CommandKind ReadRefusal) → Gives (λ k. k) r old new (defined_by s name parameters sort body) → Gives (λ k. k) r old new (defined s name parameters sort body)
gives_defined s name parameters sort body old new (Ok k) h = defined_same s name parameters sort body old ∙ h
gives_defined s name parameters sort body old new (Err e) h = subst (Fails e) (sym (defined_same s name parameters sort body old)) h

-- what names are bound to stays in range
pub bound_more : NamesStay → (v w : Work) (bound : List (Name × Bound)) → Grows v w → AllByRecursion (λ (b : Name × Bound). IsBoundIn v b.1) bound → AllByRecursion (λ (b : Name × Bound). IsBoundIn w b.1) bound
bound_more stay v w bound g h = (stay v w (record { bound = bound; live = [] }) g (record { bound = h; live = tt })).bound

pub bound_with : (w : Work) (symbols : List Symbol) (bound : List (Name × Bound)) → AllByRecursion (λ (x : Symbol). IsUseIn w x.stands_for) symbols → AllByRecursion (λ (b : Name × Bound). IsBoundIn w b.1) bound → IsEnvIn w (bind bound (outermost symbols))
bound_with w symbols bound live h = record { bound = subst (AllByRecursion (λ (b : Name × Bound). IsBoundIn w b.1)) (sym (append-nil bound)) h; live = live }

pub bind_outermost : (symbols : List Symbol) (bound : List (Name × Bound)) → ◌≡◌ {A = Env} (bind bound (outermost symbols)) (record { bound = bound; live = symbols })
bind_outermost symbols bound = ap (λ (b : List (Name × Bound)). record { bound = b; live = symbols }) (append-nil bound)

pub as_bound_in : NamesStay → (v w : Work) (bound new : List (Name × Bound)) (x : Name × ℕ × VariableSort) → Grows v w → HasSort w.given x.1 x.2 → new ≡ as_bound x ∷ bound → AllByRecursion (λ (b : Name × Bound). IsBoundIn v b.1) bound → AllByRecursion (λ (b : Name × Bound). IsBoundIn w b.1) new
as_bound_in stay v w bound new x g has is h = subst (AllByRecursion (λ (b : Name × Bound). IsBoundIn w b.1)) (sym is) (has, bound_more stay v w bound g h)

-- what stands once the name and the parameters are read
pub after_parameters : (s : State) (name parameters sort body : SExpr) (w v : Work) (x : Name) (ps : Parameters) → new_name s name w ≡ Ok (x, w) → parameters_from ([], [], []) (items_or_none (items_of parameters)) w ≡ Ok (ps, v) → defined_by s name parameters sort body w ≡ follow (named_sort sort v) (definition_of x s body ps)
after_parameters s name parameters sort body w v x ps named all =
    ap (λ r. follow r (λ y. parameters_from ([], [], []) (items_or_none (items_of parameters)) >>= λ ps. named_sort sort >>= λ t. definition_of y s body ps t)) named
    ∙ ap (λ r. follow r (λ ps. named_sort sort >>= λ t. definition_of x s body ps t)) all

pub gives_from : {A : Type 0} (r : Result A ReadRefusal) (old mid new : Work) (m n : Elab A) → m old ≡ n mid → Gives (λ a. a) r mid new n → Gives (λ a. a) r old new m
gives_from (Ok a) old mid new m n same h = same ∙ h
gives_from (Err e) old mid new m n same h = subst (Fails e) (sym same) h

pub from_nothing : (b : List (Name × Bound)) (n : List ℕ) (t : List VariableSort) (is js : List SExpr) (w : Work) (r : Result (Parameters × Work) ReadRefusal) → b ≡ [] → n ≡ [] → t ≡ [] → is ≡ js → parameters_from (b, n, t) is w ≡ r → parameters_from ([], [], []) js w ≡ r
from_nothing b n t is js w r no_names no_numbers no_sorts same told = sym (ap (λ (b : List (Name × Bound)). parameters_from (b, n, t) is w) no_names ∙ ap (λ (n : List ℕ). parameters_from ([], n, t) is w) no_numbers ∙ ap (λ (t : List VariableSort). parameters_from ([], [], t) is w) no_sorts ∙ ap (λ (is : List SExpr). parameters_from ([], [], []) is w) same) ∙ told

-- a variable that is a list of a name and a sort
pub variable_by : (taken : List Name) (e name sort : SExpr) (items : List SExpr) → items_of e ≡ Some items → items ≡ name ∷ sort ∷ [] → variable taken e ≡ parameter_named taken name sort
variable_by taken e name sort items found pair = ap (λ o. with_pair o (place_of e) (parameter_named taken)) (found ∙ ap (λ is. Some is) pair)

pub gives_as : {X A : Type 0} (view : X → A) (r : Result X ReadRefusal) (old new : Work) (m n : Elab A) → n ≡ m → Gives view r old new m → Gives view r old new n
gives_as view r old new m n same h = subst (Gives view r old new) (sym same) h
