-- Items that are missing.
use Rattle.std.proofs.Common.{◌≡◌, ℕ, ◌<◌, ◌||◌, true, false, if◌then◌else◌, List, [], ◌∷◌, drop, length, Option, Some, None, IfSome, option_map, refl, ap, sym, subst, ◌∙◌, ◌≤◌, get_or, arith}
use Rattle.std.specs.Prelude.{bytes_eq, is_some, Ok}
use Rattle.std.specs.List.{AllByRecursion}
use Rattle.pt_terms.specs.declared.meaning.Meaning.{Meaning}
use Rattle.pt_terms.specs.declared.meaning.Sort.{Sort}
use Rattle.pt_terms.specs.Elaboration.{Work, give, ◌>>=◌, require}
use Rattle.pt_terms.specs.Environment.{outermost}
use Rattle.pt_grammar.specs.Words.{Name}
use Rattle.pt_terms.specs.Names.{Use, Defined, Symbol, find_symbol, is_live, Env}
use Rattle.pt_read.specs.Scope.{State, Assertion}
use Rattle.pt_terms.specs.Sound.{IsUseIn, IsEnvIn}
use Rattle.pt_read.specs.Context.{IsStateIn}
use Rattle.pt_terms.specs.Gives.{Fails, Grows}
use Rattle.pt_terms.specs.Sorts.{same_sorts}
use Rattle.pt_grammar.specs.Exprs.{place_of}
use Rattle.pt_syntax.specs.declared.kinds.ReadKind.TheVariants.{Sort as WrongSort}
use Rattle.pt_syntax.specs.declared.kinds.ReadRefusal.{ReadRefusal}
use Rattle.pt_read.specs.declared.command.CommandKind.{CommandKind}
use Rattle.pt_read.specs.declared.command.Predicate.{Predicate}
use Rattle.pt_read.specs.Commands.{predicate, two_predicates}
use Rattle.pt_read.proofs.Steps.{fails_first, given_then}
use Rattle.pt_read.proofs.SortLemmas.{have-length}
use Rattle.pt_syntax.specs.declared.sexpr.SExpr.{SExpr}

-- a name is live exactly where it stands for something
pub is_live_found : (symbols : List Symbol) (name : Name) → is_some (find_symbol symbols name) ≡ is_live symbols name
is_live_found [] name = refl
is_live_found (s ∷ symbols) name = elim (bytes_eq s.name name) as (λ b. is_some (if b then Some s.stands_for else find_symbol symbols name) ≡ (b || is_live symbols name)) [ true ↦ refl | false ↦ is_live_found symbols name ]

-- what a live name stands for is in range
pub found_in : (w : Work) (symbols : List Symbol) (name : Name) → AllByRecursion (λ (x : Symbol). IsUseIn w x.stands_for) symbols → IfSome (find_symbol symbols name) (IsUseIn w)
found_in w [] name h = tt
found_in w (s ∷ symbols) name h = elim (bytes_eq s.name name) as (λ b. IfSome (if b then Some s.stands_for else find_symbol symbols name) (IsUseIn w)) [ true ↦ h.0 | false ↦ found_in w symbols name h.1 ]

-- so is the use that is shown
pub shown_in : {X : Type 0} (w : Work) (show : X → Use) (found : Option X) (meant : Option Use) → option_map show found ≡ meant → IfSome meant (IsUseIn w) → IfSome found (λ x. IsUseIn w (show x))
shown_in w show None meant same h = tt
shown_in w show (Some x) meant same h = subst (λ u. IfSome u (IsUseIn w)) (sym same) h

-- nothing is bound at the start
pub outermost_in : (w : Work) (s : State) → IsStateIn w s → IsEnvIn w (outermost s.symbols)
outermost_in w s h = record { bound = tt {0}; live = h.symbols }

pub node_more : (v w : Work) (i : ℕ) → Grows v w → i < length v.formula → i < length w.formula
node_more v w i g h = omega arith

conjunctions_more : (v w : Work) (assertions : List Assertion) → Grows v w → AllByRecursion (λ (a : Assertion). a.conjunction < length v.formula) assertions → AllByRecursion (λ (a : Assertion). a.conjunction < length w.formula) assertions
conjunctions_more v w [] g h = tt
conjunctions_more v w (a ∷ assertions) g h = (node_more v w a.conjunction g h.0, conjunctions_more v w assertions g h.1)

-- what names stand for stays in range
abbrev pub NamesStay : Type 0
NamesStay = (v w : Work) (env : Env) → Grows v w → IsEnvIn v env → IsEnvIn w env

pub state_more : NamesStay → (v w : Work) (s : State) → Grows v w → IsStateIn v s → IsStateIn w s
state_more stay v w s g h = record {
  symbols = (stay v w (outermost s.symbols) g (outermost_in v s h)).live;
  conjunctions = conjunctions_more v w s.assertions g h.conjunctions;
}

pub ruleset states = (outermost_in, node_more)

-- found exactly where it is live
pub live_where : {X : Type 0} (show : X → Use) (found : Option X) (symbols : List Symbol) (name : Name) → option_map show found ≡ find_symbol symbols name → is_some found ≡ is_live symbols name
live_where show None symbols name same = ap is_some same ∙ is_live_found symbols name
live_where show (Some x) symbols name same = ap is_some same ∙ is_live_found symbols name

pub found_use_in : {X : Type 0} (w : Work) (show : X → Use) (found : Option X) (s : State) (symbols : List Symbol) (name : Name) → symbols ≡ s.symbols → IsStateIn w s → option_map show found ≡ find_symbol symbols name → IfSome found (λ x. IsUseIn w (show x))
found_use_in w show found s symbols name same h is = shown_in w show found (find_symbol symbols name) is (found_in w symbols name (subst (AllByRecursion (λ (x : Symbol). IsUseIn w x.stands_for)) (sym same) h.symbols))

-- a list by its first items
pub one_item : {X : Type 0} (items : List X) (a : X) → 1 ≤ length items → a ≡ get_or items 0 a → items ≡ a ∷ drop 1 items
one_item [] a h e = absurd (omega arith)
one_item (x ∷ xs) a h e = ap (λ y. y ∷ xs) (sym e)

pub two_items : {X : Type 0} (items : List X) (a b : X) → 2 ≤ length items → a ≡ get_or items 0 a → b ≡ get_or items 1 b → items ≡ a ∷ b ∷ drop 2 items
two_items [] a b h e f = absurd (omega arith)
two_items (x ∷ []) a b h e f = absurd (omega arith)
two_items (x ∷ y ∷ xs) a b h e f = rw (e, f) refl

pub three_items : {X : Type 0} (items : List X) (a b c : X) → 3 ≤ length items → a ≡ get_or items 0 a → b ≡ get_or items 1 b → c ≡ get_or items 2 c → items ≡ a ∷ b ∷ c ∷ drop 3 items
three_items [] a b c h e f g = absurd (omega arith)
three_items (x ∷ []) a b c h e f g = absurd (omega arith)
three_items (x ∷ y ∷ []) a b c h e f g = absurd (omega arith)
three_items (x ∷ y ∷ z ∷ xs) a b c h e f g = rw (e, f, g) refl

pub four_items : {X : Type 0} (items : List X) (a b c d : X) → 4 ≤ length items → a ≡ get_or items 0 a → b ≡ get_or items 1 b → c ≡ get_or items 2 c → d ≡ get_or items 3 d → items ≡ a ∷ b ∷ c ∷ d ∷ drop 4 items
four_items [] a b c d h e f g i = absurd (omega arith)
four_items (x ∷ []) a b c d h e f g i = absurd (omega arith)
four_items (x ∷ y ∷ []) a b c d h e f g i = absurd (omega arith)
four_items (x ∷ y ∷ z ∷ []) a b c d h e f g i = absurd (omega arith)
four_items (x ∷ y ∷ z ∷ u ∷ xs) a b c d h e f g i = rw (e, f, g, i) refl

pub just_two : {X : Type 0} (items : List X) (a b : X) → 2 ≤ length items → length items < 3 → a ≡ get_or items 0 a → b ≡ get_or items 1 b → items ≡ a ∷ b ∷ []
just_two [] a b h k e f = absurd (omega arith)
just_two (x ∷ []) a b h k e f = absurd (omega arith)
just_two (x ∷ y ∷ []) a b h k e f = rw (e, f) refl
just_two (x ∷ y ∷ z ∷ xs) a b h k e f = absurd (omega arith)

-- a definition that is found has one sort for each parameter
pub found_sorts : {X : Type 0} (w : Work) (show : X → Use) (found : Option X) (x : X) (ps : List ℕ) (ss : List Sort) (m : Meaning) → found ≡ Some x → show x ≡ Defined ps ss m → IfSome found (λ y. IsUseIn w (show y)) → length ss ≡ length ps
found_sorts w show found x ps ss m is shown h =
    let inside : IsUseIn w (show x) = subst (λ o. IfSome o (λ y. IsUseIn w (show y))) is h in
    let range : IsUseIn w (Defined ps ss m) = subst (IsUseIn w) shown inside in
    have-length w.given ps ss range.1

-- predicates with parameters of other sorts are refused
pub other_sorts : (s : State) (to : Predicate → Predicate → CommandKind) (a b : SExpr) (x y : Predicate) (w : Work) (e : ReadRefusal) → predicate s a w ≡ Ok (x, w) → predicate s b w ≡ Ok (y, w) → Fails e (require (same_sorts x.sorts y.sorts) WrongSort (place_of b) w) → Fails e (two_predicates s to a b w)
other_sorts s to a b x y w e first second test =
    subst (Fails e)
    (sym (given_then (predicate s a) (λ x. predicate s b >>= λ y. require (same_sorts x.sorts y.sorts) WrongSort (place_of b) >>= λ _. give (to x y)) w w x first
    ∙ given_then (predicate s b) (λ y. require (same_sorts x.sorts y.sorts) WrongSort (place_of b) >>= λ _. give (to x y)) w w y second))
    (fails_first (require (same_sorts x.sorts y.sorts) WrongSort (place_of b)) (λ _. give (to x y)) w e test)
