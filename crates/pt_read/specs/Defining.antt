-- Definitions, a parameter at a time.
use Rattle.std.specs.Prelude.{ℕ, List, [], ◌∷◌, ◌++◌, map}
use Rattle.pt_syntax.specs.declared.sexpr.SExpr.{SExpr}
use Rattle.pt_terms.specs.declared.meaning.Sort.{Sort}
use Rattle.pt_terms.specs.declared.meaning.Bound.{Bound}
use Rattle.pt_read.specs.declared.command.CommandKind.{CommandKind}
use Rattle.pt_read.specs.declared.command.CommandKind.TheVariants as kind
use Rattle.pt_terms.specs.Elaboration.{Elab, give, ◌>>=◌, fresh}
use Rattle.pt_grammar.specs.Words.{Name}
use Rattle.pt_read.specs.Scope.{State}
use Rattle.pt_grammar.specs.Exprs.{place_of, items_of, items_or_none}
use Rattle.pt_terms.specs.Terms.{bindable, named_sort, variable, as_bound, term}
use Rattle.pt_read.specs.Commands.{new_name}
use Rattle.pt_terms.specs.Theory.{of_sort}

-- a parameter by its name and its sort
abbrev pub parameter_named : List Name → SExpr → SExpr → Elab (Name × ℕ × Sort)
parameter_named taken name written = bindable taken name >>= λ x. named_sort written >>= λ t. fresh t >>= λ v. give (x, v, t)

-- names that are bound, the numbers of their variables, and their sorts
abbrev pub Parameters : Type 0
Parameters = List (Name × Bound) × List ℕ × List Sort

-- one more parameter, bound in front of the others, and its number and sort behind theirs
abbrev pub parameter : Parameters → SExpr → Elab Parameters
parameter ps e = variable (map (λ b. b.0) ps.0) e >>= λ x. give (as_bound x ∷ ps.0, ps.1 ++ x.1 ∷ [], ps.2 ++ x.2 ∷ [])

abbrev pub parameters_from : Parameters → List SExpr → Elab Parameters
parameters_from ps [] = give ps
parameters_from ps (e ∷ es) = parameter ps e >>= λ r. parameters_from r es

abbrev pub definition_of : Name → State → SExpr → Parameters → Sort → Elab CommandKind
definition_of name s body ps t = do
  m ← term (record { bound = ps.0; live = s.symbols }) body
  n ← of_sort t (place_of body) m
  give (kind.Define (record { name = name; parameters = ps.1; sorts = ps.2; meaning = n }))

abbrev pub defined_by : State → SExpr → SExpr → SExpr → SExpr → Elab CommandKind
defined_by s name parameters written body = do
  x ← new_name s name
  ps ← parameters_from ([], [], []) (items_or_none (items_of parameters))
  t ← named_sort written
  definition_of x s body ps t
