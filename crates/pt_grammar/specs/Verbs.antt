-- The table of commands.
use Rattle.pt_grammar.specs.declared.verbs.Row as declared
use Rattle.pt_grammar.specs.declared.item_forms.ItemForm.{ItemForm}
use Rattle.pt_grammar.specs.declared.item_forms.ItemForm.TheVariants.{Symbol, Numeral, Component, Sort, Term, Text, SortList, ParameterList, ItemList, Keyword, Value}
use Rattle.pt_grammar.specs.declared.item_forms.More.{More}
use Rattle.pt_grammar.specs.declared.item_forms.More.TheVariants.{Nothing, Maybe, Many}
use Rattle.pt_grammar.specs.declared.verbs.Verb.{Verb}
use Rattle.pt_grammar.specs.declared.verbs.Verb.TheVariants.{SetLogic, SetInfo, SetOption, DeclareConst, DeclareFun, DefineFun, Assert, CheckSat, GetValue, GetModel, Push, Pop, Reset, Echo, Exit, SetEqual, SetSubset, SetEmpty, SetFinite, SetStates, SetMember, SetList}
use Rattle.std.specs.Prelude.{ℕ, if◌then◌else◌, List, [], ◌∷◌, Option, Some, None, bytes_eq, codes}
use Rattle.pt_grammar.specs.Words.{Name}

pub record Row : Type 0 where
  pub name : Name
  pub verb : Verb
  pub forms : List ItemForm
  pub more : More

abbrev pub row : Name → Verb → List ItemForm → More → Row
row name verb forms more = record { name = name; verb = verb; forms = forms; more = more }

abbrev pub table : List Row
table =
    row (codes "set-logic") SetLogic (Symbol ∷ []) Nothing
    ∷ row (codes "set-info") SetInfo (Keyword ∷ []) (Maybe Value)
    ∷ row (codes "set-option") SetOption (Keyword ∷ []) (Maybe Value)
    ∷ row (codes "declare-const") DeclareConst (Symbol ∷ Sort ∷ []) Nothing
    ∷ row (codes "declare-fun") DeclareFun (Symbol ∷ SortList ∷ Sort ∷ []) Nothing
    ∷ row (codes "define-fun") DefineFun (Symbol ∷ ParameterList ∷ Sort ∷ Term ∷ []) Nothing
    ∷ row (codes "assert") Assert (Term ∷ []) Nothing
    ∷ row (codes "check-sat") CheckSat [] Nothing
    ∷ row (codes "get-value") GetValue (ItemList ∷ []) Nothing
    ∷ row (codes "get-model") GetModel [] Nothing
    ∷ row (codes "push") Push [] (Maybe Numeral)
    ∷ row (codes "pop") Pop [] (Maybe Numeral)
    ∷ row (codes "reset") Reset [] Nothing
    ∷ row (codes "echo") Echo (Text ∷ []) Nothing
    ∷ row (codes "exit") Exit [] Nothing
    ∷ row (codes "set-equal") SetEqual (Symbol ∷ Symbol ∷ []) Nothing
    ∷ row (codes "set-subset") SetSubset (Symbol ∷ Symbol ∷ []) Nothing
    ∷ row (codes "set-empty") SetEmpty (Symbol ∷ []) Nothing
    ∷ row (codes "set-finite") SetFinite (Symbol ∷ []) Nothing
    ∷ row (codes "set-states") SetStates (Symbol ∷ []) Nothing
    ∷ row (codes "set-member") SetMember (Symbol ∷ []) (Many Component)
    ∷ row (codes "set-list") SetList (Symbol ∷ Numeral ∷ []) Nothing
    ∷ []

abbrev pub row_in : List Row → Name → Option Row
row_in [] name = None
row_in (r ∷ rows) name = if bytes_eq r.name name then Some r else row_in rows name

-- a row that code knows
abbrev pub shown_row : declared.Row → Row
shown_row r = record { name = r.name.now; verb = r.verb; forms = r.forms.now; more = r.more }

-- how many items have to stand behind the name
abbrev pub least_items : Verb → ℕ
least_items SetLogic = 1
least_items SetInfo = 1
least_items SetOption = 1
least_items DeclareConst = 2
least_items DeclareFun = 3
least_items DefineFun = 4
least_items Assert = 1
least_items CheckSat = 0
least_items GetValue = 1
least_items GetModel = 0
least_items Push = 0
least_items Pop = 0
least_items Reset = 0
least_items Echo = 1
least_items Exit = 0
least_items SetEqual = 2
least_items SetSubset = 2
least_items SetEmpty = 1
least_items SetFinite = 1
least_items SetStates = 1
least_items SetMember = 1
least_items SetList = 2
