-- Words that are settings are a line that the command takes, and its matches have their values.
use Rattle.std.proofs.Common.{◌≡◌, ◌<◌, ◌∙◌, ◌++◌, ◌&&◌, ℕ, Bool, true, false, cond, zero, suc, List, [], ◌∷◌, Option, Some, None, length, refl, sym, ap, ap₂, subst, arith, codes}
use Rattle.std.specs.Prelude.{unwrap_or, slice_index_or, fold}
use Rattle.std.specs.List.{All, AllByRecursion, Contains, list_all}
use Rattle.std.specs.Str.{bytes_eq}
use Rattle.std.proofs.lemmas.Slice.Eq.{bytes_eq-Decides}
use Rattle.clap.specs.Walk.{Held, Row, Rule, Text, Walk, finished, first_of, has_row, nothing_held, rows_of, used, walk, walk_from, walked, with_default}
use Rattle.clap.specs.Simple.{App, HasMatchesOf, Shape, built, filled, matches_of, new_app, new_rule, on_top, with_rule}
use Rattle.clap.specs.Takes.{default_passes, is_valid, level_passes, settle_passes, takes, walk_passes}
use Rattle.clap.specs.Matches.{first_value, found_of}
use Rattle.clap.specs.declared.builder.action.ArgAction.TheVariants.{Append}
use Rattle.clap.specs.declared.parser.matches.ArgMatches.{ArgMatches}
use Rattle.clap.proofs.OnLiterals.{clap_on_literals}
use Rattle.clap.proofs.TakesLemmas.{leaf_takes}
use Rattle.clap.proofs.WalkLemmas.{first_value-rows}
use Rattle.pt_options.specs.Options.{AreSettings, IsSetting, IsAbsent, Gives, names, start}
use Rattle.pt_options.specs.Values.{AreValues, IsValue}
use Rattle.pt_options.proofs.Starts.{of_each, one_name}
use Rattle.pt_options.proofs.Rows.{other_first, own_first}

abbrev pub option : List ℕ → Rule
option name = record (new_rule name) { long = Some name; action = Some Append }

-- the command, before its options
abbrev pub bare : App
bare = on_top (λ s. record s { no_binary_name = true; disable_help_flag = true }) (new_app (codes "prestaf"))

abbrev pub program : App
program = with_rule (with_rule (with_rule (with_rule (with_rule bare (option (codes "mode"))) (option (codes "workers"))) (option (codes "states"))) (option (codes "seed"))) (option (codes "size"))

abbrev ready : Shape
ready = (built program).top

abbrev rules : List Rule
rules = ready.rules

abbrev idle : List Row → Walk
idle rows = walk_from (record nothing_held { rows = rows })

-- the matches after one word
abbrev given : Text → Text → List Row → List Row
given name value rows = used (filled (option name)) (value ∷ []) rows

abbrev Steps : Text → Type 0
Steps name = (value : Text) (rows : List Row) → walked rules [] (idle rows) (start name ++ value) ≡ idle (given name value rows)

step : (name value : Text) (rows : List Row) → Contains names name → walked rules [] (idle rows) (start name ++ value) ≡ idle (given name value rows)
unfolding clap_on_literals
step name value rows known = of_each Steps (λ v r. refl) (λ v r. refl) (λ v r. refl) (λ v r. refl) (λ v r. refl) name known value rows

abbrev Passes : Text → Type 0
Passes name = (value : Text) (rows : List Row) (words : List Text) → walk_passes ready [] (idle (given name value rows)) words ≡ true
    → walk_passes ready [] (idle rows) ((start name ++ value) ∷ words) ≡ true

pass : (name value : Text) (rows : List Row) (words : List Text) → Contains names name → walk_passes ready [] (idle (given name value rows)) words ≡ true
    → walk_passes ready [] (idle rows) ((start name ++ value) ∷ words) ≡ true
unfolding clap_on_literals
pass name value rows words known = of_each Passes (λ v r ws e. e) (λ v r ws e. e) (λ v r ws e. e) (λ v r ws e. e) (λ v r ws e. e) name known value rows words

rest_all : (w : Text) (ws : List Text) → All IsSetting (w ∷ ws) → All IsSetting ws
rest_all w ws all k d lt = all (suc k) d (omega arith)

first_all : (w : Text) (ws : List Text) → All IsSetting (w ∷ ws) → IsSetting w
first_all w ws all = all 0 w (omega arith)

-- each word passes
words_pass : (words : List Text) (rows : List Row) → All IsSetting words → walk_passes ready [] (idle rows) words ≡ true
unfolding clap_on_literals
words_pass [] rows all = refl
words_pass (w ∷ ws) rows all =
    let s : IsSetting w = first_all w ws all in
    let rest : walk_passes ready [] (idle (given s.0 s.1 rows)) ws ≡ true = words_pass ws (given s.0 s.1 rows) (rest_all w ws all) in
    subst (λ (word : Text). walk_passes ready [] (idle rows) (word ∷ ws) ≡ true) (sym s.4) (pass s.0 s.1 rows ws s.2 rest)

-- the matches after all words
ends : (words : List Text) (rows : List Row) → All IsSetting words → List Row
ends [] rows all = rows
ends (w ∷ ws) rows all =
    let s : IsSetting w = first_all w ws all in
    ends ws (given s.0 s.1 rows) (rest_all w ws all)

walk_ends : (words : List Text) (rows : List Row) (all : All IsSetting words) → fold (walked rules []) (idle rows) words ≡ idle (ends words rows all)
unfolding ends
walk_ends [] rows all = refl
walk_ends (w ∷ ws) rows all =
    let s : IsSetting w = first_all w ws all in
    let here : walked rules [] (idle rows) w ≡ idle (given s.0 s.1 rows) = ap (walked rules [] (idle rows)) s.4 ∙ step s.0 s.1 rows s.2 in
    ap (λ (at : Walk). fold (walked rules []) at ws) here ∙ walk_ends ws (given s.0 s.1 rows) (rest_all w ws all)

-- the first value is one from before, or that of the first word with the name
abbrev HasFirst : List Text → Text → Option Text → Option Text → Type 0
HasFirst words name None end = IsValue words name end
HasFirst words name (Some v) end = end ≡ Some v

abbrev later : (w : Text) (ws : List Text) (name value : Text) → Gives ws name value → Gives (w ∷ ws) name value
later w ws name value g = (suc g.0, omega (arith, g.1), g.2)

absent_more : (w m x : Text) (ws : List Text) (name : Text) → Contains names name → Contains names m → w ≡ start m ++ x → (name ≡ m → ⊥) → IsAbsent ws name → IsAbsent (w ∷ ws) name
absent_more w m x ws name known also is differs none value g = go g.0 g.1 g.2
  where
    go : (k : ℕ) → k < length (w ∷ ws) → slice_index_or (w ∷ ws) k (start name ++ value) ≡ start name ++ value → ⊥
    go zero lt at = differs (one_name name m value x known also (sym at ∙ is))
    go (suc k) lt at = none value (k, omega arith, at)

value_more : (w m x : Text) (ws : List Text) (name : Text) (v : Option Text) → Contains names name → Contains names m → w ≡ start m ++ x → (name ≡ m → ⊥) → IsValue ws name v → IsValue (w ∷ ws) name v
value_more w m x ws name None known also is differs h = absent_more w m x ws name known also is differs h
value_more w m x ws name (Some v) known also is differs h = later w ws name v h

own_word : (w name x : Text) (ws : List Text) (before end : Option Text) → w ≡ start name ++ x → end ≡ Some (unwrap_or before x) → HasFirst (w ∷ ws) name before end
own_word w name x ws None end is e = subst (IsValue (w ∷ ws) name) (sym e) (zero, omega arith, is)
own_word w name x ws (Some v) end is e = e

other_word : (w m x : Text) (ws : List Text) (name : Text) (before end : Option Text) → Contains names name → Contains names m → w ≡ start m ++ x → (name ≡ m → ⊥)
    → HasFirst ws name before end → HasFirst (w ∷ ws) name before end
other_word w m x ws name None end known also is differs h = value_more w m x ws name end known also is differs h
other_word w m x ws name (Some v) end known also is differs h = h

one_more : (w m x : Text) (ws : List Text) (name : Text) (rows : List Row) (end : Option Text) (b : Bool) → bytes_eq m name ≡ b → Contains names name → Contains names m → w ≡ start m ++ x
    → HasFirst ws name (first_of name (given m x rows)) end → HasFirst (w ∷ ws) name (first_of name rows) end
one_more w m x ws name rows end true e known also is h =
    let same : m ≡ name = (bytes_eq-Decides m name).0 e in
    let now : first_of name (given m x rows) ≡ Some (unwrap_or (first_of name rows) x) =
    subst (λ (t : Text). first_of t (given m x rows) ≡ Some (unwrap_or (first_of t rows) x)) same (own_first m _ _ x rows) in
    own_word w name x ws (first_of name rows) end (subst (λ (t : Text). w ≡ start t ++ x) same is) (subst (λ (o : Option Text). HasFirst ws name o end) now h)
one_more w m x ws name rows end false e known also is h =
    let differs : name ≡ m → ⊥ = λ same. let hit : bytes_eq m name ≡ true = (bytes_eq-Decides m name).1 (sym same) in cc in
    other_word w m x ws name (first_of name rows) end known also is differs (subst (λ (o : Option Text). HasFirst ws name o end) (other_first m name _ _ x rows e) h)

has_first : (words : List Text) (rows : List Row) (all : All IsSetting words) (name : Text) → Contains names name
    → HasFirst words name (first_of name rows) (first_of name (ends words rows all))
unfolding ends
has_first [] rows all name known = go (first_of name rows)
  where
    go : (o : Option Text) → HasFirst [] name o o
    go None = λ value g. absurd (omega (arith, g.1))
    go (Some v) = refl
has_first (w ∷ ws) rows all name known =
    let s : IsSetting w = first_all w ws all in
    one_more w s.0 s.1 ws name rows _ (bytes_eq s.0 name) refl known s.2 s.4 (has_first ws (given s.0 s.1 rows) (rest_all w ws all) name known)

-- ---- the whole line

no_more : (rows : List Row) → (settle_passes rules ready.args_override_self (idle rows).held
    && (list_all default_passes rules && is_valid ready (finished rules (idle rows).held) false)) ≡ true
unfolding clap_on_literals
no_more rows = refl

level : (words : List Text) → All IsSetting words → level_passes ready [] nothing_held words false ≡ true
level words all = ap₂ (λ (a b : Bool). a && b) (words_pass words [] all)
    (subst (λ (w : Walk). (settle_passes rules ready.args_override_self w.held && (list_all default_passes rules && is_valid ready (finished rules w.held) false)) ≡ true)
    (sym (walk_ends words [] all)) (no_more (ends words [] all)))

-- the command takes the words
pub is_taken : (words : List Text) → AreSettings words → takes program words ≡ true
is_taken words settings = leaf_takes (built program) nothing_held words refl (level words settings.each)

either_way : (b : Bool) (rows : List Row) → cond b rows rows ≡ rows
either_way true rows = refl
either_way false rows = refl

no_default : (a : Rule) (rows : List Row) → a.defaults ≡ [] → with_default rows a ≡ rows
no_default a rows e = rw e (either_way (has_row a.id rows) rows)

no_defaults : (c : List Rule) (rows : List Row) → AllByRecursion (λ (a : Rule). a.defaults ≡ []) c → fold with_default rows c ≡ rows
no_defaults [] rows e = refl
no_defaults (a ∷ c) rows e = ap (λ (r : List Row). fold with_default r c) (no_default a rows e.0) ∙ no_defaults c rows e.1

matches_are : (words : List Text) (all : All IsSetting words) → matches_of program words ≡ ends words [] all
matches_are words all = ap (λ (w : Walk). finished rules w.held) (walk_ends words [] all) ∙ no_defaults rules (ends words [] all) (refl, (refl, (refl, (refl, (refl, tt)))))

-- and its matches have their values
pub values : (words : List Text) (m : ArgMatches) → AreSettings words → HasMatchesOf program words m → AreValues words (first_value (found_of m))
values words m settings has name known =
    let all : All IsSetting words = settings.each in
    let rows : rows_of (found_of m) ≡ ends words [] all = (has refl).0 ∙ matches_are words all in
    let is : first_value (found_of m) name ≡ first_of name (ends words [] all) = first_value-rows (found_of m) name ∙ ap (first_of name) rows in
    subst (IsValue words name) (sym is) (has_first words [] all name known)
