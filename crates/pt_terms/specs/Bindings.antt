-- What is kept of the names that are bound in a term, and what contracts see of them.
use Rattle.std.specs.Prelude.{ℕ, ◌<◌, ◌≤◌, ◌≡◌, ◌==◌, false, if◌then◌else◌, List, [], ◌∷◌, length, map, reverse, slice_get, unwrap_or, Option, Some, None, bytes_eq, ⊤}
use Rattle.std.specs.List.{list_any, All}
use Rattle.pt_terms.specs.declared.meaning.Bound.{Bound}
use Rattle.pt_terms.specs.declared.bindings.Binding.{Binding}
use Rattle.pt_terms.specs.declared.bindings.Bindings.TheInside.{Inside}
use Rattle.pt_grammar.specs.Words.{Name}

-- the name of this number
abbrev pub name_at : List Name → ℕ → Name
name_at names n = unwrap_or (slice_get names n) []

abbrev pub shown_binding : List Name → Binding → Name × Bound
shown_binding names b = (name_at names b.name, b.stands_for)

abbrev pub names_of : Inside → List Name
names_of s = map (λ k. k.items) s.names.keys

abbrev pub shown : Inside → List (Name × Bound)
shown s = map (shown_binding (names_of s)) (reverse s.stack.items)

-- the place of the newest binding of a name, among bindings with the newest first
abbrev pub newest_place : ℕ → List Binding → Option ℕ
newest_place n [] = None
newest_place n (b ∷ bs) = if b.name == n then Some (length bs) else newest_place n bs

-- each binding has a name, and tells the place of the one that it hides
abbrev pub AreLinked : ℕ → List Binding → Type 0
AreLinked count [] = ⊤
AreLinked count (b ∷ bs) = (b.name < count) × (b.hidden ≡ newest_place b.name bs) × AreLinked count bs

abbrev pub AreDistinct : List Name → Type 0
AreDistinct [] = ⊤
AreDistinct (n ∷ names) = (list_any (bytes_eq n) names ≡ false) × AreDistinct names

abbrev pub place_in : List (Option ℕ) → ℕ → Option ℕ
place_in newest n = unwrap_or (slice_get newest n) None

pub record AreIndexed (s : Inside) : Type 0 where
  pub distinct : AreDistinct (names_of s)
  pub count : length s.names.keys ≤ length s.newest.items
  pub newest : (n : ℕ) → place_in s.newest.items n ≡ newest_place n (reverse s.stack.items)
  pub linked : AreLinked (length s.names.keys) (reverse s.stack.items)
  pub named : All (λ (b : Binding). b.name < length s.names.keys) s.stack.items
