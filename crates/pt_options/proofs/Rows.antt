-- The first value of a name among the matches of a parse.
use Rattle.std.proofs.Common.{◌≡◌, ◌∙◌, ◌++◌, ℕ, Bool, true, false, cond, List, [], ◌∷◌, Option, Some, None, refl, ap}
use Rattle.std.specs.Prelude.{find, slice_get, unwrap_or, option_and_then}
use Rattle.std.specs.Str.{bytes_eq}
use Rattle.std.proofs.lemmas.Slice.Eq.{bytes_eq-Decides}
use Rattle.clap.specs.Walk.{Row, Text, first_of, with_values}
use Rattle.clap.specs.declared.builder.value_parser.Reading.{Reading}
use Rattle.clap.specs.declared.parser.matches.ValueSource.{ValueSource}

abbrev first : Option Row → Option Text
first = option_and_then (λ (r : Row). slice_get r.values 0)

-- a row in front is passed over, or is found
passed : (b : Bool) (r : Row) (one two : Option Row) → first one ≡ first two → first (cond b (Some r) one) ≡ first (cond b (Some r) two)
passed true r one two e = refl
passed false r one two e = e

-- a use of one name leaves the first value of another
pub other_first : (id name : Text) (how : Reading) (s : ValueSource) (v : Text) (rows : List Row) → bytes_eq id name ≡ false
    → first_of name (with_values id how s (v ∷ []) rows) ≡ first_of name rows
other_first id name how s v [] miss = rw miss refl
other_first id name how s v (r ∷ rs) differs = go (bytes_eq r.id id) refl (other_first id name how s v rs differs)
  where
    go : (b : Bool) → bytes_eq r.id id ≡ b → first_of name (with_values id how s (v ∷ []) rs) ≡ first_of name rs
        → first_of name (with_values id how s (v ∷ []) (r ∷ rs)) ≡ first_of name (r ∷ rs)
    go true e ih =
        let same : r.id ≡ id = (bytes_eq-Decides r.id id).0 e in
        let miss : bytes_eq r.id name ≡ false = ap (λ (t : Text). bytes_eq t name) same ∙ differs in
        rw (e, miss) refl
    go false e ih = rw e (passed (bytes_eq r.id name) r (find (λ q. bytes_eq q.id name) (with_values id how s (v ∷ []) rs)) (find (λ q. bytes_eq q.id name) rs) ih)

after_more : (vs : List Text) (v : Text) → slice_get (vs ++ v ∷ []) 0 ≡ Some (unwrap_or (slice_get vs 0) v)
after_more [] v = refl
after_more (x ∷ xs) v = refl

-- a use of a name gives it a first value, where it has none
pub own_first : (id : Text) (how : Reading) (s : ValueSource) (v : Text) (rows : List Row)
    → first_of id (with_values id how s (v ∷ []) rows) ≡ Some (unwrap_or (first_of id rows) v)
own_first id how s v [] =
    let found : bytes_eq id id ≡ true = (bytes_eq-Decides id id).1 refl in
    rw found refl
own_first id how s v (r ∷ rs) = go (bytes_eq r.id id) refl (own_first id how s v rs)
  where
    go : (b : Bool) → bytes_eq r.id id ≡ b → first_of id (with_values id how s (v ∷ []) rs) ≡ Some (unwrap_or (first_of id rs) v)
        → first_of id (with_values id how s (v ∷ []) (r ∷ rs)) ≡ Some (unwrap_or (first_of id (r ∷ rs)) v)
    go true e ih = rw (e, e) (after_more r.values v)
    go false e ih = rw (e, e) ih
