-- What words begin with.
use Rattle.std.proofs.Common.{◌≡◌, ◌≢◌, ◌<◌, ◌∙◌, ◌++◌, ℕ, zero, suc, List, [], Option, Some, None, length, drop, refl, sym, ap, subst, arith, codes}
use Rattle.std.specs.List.{Contains}
use Rattle.std.specs.Prelude.{slice_index_or, unwrap_or}
use Rattle.std.proofs.lemmas.List.{drop_at}
use Rattle.clap.specs.Lexer.{long_of}
use Rattle.pt_options.specs.Options.{names, start}

-- what holds of the five names holds of each
pub of_each : (P : List ℕ → Type 0) → P (codes "mode") → P (codes "workers") → P (codes "states") → P (codes "seed") → P (codes "size")
    → (name : List ℕ) → Contains names name → P name
of_each P a b c d e name known = go known.0 known.1 known.2
  where
    go : (k : ℕ) → k < length names → slice_index_or names k name ≡ name → P name
    go zero lt is = subst P is a
    go (suc zero) lt is = subst P is b
    go (suc (suc zero)) lt is = subst P is c
    go (suc (suc (suc zero))) lt is = subst P is d
    go (suc (suc (suc (suc zero)))) lt is = subst P is e
    go (suc (suc (suc (suc (suc k))))) lt is = absurd (omega arith)

-- a word `--name=value` tells its name and its value
abbrev Tells : List ℕ → Type 0
Tells name = (value : List ℕ) → long_of (start name ++ value) ≡ Some (name, Some value)

pub tells : (name value : List ℕ) → Contains names name → long_of (start name ++ value) ≡ Some (name, Some value)
tells name value known = of_each Tells (λ v. refl) (λ v. refl) (λ v. refl) (λ v. refl) (λ v. refl) name known value

abbrev Told : Type 0
Told = List ℕ × Option (List ℕ)

-- so it has one name
pub one_name : (name other v w : List ℕ) → Contains names name → Contains names other → start name ++ v ≡ start other ++ w → name ≡ other
one_name name other v w known also same =
    let told : Some (name, Some v) ≡ Some (other, Some w) = sym (tells name v known) ∙ ap long_of same ∙ tells other w also in
    ap (λ (o : Option Told). (unwrap_or o (name, None)).0) told

-- and one value
pub one_rest : (front v w : List ℕ) → front ++ v ≡ front ++ w → v ≡ w
one_rest front v w same = sym (drop_at front v (length front) refl) ∙ ap (drop (length front)) same ∙ drop_at front w (length front) refl

-- a word that begins with the start of a name, and goes on
pub sets : (name front word : List ℕ) → Contains names name → front ≡ start name → ((value : List ℕ) × (value ≢ []) × (word ≡ front ++ value))
    → (own : List ℕ) × (value : List ℕ) × Contains names own × (front ≡ start own) × (value ≢ []) × (word ≡ front ++ value)
sets name front word known is h = (name, h.0, known, is, h.1, h.2)
