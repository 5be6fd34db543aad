-- Why members are refused, and answers over equal sets.
use Rattle.std.proofs.Common.{◌≡◌, ℕ, List, [], ◌∷◌, length, Ok, Err, Some, None}
use Rattle.std.specs.Prelude.{Result, Option, IfOk, IfErr, IfSome, IfNone}
use Rattle.std.specs.List.{AllByRecursion}
use Rattle.pt_sets.specs.Words.{Vector}
use Rattle.pt_sets.specs.Sets.{VectorSet, SameSet}
use Rattle.pt_sets.specs.Shortlex.{IsShortestWord, IsLeastMember, IsFirstMembers}
use Rattle.pt_query.specs.declared.fault.WitnessFault.{WitnessFault}
use Rattle.pt_query.specs.declared.fault.WitnessFault.TheVariants.{Wide, NoMemory}
use Rattle.pt_query.specs.Queries.{IsWideCause, IsListCause}
use Rattle.pt_query.specs.Narrow.{IsWideWord}

-- the word of a least member is too long
pub word-cause : (t : ℕ) (X : VectorSet) (z : Vector) (w : List ℕ) (fault : WitnessFault) → IsLeastMember t X z → IsShortestWord w z → IsWideWord w fault → IsWideCause t X fault
word-cause t X z w (Wide letters) least shortest wide = (z, least, (w, shortest, wide.0), wide.1)
word-cause t X z w NoMemory least shortest wide = tt

pub least-moved : (t : ℕ) (X Y : VectorSet) → SameSet t X Y → (z : Vector) → IsLeastMember t X z → IsLeastMember t Y z
least-moved t X Y same z least = record {
  components = least.components;
  member = (same.agrees z least.components).0 least.member;
  first = λ y len in_Y. least.first y len ((same.agrees y len).1 in_Y);
}

pub wide-moved : (t : ℕ) (X Y : VectorSet) → SameSet t X Y → (fault : WitnessFault) → IsWideCause t X fault → IsWideCause t Y fault
wide-moved t X Y same (Wide letters) (z, least, letters_z, more) = (z, least-moved t X Y same z least, letters_z, more)
wide-moved t X Y same NoMemory cause = tt

pub some-moved : {Z E : Type 0} (P Q : Z → Type 0) (r : Result (Option Z) E) → ((z : Z) → P z → Q z) → IfOk r (λ f. IfSome f P) → IfOk r (λ f. IfSome f Q)
some-moved P Q (Ok None) moves h = h
some-moved P Q (Ok (Some z)) moves h = moves z h
some-moved P Q (Err e) moves h = h

pub err-moved : {Z E : Type 0} (P Q : E → Type 0) (r : Result Z E) → ((e : E) → P e → Q e) → IfErr r P → IfErr r Q
err-moved P Q (Ok z) moves h = h
err-moved P Q (Err e) moves h = moves e h

pub none-moved : {Z E : Type 0} (P Q : Type 0) (r : Result (Option Z) E) → (P → Q) → IfOk r (λ f. IfNone f P) → IfOk r (λ f. IfNone f Q)
none-moved P Q (Ok None) moves h = moves h
none-moved P Q (Ok (Some z)) moves h = h
none-moved P Q (Err e) moves h = h

pub ok-turned : {Z E : Type 0} (P Q : Z → Type 0) (r : Result Z E) → ((z : Z) → P z → Q z) → IfOk r P → IfOk r Q
ok-turned P Q (Ok z) moves h = moves z h
ok-turned P Q (Err e) moves h = h

pub first-moved : (t k : ℕ) (X Y : VectorSet) → SameSet t X Y → (zs : List Vector) → IsFirstMembers t X k zs → IsFirstMembers t Y k zs
first-moved t k X Y same zs first = record {
  count = first.count;
  members = members zs first.members;
  order = first.order;
  others = λ y len in_Y. first.others y len ((same.agrees y len).1 in_Y);
}
  where
    members : (ws : List Vector) → AllByRecursion (λ z. (length z ≡ t) × X z) ws → AllByRecursion (λ z. (length z ≡ t) × Y z) ws
    members [] all = tt
    members (w ∷ ws) all = ((all.0.0, (same.agrees w all.0.0).0 all.0.1), members ws all.1)

pub list-moved : (t k : ℕ) (X Y : VectorSet) → SameSet t X Y → (fault : WitnessFault) → IsListCause t X k fault → IsListCause t Y k fault
list-moved t k X Y same (Wide letters) (j, le, (zs, first, wide)) = (j, le, (zs, first-moved t j X Y same zs first, wide))
list-moved t k X Y same NoMemory cause = tt
