-- What was seen of the segments of a directory, and which cell stands at a position.
use Rattle.std.specs.Prelude.{◌≡◌, ℕ, zero, suc, ◌+◌, ◌*◌, ◌-◌, ◌^◌, cond, nat_lt, List, [], ◌∷◌, Option, None, Some, slice_get}
use Rattle.pt_cells.specs.declared.segments.SegmentFields.{SegmentFields}
use Rattle.pt_cells.specs.declared.segments.NoteFields.{NoteFields}

-- the names of the segments, in order
abbrev pub names_of : SegmentFields → List ℕ
names_of d = d.s0 ∷ d.s1 ∷ d.s2 ∷ d.s3 ∷ d.s4 ∷ d.s5 ∷ d.s6 ∷ d.s7 ∷ d.s8 ∷ d.s9 ∷ d.s10 ∷ d.s11 ∷ d.s12 ∷ d.s13 ∷ d.s14 ∷ d.s15 ∷ d.s16 ∷ d.s17 ∷ []

-- for each segment its name, and, where it was seen, the names of its cells
abbrev pub seen_of : NoteFields → List (ℕ × Option (List ℕ))
seen_of d = d.s0 ∷ d.s1 ∷ d.s2 ∷ d.s3 ∷ d.s4 ∷ d.s5 ∷ d.s6 ∷ d.s7 ∷ d.s8 ∷ d.s9 ∷ d.s10 ∷ d.s11 ∷ d.s12 ∷ d.s13 ∷ d.s14 ∷ d.s15 ∷ d.s16 ∷ d.s17 ∷ []

-- the notes are of the segments of these names
abbrev pub AreNotesOf : List (ℕ × Option (List ℕ)) → List ℕ → Type 0
AreNotesOf [] [] = Unit {0}
AreNotesOf (s ∷ seen) (name ∷ names) = (s.0 ≡ name) × AreNotesOf seen names
AreNotesOf [] (name ∷ names) = ⊥
AreNotesOf (s ∷ seen) [] = ⊥

-- what was seen stays
abbrev pub Keeps : List (ℕ × Option (List ℕ)) → List (ℕ × Option (List ℕ)) → Type 0
Keeps [] [] = Unit {0}
Keeps (s ∷ old) (t ∷ new) = ((names : List ℕ) → s.1 ≡ Some names → t.1 ≡ Some names) × Keeps old new
Keeps [] (t ∷ new) = ⊥
Keeps (s ∷ old) [] = ⊥

-- a segment that both have seen has the same cells in both
abbrev pub Match : List (ℕ × Option (List ℕ)) → List (ℕ × Option (List ℕ)) → Type 0
Match [] [] = Unit {0}
Match (s ∷ one) (t ∷ other) = ((x y : List ℕ) → s.1 ≡ Some x → t.1 ≡ Some y → x ≡ y) × Match one other
Match [] (t ∷ other) = ⊥
Match (s ∷ one) [] = ⊥

-- the names of the cells of a segment, where it stands there and was seen
abbrev pub known_of : Option (ℕ × Option (List ℕ)) → Option (List ℕ)
known_of None = None
known_of (Some s) = s.1

-- the names of the cells of a segment, by its place, where it was seen
abbrev pub known_in : List (ℕ × Option (List ℕ)) → ℕ → Option (List ℕ)
known_in seen level = known_of (slice_get seen level)

-- the name at an offset of a segment, where the segment is known
abbrev pub known_name : Option (List ℕ) → ℕ → Option ℕ
known_name None p = None
known_name (Some names) p = slice_get names p

-- the name of the cell at a position of segments of which each is twice as long as the one before, the first of so many cells
abbrev pub name_from : ℕ → List (ℕ × Option (List ℕ)) → ℕ → Option ℕ
name_from size [] p = None
name_from size (s ∷ rest) p = cond (nat_lt p size) (known_name s.1 p) (name_from (size * 2) rest (p - size))

-- how many cells the first so many segments have
abbrev pub cells_in : ℕ → ℕ
cells_in zero = 0
cells_in (suc k) = cells_in k + 1024 * 2 ^ k
