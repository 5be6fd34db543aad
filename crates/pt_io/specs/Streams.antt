-- What calls of a source or a sink do to the bytes that it tells and to its count of faults.
use Rattle.std.specs.Prelude.{ℕ, ◌-◌, ◌^◌, ◌<◌, ◌≤◌, ◌≡◌, ◌⊎◌, List, [], ◌++◌, length, Option, Some, IfSome, ⊤}
use Rattle.pt_io.specs.declared.fault.ReadFault.{ReadFault}
use Rattle.pt_io.specs.declared.fault.ReadFault.TheVariants.{TooLong}

-- a count of faults rose: it is greater than before, or stands at the greatest value of a 64-bit count
abbrev pub Rose : ℕ → ℕ → Type 0
Rose old new = (old < new) ⊎ (new ≡ 2 ^ 64 - 1)

-- these bytes were taken from the front of those that were left, where the source told them
abbrev pub Took : Option (List ℕ) → Option (List ℕ) → List ℕ → Type 0
Took old new bytes = IfSome old (λ left. (rest : List ℕ) × (left ≡ bytes ++ rest) × (new ≡ Some rest))

-- so many bytes were taken
abbrev pub TookCount : Option (List ℕ) → Option (List ℕ) → ℕ → Type 0
TookCount old new n = (bytes : List ℕ) × (length bytes ≡ n) × Took old new bytes

-- at most so many bytes were taken
abbrev pub TookAtMost : Option (List ℕ) → Option (List ℕ) → ℕ → Type 0
TookAtMost old new n = (bytes : List ℕ) × (length bytes ≤ n) × Took old new bytes

-- nothing is left, where the source tells it
abbrev pub IsAtEnd : Option (List ℕ) → Type 0
IsAtEnd left = IfSome left (λ bytes. bytes ≡ [])

-- these bytes were appended, where the sink tells what was written
abbrev pub Wrote : Option (List ℕ) → Option (List ℕ) → List ℕ → Type 0
Wrote old new bytes = IfSome new (λ all. (before : List ℕ) × (old ≡ Some before) × (all ≡ before ++ bytes))

-- a front of these bytes was appended
abbrev pub WroteFront : Option (List ℕ) → Option (List ℕ) → List ℕ → Type 0
WroteFront old new bytes = (front : List ℕ) × (rest : List ℕ) × (bytes ≡ front ++ rest) × Wrote old new front

-- the fault is that more bytes stand than the limit that it names
abbrev pub IfTooLong : ReadFault → (ℕ → Type 0) → Type 0
IfTooLong (TooLong limit) P = P limit
IfTooLong _ P = ⊤
