-- Streams over memory, as plain data.
use Rattle.std.specs.Prelude.{ℕ, ◌+◌, ◌-◌, ◌^◌, Bool, if◌then◌else◌, List, ◌++◌, min, take, length, ◌==◌, ◌||◌, nat_lt, Option, Some, None}
use Rattle.std.specs.List.{list_any}

-- A stream whose bytes are those that are left of a source, or those that a sink has.
-- The calls whose number stands in `failing` fail, every other moves at most `per_call` bytes.
pub record Device : Type 0 where
  pub bytes : List ℕ
  pub per_call : ℕ
  pub failing : List ℕ
  pub calls : ℕ
  pub faults : ℕ

-- a count of 64 bits goes on to its greatest value and stays there
abbrev pub counted : ℕ → ℕ
counted n = min (n + 1) (2 ^ 64 - 1)

-- the call that comes is one that fails
abbrev pub is_failing : Device → Bool
is_failing d = list_any (λ n. n == d.calls) d.failing

abbrev pub after_fault : Device → Device
after_fault d = record d { calls = counted d.calls; faults = counted d.faults }

-- how many bytes of so many a call moves
abbrev pub moved : Device → ℕ → ℕ
moved d n = min d.per_call n

-- a sink fails also where the bytes of a call do not fit the room of 8,388,608 bytes
abbrev pub fails_to_take : Device → ℕ → Bool
fails_to_take d n = nat_lt (8388608 - length d.bytes) (moved d n) || is_failing d

-- what a sink that never fails has: the bytes that were kept of those that were written, its room,
-- and whether bytes were written past it
pub record Kept : Type 0 where
  pub bytes : List ℕ
  pub room : ℕ
  pub is_over : Bool

-- all bytes that were written, while they fit
abbrev pub told : Kept → Option (List ℕ)
told k = if k.is_over then None else Some k.bytes

-- after some bytes were written: as many of them are kept as there is room for
abbrev pub kept_after : Kept → List ℕ → Kept
kept_after k bytes = record k { bytes = k.bytes ++ take (k.room - length k.bytes) bytes; is_over = k.is_over || nat_lt (k.room - length k.bytes) (length bytes) }
