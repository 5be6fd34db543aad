-- What the words and the bytes of the source define, by the mode of the options.
use Rattle.std.specs.Prelude.{ℕ, ◌<◌, ◌≤◌, ◌≡◌, ◌⊎◌, Bool, true, false, List, [], Option, Some, IfSome}
use Rattle.pt_io.specs.Streams.{Wrote, WroteFront}
use Rattle.pt_options.specs.declared.given.Mode.{Mode}
use Rattle.pt_options.specs.declared.given.Mode.TheVariants.{Solve, Drill}
use Rattle.pt_options.specs.declared.given.Options.{Options}
use Rattle.pt_options.specs.Options.{GiveOptions}
use Rattle.pt_drill.specs.Drill.{drill_text}
use Rattle.pt_drill.specs.Summary.{summary, last_line}
use Rattle.pt_main.specs.declared.status.Status.{Status}
use Rattle.pt_main.specs.declared.status.Status.TheVariants.{Done, Refused, Usage, ReadFault, WriteFault, NoMemory}
use Rattle.pt_main.specs.Output.{IsOutput, IsFrontOf, IsFrontOfOutput}

-- the output of mode drill: the line that sums up the output of its script, or the error line of the script, which is the last
-- line of its output
abbrev pub IsDrillOutput : Options → List ℕ → Bool → Type 0
IsDrillOutput o out false = (whole : List ℕ) × IsOutput (drill_text o.seed o.size) o.states whole false × (out ≡ summary o.seed o.size whole)
IsDrillOutput o out true = (whole : List ℕ) × IsOutput (drill_text o.seed o.size) o.states whole true × (out ≡ last_line whole)

-- the output that a mode defines for the bytes of the source, and whether its status is Refused
abbrev pub IsOutputIn : Mode → Options → List ℕ → List ℕ → Bool → Type 0
IsOutputIn Solve o bytes out refused = IsOutput bytes o.states out refused
IsOutputIn Drill o bytes out refused = IsDrillOutput o out refused

-- the output that words and bytes define
abbrev pub IsDefined : List (List ℕ) → List ℕ → List ℕ → Bool → Type 0
IsDefined words bytes out refused = (o : Options) × GiveOptions words o × IsOutputIn o.mode o bytes out refused

-- ---- what is written

-- a front of the output that a run may have written when it is cut off; in mode drill the one line comes at the end
abbrev pub IsFrontIn : Mode → Options → List ℕ → List ℕ → Type 0
IsFrontIn Solve o bytes front = IsFrontOfOutput bytes o.states front
IsFrontIn Drill o bytes front = (front ≡ []) ⊎ ((out : List ℕ) × (refused : Bool) × IsDrillOutput o out refused × IsFrontOf front out)

abbrev pub IsFrontOfDefined : List (List ℕ) → List ℕ → List ℕ → Type 0
IsFrontOfDefined words bytes front = (o : Options) × GiveOptions words o × IsFrontIn o.mode o bytes front

abbrev pub WroteOutputIn : Mode → Options → List ℕ → Bool → Option (List ℕ) → Option (List ℕ) → Type 0
WroteOutputIn mode o bytes refused old new = (out : List ℕ) × IsOutputIn mode o bytes out refused × Wrote old new out

abbrev pub WroteFrontIn : Mode → Options → List ℕ → Option (List ℕ) → Option (List ℕ) → Type 0
WroteFrontIn mode o bytes old new = (front : List ℕ) × IsFrontIn mode o bytes front × Wrote old new front

-- what was written when a run ends so: the whole output with just this status, or a front of it
abbrev pub AnswersIn : Mode → Options → List ℕ → Option (List ℕ) → Option (List ℕ) → Status → Type 0
AnswersIn mode o bytes old new Done = WroteOutputIn mode o bytes false old new
AnswersIn mode o bytes old new Refused = WroteOutputIn mode o bytes true old new
AnswersIn mode o bytes old new Usage = ⊥
AnswersIn mode o bytes old new ReadFault = Wrote old new []
AnswersIn mode o bytes old new _ = WroteFrontIn mode o bytes old new

-- ---- what holds of options and their script

-- the script that is answered: the bytes of the source, where it tells them, or that of the drill
abbrev pub script_in : Mode → Options → Option (List ℕ) → Option (List ℕ)
script_in Solve o bytes = bytes
script_in Drill o bytes = Some (drill_text o.seed o.size)

-- P holds of the options that the words give
abbrev pub OfOptions : List (List ℕ) → (Options → Type 0) → Type 0
OfOptions words P = (o : Options) → GiveOptions words o → P o

-- P holds of the options that the words give, and of their script, where it is told
abbrev pub OfScript : Option (List ℕ) → List (List ℕ) → (Options → List ℕ → Type 0) → Type 0
OfScript bytes words P = OfOptions words (λ o. IfSome (script_in o.mode o bytes) (P o))

-- ---- parts of a run

-- the numbers are in their ranges
pub record AreInRange (o : Options) : Type 0 where
  pub some_state : 0 < o.states
  pub few_states : o.states ≤ 65536
  pub some_worker : 0 < o.workers
  pub few_workers : o.workers ≤ 16
  pub small : o.size ≤ 4096

-- the line that sums up was written, a front of it, or for want of memory nothing
abbrev pub EndsWithSummary : List ℕ → Option (List ℕ) → Option (List ℕ) → Status → Type 0
EndsWithSummary line old new Done = Wrote old new line
EndsWithSummary line old new WriteFault = WroteFront old new line
EndsWithSummary line old new NoMemory = Wrote old new []
EndsWithSummary line old new _ = ⊥
