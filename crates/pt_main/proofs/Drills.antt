-- How a run of mode drill ends.
use Rattle.std.proofs.Common.{◌≡◌, ℕ, Bool, true, false, List, [], ◌++◌, refl, inl, inr, ap, sym, subst, ◌∙◌}
use Rattle.std.specs.Prelude.{Option, Some}
use Rattle.pt_options.specs.declared.given.Mode.TheVariants.{Drill}
use Rattle.pt_options.specs.declared.given.Options.{Options}
use Rattle.pt_drill.specs.Drill.{drill_text}
use Rattle.pt_drill.specs.Summary.{summary, last_line}
use Rattle.pt_main.specs.declared.status.Status.{Status}
use Rattle.pt_main.specs.declared.status.Status.TheVariants as status
use Rattle.pt_main.specs.Output.{IsOutput}
use Rattle.pt_main.specs.Ending.{WroteOutput, IfFull}
use Rattle.pt_main.specs.Modes.{AnswersIn, EndsWithSummary}
use Rattle.pt_main.specs.Parts.{EndsWithLine, IsOfText}
use Rattle.pt_main.proofs.Streaming.{wrote-nothing}

-- what was written into an empty sink is the output
pub whole_output : (text items shown : List ℕ) (bound : ℕ) (refused : Bool) (start bytes seen : List ℕ) → text ≡ items → shown ≡ text → start ≡ [] → WroteOutput shown bound refused (Some start) (Some bytes) → seen ≡ bytes → IsOutput items bound seen refused
whole_output text items shown bound refused start bytes seen is same none (out, output, (before, first, after)) see =
    let empty : before ≡ [] = let e : Some before ≡ Some [] = sym first ∙ ap Some none in cc in
    let read : out ≡ seen = sym (see ∙ after ∙ ap (λ (l : List ℕ). l ++ out) empty) in
    subst (λ (t : List ℕ). IsOutput t bound seen refused) (same ∙ is) (subst (λ (l : List ℕ). IsOutput shown bound l refused) read output)

-- the line that sums up was written, or a front of it, or nothing
pub summed : (o : Options) (text seen : List ℕ) (old new : Option (List ℕ)) (how : Status) → IsOutput (drill_text o.seed o.size) o.states seen false → EndsWithSummary (summary o.seed o.size seen) old new how → AnswersIn Drill o text old new how
summed o text seen old new status.Done output wrote = (summary o.seed o.size seen, (seen, output, refl), wrote)
summed o text seen old new status.WriteFault output front = (front.0, inr (summary o.seed o.size seen, false, (seen, output, refl), (front.1, front.2)), front.3)
summed o text seen old new status.NoMemory output wrote = ([], inl refl, wrote)
summed o text seen old new status.Refused output h = absurd h
summed o text seen old new status.Usage output h = absurd h
summed o text seen old new status.ReadFault output h = absurd h
summed o text seen old new (status.StoreFull shard) output h = absurd h

pub summed_of_text : (line : List ℕ) (old new : Option (List ℕ)) (how : Status) → EndsWithSummary line old new how → IsOfText how
summed_of_text line old new status.Done h = tt
summed_of_text line old new status.WriteFault h = tt
summed_of_text line old new status.NoMemory h = tt
summed_of_text line old new status.Refused h = absurd h
summed_of_text line old new status.Usage h = absurd h
summed_of_text line old new status.ReadFault h = absurd h
summed_of_text line old new (status.StoreFull shard) h = absurd h

pub summed_full : (line : List ℕ) (old new : Option (List ℕ)) (how : Status) (P : ℕ → Type 0) → EndsWithSummary line old new how → IfFull how P
summed_full line old new (status.StoreFull shard) P h = absurd h
summed_full line old new _ P h = tt

-- the error line was written, or a front of it, or nothing
pub refused_drill : (o : Options) (text seen shown : List ℕ) (old new : Option (List ℕ)) (how : Status) → IsOutput (drill_text o.seed o.size) o.states seen true → shown ≡ last_line seen → EndsWithLine shown old new how → AnswersIn Drill o text old new how
refused_drill o text seen shown old new status.Refused output is wrote = (shown, (seen, output, is), wrote)
refused_drill o text seen shown old new status.WriteFault output is front = (front.0, inr (shown, true, (seen, output, is), (front.1, front.2)), front.3)
refused_drill o text seen shown old new status.NoMemory output is wrote = ([], inl refl, wrote)
refused_drill o text seen shown old new status.Done output is h = absurd h
refused_drill o text seen shown old new status.Usage output is h = absurd h
refused_drill o text seen shown old new status.ReadFault output is h = absurd h
refused_drill o text seen shown old new (status.StoreFull shard) output is h = absurd h

pub line_of_text : (line : List ℕ) (old new : Option (List ℕ)) (how : Status) → EndsWithLine line old new how → IsOfText how
line_of_text line old new status.Refused h = tt
line_of_text line old new status.WriteFault h = tt
line_of_text line old new status.NoMemory h = tt
line_of_text line old new status.Done h = absurd h
line_of_text line old new status.Usage h = absurd h
line_of_text line old new status.ReadFault h = absurd h
line_of_text line old new (status.StoreFull shard) h = absurd h

pub line_full : (line : List ℕ) (old new : Option (List ℕ)) (how : Status) (P : ℕ → Type 0) → EndsWithLine line old new how → IfFull how P
line_full line old new (status.StoreFull shard) P h = absurd h
line_full line old new _ P h = tt

pub drills_nothing : (o : Options) (text : List ℕ) (a : Option (List ℕ)) → AnswersIn Drill o text a a status.NoMemory
drills_nothing o text a = ([], inl refl, wrote-nothing a)
