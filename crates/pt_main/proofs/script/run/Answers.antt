use Rattle.std.proofs.Common.{◌≡◌, ℕ, List, refl, inl, inr, sym, subst, map, string_bytes, arith}
use Rattle.std.specs.Prelude.{IfSome}
use Rattle.pt_io.specs.Streams.{Rose}
use Rattle.pt_options.specs.declared.given.Mode.{Mode}
use Rattle.pt_options.specs.declared.given.Mode.TheVariants.{Solve, Drill}
use Rattle.pt_options.specs.declared.given.Options.{Options}
use Rattle.pt_drill.specs.Drill.{drill_text}
use Rattle.pt_main.specs.Ending.{HasRead}
use Rattle.pt_main.specs.Modes.{OfScript, AnswersIn, WroteFrontIn}
use Rattle.pt_main.specs.Wanted.{LackAsked, KnowAnswered, OffersWithin}
use Rattle.pt_main.proofs.Whole.{if_full, if_whole, if_told, of_any, completes}
use Rattle.pt_main.proofs.ByMode.{in_range, of_given, of_solve, of_drill, of_all, of_none, apart, solve_answers, nothing_in}
use Rattle.pt_main.proofs.script.run.Goals as goal

-- ---- mode solve

pub solve-requires-clause-range : goal.solve-requires-clause-range
solve-requires-clause-range g c κs within = in_range (map string_bytes c.args.words.now) c.in-Ok.given c.in-Ok.ensures.given

pub returns-in-Solve-clause-refuses : goal.returns-in-Solve-clause-refuses
returns-in-Solve-clause-refuses g c = λ none. absurd (none (c.in-Ok.given, c.in-Ok.ensures.given))

pub returns-in-Solve-clause-untouched : goal.returns-in-Solve-clause-untouched
returns-in-Solve-clause-untouched g c = λ none. absurd (none (c.in-Ok.given, c.in-Ok.ensures.given))

pub returns-in-Solve-clause-lack : goal.returns-in-Solve-clause-lack
returns-in-Solve-clause-lack g c =
    let lack : Options → List ℕ → Type 0 = λ o text. LackAsked g.I.Pass.Codes.home (g.I.Interner.limit_of c.args.store.now) (g.I.Pass.Codes.lists c.solve.new.pass) text o.states in
    if_full c.solve.result (λ _. IfSome (g.S.Source.left c.args.source.now) (lack c.in-Ok.given)) (λ _. OfScript (g.S.Source.left c.args.source.now) (map string_bytes c.args.words.now) lack) c.solve.ensures.lack
    (λ shard h. of_solve c.options_are_one.ensures (map string_bytes c.args.words.now) c.in-Ok.given (g.S.Source.left c.args.source.now) lack c.in-Ok.ensures.given c.in-Solve.is h)

pub returns-in-Solve-clause-answer : goal.returns-in-Solve-clause-answer
returns-in-Solve-clause-answer g c =
    let answers : Options → List ℕ → Type 0 = λ o text. AnswersIn o.mode o text (g.K.Sink.written c.args.sink.now) (g.K.Sink.written c.solve.new.sink) c.solve.result in
    of_solve c.options_are_one.ensures (map string_bytes c.args.words.now) c.in-Ok.given (g.S.Source.left c.args.source.now) answers c.in-Ok.ensures.given c.in-Solve.is
    (if_told (g.S.Source.left c.args.source.now) _ (answers c.in-Ok.given) c.solve.ensures.answer
    (λ text h. solve_answers c.in-Ok.given.mode c.in-Ok.given text (g.K.Sink.written c.args.sink.now) (g.K.Sink.written c.solve.new.sink) c.solve.result c.in-Solve.is h))

pub returns-in-Solve-clause-read : goal.returns-in-Solve-clause-read
returns-in-Solve-clause-read g c =
    of_given c.options_are_one.ensures (map string_bytes c.args.words.now) c.in-Ok.given (λ (o : Options). o.mode ≡ Solve → IfSome (g.S.Source.left c.args.source.now) (λ text. HasRead text (g.S.Source.left c.solve.new.source) c.solve.result)) c.in-Ok.ensures.given (λ _. c.solve.ensures.read)

pub returns-in-Solve-clause-unread : goal.returns-in-Solve-clause-unread
returns-in-Solve-clause-unread g c =
    of_given c.options_are_one.ensures (map string_bytes c.args.words.now) c.in-Ok.given (λ (o : Options). o.mode ≡ Drill → c.solve.new.source ≡ c.args.source.now) c.in-Ok.ensures.given (λ drill. apart c.in-Ok.given.mode c.in-Solve.is drill)

pub returns-in-Solve-clause-known : goal.returns-in-Solve-clause-known
returns-in-Solve-clause-known g c =
    let known : Options → List ℕ → Type 0 = λ o text. KnowAnswered g.I.Pass.Codes.home (g.I.Pass.Codes.lists c.solve.new.pass) text o.states in
    if_whole c.solve.result (IfSome (g.S.Source.left c.args.source.now) (known c.in-Ok.given)) (OfScript (g.S.Source.left c.args.source.now) (map string_bytes c.args.words.now) known) c.solve.ensures.known
    (λ h. of_solve c.options_are_one.ensures (map string_bytes c.args.words.now) c.in-Ok.given (g.S.Source.left c.args.source.now) known c.in-Ok.ensures.given c.in-Solve.is h)

pub returns-in-Solve-clause-offers : goal.returns-in-Solve-clause-offers
returns-in-Solve-clause-offers g c =
    of_solve c.options_are_one.ensures (map string_bytes c.args.words.now) c.in-Ok.given (g.S.Source.left c.args.source.now) (λ o text. OffersWithin text o.states (g.I.Pass.Codes.offered c.args.pass.now) (g.I.Pass.Codes.offered c.solve.new.pass)) c.in-Ok.ensures.given c.in-Solve.is c.solve.ensures.offers

pub returns-in-Solve-clause-complete : goal.returns-in-Solve-clause-complete
returns-in-Solve-clause-complete g c = λ options. c.solve.ensures.complete

-- ---- mode drill

pub drill-requires-clause-range : goal.drill-requires-clause-range
drill-requires-clause-range g c κs within = in_range (map string_bytes c.args.words.now) c.in-Ok.given c.in-Ok.ensures.given

pub returns-in-Drill-clause-refuses : goal.returns-in-Drill-clause-refuses
returns-in-Drill-clause-refuses g c = λ none. absurd (none (c.in-Ok.given, c.in-Ok.ensures.given))

pub returns-in-Drill-clause-untouched : goal.returns-in-Drill-clause-untouched
returns-in-Drill-clause-untouched g c = λ none. absurd (none (c.in-Ok.given, c.in-Ok.ensures.given))

pub returns-in-Drill-clause-lack : goal.returns-in-Drill-clause-lack
returns-in-Drill-clause-lack g c =
    let lack : Options → List ℕ → Type 0 = λ o text. LackAsked g.I.Pass.Codes.home (g.I.Interner.limit_of c.args.store.now) (g.I.Pass.Codes.lists c.drill.new.pass) text o.states in
    if_full c.drill.result (λ _. lack c.in-Ok.given (drill_text c.in-Ok.given.seed c.in-Ok.given.size)) (λ _. OfScript (g.S.Source.left c.args.source.now) (map string_bytes c.args.words.now) lack) c.drill.ensures.lack
    (λ shard h. of_drill c.options_are_one.ensures (map string_bytes c.args.words.now) c.in-Ok.given (g.S.Source.left c.args.source.now) lack c.in-Ok.ensures.given c.in-Drill.is h)

pub returns-in-Drill-clause-answer : goal.returns-in-Drill-clause-answer
returns-in-Drill-clause-answer g c =
    of_drill c.options_are_one.ensures (map string_bytes c.args.words.now) c.in-Ok.given (g.S.Source.left c.args.source.now) (λ o text. AnswersIn o.mode o text (g.K.Sink.written c.args.sink.now) (g.K.Sink.written c.drill.new.sink) c.drill.result) c.in-Ok.ensures.given c.in-Drill.is
    (subst (λ (m : Mode). AnswersIn m c.in-Ok.given (drill_text c.in-Ok.given.seed c.in-Ok.given.size) (g.K.Sink.written c.args.sink.now) (g.K.Sink.written c.drill.new.sink) c.drill.result) (sym c.in-Drill.is) c.drill.ensures.answer)

pub returns-in-Drill-clause-read : goal.returns-in-Drill-clause-read
returns-in-Drill-clause-read g c =
    of_given c.options_are_one.ensures (map string_bytes c.args.words.now) c.in-Ok.given (λ (o : Options). o.mode ≡ Solve → IfSome (g.S.Source.left c.args.source.now) (λ text. HasRead text (g.S.Source.left c.args.source.now) c.drill.result)) c.in-Ok.ensures.given (λ solve. apart c.in-Ok.given.mode solve c.in-Drill.is)

pub returns-in-Drill-clause-unread : goal.returns-in-Drill-clause-unread
returns-in-Drill-clause-unread g c =
    of_given c.options_are_one.ensures (map string_bytes c.args.words.now) c.in-Ok.given (λ (o : Options). o.mode ≡ Drill → c.args.source.now ≡ c.args.source.now) c.in-Ok.ensures.given (λ _. refl)

pub returns-in-Drill-clause-known : goal.returns-in-Drill-clause-known
returns-in-Drill-clause-known g c =
    let known : Options → List ℕ → Type 0 = λ o text. KnowAnswered g.I.Pass.Codes.home (g.I.Pass.Codes.lists c.drill.new.pass) text o.states in
    if_whole c.drill.result (known c.in-Ok.given (drill_text c.in-Ok.given.seed c.in-Ok.given.size)) (OfScript (g.S.Source.left c.args.source.now) (map string_bytes c.args.words.now) known) c.drill.ensures.known
    (λ h. of_drill c.options_are_one.ensures (map string_bytes c.args.words.now) c.in-Ok.given (g.S.Source.left c.args.source.now) known c.in-Ok.ensures.given c.in-Drill.is h)

pub returns-in-Drill-clause-offers : goal.returns-in-Drill-clause-offers
returns-in-Drill-clause-offers g c =
    of_drill c.options_are_one.ensures (map string_bytes c.args.words.now) c.in-Ok.given (g.S.Source.left c.args.source.now) (λ o text. OffersWithin text o.states (g.I.Pass.Codes.offered c.args.pass.now) (g.I.Pass.Codes.offered c.drill.new.pass)) c.in-Ok.ensures.given c.in-Drill.is c.drill.ensures.offers

pub returns-in-Drill-clause-complete : goal.returns-in-Drill-clause-complete
returns-in-Drill-clause-complete g c =
    λ options read write room. completes c.drill.result (Rose (g.K.Sink.faults c.args.sink.now) (g.K.Sink.faults c.drill.new.sink)) (g.I.Interner.limit_of c.args.store.now) (g.I.Pass.Codes.lists c.drill.new.pass) c.drill.ensures.of_text c.drill.ensures.write_fault c.drill.ensures.store_full write room

-- ---- words that give no options

pub returns-in-Err-Usage-clause-usage : goal.returns-in-Err-Usage-clause-usage
returns-in-Err-Usage-clause-usage g c = let none = rw c.in-Err-Usage.field-0-is at c.in-Err-Usage.ensures.usage in λ _. none refl

pub returns-in-Err-Usage-clause-answer : goal.returns-in-Err-Usage-clause-answer
returns-in-Err-Usage-clause-answer g c = let none = rw c.in-Err-Usage.field-0-is at c.in-Err-Usage.ensures.usage in of_none (map string_bytes c.args.words.now) _ (none refl)

pub returns-in-Err-Usage-clause-read : goal.returns-in-Err-Usage-clause-read
returns-in-Err-Usage-clause-read g c = let none = rw c.in-Err-Usage.field-0-is at c.in-Err-Usage.ensures.usage in of_none (map string_bytes c.args.words.now) _ (none refl)

pub returns-in-Err-Usage-clause-offers : goal.returns-in-Err-Usage-clause-offers
returns-in-Err-Usage-clause-offers g c = let none = rw c.in-Err-Usage.field-0-is at c.in-Err-Usage.ensures.usage in of_none (map string_bytes c.args.words.now) _ (none refl)

pub returns-in-Err-Usage-clause-complete : goal.returns-in-Err-Usage-clause-complete
returns-in-Err-Usage-clause-complete g c = let none = rw c.in-Err-Usage.field-0-is at c.in-Err-Usage.ensures.usage in λ options. absurd (none refl options)

-- ---- no memory for the words

pub returns-in-Err-NoMemory-clause-answer : goal.returns-in-Err-NoMemory-clause-answer
returns-in-Err-NoMemory-clause-answer g c =
    of_all (map string_bytes c.args.words.now) (g.S.Source.left c.args.source.now) (λ (o : Options) (text : List ℕ). WroteFrontIn o.mode o text (g.K.Sink.written c.args.sink.now) (g.K.Sink.written c.args.sink.now)) (λ o text. nothing_in o.mode o text (g.K.Sink.written c.args.sink.now))

pub returns-in-Err-NoMemory-clause-read : goal.returns-in-Err-NoMemory-clause-read
returns-in-Err-NoMemory-clause-read g c = λ o gives solve. of_any (g.S.Source.left c.args.source.now) _ (λ text. tt)

pub returns-in-Err-NoMemory-clause-offers : goal.returns-in-Err-NoMemory-clause-offers
returns-in-Err-NoMemory-clause-offers g c = of_all (map string_bytes c.args.words.now) (g.S.Source.left c.args.source.now) (λ (o : Options) (text : List ℕ). OffersWithin text o.states (g.I.Pass.Codes.offered c.args.pass.now) (g.I.Pass.Codes.offered c.args.pass.now)) (λ o text. (0, inl refl, omega arith))
