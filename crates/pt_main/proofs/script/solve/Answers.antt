use Rattle.std.proofs.Common.{ℕ, List, arith}
use Rattle.pt_io.specs.Streams.{Rose}
use Rattle.std.specs.Prelude.{IfSome}
use Rattle.pt_main.specs.Ending.{Answers, WroteFrontOfOutput}
use Rattle.pt_main.specs.Wanted.{LackAsked, KnowAnswered, OffersWithin}
use Rattle.pt_main.proofs.WholeText.{read_whole, read_past}
use Rattle.pt_main.proofs.Whole.{of_text, of_any, of_long, if_full, if_whole, if_whole_any, has_read, long_answer, long_known, long_of_text, long_full, completes, of_words}
use Rattle.pt_main.proofs.Endings.{front_of_nothing}
use Rattle.pt_main.proofs.script.solve.Goals as goal

pub returns-in-Ok-clause-of_words : goal.returns-in-Ok-clause-of_words
returns-in-Ok-clause-of_words g c = of_words c.answer.result c.answer.ensures.of_text

pub returns-in-Ok-clause-lack : goal.returns-in-Ok-clause-lack
returns-in-Ok-clause-lack g c =
    let lack : List ℕ → Type 0 = λ text. LackAsked g.I.Pass.Codes.home (g.I.Interner.limit_of c.args.store.now) (g.I.Pass.Codes.lists c.answer.new.pass) text c.args.given.states in
    if_full c.answer.result (λ _. lack c.as_slice.result.now) (λ _. IfSome (g.S.Source.left c.args.source.now) lack) c.answer.ensures.lack
    (λ shard h. of_text (g.S.Source.left c.args.source.now) (g.S.Source.left c.read_all.new.source) c.in-Ok.text.items c.as_slice.result.now lack c.in-Ok.ensures.ok c.as_slice.ensures.value h)

pub returns-in-Ok-clause-answer : goal.returns-in-Ok-clause-answer
returns-in-Ok-clause-answer g c =
    of_text (g.S.Source.left c.args.source.now) (g.S.Source.left c.read_all.new.source) c.in-Ok.text.items c.as_slice.result.now (λ text. Answers text c.args.given.states (g.K.Sink.written c.args.sink.now) (g.K.Sink.written c.answer.new.sink) c.answer.result) c.in-Ok.ensures.ok c.as_slice.ensures.value c.answer.ensures.answer

pub returns-in-Ok-clause-read : goal.returns-in-Ok-clause-read
returns-in-Ok-clause-read g c =
    has_read c.answer.result (g.S.Source.left c.args.source.now) (g.S.Source.left c.read_all.new.source) c.answer.ensures.of_text (read_whole (g.S.Source.left c.args.source.now) (g.S.Source.left c.read_all.new.source) c.in-Ok.text.items 4194305 c.in-Ok.ensures.ok (omega (arith, c.in-Ok.ensures.size)))

pub returns-in-Ok-clause-known : goal.returns-in-Ok-clause-known
returns-in-Ok-clause-known g c =
    let known : List ℕ → Type 0 = λ text. KnowAnswered g.I.Pass.Codes.home (g.I.Pass.Codes.lists c.answer.new.pass) text c.args.given.states in
    if_whole c.answer.result (known c.as_slice.result.now) (IfSome (g.S.Source.left c.args.source.now) known) c.answer.ensures.known
    (λ h. of_text (g.S.Source.left c.args.source.now) (g.S.Source.left c.read_all.new.source) c.in-Ok.text.items c.as_slice.result.now known c.in-Ok.ensures.ok c.as_slice.ensures.value h)

pub returns-in-Ok-clause-offers : goal.returns-in-Ok-clause-offers
returns-in-Ok-clause-offers g c =
    of_text (g.S.Source.left c.args.source.now) (g.S.Source.left c.read_all.new.source) c.in-Ok.text.items c.as_slice.result.now (λ text. OffersWithin text c.args.given.states (g.I.Pass.Codes.offered c.args.pass.now) (g.I.Pass.Codes.offered c.answer.new.pass)) c.in-Ok.ensures.ok c.as_slice.ensures.value c.answer.ensures.offers

pub returns-in-Ok-clause-complete : goal.returns-in-Ok-clause-complete
returns-in-Ok-clause-complete g c =
    λ read write room. completes c.answer.result (Rose (g.K.Sink.faults c.args.sink.now) (g.K.Sink.faults c.answer.new.sink)) (g.I.Interner.limit_of c.args.store.now) (g.I.Pass.Codes.lists c.answer.new.pass) c.answer.ensures.of_text c.answer.ensures.write_fault c.answer.ensures.store_full write room

pub returns-in-Err-TooLong-clause-of_words : goal.returns-in-Err-TooLong-clause-of_words
returns-in-Err-TooLong-clause-of_words g c = of_words c.refuse_text.result (long_of_text (g.K.Sink.written c.args.sink.now) (g.K.Sink.written c.refuse_text.new.sink) c.refuse_text.result c.refuse_text.ensures.told)

pub returns-in-Err-TooLong-clause-answer : goal.returns-in-Err-TooLong-clause-answer
returns-in-Err-TooLong-clause-answer g c =
    let past = rw c.in-Err-TooLong.field-0-is at c.in-Err-TooLong.ensures.too_long in
    of_long (g.S.Source.left c.args.source.now) (g.S.Source.left c.read_all.new.source) (λ text. Answers text c.args.given.states (g.K.Sink.written c.args.sink.now) (g.K.Sink.written c.refuse_text.new.sink) c.refuse_text.result) past.1
    (λ text long. long_answer text c.args.given.states (g.K.Sink.written c.args.sink.now) (g.K.Sink.written c.refuse_text.new.sink) c.refuse_text.result long c.refuse_text.ensures.told)

pub returns-in-Err-TooLong-clause-read : goal.returns-in-Err-TooLong-clause-read
returns-in-Err-TooLong-clause-read g c =
    let past = rw c.in-Err-TooLong.field-0-is at c.in-Err-TooLong.ensures.too_long in
    has_read c.refuse_text.result (g.S.Source.left c.args.source.now) (g.S.Source.left c.read_all.new.source) (long_of_text (g.K.Sink.written c.args.sink.now) (g.K.Sink.written c.refuse_text.new.sink) c.refuse_text.result c.refuse_text.ensures.told) (read_past (g.S.Source.left c.args.source.now) (g.S.Source.left c.read_all.new.source) 4194305 past.1)

pub returns-in-Err-TooLong-clause-known : goal.returns-in-Err-TooLong-clause-known
returns-in-Err-TooLong-clause-known g c =
    let past = rw c.in-Err-TooLong.field-0-is at c.in-Err-TooLong.ensures.too_long in
    let known : List ℕ → Type 0 = λ text. KnowAnswered g.I.Pass.Codes.home (g.I.Pass.Codes.lists c.args.pass.now) text c.args.given.states in
    let all : IfSome (g.S.Source.left c.args.source.now) known = of_long (g.S.Source.left c.args.source.now) (g.S.Source.left c.read_all.new.source) known past.1 (λ text long. long_known g.I.Pass.Codes.home (g.I.Pass.Codes.lists c.args.pass.now) text c.args.given.states long) in
    if_whole_any c.refuse_text.result _ all

pub returns-in-Err-TooLong-clause-complete : goal.returns-in-Err-TooLong-clause-complete
returns-in-Err-TooLong-clause-complete g c =
    λ read write room. completes c.refuse_text.result (Rose (g.K.Sink.faults c.args.sink.now) (g.K.Sink.faults c.refuse_text.new.sink)) (g.I.Interner.limit_of c.args.store.now) (g.I.Pass.Codes.lists c.args.pass.now) (long_of_text (g.K.Sink.written c.args.sink.now) (g.K.Sink.written c.refuse_text.new.sink) c.refuse_text.result c.refuse_text.ensures.told) c.refuse_text.ensures.write_fault (long_full (g.K.Sink.written c.args.sink.now) (g.K.Sink.written c.refuse_text.new.sink) c.refuse_text.result _ c.refuse_text.ensures.told) write room

pub returns-in-Err-NoMemory-clause-answer : goal.returns-in-Err-NoMemory-clause-answer
returns-in-Err-NoMemory-clause-answer g c =
    of_any (g.S.Source.left c.args.source.now) (λ text. WroteFrontOfOutput text c.args.given.states (g.K.Sink.written c.args.sink.now) (g.K.Sink.written c.args.sink.now)) (λ text. front_of_nothing text c.args.given.states (g.K.Sink.written c.args.sink.now))
