use Rattle.std.proofs.Common.{List, ℕ, map, string_bytes}
use Rattle.clap.specs.Words.{found_of, first_value}
use Rattle.pt_options.specs.Options.{AreSettings}
use Rattle.pt_options.proofs.Meaning.{options_given, options_of}
use Rattle.pt_options.proofs.words.options.Goals as goal

pub returns-in-Some-clause-given : goal.returns-in-Some-clause-given
returns-in-Some-clause-given c =
    let words : List (List ℕ) = map string_bytes c.args.words.now in
    let settings : AreSettings words = c.are_settings.ensures.0 c.if-not-are_settings.false in
    options_given words settings (first_value (found_of c.in-Ok.matches)) c.in-Ok.ensures.ok c.in-Some.options c.in-Some.ensures

pub returns-clause-usage : goal.returns-clause-usage
returns-clause-usage c =
    λ same given.
    let words : List (List ℕ) = map string_bytes c.args.words.now in
    let settings : AreSettings words = c.are_settings.ensures.0 c.if-not-are_settings.false in
    c.in-None.ensures given.0 (options_of words settings (first_value (found_of c.in-Ok.matches)) c.in-Ok.ensures.ok given.0 given.1)
