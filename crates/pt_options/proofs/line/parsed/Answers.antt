use Rattle.std.proofs.Common.{◌≡◌, ◌∙◌, ap, ap₂, subst, rules, true, List, ℕ, map, codes}
use Rattle.std.specs.Prelude.{string_bytes}
use Rattle.std.specs.declared.alloc.Global.{Global}
use Rattle.std.proofs.lemmas.Result.{IfOk-weaker, IfErr-weaker}
use Rattle.clap.specs.Words.{kind_of, found_of, first_value}
use Rattle.clap.specs.Walk.{rule_of}
use Rattle.clap.specs.Simple.{App, HasMatchesOf, app_of, app_of_fields, on_top, with_rule}
use Rattle.clap.specs.Takes.{takes}
use Rattle.clap.specs.declared.builder.command.Command.{Command}
use Rattle.clap.specs.declared.builder.command.Command.TheOpen.{Command-F}
use Rattle.pt_options.proofs.Lines.{is_taken, values, program, bare, option}
use Rattle.pt_options.proofs.line.parsed.Goals as goal

pub returns : goal.returns
returns c =
    let words : List (List ℕ) = map string_bytes c.args.words.now in
    let first : rule_of c.option.result ≡ option (codes "mode") = search rules in
    let second : rule_of c.option-2.result ≡ option (codes "workers") = search rules in
    let third : rule_of c.option-3.result ≡ option (codes "states") = search rules in
    let fourth : rule_of c.option-4.result ≡ option (codes "seed") = search rules in
    let fifth : rule_of c.option-5.result ≡ option (codes "size") = search rules in
    let bare_is : app_of c.disable_help_flag.result ≡ bare =
    ap app_of_fields c.disable_help_flag.ensures
    ∙ ap (λ (f : Command-F Command). app_of_fields (record f { disable_help_flag = true })) c.no_binary_name.ensures
    ∙ ap (λ (a : App). on_top (λ s. record s { no_binary_name = true; disable_help_flag = true }) a) c.new.ensures.app in
    let program_is : app_of c.in_ok-command.command ≡ program =
    c.in_ok-command.ensures.shape (search rules)
    ∙ ap₂ with_rule (c.in_ok-arg-4.ensures.shape (search rules)
    ∙ ap₂ with_rule (c.in_ok-arg-3.ensures.shape (search rules)
    ∙ ap₂ with_rule (c.in_ok-arg-2.ensures.shape (search rules)
    ∙ ap₂ with_rule (c.in_ok-arg.ensures.shape (search rules)
    ∙ ap₂ with_rule bare_is first) second) third) fourth) fifth in
    let parse = c.try_get_matches_from in
    record {
      ok = IfOk-weaker parse.result _ _ (λ m h. values words m c.requires (subst (λ (a : App). HasMatchesOf a words m) program_is h)) parse.ensures.matches;
      err = IfErr-weaker parse.result _ _ (λ e h. h (ap (λ (a : App). takes a words) program_is ∙ is_taken words c.requires)) parse.ensures.passes;
    }
