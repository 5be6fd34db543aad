use Rattle.std.proofs.Common.{sym, ◌∙◌}
use Rattle.pt_syntax.proofs.FrontLemmas.{front_comment, front_digit, front_symbol, front_based, front_keyword, front_literal, front_quoted}
use Rattle.pt_syntax.proofs.front.front_of.Goals as goal

pub returns-then-b-eq59 : goal.returns-then-b-eq59
returns-then-b-eq59 c = front_comment c.args.text.now c.behind_first-behind.result.now c.line_len.result c.requires c.if-b-eq59.true c.behind_first-behind.ensures c.line_len.ensures.len

pub returns-then-is_decimal_digit : goal.returns-then-is_decimal_digit
returns-then-is_decimal_digit c = front_digit c.args.text.now c.run_of.result.now c.number_front.result c.requires (sym c.is_blank.ensures ∙ c.if-is_blank.false) c.if-b-eq59.false c.if-b-eq40.false c.if-b-eq41.false (sym c.is_decimal_digit.ensures ∙ c.if-is_decimal_digit.true) c.run_of.ensures c.number_front.ensures

pub returns-then-is_in_symbol : goal.returns-then-is_in_symbol
returns-then-is_in_symbol c = front_symbol c.args.text.now c.run_of-then-is_in_symbol.result.now c.requires (sym c.is_blank.ensures ∙ c.if-is_blank.false) c.if-b-eq59.false c.if-b-eq40.false c.if-b-eq41.false (sym c.is_decimal_digit.ensures ∙ c.if-is_decimal_digit.false) (sym c.is_in_symbol.ensures ∙ c.if-is_in_symbol.true) c.run_of-then-is_in_symbol.ensures

pub returns-then-b-eq35 : goal.returns-then-b-eq35
returns-then-b-eq35 c = front_based c.args.text.now c.behind_first-behind.result.now c.run_of-then-b-eq35.result.now c.based_front.result c.requires c.if-b-eq35.true c.behind_first-behind.ensures c.run_of-then-b-eq35.ensures c.based_front.ensures

pub returns-then-b-eq58 : goal.returns-then-b-eq58
returns-then-b-eq58 c = front_keyword c.args.text.now c.behind_first-behind.result.now c.run_of-then-b-eq58.result.now c.keyword_front.result c.requires c.if-b-eq58.true c.behind_first-behind.ensures c.run_of-then-b-eq58.ensures c.keyword_front.ensures

pub returns-then-b-eq34 : goal.returns-then-b-eq34
returns-then-b-eq34 c = front_literal c.args.text.now c.behind_first-behind.result.now c.literal_front.result c.requires c.if-b-eq34.true c.behind_first-behind.ensures c.literal_front.ensures

pub returns-then-b-eq124 : goal.returns-then-b-eq124
returns-then-b-eq124 c = front_quoted c.args.text.now c.behind_first-behind.result.now c.quoted_front.result c.requires c.if-b-eq124.true c.behind_first-behind.ensures c.quoted_front.ensures
