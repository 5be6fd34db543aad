use Rattle.pt_query.proofs.law_tests.zero_has_one_least_member.Goals as goal

pub returns : goal.returns
returns c y z one two = c.first_members_are_unique.ensures.least 1 y z one two
