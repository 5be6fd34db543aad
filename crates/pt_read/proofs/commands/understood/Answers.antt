use Rattle.pt_read.proofs.commands.understood.Goals as goal

pub returns-in-SetLogic-clause-gives : goal.returns-in-SetLogic-clause-gives
returns-in-SetLogic-clause-gives c = rw c.in-SetLogic.is (c.set_logic.ensures.says c.args.context.now c.args.at c.args.work.now)

pub returns-in-SetLogic-clause-range : goal.returns-in-SetLogic-clause-range
returns-in-SetLogic-clause-range c = c.set_logic.ensures.range c.args.work.now

pub returns-in-SetOption-clause-gives : goal.returns-in-SetOption-clause-gives
returns-in-SetOption-clause-gives c = rw c.in-SetOption.is (c.set_option.ensures.says c.args.context.now c.args.at c.args.work.now)

pub returns-in-SetOption-clause-range : goal.returns-in-SetOption-clause-range
returns-in-SetOption-clause-range c = c.set_option.ensures.range c.args.work.now

pub returns-in-Push-clause-gives : goal.returns-in-Push-clause-gives
returns-in-Push-clause-gives c = rw c.in-Push.is (c.push.ensures.says c.args.context.now c.args.at c.args.work.now)

pub returns-in-Push-clause-range : goal.returns-in-Push-clause-range
returns-in-Push-clause-range c = c.push.ensures.range c.args.work.now

pub returns-in-Pop-clause-gives : goal.returns-in-Pop-clause-gives
returns-in-Pop-clause-gives c = rw c.in-Pop.is (c.pop.ensures.says c.args.context.now c.args.at c.args.work.now)

pub returns-in-Pop-clause-range : goal.returns-in-Pop-clause-range
returns-in-Pop-clause-range c = c.pop.ensures.range c.args.work.now

pub returns-in-Echo-clause-gives : goal.returns-in-Echo-clause-gives
returns-in-Echo-clause-gives c = rw c.in-Echo.is (c.echo.ensures.says c.args.context.now c.args.at c.args.work.now)

pub returns-in-Echo-clause-range : goal.returns-in-Echo-clause-range
returns-in-Echo-clause-range c = c.echo.ensures.range c.args.work.now

pub returns-in-GetValue-clause-range : goal.returns-in-GetValue-clause-range
returns-in-GetValue-clause-range c = c.get_value.ensures.range c.args.work.now

pub returns-in-DeclareConst-clause-gives : goal.returns-in-DeclareConst-clause-gives
returns-in-DeclareConst-clause-gives c = rw c.in-DeclareConst.is (c.declare_const.ensures.gives c.args.at)

pub returns-in-DeclareFun-clause-gives : goal.returns-in-DeclareFun-clause-gives
returns-in-DeclareFun-clause-gives c = rw c.in-DeclareFun.is (c.declare_fun.ensures.gives c.args.at)

pub returns-in-DefineFun-clause-gives : goal.returns-in-DefineFun-clause-gives
returns-in-DefineFun-clause-gives c = rw c.in-DefineFun.is (c.define_fun.ensures.gives c.args.at)

pub returns-in-SetEqual-clause-gives : goal.returns-in-SetEqual-clause-gives
returns-in-SetEqual-clause-gives c = rw c.in-SetEqual.is (c.set_equal.ensures.gives c.args.at)

pub returns-in-SetSubset-clause-gives : goal.returns-in-SetSubset-clause-gives
returns-in-SetSubset-clause-gives c = rw c.in-SetSubset.is (c.set_subset.ensures.gives c.args.at)

pub returns-in-SetEmpty-clause-gives : goal.returns-in-SetEmpty-clause-gives
returns-in-SetEmpty-clause-gives c = rw c.in-SetEmpty.is (c.set_empty.ensures.gives c.args.at)

pub returns-in-SetFinite-clause-gives : goal.returns-in-SetFinite-clause-gives
returns-in-SetFinite-clause-gives c = rw c.in-SetFinite.is (c.set_finite.ensures.gives c.args.at)

pub returns-in-SetStates-clause-gives : goal.returns-in-SetStates-clause-gives
returns-in-SetStates-clause-gives c = rw c.in-SetStates.is (c.set_states.ensures.gives c.args.at)

pub returns-in-SetList-clause-gives : goal.returns-in-SetList-clause-gives
returns-in-SetList-clause-gives c = rw c.in-SetList.is (c.set_list.ensures.gives c.args.at)

pub returns-in-GetValue-clause-gives : goal.returns-in-GetValue-clause-gives
returns-in-GetValue-clause-gives c = rw c.in-GetValue.is (c.get_value.ensures.says c.args.at c.args.work.now)
