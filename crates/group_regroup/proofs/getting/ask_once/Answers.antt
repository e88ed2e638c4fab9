use Rattle.group_regroup.proofs.Tries.{ask-up}
use Rattle.group_regroup.proofs.getting.ask_once.Goals as goal

pub returns-in-Reply-Value-clause-up : goal.returns-in-Reply-Value-clause-up
returns-in-Reply-Value-clause-up c = ask-up c.args.world.now c.answer_to.new.world c.args.event.now c.requires.may c.requires.up c.in_ok-item.ensures.world

pub returns-in-Retry-clause-up : goal.returns-in-Retry-clause-up
returns-in-Retry-clause-up c = ask-up c.args.world.now c.answer_to.new.world c.args.event.now c.requires.may c.requires.up c.in_ok-item.ensures.world

pub returns-in_default-clause-up : goal.returns-in_default-clause-up
returns-in_default-clause-up c = ask-up c.args.world.now c.answer_to.new.world c.args.event.now c.requires.may c.requires.up c.in_ok-item.ensures.world
