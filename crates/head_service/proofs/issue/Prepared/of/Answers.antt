use Rattle.std.proofs.Common.{ℕ, ◌++◌, List, ap, ◌∙◌, arith}
use Rattle.std.proofs.lemmas.Grind.{common_steps}
use Rattle.group_message.specs.declared.message.Message.TheVariants as tells
use Rattle.group_message.specs.declared.update.Update.{Update}
use Rattle.group_run.specs.Applying.{Sent}
use Rattle.head_service.specs.Peers.{to_all}
use Rattle.head_service.proofs.issue.Prepared.of.Goals as goal

pub returns : goal.returns
returns c = record {
  reaches = c.least_acked-number.ensures.value;
  messages = c.in_ok-tell.ensures
      ∙ ap (λ (xs : List Sent). xs
      ++ to_all c.args.peers.now (tells.Update c.rank.result c.args.partition c.in_ok-update.update c.args.applied))
      c.in_ok-sent.ensures.items
      ∙ ap (λ (r : ℕ). to_all c.args.peers.now (tells.Update (record { 0 = r }) c.args.partition c.in_ok-update.update c.args.applied)) c.rank.ensures
      ∙ ap (λ (u : Update). to_all c.args.peers.now (tells.Update (record { 0 = c.args.head.now.rank }) c.args.partition
      u c.args.applied)) c.in_ok-update.ensures;
  empty = c.in_ok-settled.ensures.items;
  fits = grind (arith, common_steps);
}
