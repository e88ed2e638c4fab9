use Rattle.std.proofs.Common.{ℕ, ◌≡◌, ◌<◌, ◌∙◌, All, ap, sym, subst}
use Rattle.group_types.specs.Lists.{at}
use Rattle.group_run.specs.World.{World}
use Rattle.group_layout.specs.Cluster.{world_in}
use Rattle.memc_table.specs.Act.{act_value}
use Rattle.memc_table.specs.Asked.{Asked}
use Rattle.scenario_text.specs.declared.line.Line.TheVariants.{Ask, Collect, Deliver, Flush, Show, Trace}
use Rattle.cluster_run.specs.Playing.{ClusterPlay}
use Rattle.cluster_play.proofs.Ready.{within-there}
use Rattle.cluster_play.proofs.next.follow_in.Goals as goal

pub make-requires-clause-may : goal.make-requires-clause-may
make-requires-clause-may c =
    let within = within-there c.args.play.now.cluster c.args.group c.args.line
    (Ask c.in-Ask.caller c.in-Ask.at c.in-Ask.act) c.requires.ready c.requires.line c.in-Ask.is in
    ((c.requires.group, (within.0, within.1, subst (λ (op : Asked). All (λ b. b < 256) (act_value op.act)) (sym c.op-op.ensures) within.2)), λ failure. failure)

pub make-requires-in-Collect-clause-may : goal.make-requires-in-Collect-clause-may
make-requires-in-Collect-clause-may c =
    let within = within-there c.args.play.now.cluster c.args.group c.args.line
    (Collect c.in-Collect.caller c.in-Collect.call c.in-Collect.at) c.requires.ready c.requires.line
    c.in-Collect.is in
    ((c.requires.group, within), λ failure. failure)

pub make-requires-in-Deliver-clause-may : goal.make-requires-in-Deliver-clause-may
make-requires-in-Deliver-clause-may c =
    let within = within-there c.args.play.now.cluster c.args.group c.args.line
    (Deliver c.in-Deliver.from c.in-Deliver.to) c.requires.ready c.requires.line c.in-Deliver.is in
    ((c.requires.group, within), λ failure. failure)

pub make-requires-in-Flush-clause-may : goal.make-requires-in-Flush-clause-may
make-requires-in-Flush-clause-may c =
    let within = within-there c.args.play.now.cluster c.args.group c.args.line (Flush c.in-Flush.at) c.requires.ready c.requires.line c.in-Flush.is in
    ((c.requires.group, within), λ failure. failure)

pub make-requires-in-Trace-clause-may : goal.make-requires-in-Trace-clause-may
make-requires-in-Trace-clause-may c =
    let within = within-there c.args.play.now.cluster c.args.group c.args.line
    (Trace c.in-Trace.caller c.in-Trace.call c.in-Trace.partition c.in-Trace.at) c.requires.ready c.requires.line
    c.in-Trace.is in
    let world : c.world.result.now ≡ world_in c.args.play.now.cluster.groups c.args.group = c.world.ensures
    ∙ ap (λ (p : ClusterPlay). world_in p.cluster.groups c.args.group) c.play.view_is in
    let asked : c.asks.result ≡ at 0 (world_in c.args.play.now.cluster.groups c.args.group).asked c.in-Trace.caller =
    c.asks.ensures ∙ ap (λ (w : World). at 0 w.asked c.in-Trace.caller) world in
    ((c.requires.group, (within.0, subst (λ (n : ℕ). c.in-Trace.call < n) asked c.if-asks-call.false, within.1, within.2)), λ failure. failure)

pub show-requires-clause-process : goal.show-requires-clause-process
show-requires-clause-process c =
    (within-there c.args.play.now.cluster c.args.group c.args.line (Show c.in-Show.at c.in-Show.run') c.requires.ready c.requires.line c.in-Show.is).0

pub show-requires-clause-run : goal.show-requires-clause-run
show-requires-clause-run c =
    (within-there c.args.play.now.cluster c.args.group c.args.line (Show c.in-Show.at c.in-Show.run') c.requires.ready c.requires.line c.in-Show.is).1
