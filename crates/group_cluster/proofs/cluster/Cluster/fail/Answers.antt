use Rattle.std.proofs.Common.{ℕ, ◌≡◌, ◌<◌, true, false, length, ◌∙◌, sym, ap, subst, arith}
use Rattle.group_types.specs.Lists.{at}
use Rattle.group_layout.specs.Cluster.{Cluster, MayAllMove, all_moved, cluster_step, logged_in}
use Rattle.group_layout.specs.declared.event.ClusterEvent.TheVariants.{FailNode}
use Rattle.group_cluster.specs.Begun.{Begun, node_moves}
use Rattle.group_cluster.proofs.Downed.{cut-alike, cut-history, cut-step, dead-answer, dead-logged, dead-step}
use Rattle.group_cluster.proofs.Downed.{lives-answer, lives-history, lives-logged, lives-may, lives-step, on-err-any, read-failed}
use Rattle.group_cluster.proofs.cluster.Cluster.fail.Goals as goal

pub returns-then-index-clause-cluster : goal.returns-then-index-clause-cluster
returns-then-index-clause-cluster c =
    let inner : Cluster = record { failed = c.self.inside.failed.items; groups = c.self.inside.groups } in
    let low : c.args.node < length inner.failed = subst (λ (x : Cluster). c.args.node < length x.failed) (sym c.self.view_is) c.requires.may in
    let word : at false inner.failed c.args.node ≡ true = read-failed inner.failed c.args.node c.index.result.now low c.index.ensures ∙ c.if-index.true in
    sym c.self.view_is ∙ dead-step inner c.args.node c.args.keep low word
    ∙ ap (λ (x : Cluster). (cluster_step x (FailNode c.args.node c.args.keep)).cluster) c.self.view_is

pub returns-then-index-clause-answer : goal.returns-then-index-clause-answer
returns-then-index-clause-answer c =
    let inner : Cluster = record { failed = c.self.inside.failed.items; groups = c.self.inside.groups } in
    let low : c.args.node < length inner.failed = subst (λ (x : Cluster). c.args.node < length x.failed) (sym c.self.view_is) c.requires.may in
    let word : at false inner.failed c.args.node ≡ true = read-failed inner.failed c.args.node c.index.result.now low c.index.ensures ∙ c.if-index.true in
    dead-answer inner c.args.node c.args.keep low word ∙ ap (λ (x : Cluster). (cluster_step x (FailNode c.args.node c.args.keep)).answer) c.self.view_is

pub returns-then-index-clause-logged : goal.returns-then-index-clause-logged
returns-then-index-clause-logged c =
    let inner : Cluster = record { failed = c.self.inside.failed.items; groups = c.self.inside.groups } in
    let low : c.args.node < length inner.failed = subst (λ (x : Cluster). c.args.node < length x.failed) (sym c.self.view_is) c.requires.may in
    let word : at false inner.failed c.args.node ≡ true = read-failed inner.failed c.args.node c.index.result.now low c.index.ensures ∙ c.if-index.true in
    dead-logged inner c.args.node c.args.keep low word
    ∙ ap (λ (x : Cluster). length (logged_in (cluster_step x (FailNode c.args.node c.args.keep)).turns))
    c.self.view_is

pub fail_node-requires-clause-may : goal.fail_node-requires-clause-may
fail_node-requires-clause-may c =
    let inner : Cluster = record { failed = c.self.inside.failed.items; groups = c.self.inside.groups } in
    let low : c.args.node < length inner.failed = subst (λ (x : Cluster). c.args.node < length x.failed) (sym c.self.view_is) c.requires.may in
    let many : c.len-nodes.result ≡ length inner.failed = omega (arith, c.len-nodes.ensures) in
    let word : at false inner.failed c.args.node ≡ false = read-failed inner.failed c.args.node c.index.result.now low c.index.ensures ∙ c.if-index.false in
    subst (λ (n : ℕ). MayAllMove inner.groups (node_moves inner.groups n c.args.node c.args.keep)) (sym many)
    (lives-may inner c.args.node c.args.keep low word c.self.invariant)

pub invariant_of-self : goal.invariant_of-self
invariant_of-self c =
    let inner : Cluster = record { failed = c.self.inside.failed.items; groups = c.self.inside.groups } in
    let low : c.args.node < length inner.failed = subst (λ (x : Cluster). c.args.node < length x.failed) (sym c.self.view_is) c.requires.may in
    let many : c.len-nodes.result ≡ length inner.failed = omega (arith, c.len-nodes.ensures) in
    let word : at false inner.failed c.args.node ≡ false = read-failed inner.failed c.args.node c.index.result.now low c.index.ensures ∙ c.if-index.false in
    cut-history inner c.args.node c.args.keep low word c.self.invariant c.fail_node.new.self
    (subst (λ (n : ℕ). Begun inner.groups (node_moves inner.groups n c.args.node c.args.keep) c.fail_node.new.self) many c.in_err-fail_node.ensures.err)

pub invariant_of-self-2 : goal.invariant_of-self-2
invariant_of-self-2 c =
    let inner : Cluster = record { failed = c.self.inside.failed.items; groups = c.self.inside.groups } in
    let low : c.args.node < length inner.failed = subst (λ (x : Cluster). c.args.node < length x.failed) (sym c.self.view_is) c.requires.may in
    let many : c.len-nodes.result ≡ length inner.failed = omega (arith, c.len-nodes.ensures) in
    let word : at false inner.failed c.args.node ≡ false = read-failed inner.failed c.args.node c.index.result.now low c.index.ensures ∙ c.if-index.false in
    lives-history inner c.args.node c.args.keep low word c.self.invariant c.fail_node.new.self
    (subst (λ (n : ℕ). c.fail_node.new.self ≡ all_moved inner.groups (node_moves inner.groups n c.args.node c.args.keep)) many c.in_ok-fail_node.ensures.ok)

pub returns-clause-cluster : goal.returns-clause-cluster
returns-clause-cluster c =
    let inner : Cluster = record { failed = c.self.inside.failed.items; groups = c.self.inside.groups } in
    let low : c.args.node < length inner.failed = subst (λ (x : Cluster). c.args.node < length x.failed) (sym c.self.view_is) c.requires.may in
    let many : c.len-nodes.result ≡ length inner.failed = omega (arith, c.len-nodes.ensures) in
    let word : at false inner.failed c.args.node ≡ false = read-failed inner.failed c.args.node c.index.result.now low c.index.ensures ∙ c.if-index.false in
    lives-step inner c.args.node c.args.keep low word c.fail_node.new.self
    (subst (λ (n : ℕ). c.fail_node.new.self ≡ all_moved inner.groups (node_moves inner.groups n c.args.node c.args.keep)) many c.in_ok-fail_node.ensures.ok)
    ∙ ap (λ (x : Cluster). (cluster_step x (FailNode c.args.node c.args.keep)).cluster) c.self.view_is

pub returns-clause-answer : goal.returns-clause-answer
returns-clause-answer c =
    let inner : Cluster = record { failed = c.self.inside.failed.items; groups = c.self.inside.groups } in
    let low : c.args.node < length inner.failed = subst (λ (x : Cluster). c.args.node < length x.failed) (sym c.self.view_is) c.requires.may in
    let word : at false inner.failed c.args.node ≡ false = read-failed inner.failed c.args.node c.index.result.now low c.index.ensures ∙ c.if-index.false in
    lives-answer inner c.args.node c.args.keep low word ∙ ap (λ (x : Cluster). (cluster_step x (FailNode c.args.node c.args.keep)).answer) c.self.view_is

pub returns-clause-logged : goal.returns-clause-logged
returns-clause-logged c =
    let inner : Cluster = record { failed = c.self.inside.failed.items; groups = c.self.inside.groups } in
    let low : c.args.node < length inner.failed = subst (λ (x : Cluster). c.args.node < length x.failed) (sym c.self.view_is) c.requires.may in
    let word : at false inner.failed c.args.node ≡ false = read-failed inner.failed c.args.node c.index.result.now low c.index.ensures ∙ c.if-index.false in
    lives-logged inner c.args.node c.args.keep low word
    ∙ ap (λ (x : Cluster). length (logged_in (cluster_step x (FailNode c.args.node c.args.keep)).turns))
    c.self.view_is

pub returns-in_err-fail_node-clause-err : goal.returns-in_err-fail_node-clause-err
returns-in_err-fail_node-clause-err c =
    let inner : Cluster = record { failed = c.self.inside.failed.items; groups = c.self.inside.groups } in
    let low : c.args.node < length inner.failed = subst (λ (x : Cluster). c.args.node < length x.failed) (sym c.self.view_is) c.requires.may in
    let many : c.len-nodes.result ≡ length inner.failed = omega (arith, c.len-nodes.ensures) in
    let word : at false inner.failed c.args.node ≡ false = read-failed inner.failed c.args.node c.index.result.now low c.index.ensures ∙ c.if-index.false in
    on-err-any c.from_residual.result (cut-alike inner c.args.self.now (FailNode c.args.node c.args.keep)
    (record { failed = inner.failed; groups = c.fail_node.new.self }) c.self.view_is
    (cut-step inner c.args.node c.args.keep low word c.fail_node.new.self
    (subst (λ (n : ℕ). Begun inner.groups (node_moves inner.groups n c.args.node c.args.keep) c.fail_node.new.self) many c.in_err-fail_node.ensures.err)))
