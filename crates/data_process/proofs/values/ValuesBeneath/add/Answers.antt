use Rattle.std.proofs.Common.{ℕ, ◌<◌, List, Contains, refl, sym, ap, subst, ◌∙◌}
use Rattle.std.specs.Prelude.{IfSome}
use Rattle.group_types.specs.declared.process.ProcessId.TheVariants.{DataNode}
use Rattle.group_message.specs.declared.update.Body.{Body}
use Rattle.group_run.specs.Applying.{space_added}
use Rattle.group_run.specs.Replica.{run_of}
use Rattle.page_map.specs.Spaces.{AllMade}
use Rattle.data_process.specs.Values.{DataHolding}
use Rattle.data_process.proofs.Adding.{nothing-added, still-ready, update-added}
use Rattle.data_process.proofs.values.ValuesBeneath.add.Goals as goal

pub apply-requires-clause-ready : goal.apply-requires-clause-ready
apply-requires-clause-ready c =
    let made = subst
    (λ (v : DataHolding). IfSome (run_of c.args.update.now.body) (λ run. AllMade v.space.shape.block run v.space.made))
    (sym c.self.view_is) c.requires.ready.1 in
    subst (λ (body : Body). IfSome (run_of body) (λ run. AllMade c.self.inside.space.shape.block run c.self.inside.space.made)) c.in-Put.is made

pub returns-in-Put-clause-process : goal.returns-in-Put-clause-process
returns-in-Put-clause-process c =
    let v : DataHolding = record { number = c.self.inside.number; space = c.self.inside.space } in
    let is = ap (λ (body : Body). space_added v.space.shape (DataNode v.number) c.args.arg2.0 body v.space.bytes) c.in-Put.is in
    let within = subst (λ (w : DataHolding). c.args.arg2.0 < w.space.shape.k) (sym c.self.view_is) c.requires.ready.0 in
    rw (← c.self.view_is) (update-added v.number v.space c.apply.new.self c.args.arg2.0 c.args.update.now within
    c.apply.ensures.shape (c.apply.ensures.bytes ∙ sym is))

pub returns-in-Put-clause-stays : goal.returns-in-Put-clause-stays
returns-in-Put-clause-stays c =
    rw (← c.self.view_is) (record {
      shape = c.apply.ensures.shape;
      pages = c.apply.ensures.made;
      kept = still-ready c.self.inside.number c.self.inside.space c.apply.new.self c.apply.ensures.shape
          (λ b there. subst (λ (made : List ℕ). Contains made b) (sym c.apply.ensures.made) there);
    })

pub returns-in_default : goal.returns-in_default
returns-in_default c =
    let v : DataHolding = c.args.self.now in
    record {
      stays = record { shape = refl; pages = refl; kept = λ d u ready. ready };
      process = update-added v.number v.space v.space c.args.arg2.0 c.args.update.now c.requires.ready.0 refl
          (nothing-added v.space.shape v.number c.args.arg2.0 c.args.update.now.body v.space.bytes c.in_default.not-Put);
    }
