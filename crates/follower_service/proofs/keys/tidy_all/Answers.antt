use Rattle.std.proofs.Common.{◌≡◌, ◌||◌, ◌+◌, ◌∷◌, true, List, drop, ap, sym, subst, ◌∙◌}
use Rattle.std.proofs.lemmas.List.{drop_all, drop_more}
use Rattle.group_types.specs.Lists.{same_key}
use Rattle.group_message.specs.declared.update.Update.{Update}
use Rattle.partition_replica.specs.State.{is_needed, is_touched}
use Rattle.head_service.proofs.Tidying.{tidied}
use Rattle.follower_service.proofs.Following.{owed-none}
use Rattle.follower_service.proofs.keys.tidy_all.Goals as goal

abbrev rest : goal.After-tidy → List Update
rest c = drop (c.updates.update-index + 1) c.args.updates.now

front : (c : goal.After-tidy) → drop c.updates.update-index c.args.updates.now ≡ c.update-item.result ∷ rest c
front c = drop_more c.args.updates.now c.updates.update-index c.update-item.result c.updates-test.true
    ∙ ap (λ (x : Update). x ∷ rest c) (sym c.update-item.is)

pub updates-preserved : goal.updates-preserved
updates-preserved c = record {
  shape = c.tidy.ensures.shape ∙ c.updates.invariant.shape;
  replica = c.tidy.ensures.replica ∙ c.updates.invariant.replica;
  owed = λ owed tidy q is. tidied (is_needed c.tidy.new.self.replica.items c.tidy.new.self.replica.log q) (owed q) (same_key c.update-item.result.key q)
      (is_touched (rest c) q)
      (c.tidy.ensures.owed (λ p. owed p || (same_key c.update-item.result.key p || is_touched (rest c) p))
      (λ p ready. subst
      (λ (xs : List Update). (is_needed c.updates.replica.replica.items c.updates.replica.replica.log p ||
      (owed p || is_touched xs p)) ≡ true) (front c)
      (c.updates.invariant.owed owed tidy p ready)) q is);
}

pub returns-clause-owed : goal.returns-clause-owed
returns-clause-owed c owed tidy q is =
    owed-none (is_needed c.updates.replica.replica.items c.updates.replica.replica.log q) (owed q)
    (subst (λ (xs : List Update). (is_needed c.updates.replica.replica.items c.updates.replica.replica.log q || (owed q || is_touched xs q)) ≡ true)
    (drop_all c.updates.update-index c.args.updates.now c.updates-test.false) (c.updates.invariant.owed owed tidy q is))
