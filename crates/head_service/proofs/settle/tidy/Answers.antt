use Rattle.std.proofs.Common.{◌≡◌, ◌||◌, ◌+◌, ◌∷◌, false, true, Bool, List, drop, ap, sym, subst, ◌∙◌}
use Rattle.std.proofs.lemmas.List.{drop_all, drop_more}
use Rattle.group_types.specs.Lists.{same_key}
use Rattle.group_run.specs.Applying.{Settlement}
use Rattle.partition_replica.specs.State.{is_needed, is_touched}
use Rattle.head_service.specs.Settling.{updates_settled}
use Rattle.head_service.proofs.Tidying.{tidied}
use Rattle.head_service.proofs.settle.tidy.Goals as goal

abbrev rest : goal.After-tidy → List Settlement
rest c = drop (c.settled.settlement-index + 1) c.args.settled.now

front : (c : goal.After-tidy) → drop c.settled.settlement-index c.args.settled.now
    ≡ record { partition = c.settlement.inside.partition.0; update = c.settlement.inside.update } ∷ rest c
front c = drop_more c.args.settled.now c.settled.settlement-index c.settlement-item.result c.settled-test.true
    ∙ ap (λ (x : Settlement). x ∷ rest c) (sym c.settlement-item.is ∙ sym c.settlement.view_is)

pub settled-preserved : goal.settled-preserved
settled-preserved c = record {
  shape = c.tidy.ensures.shape ∙ c.settled.invariant.shape;
  replica = c.tidy.ensures.replica ∙ c.settled.invariant.replica;
  owed = λ owed tidy q is. tidied (is_needed c.tidy.new.self.replica.items c.tidy.new.self.replica.log q) (owed q) (same_key c.settlement.inside.update.key q)
      (is_touched (updates_settled (rest c)) q)
      (c.tidy.ensures.owed (λ p. owed p || (same_key c.settlement.inside.update.key p || is_touched (updates_settled (rest c)) p))
      (λ p ready. subst
      (λ (xs : List Settlement). (is_needed c.settled.replica.replica.items c.settled.replica.replica.log p ||
      (owed p || is_touched (updates_settled xs) p)) ≡ true) (front c)
      (c.settled.invariant.owed owed tidy p ready)) q is);
}

pub returns-clause-owed : goal.returns-clause-owed
returns-clause-owed c owed tidy q is =
    by (is_needed c.settled.replica.replica.items c.settled.replica.replica.log q) (owed q)
    (subst (λ (xs : List Settlement). (is_needed c.settled.replica.replica.items c.settled.replica.replica.log q ||
    (owed q || is_touched (updates_settled xs) q)) ≡ true)
    (drop_all c.settled.settlement-index c.args.settled.now c.settled-test.false) (c.settled.invariant.owed owed tidy q is)) where
      by : (needed o : Bool) → (needed || (o || false)) ≡ true → (needed || o) ≡ true
      by true o is = is
      by false true is = is
      by false false is = is
