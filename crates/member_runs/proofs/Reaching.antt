-- What a run of the group reaches, and runs that go on.
use Rattle.std.proofs.Common.{◌≡◌, List, [], ◌∷◌, ◌++◌, refl, sym, ap, subst, ◌∙◌}
use Rattle.group_types.specs.Dimensions.{Dimensions}
use Rattle.group_wire.specs.Actions.{Action}
use Rattle.group_wire.specs.Composed.{AreActions, AreActionsFrom, Composed, composed, composed_from, composed_with, opening_composed}
use Rattle.group_wire.specs.FromWhom.{CallersAreTheirs, NameTheirCallers}
use Rattle.group_member.specs.Acting.{MayAllCome, group_after_all}

pub from-more : (c : Composed) (actions more : List Action) → AreActionsFrom c actions → AreActionsFrom (composed_from c actions) more
    → AreActionsFrom c (actions ++ more)
from-more c [] more are then = then
from-more c (a ∷ actions) more are then = (are.0, from-more (composed_with c a) actions more are.1 then)

pub composed-more : (c : Composed) (actions more : List Action) → composed_from c (actions ++ more) ≡ composed_from (composed_from c actions) more
composed-more c [] more = refl
composed-more c (a ∷ actions) more = composed-more (composed_with c a) actions more

-- actions that may come in the group go on with its run
pub all-come : (c : Composed) (actions : List Action) → MayAllCome c.group actions → AreActionsFrom c actions
all-come c [] may = tt
all-come c (a ∷ actions) may = (may.0, all-come (composed_with c a) actions may.1)

pub group-all : (c : Composed) (actions : List Action) → (composed_from c actions).group ≡ group_after_all c.group actions
group-all c [] = refl
group-all c (a ∷ actions) = group-all (composed_with c a) actions

pub shape-all : (c : Composed) (actions : List Action) → (composed_from c actions).group.shape ≡ c.group.shape
shape-all c [] = refl
shape-all c (a ∷ actions) = shape-all (composed_with c a) actions

-- a run leads there
pub record IsReached (s : Dimensions) (c : Composed) : Type 0 where
  pub done : List Action
  pub run : AreActions s done
  pub there : composed s done ≡ c

pub shape-reached : (s : Dimensions) (c : Composed) → IsReached s c → c.group.shape ≡ s
shape-reached s c reached = ap (λ (d : Composed). d.group.shape) (sym reached.there) ∙ shape-all (opening_composed s) reached.done

pub goes-on : (s : Dimensions) (c : Composed) (actions : List Action) → IsReached s c → AreActionsFrom c actions → IsReached s (composed_from c actions)
goes-on s c actions reached are = record {
  done = reached.done ++ actions;
  run = (
    reached.run.0,
    from-more (opening_composed s) reached.done actions reached.run.1
        (subst (λ (d : Composed). AreActionsFrom d actions) (sym reached.there) are),
  );
  there = composed-more (opening_composed s) reached.done actions ∙ ap (λ (d : Composed). composed_from d actions) reached.there;
}

-- there requests and answers name their callers
pub theirs-reached : CallersAreTheirs → (s : Dimensions) (c : Composed) → IsReached s c → NameTheirCallers c.group.shape c.group.gateways
theirs-reached always s c reached =
    subst (λ (d : Dimensions). NameTheirCallers d c.group.gateways) (sym (shape-reached s c reached))
    (subst (λ (d : Composed). NameTheirCallers s d.group.gateways) reached.there (always s reached.done reached.run))
