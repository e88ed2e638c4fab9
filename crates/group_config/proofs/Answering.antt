-- What a step that answers says of the checks that go on from it.
use Rattle.std.proofs.Common.{◌≡◌, ℕ, inl, inr, List, Option, Some, Result, Ok, Err, codes, sym, ap, subst}
use Rattle.toml.specs.Data.{Members, get_member}
use Rattle.group_types.specs.Dimensions.{Dimensions, processes_of}
use Rattle.group_types.specs.declared.config_key.ConfigKey.{ConfigKey}
use Rattle.group_config.specs.MemberKeys.{group_in}
use Rattle.group_config.specs.MemberReading.{IsMemberOutcome, behind_members, settings_of, with_shape}
use Rattle.group_config.specs.MemberTable.{members_of}
use Rattle.group_config.specs.Reading.{check, checked_shape, follow}
use Rattle.group_config.specs.declared.member_fault.MemberFault.{MemberFault}
use Rattle.group_config.specs.declared.member_fault.MemberFault.TheVariants.{Want}
use Rattle.group_config.specs.declared.member_key.MemberKey.{MemberKey}
use Rattle.group_config.specs.declared.member_key.MemberKey.TheVariants as key

-- no memory is an answer to all checks
pub wants : {A : Type 0} (wanted : Result A MemberKey) (fault : MemberFault) → fault ≡ Want → IsMemberOutcome wanted (Err fault)
wants (Ok given) fault want = inr (ap Err want)
wants (Err key) fault want = inr (ap Err want)

pub answered : {A : Type 0} (wanted : Result A MemberKey) (a : A) → IsMemberOutcome wanted (Ok a) → wanted ≡ Ok a
answered (Ok given) a (inl same) = sym (cc same)
answered (Ok given) a (inr want) = absurd (cc want)
answered (Err key) a (inl bad) = absurd (cc bad)
answered (Err key) a (inr want) = absurd (cc want)

pub fails : {A B : Type 0} (wanted : Result A MemberKey) (next : A → Result B MemberKey) (fault : MemberFault)
    → IsMemberOutcome wanted (Err fault) → IsMemberOutcome (follow wanted next) (Err fault)
fails (Ok given) next fault (inl same) = absurd (cc same)
fails (Ok given) next fault (inr want) = wants (next given) fault (cc want)
fails (Err key) next fault (inl bad) = inl (ap Err (cc bad))
fails (Err key) next fault (inr want) = inr (ap Err (cc want))

-- where no members are given
pub members-fail : (word : Option (List ℕ)) (ms : Members) (group : List ℕ) (shape : Dimensions) (fault : MemberFault)
    → group_in ms ≡ Some group → checked_shape ms ≡ Ok shape
    → IsMemberOutcome (members_of (processes_of shape) (get_member (codes "members") ms)) (Err fault) → IsMemberOutcome (settings_of word ms) (Err fault)
members-fail word ms group shape fault is_group is_shape answers =
    subst (λ (o : Option (List ℕ)).
    IsMemberOutcome (check key.Group o
    (λ group. with_shape (checked_shape ms)
    (λ shape. follow (members_of (processes_of shape) (get_member (codes "members") ms))
    (λ members. behind_members word ms group shape members)))) (Err fault)) (sym is_group)
    (subst (λ (r : Result Dimensions ConfigKey).
    IsMemberOutcome (with_shape r (λ shape. follow (members_of (processes_of shape) (get_member (codes "members") ms))
    (λ members. behind_members word ms group shape members))) (Err fault)) (sym is_shape)
    (fails (members_of (processes_of shape) (get_member (codes "members") ms)) (behind_members word ms group shape) fault answers))
