-- A gateway over those of several groups: each call is made by that of the group of its op's key.
use Rattle.std.specs.Prelude.{ℕ, ◌≡◌, ◌≢◌, ◌<◌, Option, Some, None, length, slice_get}
use Rattle.memc_table.specs.Act.{key_of}
use Rattle.memc_table.specs.Asked.{Asked}
use Rattle.memc_proto.specs.declared.end.CallEnd.{CallEnd}
use Rattle.memc_proto.specs.declared.end.FailEnd.TheVariants.{Off}
use Rattle.front_end.specs.Gateway.{KeepsOpen, LendsNone, Rules}
use Rattle.group_layout.specs.Layout as layout
use Rattle.group_gateways.specs.declared.call.GroupCall.{GroupCall}
use Rattle.group_gateways.specs.declared.gateway.GroupGateways.{GroupGateways}

-- the gateway of a group, if there is such a group
abbrev pub gateway_in : {G : Type 0} → GroupGateways G → ℕ → Option G
gateway_in now group = slice_get now.gateways.items group

-- the number of the group of an op's key
abbrev pub group_for : {G : Type 0} → GroupGateways G → Asked → ℕ
group_for now op = layout.group_of (key_of op.act) now.k (length now.gateways.items)

-- the one leads to the other, or neither is there
abbrev pub Both : {G : Type 0} → (G → G → Type 0) → Option G → Option G → Type 0
Both leads None None = Unit {0}
Both leads (Some before) (Some after) = leads before after
Both leads _ _ = ⊥

-- it is there, and is so
abbrev pub HoldsOf : {G : Type 0} → (G → Type 0) → Option G → Type 0
HoldsOf holds None = ⊥
HoldsOf holds (Some now) = holds now

module _ {G K : Type 0} (inner : Rules G K) where
  -- the gateway of each group came behind
  pub record AllAreLater (before after : GroupGateways G) : Type 0 where
    pub k : after.k ≡ before.k
    pub count : length after.gateways.items ≡ length before.gateways.items
    pub each : (j : ℕ) → Both inner.later (gateway_in before j) (gateway_in after j)

  -- the gateway of the group of the op's key made the call
  pub record IsMadeThere (began : GroupGateways G) (op : Asked) (end : CallEnd) (after : GroupGateways G) : Type 0 where
    pub made : Both (λ before now. inner.ways.made before op end now) (gateway_in began (group_for began op)) (gateway_in after (group_for began op))
    pub later : AllAreLater began after

  -- what a call left that found no memory: the gateway of the group of the op's key was left so, and all others stayed
  pub record IsKeptThere (before : GroupGateways G) (op : Asked) (after : GroupGateways G) : Type 0 where
    pub kept : Both (λ was now. inner.ways.kept was op now) (gateway_in before (group_for before op)) (gateway_in after (group_for before op))
    pub others : (j : ℕ) → j ≢ group_for before op → gateway_in after j ≡ gateway_in before j

  -- a call that began there is open at the gateway of the group of the op's key
  pub record IsOpenThere (now : GroupGateways G) (call : GroupCall K) (op : Asked) (began : GroupGateways G) : Type 0 where
    pub group : call.group ≡ group_for began op
    pub there : call.group < length began.gateways.items
    pub opened : Both (λ first last. inner.opened last call.inner op first) (gateway_in began call.group) (gateway_in now call.group)
    pub later : AllAreLater began now

  -- the relations of the gateway, which takes no orders that a process fail
  abbrev pub group_rules : Rules (GroupGateways G) (GroupCall K)
  group_rules = record {
    ways = record {
      made = IsMadeThere;
      failed = λ before at keep end after. (end ≡ Off) × (after ≡ before);
      kept = IsKeptThere;
      unmade = λ before after. ⊥;
    };
    lent = λ now call. HoldsOf (λ gateway. inner.lent gateway call.inner) (gateway_in now call.group);
    opened = IsOpenThere;
    later = AllAreLater;
  }

-- the calls that are open stay so, none gets a caller, and one gateway came behind the other
pub record GoesOnQuietly {G K : Type 0} (rules : Rules G K) (before after : G) : Type 0 where
  pub calls : KeepsOpen rules before after
  pub lends : LendsNone rules before after
  pub later : rules.later before after
