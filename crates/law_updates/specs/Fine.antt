-- Histories of a partition whose every update is right, and whose runs are clear of all that may still be
-- read.
use Rattle.std.specs.Prelude.{ℕ, suc, ◌≡◌, ◌≢◌, ◌<◌, List, [], ◌∷◌, take, drop, All, Contains}
use Rattle.group_types.specs.Dimensions.{Dimensions}
use Rattle.group_types.specs.Hash.{home_of}
use Rattle.group_types.specs.Each.{Each, EachTwo}
use Rattle.memc_table.specs.Act.{act_value, key_of}
use Rattle.group_message.specs.declared.update.Update.{Update}
use Rattle.group_run.specs.Replica.{Items, callers, item_settled, items_after}
use Rattle.group_run.specs.World.{AskedCall, update_name}
use Rattle.law_updates.specs.Right.{IsRight, WritesClear}
use Rattle.law_updates.specs.Store.{Store, no_store, store_with_update}

-- a call that partition d may have an update of: its key's home is d, and its value consists of bytes
pub record IsCallOf (s : Dimensions) (d : ℕ) (c : AskedCall) : Type 0 where
  pub caller : c.name.caller < callers
  pub home : home_of (key_of c.op.act) s.k ≡ d
  pub bytes : All (λ b. b < 256) (act_value c.op.act)

-- update n of partition d is the one that the table makes of one of these calls
pub record IsStep (s : Dimensions) (calls : List AskedCall) (d n : ℕ) (store : Store) (u : Update) : Type 0 where
  pub call : AskedCall
  pub asked : Contains calls call
  pub fits : IsCallOf s d call
  pub name : update_name u ≡ call.name
  pub right : IsRight s store n call.op u

-- each update behind the first n is, on the store that those before it leave
abbrev pub AreSteps : Dimensions → List AskedCall → ℕ → ℕ → Store → List Update → Type 0
AreSteps s calls d n store [] = Unit {0}
AreSteps s calls d n store (u ∷ us) = IsStep s calls d (suc n) store u × AreSteps s calls d (suc n) (store_with_update s d u store) us

-- a later call of the same caller has a higher number
abbrev pub ComesBefore : Update → Update → Type 0
ComesBefore u v = u.caller ≡ v.caller → u.call < v.call

-- each of these updates writes clear of the items that are there before any of them, and those that the
-- ones before it leave; and no two are on one key
abbrev pub AreClear : Items → List Update → Type 0
AreClear items [] = Unit {0}
AreClear items (u ∷ us) = Each (WritesClear items) (u ∷ us) × Each (λ v. u.key ≢ v.key) us × AreClear (item_settled u items) us

-- a history of partition d, of which the first a updates are applied: each update is right, a caller's
-- calls rise, and what isn't applied writes clear of all that may still be read
pub record Fine (s : Dimensions) (calls : List AskedCall) (d a : ℕ) (h : List Update) : Type 0 where
  pub steps : AreSteps s calls d 0 (no_store s) h
  pub rising : EachTwo ComesBefore h
  pub clear : AreClear (items_after [] (take a h)) (drop a h)
