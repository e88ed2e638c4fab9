-- The update that memcached's table makes of an op on a store.
use Rattle.std.specs.Prelude.{ℕ, ◌≡◌, Bool, true, false, Option, Some, None, length, IfSome}
use Rattle.field_byte.specs.Vectors.{add_bytes}
use Rattle.group_types.specs.Dimensions.{Dimensions, space_of}
use Rattle.group_types.specs.declared.run.Run.{Run}
use Rattle.group_types.specs.Each.{Each}
use Rattle.memc_table.specs.Act.{key_of}
use Rattle.memc_table.specs.Asked.{Asked}
use Rattle.memc_table.specs.Expiry.{live_at}
use Rattle.memc_table.specs.Ruling.{ruling_of}
use Rattle.memc_table.specs.declared.holding.Holding.{Holding}
use Rattle.memc_table.specs.declared.reply.Reply.{Reply}
use Rattle.memc_table.specs.declared.ruling.Ruling.{Ruling}
use Rattle.memc_table.specs.declared.ruling.Ruling.TheVariants.{Accepted}
use Rattle.group_message.specs.declared.update.Body.{Body}
use Rattle.group_message.specs.declared.update.Body.TheVariants.{Put, Remove, Touch}
use Rattle.group_message.specs.declared.update.Update.{Update}
use Rattle.erasure_code.specs.Spaces.{bytes_at}
use Rattle.group_run.specs.Deciding.{is_touch, outcome_of}
use Rattle.group_run.specs.Fitting.{IsRunOf}
use Rattle.group_run.specs.Headline.{AreApart}
use Rattle.group_run.specs.Replica.{Items, freed_by, run_in, run_of, slot_in}
use Rattle.law_updates.specs.Store.{Store, held}

-- what the table makes of an op on the item that a store has, where an accepted op is update n
abbrev pub ruling_in : Store → ℕ → Asked → Ruling
ruling_in store n op = ruling_of op.moment n op.act (live_at op.moment (held store (key_of op.act)))

-- the run has no address in common with the run of any item
abbrev pub IsClearOfItems : Items → Run → Type 0
IsClearOfItems items run = Each (λ x. AreApart run (run_in x.1)) items

-- what an update writes, if it writes, is clear of the runs of all items
abbrev pub WritesClear : Items → Update → Type 0
WritesClear items u = IfSome (run_of u.body) (IsClearOfItems items)

-- a value's run is as long as it, lies in the space, and is clear of the runs of all items; the update
-- has it over what stands there, as a difference
pub record IsPut (s : Dimensions) (store : Store) (h : Holding) (body : Body) : Type 0 where
  pub run : Run
  pub fits : IsRunOf (space_of s) (length h.item.value) run
  pub clear : IsClearOfItems store.items run
  pub is : body ≡ Put h.item.flags h.until run (add_bytes h.item.value (bytes_at run.at run.len store.space))

-- the body of an update, by what an accepted op leaves: no item, the item with another end, or a value
abbrev pub IsBodyOf : Dimensions → Store → Bool → Option Holding → Body → Type 0
IsBodyOf s store touch None body = body ≡ Remove
IsBodyOf s store true (Some h) body = body ≡ Touch h.until
IsBodyOf s store false (Some h) body = IsPut s store h body

-- update n of a partition is the one that the table makes of an op
pub record IsRight (s : Dimensions) (store : Store) (n : ℕ) (op : Asked) (u : Update) : Type 0 where
  pub reply : Reply
  pub leaves : Option Holding
  pub ruled : ruling_in store n op ≡ Accepted reply leaves
  pub number : u.number ≡ n
  pub key : u.key ≡ key_of op.act
  pub outcome : u.outcome ≡ outcome_of reply
  pub body : IsBodyOf s store (is_touch op.act) leaves u.body
  pub frees : u.frees ≡ freed_by u.body (slot_in store.items u.key)
