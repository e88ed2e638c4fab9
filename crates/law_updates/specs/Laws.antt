-- The law of right updates.
use Rattle.std.specs.Prelude.{ℕ, ◌≡◌, ◌<◌, List, All}
use Rattle.group_types.specs.Dimensions.{Dimensions}
use Rattle.memc_table.specs.Act.{act_value}
use Rattle.memc_table.specs.Asked.{Asked}
use Rattle.memc_table.specs.Contents.{holding_at}
use Rattle.group_message.specs.declared.update.Update.{Update}
use Rattle.group_run.specs.Asking.{reply_from}
use Rattle.law_updates.specs.Right.{IsRight}
use Rattle.law_updates.specs.Store.{Store, StoreFits, held, store_with_update}

-- after a right update its key holds what the ruling leaves, and every other key what it held before; the
-- reply that is handed out for it is the table's; and the store still fits
pub record UpdateLeaves (s : Dimensions) (d n : ℕ) (store : Store) (op : Asked) (u : Update) (right : IsRight s store n op u) : Type 0 where
  pub holds : (key : List ℕ) → held (store_with_update s d u store) key ≡ holding_at u.key right.leaves (held store) key
  pub replies : reply_from u.outcome ≡ right.reply
  pub fits : All (λ b. b < 256) (act_value op.act) → StoreFits s (store_with_update s d u store)

-- so it is of every right update on a store that fits
abbrev pub RightUpdatesLeave : Type 0
RightUpdatesLeave = (s : Dimensions) (d n : ℕ) (store : Store) (op : Asked) (u : Update) → StoreFits s store
    → (right : IsRight s store n op u) → UpdateLeaves s d n store op u right
