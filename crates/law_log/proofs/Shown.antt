-- What the log shows of each partition: its updates are the settled ones, its tables hold what the settled stores
-- hold, and its values are the settled space.
use Rattle.std.specs.Prelude.{ℕ, ◌≡◌, ◌<◌, ◌≤◌, List, [], ◌∷◌, length, take, None}
use Rattle.group_types.specs.Dimensions.{Dimensions}
use Rattle.group_types.specs.Hash.{home_of}
use Rattle.group_types.specs.Lists.{at}
use Rattle.group_message.specs.declared.update.Update.{Update}
use Rattle.group_calls.specs.declared.event.Event.{Event}
use Rattle.group_run.specs.Headline.{IsItem, IsLogged, IsRun, ValuesWritten}
use Rattle.group_run.specs.Meaning.{Logged, run_on, table_at, updates_of, values_after}
use Rattle.group_run.specs.Replica.{items_after, slot_in}
use Rattle.group_run.specs.World.{World, after}
use Rattle.law_updates.specs.Store.{Store, held, no_store, store_after, store_with_update}
use Rattle.law_log.specs.Book.{book_of}
use Rattle.law_log.specs.Stands.{StandsAlways}

-- an update that the log shows is this one, and its item is what the store holds after it
pub record IsShown (s : Dimensions) (d : ℕ) (store : Store) (u : Update) (l : Logged) : Type 0 where
  pub logged : IsLogged l u
  pub item : l.item ≡ held (store_with_update s d u store) u.key

-- the log shows these updates, in order
abbrev pub AreShown : Dimensions → ℕ → Store → List Update → List Logged → Type 0
AreShown s d store [] [] = Unit {0}
AreShown s d store (u ∷ us) (l ∷ ls) = IsShown s d store u l × AreShown s d (store_with_update s d u store) us ls
AreShown s d store [] (l ∷ ls) = ⊥
AreShown s d store (u ∷ us) [] = ⊥

-- what the log of a group shows of partition d, whose settled updates are these
pub record LogShows (s : Dimensions) (w : World) (d : ℕ) (settled : List Update) : Type 0 where
  pub updates : AreShown s d (no_store s) settled (updates_of w d)
  pub tables : (n : ℕ) → n ≤ length settled → (key : List ℕ) → home_of key s.k ≡ d → (table_at w d n).items key ≡ held (store_after s d (take n settled)) key
  pub values : (n : ℕ) → values_after w d n ≡ (store_after s d (take n settled)).space
  pub items : (n : ℕ) → n ≤ length settled → (key : List ℕ) → home_of key s.k ≡ d
      → IsItem (slot_in (items_after [] (take n settled)) key) ((table_at w d n).items key) (run_on key None (take n (updates_of w d)))

-- so it is of every partition, along every run in which heads stand
abbrev pub LogShowsSettled : Type 0
LogShowsSettled = (s : Dimensions) → StandsAlways s → (es : List Event) → IsRun s es → (d : ℕ) → d < s.k
    → LogShows s (after s es) d (at [] (book_of s es).history.settled d)

-- values are written where no item stands, and every item has its value
abbrev pub ValuesAreWritten : Type 0
ValuesAreWritten = (s : Dimensions) → StandsAlways s → (es : List Event) → IsRun s es → ValuesWritten (after s es)
