-- The calls that requests need, in the order in which they are answered, and which of them may begin before the first ended.
use Rattle.std.specs.Prelude.{ℕ, ◌≡◌, ◌≢◌, ◌-◌, List, [], ◌∷◌, ◌++◌, All, Option, length, map, if◌then◌else◌}
use Rattle.memc_table.specs.Act.{key_of}
use Rattle.memc_table.specs.Asked.{Asked}
use Rattle.memc_table.specs.declared.act.Act.{Act}
use Rattle.memc_table.specs.declared.act.Act.TheVariants as act
use Rattle.memc_proto.specs.declared.end.CallEnd.{CallEnd}
use Rattle.memc_proto.specs.declared.request.Request.{Request}
use Rattle.memc_proto.specs.declared.request.Request.TheVariants.{Get, Change, Version, Quit, Fail, Refused}
use Rattle.front_end.specs.Settling.{CallIsDue, OrderIsDue, TextIsDue}
use Rattle.front_end.specs.Turns.{IsMoment, is_reply}
use Rattle.front_end.specs.declared.overlap.Need.{Need}
use Rattle.front_end.specs.declared.overlap.Need.TheVariants as need

-- what the first of the requests that wait needs: a call, an order, or only its text
abbrev pub HasNeed : List Request → Need → Type 0
HasNeed waiting need.Call = CallIsDue waiting
HasNeed waiting need.Order = OrderIsDue waiting
HasNeed waiting need.Text = TextIsDue waiting

-- the acts that a request asks of items, in order: a get asks each of its keys
abbrev pub acts_of : Request → List Act
acts_of (Get keys _) = map (λ key. act.Get key) keys
acts_of (Change asked _) = asked ∷ []
acts_of Version = []
acts_of Quit = []
acts_of (Fail _ _) = []
acts_of (Refused _) = []

-- the acts that requests ask, up to the first order that a process fail
abbrev pub acts_ahead : List Request → List Act
acts_ahead [] = []
acts_ahead (Fail _ _ ∷ _) = []
acts_ahead (request ∷ others) = acts_of request ++ acts_ahead others

-- how many calls of the first request needn't be made any more where its next one ended so: behind a reply each has to be
abbrev pub unneeded_of : CallEnd → List Request → ℕ
unneeded_of end [] = 0
unneeded_of end (request ∷ _) = if is_reply end then 0 else length (acts_of request) - 1

-- the act that requests ask behind so many others, none of which asks its key, at a moment of the clock
pub record IsDueAhead (told : Option ℕ) (waiting : List Request) (begun : ℕ) (op : Asked) : Type 0 where
  pub before : List Act
  pub behind : List Act
  pub split : acts_ahead waiting ≡ before ++ op.act ∷ behind
  pub count : length before ≡ begun
  pub apart : All (λ other. key_of other ≢ key_of op.act) before
  pub moment : IsMoment told op.moment

-- requests ask no act behind so many others, or one of these asks its key
abbrev pub NoneIsDueAhead : List Request → ℕ → Type 0
NoneIsDueAhead waiting begun =
    (before behind : List Act) (act : Act) → acts_ahead waiting ≡ before ++ act ∷ behind → length before ≡ begun
    → ¬ (All (λ other. key_of other ≢ key_of act) before)
