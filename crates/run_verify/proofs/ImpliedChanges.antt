-- The changes of an account stand for the updates of a log.
use Rattle.std.proofs.Common.{◌≡◌, ℕ, zero, suc, Bool, true, false, List, [], ◌∷◌, ◌++◌, ◌∙◌, map, take, length, replicate, Option, Some, None, refl, sym, ap}
use Rattle.group_types.specs.Dimensions.{Dimensions, space_of}
use Rattle.group_types.specs.Lists.{same_key}
use Rattle.group_types.specs.declared.run.Run.{Run}
use Rattle.memc_table.specs.Act.{key_of}
use Rattle.memc_table.specs.Contents.{Contents, reply_of, table_after}
use Rattle.memc_table.specs.declared.act.Act.{Act}
use Rattle.memc_table.specs.declared.act.Act.TheVariants.{Get, Set, Add, Replace, Cas, Delete, Touch, Append, Prepend, Incr, Decr}
use Rattle.memc_table.specs.declared.holding.Holding.{Holding}
use Rattle.group_calls.specs.Turns.{accepts}
use Rattle.group_calls.specs.declared.entry.Entry.{Entry}
use Rattle.group_run.specs.Meaning.{Logged, item_run_after, run_on, run_unless, space_from, written}
use Rattle.run_verify.specs.Changes.{run_after_changes, run_by, run_if, space_behind, written_by}
use Rattle.run_verify.specs.Changes as changes
use Rattle.run_verify.specs.Passing.{effect_of, value_in}
use Rattle.run_verify.specs.Updates.{brings_value}
use Rattle.run_verify.specs.declared.change.Change.{Change}
use Rattle.run_verify.specs.declared.change.Effect.{Effect}
use Rattle.run_verify.specs.declared.change.Effect.TheVariants.{Writes, Removes, Keeps}
use Rattle.run_verify.proofs.ImpliedItems.{IsLeft, item-left}
use Rattle.run_verify.proofs.ImpliedPlaces.{run_told, runs_for}

-- what an effect says of the item that is left, and whether the act brings a value
abbrev pub IsKind : Effect → Option Holding → Bool → Type 0
IsKind (Writes value run) item brings = (h : Holding) × (item ≡ Some h) × (value ≡ h.item.value) × (brings ≡ true)
IsKind Removes item brings = (item ≡ None) × (brings ≡ false)
IsKind Keeps item brings = (h : Holding) × (item ≡ Some h) × (brings ≡ false)

-- a change stands for an update
pub record Matches (c : Change) (u : Logged) : Type 0 where
  pub key : c.key ≡ key_of u.entry.op.act
  pub run : u.run ≡ run_told c.effect
  pub kind : IsKind c.effect u.item (brings_value u.entry.op.act)

abbrev pub MatchAll : List Change → List Logged → Type 0
MatchAll [] [] = Unit {0}
MatchAll (c ∷ cs) (u ∷ us) = Matches c u × MatchAll cs us
MatchAll [] (u ∷ us) = ⊥
MatchAll (c ∷ cs) [] = ⊥

kind-of : (act : Act) (item : Option Holding) (run : Option Run) → IsLeft act item → IsKind (effect_of act (value_in item) run) item (brings_value act)
kind-of (Get key) item run left = absurd left
kind-of (Set key flags expiry value) item run (h, is) = (h, is, ap value_in is, refl)
kind-of (Add key flags expiry value) item run (h, is) = (h, is, ap value_in is, refl)
kind-of (Replace key flags expiry value) item run (h, is) = (h, is, ap value_in is, refl)
kind-of (Cas key flags expiry cas value) item run (h, is) = (h, is, ap value_in is, refl)
kind-of (Delete key) item run left = (left, refl)
kind-of (Touch key expiry) item run (h, is) = (h, is, refl)
kind-of (Append key value) item run (h, is) = (h, is, ap value_in is, refl)
kind-of (Prepend key value) item run (h, is) = (h, is, ap value_in is, refl)
kind-of (Incr key by) item run (h, is) = (h, is, ap value_in is, refl)
kind-of (Decr key by) item run (h, is) = (h, is, ap value_in is, refl)

-- the change of an entry
abbrev pub change_by : Contents → Entry → Option Run → Change
change_by t e run = record { key = key_of e.op.act; effect = effect_of e.op.act (value_in ((table_after t e.op).items (key_of e.op.act))) run }

pub change-matches : (t : Contents) (e : Entry) (run : Option Run) → e.reply ≡ reply_of t e.op → accepts e.reply ≡ true
    → Matches (change_by t e run) (record { entry = e; run = run_told (change_by t e run).effect; item = (table_after t e.op).items (key_of e.op.act) })
change-matches t e run is accepted = record {
  key = refl;
  run = refl;
  kind = kind-of e.op.act ((table_after t e.op).items (key_of e.op.act)) run (item-left t e.op (ap accepts (sym is) ∙ accepted));
}

-- ---- what they do

written-same : (effect : Effect) (u : Logged) (space : List ℕ) → u.run ≡ run_told effect
    → IsKind effect u.item (brings_value u.entry.op.act) → written_by effect space ≡ written u.run u.item space
written-same (Writes value (Some run)) u space run_is (h, item, same, brings) = rw (run_is, item, same) refl
written-same (Writes value None) u space run_is kind = rw run_is refl
written-same Removes u space run_is kind = rw run_is refl
written-same Keeps u space run_is kind = rw run_is refl

space-same : (cs : List Change) (us : List Logged) (space : List ℕ) → MatchAll cs us → changes.space_after_changes space cs ≡ space_from space us
space-same [] [] space all = refl
space-same [] (u ∷ us) space all = absurd all
space-same (c ∷ cs) [] space all = absurd all
space-same (c ∷ cs) (u ∷ us) space (one, all) =
    ap (λ (x : List ℕ). changes.space_after_changes x cs) (written-same c.effect u space one.run one.kind) ∙ space-same cs us (written u.run u.item space) all

take-matches : (n : ℕ) (cs : List Change) (us : List Logged) → MatchAll cs us → MatchAll (take n cs) (take n us)
take-matches zero cs us all = tt
take-matches (suc n) [] [] all = tt
take-matches (suc n) [] (u ∷ us) all = absurd all
take-matches (suc n) (c ∷ cs) [] all = absurd all
take-matches (suc n) (c ∷ cs) (u ∷ us) (one, all) = (one, take-matches n cs us all)

-- the same space after as many of them
pub spaces-same : (s : Dimensions) (cs : List Change) (us : List Logged) (n : ℕ) → MatchAll cs us
    → space_behind s (take n cs) ≡ space_from (replicate (space_of s) 0) (take n us)
spaces-same s cs us n all = space-same (take n cs) (take n us) (replicate (space_of s) 0) (take-matches n cs us all)

pub length-same : (cs : List Change) (us : List Logged) → MatchAll cs us → length cs ≡ length us
length-same [] [] all = refl
length-same [] (u ∷ us) all = absurd all
length-same (c ∷ cs) [] all = absurd all
length-same (c ∷ cs) (u ∷ us) (one, all) = ap suc (length-same cs us all)

pub runs-same : (cs : List Change) (us : List Logged) → MatchAll cs us → map (λ u. u.run) us ≡ runs_for cs
runs-same [] [] all = refl
runs-same [] (u ∷ us) all = absurd all
runs-same (c ∷ cs) [] all = absurd all
runs-same (c ∷ cs) (u ∷ us) (one, all) = let run = one.run in let rest = runs-same cs us all in cc (run, rest)

run-after : (effect : Effect) (u : Logged) (old : Option Run) → u.run ≡ run_told effect
    → IsKind effect u.item (brings_value u.entry.op.act) → run_by effect old ≡ item_run_after u.item u.run old
run-after (Writes value (Some run)) u old run_is (h, item, same, brings) = rw (run_is, item) refl
run-after (Writes value None) u old run_is (h, item, same, brings) = rw (run_is, item) refl
run-after Removes u old run_is (item, brings) = rw item refl
run-after Keeps u old run_is (h, item, brings) = rw (run_is, item) refl

run-unless : (b : Bool) (effect : Effect) (u : Logged) (old : Option Run)
    → run_by effect old ≡ item_run_after u.item u.run old → run_if b effect old ≡ run_unless b u old
run-unless true effect u old same = same
run-unless false effect u old same = refl

-- the same run of a key's item
pub item-run : (key : List ℕ) (cs : List Change) (us : List Logged) (old : Option Run) → MatchAll cs us → run_after_changes key old cs ≡ run_on key old us
item-run key [] [] old all = refl
item-run key [] (u ∷ us) old all = absurd all
item-run key (c ∷ cs) [] old all = absurd all
item-run key (c ∷ cs) (u ∷ us) old (one, all) =
    let step : run_if (same_key c.key key) c.effect old ≡ run_unless (same_key (key_of u.entry.op.act) key) u old =
    ap (λ (k : List ℕ). run_if (same_key k key) c.effect old) one.key
    ∙ run-unless (same_key (key_of u.entry.op.act) key) c.effect u old
    (run-after c.effect u old one.run one.kind) in
    ap (λ (o : Option Run). run_after_changes key o cs) step ∙ item-run key cs us (run_unless (same_key (key_of u.entry.op.act) key) u old) all

pub push-matches : (cs : List Change) (us : List Logged) (c : Change) (u : Logged) → MatchAll cs us → Matches c u → MatchAll (cs ++ c ∷ []) (us ++ u ∷ [])
push-matches [] [] c u all one = (one, tt)
push-matches [] (v ∷ us) c u all one = absurd all
push-matches (b ∷ cs) [] c u all one = absurd all
push-matches (b ∷ cs) (v ∷ us) c u (first, all) one = (first, push-matches cs us c u all one)
