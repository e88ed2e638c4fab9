use Rattle.std.proofs.Common.{◌≡◌, ℕ, suc, ◌+◌, ◌-◌, Bool, true, false, not, List, [], ◌∷◌, ◌++◌, length, drop, Option}
use Rattle.std.proofs.Common.{refl, sym, ap, ◌∙◌, if◌then◌else◌, arith}
use Rattle.memc_table.specs.Asked.{Asked}
use Rattle.memc_table.specs.declared.act.Act.{Act}
use Rattle.memc_table.specs.declared.act.Act.TheVariants as act
use Rattle.memc_proto.specs.declared.end.CallEnd.{CallEnd}
use Rattle.memc_proto.specs.declared.request.Request.{Request}
use Rattle.memc_proto.specs.declared.request.Request.TheVariants.{Get, Change, Version, Quit, Fail, Refused}
use Rattle.front_end.specs.Ahead.{acts_of, acts_ahead, unneeded_of}
use Rattle.front_end.specs.Settling.{IsDue, OrderIsDue, TextIsDue, HasSettledDue, HasTold}
use Rattle.front_end.specs.Turns.{is_reply}
use Rattle.front_end.specs.declared.due.Due.TheVariants as due

-- a call is due: it is the first of the acts
pub due-acts : (told : Option ℕ) (waiting : List Request) (op : Asked) → IsDue told waiting (due.Call op)
    → (rest : List Act) × (acts_ahead waiting ≡ op.act ∷ rest)
due-acts told [] op is = absurd is
due-acts told (Get [] with_cas ∷ others) op is = absurd (cc is)
due-acts told (Get (key ∷ keys) with_cas ∷ others) op is = (
  acts_of (Get keys with_cas) ++ acts_ahead others,
  ap (λ (a : Act). a ∷ (acts_of (Get keys with_cas) ++ acts_ahead others)) (sym is.0),
)
due-acts told (Change asked noreply ∷ others) op is = (acts_ahead others, ap (λ (a : Act). a ∷ acts_ahead others) (sym is.0))
due-acts told (Fail at keep ∷ others) op is = absurd (cc is)
due-acts told (Version ∷ others) op is = absurd (cc is)
due-acts told (Quit ∷ others) op is = absurd (cc is)
due-acts told (Refused refusal ∷ others) op is = absurd (cc is)

-- an order is due: no act may come ahead
pub order-acts : (waiting : List Request) → OrderIsDue waiting → acts_ahead waiting ≡ []
order-acts [] (told, at, keep, is) = absurd is
order-acts (Get [] with_cas ∷ others) (told, at, keep, is) = absurd (cc is)
order-acts (Get (key ∷ keys) with_cas ∷ others) (told, at, keep, is) = absurd is
order-acts (Change asked noreply ∷ others) (told, at, keep, is) = absurd is
order-acts (Fail process kept ∷ others) (told, at, keep, is) = refl
order-acts (Version ∷ others) (told, at, keep, is) = absurd (cc is)
order-acts (Quit ∷ others) (told, at, keep, is) = absurd (cc is)
order-acts (Refused refusal ∷ others) (told, at, keep, is) = absurd (cc is)

drop-all : {X : Type 0} (xs ys : List X) → drop (length xs) (xs ++ ys) ≡ ys
drop-all [] ys = refl
drop-all (x ∷ xs) ys = drop-all xs ys

drop-behind : {X : Type 0} (x : X) (xs ys : List X) → drop (1 + (length (x ∷ xs) - 1)) (x ∷ (xs ++ ys)) ≡ ys
drop-behind x xs ys = let e : 1 + (length (x ∷ xs) - 1) ≡ suc (length xs) = omega arith in ap (λ (n : ℕ). drop n (x ∷ (xs ++ ys))) e ∙ drop-all xs ys

-- the call that was due ended: its act is gone, and with it those that needn't be made any more
pub settled-acts : (told : Option ℕ) (op : Asked) (end : CallEnd) (before now : List ℕ) (waiting left : List Request)
    → IsDue told waiting (due.Call op) → HasSettledDue end before now waiting left
    → acts_ahead left ≡ drop (1 + unneeded_of end waiting) (acts_ahead waiting)
settled-acts told op end before now [] left is settled = absurd is
settled-acts told op end before now (Get [] with_cas ∷ others) left is settled = absurd (cc is)
settled-acts told op end before now (Get (key ∷ []) with_cas ∷ others) left is settled = ap acts_ahead settled.1 ∙ by (is_reply end)
  where
    by : (b : Bool) → acts_ahead others ≡ drop (1 + (if b then 0 else 0)) (act.Get key ∷ acts_ahead others)
    by true = refl
    by false = refl
settled-acts told op end before now (Get (key ∷ more ∷ keys) with_cas ∷ others) left is settled = by (is_reply end) settled.1
  where
    acts : List Act
    acts = acts_of (Get (more ∷ keys) with_cas)

    by : (b : Bool) → left ≡ (if not b then others else Get (more ∷ keys) with_cas ∷ others)
        → acts_ahead left ≡ drop (1 + (if b then 0 else length (acts_of (Get (key ∷ more ∷ keys) with_cas)) - 1)) (act.Get key ∷ (acts ++ acts_ahead others))
    by true left_is = ap acts_ahead left_is
    by false left_is = ap acts_ahead left_is ∙ sym (drop-behind (act.Get key) acts (acts_ahead others))
settled-acts told op end before now (Change asked noreply ∷ others) left is settled = ap acts_ahead settled.1 ∙ by (is_reply end)
  where
    by : (b : Bool) → acts_ahead others ≡ drop (1 + (if b then 0 else 0)) (asked ∷ acts_ahead others)
    by true = refl
    by false = refl
settled-acts told op end before now (Fail at keep ∷ others) left is settled = absurd (cc is)
settled-acts told op end before now (Version ∷ others) left is settled = absurd (cc is)
settled-acts told op end before now (Quit ∷ others) left is settled = absurd (cc is)
settled-acts told op end before now (Refused refusal ∷ others) left is settled = absurd (cc is)

-- a text was due and is written: the acts stay
pub told-acts : (text before now : List ℕ) (waiting left : List Request) → TextIsDue waiting
    → HasTold text before now waiting left → acts_ahead left ≡ acts_ahead waiting
told-acts text before now [] left (told, is) settled = absurd is
told-acts text before now (Get [] with_cas ∷ others) left (told, is) settled = ap acts_ahead settled.1
told-acts text before now (Get (key ∷ keys) with_cas ∷ others) left (told, is) settled = absurd is
told-acts text before now (Change asked noreply ∷ others) left (told, is) settled = absurd is
told-acts text before now (Fail at keep ∷ others) left (told, is) settled = absurd (cc is)
told-acts text before now (Version ∷ others) left (told, is) settled = ap acts_ahead settled.1
told-acts text before now (Quit ∷ others) left (told, is) settled = ap acts_ahead settled.1
told-acts text before now (Refused refusal ∷ others) left (told, is) settled = ap acts_ahead settled.1
