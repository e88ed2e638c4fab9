use Rattle.std.proofs.Common.{◌≡◌, ℕ, suc, ◌+◌, ◌<◌, ◌≤◌, get_or, drop, add-one, List, [], ◌∷◌, ◌++◌, length, Result}
use Rattle.std.proofs.Common.{Ok, Err, IfErr, OnOk, MatchResult, refl, sym, ap, ◌∙◌, subst, arith}
use Rattle.std.proofs.Math.Seq.{drop-cons}
use Rattle.std.specs.Result.{IsErrAnd}
use Rattle.edge_io.specs.Faults.{Rose}
use Rattle.front_end.specs.Faults.{HasSinkCause, IsOfSink}
use Rattle.front_end.specs.declared.end.ConnectionFault.{ConnectionFault}
use Rattle.front_end.specs.declared.end.ConnectionFault.TheVariants.{ReadFault, WriteFault, Want}

-- a fault that is handed on
pub on_fault : {T : Type 0} (P : T → Type 0) (Q : ConnectionFault → Type 0) (result : Result T ConnectionFault)
    (fault : ConnectionFault) → IsErrAnd result (λ e. e ≡ fault) → Q fault → MatchResult result P Q
on_fault P Q (Ok _) fault is holds = absurd is
on_fault P Q (Err e) fault is holds = subst Q (sym is) holds

pub if-fault : {T : Type 0} (Q : ConnectionFault → Type 0) (result : Result T ConnectionFault) (fault : ConnectionFault)
    → IsErrAnd result (λ e. e ≡ fault) → Q fault → IfErr result Q
if-fault Q (Ok _) fault is holds = absurd is
if-fault Q (Err e) fault is holds = subst Q (sym is) holds

-- what holds at each fault, and what follows where there is none
pub if-any : {T : Type 0} (Q : ConnectionFault → Type 0) (result : Result T ConnectionFault) → ((fault : ConnectionFault) → Q fault) → IfErr result Q
if-any Q (Ok _) holds = tt
if-any Q (Err fault) holds = holds fault

pub if-none : {T P Q : Type 0} (result : Result T ConnectionFault) → (P → Q) → OnOk result P → OnOk result Q
if-none (Ok _) follows holds = follows holds
if-none (Err fault) follows holds = tt

-- the sink's count did not fall in two calls, of which the later has the fault
pub cause-then : {T : Type 0} (before now after : ℕ) (result : Result T ConnectionFault) → before ≤ now
    → HasSinkCause now after result → HasSinkCause before after result
cause-then before now after (Ok _) earlier cause = record { later = omega (arith, earlier, cause.later); cause = tt }
cause-then before now after (Err ReadFault) earlier cause = record { later = omega (arith, earlier, cause.later); cause = cause.cause }
cause-then before now after (Err WriteFault) earlier cause =
    record {
      later = omega (arith, earlier, cause.later);
      cause = let rose : Rose now after = cause.cause in
          omega (arith, earlier, rose);
    }
cause-then before now after (Err Want) earlier cause = record { later = omega (arith, earlier, cause.later); cause = tt }

pub cause-handed : {T U : Type 0} (before now after : ℕ) (found : Result T ConnectionFault) (result : Result U ConnectionFault) (fault : ConnectionFault)
    → before ≤ now → HasSinkCause now after found → found ≡ Err fault → IsErrAnd result (λ e. e ≡ fault) → HasSinkCause before after result
cause-handed before now after found (Ok _) fault earlier cause was is = absurd is
cause-handed {T} {U} before now after found (Err e) fault earlier cause was is =
    let mine : HasSinkCause {T = T} now after (Err fault) = subst (HasSinkCause now after) was cause in
    let kept : HasSinkCause {T = T} before after (Err fault) = cause-then before now after (Err fault) earlier mine in
    record { later = kept.later; cause = subst (IsOfSink before after) (sym is) kept.cause }

pub cause-none : {T : Type 0} (before now : ℕ) (x : T) → before ≤ now → HasSinkCause {T = T} before now (Ok x)
cause-none before now x earlier = record { later = earlier; cause = tt }

-- the rest of a list at an index within it
pub rest_at : {X : Type 0} (xs : List X) (i : ℕ) (x : X) → i < length xs → x ≡ get_or xs i x → drop i xs ≡ x ∷ drop (i + 1) xs
rest_at {X} xs i x within is = drop-cons xs i x within ∙ rw add-one (ap (λ (y : X). y ∷ drop (suc i) xs) (sym is))

-- the same where one more stands behind the list
pub rest-with : {X : Type 0} (xs : List X) (last : X) (i : ℕ) (x : X) → i < length xs → x ≡ get_or xs i x → drop i xs
    ++ last ∷ [] ≡ x ∷ (drop (i + 1) xs ++ last ∷ [])
rest-with {X} xs last i x within is = ap (λ (ys : List X). ys ++ last ∷ []) (rest_at xs i x within is)

pub none-at-all : {X : Type 0} (xs : List X) → length xs ≡ 0 → xs ≡ []
none-at-all [] none = refl
none-at-all (x ∷ xs) none = absurd (cc none)
