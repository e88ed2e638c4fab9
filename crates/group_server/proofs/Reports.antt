-- What is told of a group that is served by settings, from what became of each step.
use Rattle.std.proofs.Common.{◌≡◌, ℕ, ◌+◌, min, inl, inr, List, ◌++◌, length, take, Option, Some, Result, Ok, Err, IfOk, OnErr, sym, subst, ◌∙◌, arith}
use Rattle.std.specs.Result.{IsErrAnd}
use Rattle.std.proofs.Math.Seq.{take-append-add, take-length}
use Rattle.std.proofs.lemmas.List.{take-append-le, take_min}
use Rattle.edge_io.specs.Moving.{Appends, Input}
use Rattle.edge_io.specs.Writing.{HasWritten}
use Rattle.edge_io.proofs.Moving.{Appends-nil, Appends-trans}
use Rattle.group_config.specs.Reading.{ComesOf}
use Rattle.group_config.specs.Text.{HasReadSettings}
use Rattle.group_config.specs.declared.fault.ConfigFault.{ConfigFault}
use Rattle.group_config.specs.declared.fault.ConfigFault.TheVariants as config
use Rattle.group_config.specs.declared.settings.Settings.{Settings}
use Rattle.node_worker.specs.Served.{HasAccepted, IsDone}
use Rattle.node_worker.specs.declared.fault.ServeFault.{ServeFault}
use Rattle.node_worker.specs.declared.fault.ServeFault.TheVariants as serving
use Rattle.group_server.specs.Faults.{of_config}
use Rattle.group_server.specs.Service.{HasServedBy, Tally, listening, served}
use Rattle.group_server.specs.Steps.{HasNotOpened, HasReported, IsGivenOr}
use Rattle.group_server.specs.declared.fault.ServiceFault.{ServiceFault}
use Rattle.group_server.specs.declared.fault.ServiceFault.TheVariants.{TooLong, BadConfig, ReadFault, WriteFault, AcceptFault, Want}

-- a text that gives no settings
pub refused : (before now : Input) (text : List ℕ) (fault : ConfigFault) (out : Result Settings ServiceFault)
    → HasReadSettings before now text → ComesOf text (Err fault)
    → IsErrAnd out (λ e. e ≡ of_config fault) → IsGivenOr before now out
refused before now text fault (Ok settings) read comes is = absurd is
refused before now text (config.BadConfig key) (Err e) read comes is =
    subst (λ (f : ServiceFault). IsGivenOr before now (Err f)) (sym is)
    (record { text = text; read = read; refuses = comes })
refused before now text config.Want (Err e) read comes is = subst (λ (f : ServiceFault). IsGivenOr before now (Err f)) (sym is) tt

-- a front of a text is one of a longer text
front : (before now text more : List ℕ) → HasWritten before now text → HasWritten before now (text ++ more)
front before now text more wrote = record {
  count = min wrote.count (length text);
  bytes = subst (Appends before now) (sym (take-append-le (min wrote.count (length text)) text more (omega arith) ∙ take_min wrote.count text)) wrote.bytes;
}

-- and so is a front behind a whole text
behind : (before middle now text more : List ℕ) → Appends before middle text → HasWritten middle now more → HasWritten before now (text ++ more)
behind before middle now text more whole wrote = record {
  count = length text + wrote.count;
  bytes = subst (Appends before now) (sym (take-append-add text more wrote.count))
      (Appends-trans before middle now text (take wrote.count more) whole wrote.bytes);
}

all : (before now text : List ℕ) → Appends before now text → HasWritten before now text
all before now text bytes = record { count = length text; bytes = subst (Appends before now) (sym (take-length text)) bytes }

-- there was no memory for the last line
pub no-line : (held : List ℕ) (end : Result ℕ ServeFault) (n : ℕ) (out : Result ℕ ServiceFault) → end ≡ Ok n
    → IsErrAnd out (λ e. e ≡ Want) → HasReported held held end out
no-line held end n (Ok m) ended is = absurd is
no-line held end n (Err e) ended is = subst (λ (x : Result ℕ ServeFault). HasReported held held x (Err e)) (sym ended)
    (subst (λ (f : ServiceFault). HasReported held held (Ok n) (Err f)) (sym is) (record { count = 0; bytes = Appends-nil held }))

module _ {L : Type 0} (listened : L → List ℕ → L → Type 0) (tells : L → Tally) (settings : Settings) (held held_now : List ℕ) (l l_now : L) where
  abbrev Serves : Result ℕ ServiceFault → Type 0
  Serves out = HasServedBy listened tells settings held held_now l l_now out

  -- no connection was to come
  pub not-opened : (fault : ServiceFault) (out : Result ℕ ServiceFault) → (tells l_now).accepted ≡ (tells l).accepted
      → HasNotOpened listened tells settings held held_now l l_now fault → IsErrAnd out (λ e. e ≡ fault) → Serves out
  not-opened fault (Ok n) same failed is = absurd is
  not-opened fault (Err e) same failed is = subst (λ (f : ServiceFault). Serves (Err f)) (sym is) (by fault failed) where
    by : (f : ServiceFault) → HasNotOpened listened tells settings held held_now l l_now f → Serves (Err f)
    by AcceptFault failed = inl (same, failed.0, failed.1)
    by WriteFault failed = (
      0,
      record {
        middle = l_now;
        listens = failed.0;
        at = failed.1;
        accepted = record { count = omega (arith, same); within = λ some. omega arith };
      },
      front held held_now listening (served 0) failed.2,
    )
    by Want failed = (0, front held held_now listening (served 0) failed)
    by TooLong failed = absurd failed
    by (BadConfig key) failed = absurd failed
    by ReadFault failed = absurd failed

  -- connections were to come
  module _ (middle : L) (held_middle : List ℕ) (listens : listened l settings.address middle)
      (at : (tells l_now).at ≡ Some settings.address) (wrote : Appends held held_middle listening) where
    pub opened : (end : Result ℕ ServeFault) (out : Result ℕ ServiceFault)
        → IfOk end (λ n. HasAccepted (tells middle).accepted (tells l_now).accepted settings.connections n)
        → IfOk end (λ n. IsDone settings.connections n (tells l_now).over)
        → OnErr end ((n : ℕ) × HasAccepted (tells middle).accepted (tells l_now).accepted settings.connections n)
        → HasReported held_middle held_now end out → Serves out
    opened (Ok n) (Ok m) accepted done fault told = subst (λ (x : ℕ). Serves (Ok x)) (sym told.0) (
      record { middle = middle; listens = listens; at = at; accepted = accepted },
      done,
      Appends-trans held held_middle held_now listening (served n) wrote told.1,
    )
    opened (Ok n) (Err WriteFault) accepted done fault told = (
      n,
      record { middle = middle; listens = listens; at = at; accepted = accepted },
      behind held held_middle held_now listening (served n) wrote told,
    )
    opened (Ok n) (Err Want) accepted done fault told = (n, behind held held_middle held_now listening (served n) wrote told)
    opened (Ok n) (Err AcceptFault) accepted done fault told = absurd told
    opened (Ok n) (Err TooLong) accepted done fault told = absurd told
    opened (Ok n) (Err (BadConfig key)) accepted done fault told = absurd told
    opened (Ok n) (Err ReadFault) accepted done fault told = absurd told
    opened (Err serving.AcceptFault) out accepted done fault told = subst Serves (sym told.0)
        (inr (
          fault.0,
          record { middle = middle; listens = listens; at = at; accepted = fault.1 },
          subst (λ (h : List ℕ). Appends held h listening) (sym told.1) wrote,
        ))
    opened (Err serving.Want) out accepted done fault told = subst Serves (sym told.0)
        (0, front held held_now listening (served 0) (all held held_now listening (subst (λ (h : List ℕ). Appends held h listening) (sym told.1) wrote)))
