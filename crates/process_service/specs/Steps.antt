-- What the calls of a process make, in the machine's words.
use Rattle.std.specs.Prelude.{◌≡◌, ℕ, List, ◌++◌}
use Rattle.std.specs.List.{range_with_len}
use Rattle.group_types.specs.Dimensions.{Dimensions}
use Rattle.group_types.specs.declared.process.ProcessId.TheVariants.{ParityNode}
use Rattle.group_calls.specs.Turns.{CallName}
use Rattle.group_run.specs.Applying.{ProcessStep, Settlement, and_then, for_each}
use Rattle.group_run.specs.Asking.{CallStep, ask_process, oldest_inherited, retry_block}
use Rattle.group_run.specs.Heading.{judge}
use Rattle.group_run.specs.Process.{Process}
use Rattle.group_run.specs.Receiving.{take_over_if}
use Rattle.memc_table.specs.Asked.{Asked}
use Rattle.head_service.specs.declared.ask.Asking.{Asking}
use Rattle.head_service.specs.declared.step.CallStep as answered
use Rattle.process_service.specs.declared.step.Step as made
use Rattle.head_service.specs.declared.ask.Asking.TheVariants.{Done, Need}

-- the machine's step after which a process stands like this, and which makes what the code's step has
abbrev pub machine_step : Process → made.Step → ProcessStep
machine_step p step = record { process = p; sent = step.sent.items; settled = step.settled.items }

-- the same of a call, with its answer
abbrev pub called : Process → answered.CallStep → CallStep
called p step = record { step = record { process = p; sent = step.sent.items; settled = step.settled.items }; answer = step.answer }

-- a call was asked: the machine's step was made; or a parity process needs this block, for which nothing was done yet
abbrev pub IsCallAsked : Dimensions → CallName → Asked → Process → Asking → Process → Type 0
IsCallAsked s name op p (Done step) q =
    ask_process s name op p ≡ called q step
IsCallAsked s name op p (Need block) q =
    (ask_process s name op p ≡ retry_block s block (oldest_inherited p (range_with_len 0 s.k)) p) × (q ≡ p) × ((i : ℕ) × (p.name ≡ ParityNode i))

-- what a notice makes once the death is known: acknowledgements are judged anew, and partitions taken over, in order
abbrev pub after_mourning : Dimensions → Process → ProcessStep
after_mourning s p = and_then (for_each (range_with_len 0 s.k) (judge s) p) (for_each (range_with_len 0 s.k) (take_over_if s))

-- the process after a step, and what was settled before with what the step settled behind
pub record HasMade (step : ProcessStep) (before : List Settlement) (q : Process) (after : List Settlement) : Type 0 where
  pub process : q ≡ step.process
  pub settled : after ≡ before ++ step.settled
