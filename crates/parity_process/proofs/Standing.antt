-- What a parity process's bytes stand under, and that it can lead.
use Rattle.std.proofs.Common.{ℕ, ◌≡◌, ◌<◌, [], List, Result, Ok, Err, IfOk, OnErr, true, is_some, Option, Some, None, refl, sym, ap, ap₂, subst, ◌∙◌, arith}
use Rattle.std.specs.declared.alloc.AllocError.{AllocError}
use Rattle.std.specs.Prelude.{All}
use Rattle.std.specs.List.{range_with_len}
use Rattle.std.proofs.lemmas.List.{length-replicate}
use Rattle.std.proofs.lemmas.List.Elements.{All-nil}
use Rattle.group_types.specs.Dimensions.{Dimensions}
use Rattle.group_types.specs.Hash.{home_of}
use Rattle.group_types.specs.Lists.{at}
use Rattle.group_types.specs.Shape.{IsShape}
use Rattle.group_types.specs.declared.process.ProcessId.{ProcessId}
use Rattle.group_types.specs.declared.process.ProcessId.TheVariants.{ParityNode}
use Rattle.group_message.specs.declared.message.Message.{Message}
use Rattle.group_run.specs.Applying.{ProcessStep, head_at}
use Rattle.group_run.specs.Fitting.{Fits}
use Rattle.group_run.specs.Receiving.{receive}
use Rattle.group_types.proofs.Lists.{at-replicate}
use Rattle.memc_table.specs.Act.{key_of}
use Rattle.memc_table.specs.Asked.{Asked}
use Rattle.group_calls.specs.Turns.{CallName}
use Rattle.group_calls.specs.declared.event.Answer.{Answer}
use Rattle.group_run.specs.Asking.{CallStep, Oldest, ask_head, ask_process, collect_from, oldest_inherited, only, retry_block}
use Rattle.group_run.specs.Process.{Head, Process, opening_process}
use Rattle.group_run.specs.Replica.{Replica, empty_replica}
use Rattle.head_service.specs.Serving.{Serving, serving}
use Rattle.process_service.specs.Standing.{at_start}
use Rattle.process_service.proofs.Names.{asked-name, received-name}
use Rattle.head_service.specs.declared.ask.Asking.TheVariants.{Need}
use Rattle.head_service.specs.declared.step.CallStep as answered
use Rattle.process_service.specs.Steps.{IsCallAsked, called, machine_step}
use Rattle.process_service.specs.declared.step.Step.{Step}
use Rattle.leader_role.specs.Sound.{IsOfGroup, CanLead}
use Rattle.leader_role.proofs.Laws.{asked-sound, collected-sound, opening, received-sound}
use Rattle.parity_bytes.specs.Bytes.{BytesAreReady, ParityHolding}
use Rattle.parity_process.specs.Opening.{HeadsOne}
use Rattle.parity_process.specs.Standing.{BytesAreBeneath, BytesAreReadyFor}

-- the bytes at the start
abbrev pub no_bytes : Dimensions → ℕ → ParityHolding
no_bytes s number = record { shape = s; made = []; process = opening_process s (ParityNode number) }

opening-ready : (s : Dimensions) (number : ℕ) → IsShape s → number < s.m → BytesAreReadyFor (at_start s (ParityNode number)) (no_bytes s number)
opening-ready s number limits within = record {
  over = record {
    shape = refl;
    name = refl;
    blocks = length-replicate s.k _;
    ready = λ d inside. subst (λ (r : Replica). All (BytesAreReady (no_bytes s number) d) r.log)
        (sym (at-replicate empty_replica s.k d)) (All-nil (BytesAreReady (no_bytes s number) d));
  };
  sound = opening s number limits within;
}

-- at the start nothing has to be ready
pub starts-ready : (s : Dimensions) (number : ℕ) (v : Serving) (h : ParityHolding) → IsShape s → number < s.m
    → v ≡ at_start s (ParityNode number) → h ≡ no_bytes s number → BytesAreReadyFor v h
starts-ready s number v h limits within service bytes =
    subst (λ (x : Serving). BytesAreReadyFor x h) (sym service)
    (subst (λ (x : ParityHolding). BytesAreReadyFor (at_start s (ParityNode number)) x) (sym bytes) (opening-ready s number limits within))

-- the bytes are beneath the same replicas
same-replicas : (v w : Serving) (h : ParityHolding) → w.shape ≡ v.shape → w.name ≡ v.name → w.replicas ≡ v.replicas → BytesAreBeneath v h → BytesAreBeneath w h
same-replicas v w h shape name replicas over = record {
  shape = over.shape ∙ sym shape;
  name = over.name ∙ sym name;
  blocks = over.blocks ∙ ap (λ (s : Dimensions). s.k) (sym shape);
  ready = λ d within. subst (λ (rs : List Replica). All (BytesAreReady h d) (at empty_replica rs d).log) (sym replicas)
      (over.ready d (subst (λ (s : Dimensions). d < s.k) shape within));
}

-- a process that this one became, over bytes that are beneath it
pub became : (v w : Serving) (g h : ParityHolding) (q : Process) → w.shape ≡ v.shape → BytesAreBeneath w h → q ≡ serving w h.process → CanLead v.shape q
    → BytesAreReadyFor w h
became v w g h q shape over is sound = record {
  over = over;
  sound = subst (λ (s : Dimensions). CanLead s (serving w h.process)) (sym shape) (subst (CanLead v.shape) is sound);
}

pub collected-ready : (v w : Serving) (h : ParityHolding) (caller call : ℕ) (answer : Answer) → w.shape ≡ v.shape → w.name ≡ v.name → w.replicas ≡ v.replicas
    → collect_from caller call (serving v h.process) (range_with_len 0 v.shape.k) ≡ only answer (serving w h.process) → BytesAreReadyFor v h
    → BytesAreReadyFor w h
collected-ready v w h caller call answer shape name replicas is ready =
    let all : List ℕ = range_with_len 0 v.shape.k in
    became v w h h (collect_from caller call (serving v h.process) all).step.process shape (same-replicas v w h shape name replicas ready.over)
    (ap (λ (step : CallStep). step.step.process) is) (collected-sound v.shape caller call (serving v h.process) all ready.sound)

-- a process that received a message, or wanted memory for it
pub received-ready : (v w : Serving) (g h : ParityHolding) (from : ProcessId) (m : Message) (result : Result Step AllocError) → BytesAreReadyFor v g
    → Fits v.shape from m (serving v g.process) → IsOfGroup v.shape m (serving v g.process) → w.shape ≡ v.shape → BytesAreBeneath w h
    → IfOk result (λ step. receive v.shape from m (serving v g.process) ≡ machine_step (serving w h.process) step)
    → OnErr result (w ≡ v) → OnErr result (h.process ≡ g.process) → BytesAreReadyFor w h
received-ready v w g h from m (Ok step) ready fits group shape over is same_service same_bytes =
    became v w g h (receive v.shape from m (serving v g.process)).process shape over (ap (λ (x : ProcessStep). x.process) is)
    (received-sound v.shape from m (serving v g.process) ready.sound fits group)
received-ready v w g h from m (Err e) ready fits group shape over is same_service same_bytes =
    became v w g h (serving v g.process) shape over (sym (ap₂ serving same_service same_bytes)) ready.sound

-- a process that was asked
pub asked-ready : (v w : Serving) (g h : ParityHolding) (name : CallName) (op : Asked) → BytesAreReadyFor v g → w.shape ≡ v.shape → BytesAreBeneath w h
    → (ask_process v.shape name op (serving v g.process)).step.process ≡ serving w h.process → BytesAreReadyFor w h
asked-ready v w g h name op ready shape over is =
    became v w g h (ask_process v.shape name op (serving v g.process)).step.process shape over is
    (asked-sound v.shape name op (serving v g.process) ready.sound)

-- a process that needs a block for a call heads a partition
headed : (s : Dimensions) (block d : ℕ) (oldest : Option Oldest) (p : Process) (name : CallName) (op : Asked) (o : Option Head) → head_at p d ≡ o
    → ask_head s name op d p o ≡ retry_block s block oldest p → is_some (head_at p d) ≡ true
headed s block d None p name op None there is = absurd (cc (ap (λ (step : CallStep). step.answer) is))
headed s block d (Some oldest) p name op None there is = absurd (cc (ap (λ (step : CallStep). step.answer) is))
headed s block d oldest p name op (Some h) there is = ap is_some there

pub needs-headed : (v : Serving) (h : ParityHolding) (block : ℕ) (oldest : Option Oldest) (name : CallName) (op : Asked) → BytesAreReadyFor v h
    → ask_process v.shape name op (serving v h.process) ≡ retry_block v.shape block oldest (serving v h.process) → HeadsOne v
needs-headed v h block oldest name op ready is =
    let d : ℕ = home_of (key_of op.act) v.shape.k in (
      d,
      omega (arith, ready.sound.limits.k.0),
      headed v.shape block d oldest (serving v h.process) name op (head_at (serving v h.process) d) refl is,
    )

-- a process that needed a block for a call, and opened a session for it, or not, or wanted memory for it
pub retried-ready : (v v2 w : Serving) (g g2 h : ParityHolding) (name : CallName) (op : Asked) (block : ℕ)
    (result : Result answered.CallStep AllocError) → BytesAreReadyFor v g
    → v2.shape ≡ v.shape → IsCallAsked v.shape name op (serving v g.process) (Need block) (serving v2 g2.process) → w.shape ≡ v2.shape → BytesAreBeneath w h
    → IfOk result (λ step. retry_block v2.shape block (oldest_inherited (serving v2 g2.process) (range_with_len 0 v2.shape.k)) (serving v2 g2.process)
    ≡ called (serving w h.process) step)
    → OnErr result (w ≡ v2) → OnErr result (h.process ≡ g2.process) → BytesAreReadyFor w h
retried-ready v v2 w g g2 h name op block (Ok step) ready shape asked shape2 over is same_service same_bytes =
    asked-ready v w g h name op ready (shape2 ∙ shape) over (ap (λ (x : CallStep). x.step.process) (asked.0
    ∙ ap₂ (λ (s : Dimensions) (x : Process). retry_block s block (oldest_inherited x (range_with_len 0 s.k)) x) (sym shape) (sym asked.1) ∙ is))
retried-ready v v2 w g g2 h name op block (Err e) ready shape asked shape2 over is same_service same_bytes =
    became v w g h (serving v g.process) (shape2 ∙ shape) over (sym (ap₂ serving same_service same_bytes ∙ asked.1)) ready.sound

-- neither changes the name
pub received-named : (v w : Serving) (g h : ParityHolding) (from : ProcessId) (m : Message) (result : Result Step AllocError)
    → IfOk result (λ step. receive v.shape from m (serving v g.process) ≡ machine_step (serving w h.process) step)
    → OnErr result (w ≡ v) → OnErr result (h.process ≡ g.process) → (serving w h.process).name ≡ (serving v g.process).name
received-named v w g h from m (Ok step) is same_service same_bytes =
    received-name v.shape from m (serving v g.process) (serving w h.process) (Ok step) is tt
received-named v w g h from m (Err e) is same_service same_bytes = ap (λ (p : Process). p.name) (ap₂ serving same_service same_bytes)

pub retried-named : (v v2 w : Serving) (g g2 h : ParityHolding) (name : CallName) (op : Asked) (block : ℕ)
    (result : Result answered.CallStep AllocError) → v2.shape ≡ v.shape
    → IsCallAsked v.shape name op (serving v g.process) (Need block) (serving v2 g2.process)
    → IfOk result (λ step. retry_block v2.shape block (oldest_inherited (serving v2 g2.process) (range_with_len 0 v2.shape.k)) (serving v2 g2.process)
    ≡ called (serving w h.process) step)
    → OnErr result (w ≡ v2) → OnErr result (h.process ≡ g2.process) → (serving w h.process).name ≡ (serving v g.process).name
retried-named v v2 w g g2 h name op block (Ok step) shape asked is same_service same_bytes =
    asked-name v.shape name op (serving v g.process) (serving w h.process) (Ok step) (asked.0
    ∙ ap₂ (λ (s : Dimensions) (x : Process). retry_block s block (oldest_inherited x (range_with_len 0 s.k)) x) (sym shape) (sym asked.1) ∙ is) tt
retried-named v v2 w g g2 h name op block (Err e) shape asked is same_service same_bytes =
    ap (λ (p : Process). p.name) (ap₂ serving same_service same_bytes ∙ asked.1)
