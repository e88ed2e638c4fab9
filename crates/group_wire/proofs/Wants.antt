-- Every action that may come keeps what clients asked.
use Rattle.std.proofs.Common.{ℕ, ◌≡◌, ◌≢◌, ◌<◌, ◌==◌, ◌⊎◌, inl, inr, Bool, true, false, List, ◌++◌, Option, Some, None, refl, sym, ap, subst, arith}
use Rattle.std.proofs.lemmas.Bool.{cases_eq, eq-eqb, ne_eqb}
use Rattle.group_types.specs.Dimensions.{Dimensions}
use Rattle.group_types.specs.declared.process.ProcessId.{ProcessId}
use Rattle.memc_table.specs.Asked.{Asked}
use Rattle.group_calls.specs.declared.event.Answer.{Answer}
use Rattle.group_wire.specs.Composed.{Made}
use Rattle.group_wire.specs.Sets.{Processes, one_or}
use Rattle.group_wire.specs.State.{Told, Stage, Unasked, AskedOf, Unknown, TracedAt, Answered, OpenCall}
use Rattle.group_wire.specs.Serving.{again, call_learned, stage_given_up, stage_learned, stage_told}
use Rattle.group_wire.proofs.Answering.{told-which}
use Rattle.group_wire.proofs.Calling.{again-which}
use Rattle.group_wire.proofs.Positions.{CallFits, NoneWait, StageFits, asked_by, asks-made}
use Rattle.group_wire.proofs.Wanting.{AskIs, ask-none, ask-past, op_of}

-- the asks of a call at a stage are for its op
abbrev pub AskStage : List Made → ℕ → ℕ → Asked → Stage → Type 0
AskStage made caller position op Unasked = Unit {0}
AskStage made caller position op (AskedOf x) = AskIs made caller position op
AskStage made caller position op Unknown = AskIs made caller position op
AskStage made caller position op (TracedAt x) = AskIs made caller position op
AskStage made caller position op (Answered t n) = AskIs made caller position op

abbrev pub AskCall : List Made → ℕ → Option OpenCall → Type 0
AskCall made caller None = Unit {0}
AskCall made caller (Some o) = AskStage made caller o.position o.op o.stage

-- the ask of a call that was answered is made, and for its op
abbrev pub Firm : List Made → ℕ → ℕ → Asked → Type 0
Firm made caller position op = (position < asked_by made caller) × AskIs made caller position op

abbrev pub FirmStage : List Made → ℕ → Bool → ℕ → ℕ → Asked → Stage → Type 0
FirmStage made caller lost lived position op (Answered t n) = (lost ≡ false) ⊎ (n < lived) → Firm made caller position op
FirmStage made caller lost lived position op _ = Unit {0}

abbrev pub FirmCall : List Made → ℕ → Bool → ℕ → Option OpenCall → Type 0
FirmCall made caller lost lived None = Unit {0}
FirmCall made caller lost lived (Some o) = FirmStage made caller lost lived o.position o.op o.stage

pub firm-more : (made more : List Made) (caller position : ℕ) (op : Asked) → Firm made caller position op → Firm (made ++ more) caller position op
firm-more made more caller position op f = (
  (let low = f.0 in let all = asks-made caller made more in omega (arith, low, all)),
  ask-past made more caller position op f.0 f.1,
)

-- a stage is firm with more events, where whoever now counts as living did before
firm-stage : (made more : List Made) (caller : ℕ) (lost now : Bool) (lived later position : ℕ) (op : Asked) (stage : Stage)
    → ((t : Told) (n : ℕ) → stage ≡ Answered t n → (now ≡ false) ⊎ (n < later) → (lost ≡ false) ⊎ (n < lived))
    → FirmStage made caller lost lived position op stage → FirmStage (made ++ more) caller now later position op stage
firm-stage made more caller lost now lived later position op (Answered t n) was f = λ alive. firm-more made more caller position op (f (was t n refl alive))
firm-stage made more caller lost now lived later position op Unasked was f = tt
firm-stage made more caller lost now lived later position op (AskedOf x) was f = tt
firm-stage made more caller lost now lived later position op Unknown was f = tt
firm-stage made more caller lost now lived later position op (TracedAt x) was f = tt

pub firm-call : (made more : List Made) (caller : ℕ) (lost now : Bool) (lived later : ℕ) (call : Option OpenCall)
    → ((o : OpenCall) (t : Told) (n : ℕ) → call ≡ Some o → o.stage ≡ Answered t n → (now ≡ false) ⊎ (n < later) → (lost ≡ false) ⊎ (n < lived))
    → FirmCall made caller lost lived call → FirmCall (made ++ more) caller now later call
firm-call made more caller lost now lived later None was f = tt
firm-call made more caller lost now lived later (Some o) was f = firm-stage made more caller lost now lived later
    o.position o.op o.stage (λ t n is. was o t n refl is) f

-- asks with more events: those of this position were made before, or come now
asks-stage : (s : Dimensions) (failed : Processes) (wait : ProcessId → ℕ) (made more : List Made) (caller next position : ℕ) (op : Asked) (stage : Stage)
    → StageFits s failed wait (asked_by made caller) next position stage
    → ((x : ProcessId) → stage ≡ AskedOf x → asked_by made caller ≡ position → AskIs (made ++ more) caller position
    op)
    → AskStage made caller position op stage → AskStage (made ++ more) caller position op stage
asks-stage s failed wait made more caller next position op Unasked fits now a = tt
asks-stage s failed wait made more caller next position op (AskedOf x) fits now a = by fits.2 where
  by : (asked_by made caller ≡ position) ⊎ ((asked_by made caller ≡ next) × NoneWait s failed wait) → AskIs (made ++ more) caller position op
  by (inl same) = now x refl same
  by (inr same) = let one = same.0 in let two = fits.1 in ask-past made more caller position op (omega (arith, one, two)) a
asks-stage s failed wait made more caller next position op Unknown fits now a = let one = fits.0 in let two = fits.2 in
    ask-past made more caller position op (omega (arith, one, two)) a
asks-stage s failed wait made more caller next position op (TracedAt x) fits now a = let one = fits.0 in let two =
    fits.2 in ask-past made more caller position op (omega (arith, one, two)) a
asks-stage s failed wait made more caller next position op (Answered t n) fits now a = let one = fits.0 in let two =
    fits.3 in ask-past made more caller position op (omega (arith, one, two)) a

pub asks-call : (s : Dimensions) (failed : Processes) (wait : ProcessId → ℕ) (made more : List Made) (caller next : ℕ) (call : Option OpenCall)
    → CallFits s failed wait (asked_by made caller) next call
    → ((o : OpenCall) (x : ProcessId) → call ≡ Some o → o.stage ≡ AskedOf x → asked_by made caller ≡ o.position
    → AskIs (made ++ more) caller o.position o.op)
    → AskCall made caller call → AskCall (made ++ more) caller call
asks-call s failed wait made more caller next None fits now a = tt
asks-call s failed wait made more caller next (Some o) fits now a = asks-stage s failed wait made more caller next
    o.position o.op o.stage fits.1 (λ x is same. now o x refl is same) a

-- where no ask is made
pub asks-stay : (made more : List Made) (caller position : ℕ) (op : Asked) → asked_by made ≡ asked_by (made ++ more)
    → asked_by made caller ≡ position → AskIs (made ++ more) caller position op
asks-stay made more caller position op same at = ask-none (made ++ more) caller position op
    (let now : asked_by made caller ≡ asked_by (made ++ more) caller = ap (λ (f : ℕ → ℕ). f caller) same in
    omega (arith, now, at))

-- a call that learns an answer
asks-told : (made : List Made) (caller position : ℕ) (op : Asked) (t : Told) (n : ℕ) (answer : Answer) (traced : Bool)
    → AskIs made caller position op → AskStage made caller position op (stage_told t n answer traced)
asks-told made caller position op t n answer traced a = by (told-which t n answer traced) where
  by : (stage_told t n answer traced ≡ Answered t n) ⊎ (stage_told t n answer traced ≡ Unasked)
      ⊎ (stage_told t n answer traced ≡ Unknown) → AskStage made caller position op (stage_told t n answer traced)
  by (inl is) = subst (AskStage made caller position op) (sym is) a
  by (inr (inl is)) = subst (AskStage made caller position op) (sym is) tt
  by (inr (inr is)) = subst (AskStage made caller position op) (sym is) a

asks-learned : (made : List Made) (caller position : ℕ) (op : Asked) (t : Told) (n : ℕ) (stage : Stage)
    → AskStage made caller position op stage → AskStage made caller position op (stage_learned t n stage)
asks-learned made caller position op t n Unasked a = a
asks-learned made caller position op t n Unknown a = a
asks-learned made caller position op t n (Answered u m) a = a
asks-learned made caller position op t n (AskedOf x) a = by t.traced where
  by : (traced : Bool) → AskStage made caller position op (one_or traced (AskedOf x) (stage_told t n t.answer traced))
  by true = a
  by false = asks-told made caller position op t n t.answer false a
asks-learned made caller position op t n (TracedAt x) a = by t.traced where
  by : (traced : Bool) → AskStage made caller position op (one_or traced (stage_told t n t.answer traced) (TracedAt x))
  by true = asks-told made caller position op t n t.answer true a
  by false = a

pub asks-call-learned : (made : List Made) (caller : ℕ) (t : Told) (n : ℕ) (call : Option OpenCall)
    → AskCall made caller call → AskCall made caller (call_learned t n call)
asks-call-learned made caller t n None a = tt
asks-call-learned made caller t n (Some o) a = by (o.position == t.call) where
  by : (same : Bool) → AskStage made caller o.position o.op (one_or same (stage_learned t n o.stage) o.stage)
  by true = asks-learned made caller o.position o.op t n o.stage a
  by false = a

-- and is firm where it is answered
firm-told : (made : List Made) (caller : ℕ) (lost : Bool) (lived position : ℕ) (op : Asked) (t : Told) (n : ℕ)
    (answer : Answer) (traced : Bool) → ((lost ≡ false) ⊎ (n < lived) → Firm made caller position op)
    → FirmStage made caller lost lived position op (stage_told t n answer traced)
firm-told made caller lost lived position op t n answer traced f = by (told-which t n answer traced) where
  by : (stage_told t n answer traced ≡ Answered t n) ⊎ (stage_told t n answer traced ≡ Unasked)
      ⊎ (stage_told t n answer traced ≡ Unknown)
      → FirmStage made caller lost lived position op (stage_told t n answer traced)
  by (inl is) = subst (FirmStage made caller lost lived position op) (sym is) f
  by (inr (inl is)) = subst (FirmStage made caller lost lived position op) (sym is) tt
  by (inr (inr is)) = subst (FirmStage made caller lost lived position op) (sym is) tt

firm-learned : (made : List Made) (caller : ℕ) (lost : Bool) (lived position : ℕ) (op : Asked) (t : Told) (n : ℕ)
    (stage : Stage) → ((lost ≡ false) ⊎ (n < lived) → lost ≡ false) → t.call < asked_by made caller → t.call ≡ position
    → (lost ≡ false → AskStage made caller position op stage) → FirmStage made caller lost lived position op stage
    → FirmStage made caller lost lived position op (stage_learned t n stage)
firm-learned made caller lost lived position op t n Unasked alive low same a f = f
firm-learned made caller lost lived position op t n Unknown alive low same a f = f
firm-learned made caller lost lived position op t n (Answered u m) alive low same a f = f
firm-learned made caller lost lived position op t n (AskedOf x) alive low same a f = by t.traced where
  by : (traced : Bool) → FirmStage made caller lost lived position op (one_or traced (AskedOf x) (stage_told t n t.answer traced))
  by true = tt
  by false = firm-told made caller lost lived position op t n t.answer false (λ which. (omega (arith, low, same), a (alive which)))
firm-learned made caller lost lived position op t n (TracedAt x) alive low same a f = by t.traced where
  by : (traced : Bool) → FirmStage made caller lost lived position op (one_or traced (stage_told t n t.answer traced) (TracedAt x))
  by true = firm-told made caller lost lived position op t n t.answer true (λ which. (omega (arith, low, same), a (alive which)))
  by false = tt

pub firm-call-learned : (made : List Made) (caller : ℕ) (lost : Bool) (lived : ℕ) (t : Told) (n : ℕ)
    (call : Option OpenCall) → ((lost ≡ false) ⊎ (n < lived) → lost ≡ false)
    → (lost ≡ false → t.call < asked_by made caller)
    → (lost ≡ false → AskCall made caller call) → FirmCall made caller lost lived call → FirmCall made caller lost lived (call_learned t n call)
firm-call-learned made caller lost lived t n None alive low a f = tt
firm-call-learned made caller lost lived t n (Some o) alive low a f = by (cases_eq o.position t.call) where
  by : (o.position ≡ t.call) ⊎ (o.position ≢ t.call) → FirmStage made caller lost lived o.position o.op
      (one_or (o.position == t.call) (stage_learned t n o.stage) o.stage)
  by (inr other) =
      subst (λ (b : Bool). FirmStage made caller lost lived o.position o.op
      (one_or b (stage_learned t n o.stage) o.stage)) (sym (ne_eqb o.position t.call other)) f
  by (inl same) =
      subst (λ (b : Bool). FirmStage made caller lost lived o.position o.op
      (one_or b (stage_learned t n o.stage) o.stage)) (sym (eq-eqb o.position t.call same)) (which lost refl) where
        which : (l : Bool) → lost ≡ l → FirmStage made caller lost lived o.position o.op (stage_learned t n o.stage)
        which false is = firm-learned made caller lost lived o.position o.op t n o.stage alive (low is) (sym same) a f
        which true is = firm-dead o.stage f where
          never : (lost ≡ false) ⊎ (n < lived) → ⊥
          never which = cc (alive which, is)

          told : (traced : Bool) → FirmStage made caller lost lived o.position o.op (stage_told t n t.answer traced)
          told traced = firm-told made caller lost lived o.position o.op t n t.answer traced (λ which. absurd (never which))

          firm-dead : (stage : Stage) → FirmStage made caller lost lived o.position o.op stage
              → FirmStage made caller lost lived o.position o.op (stage_learned t n stage)
          firm-dead Unasked f = f
          firm-dead Unknown f = f
          firm-dead (Answered u m) f = f
          firm-dead (AskedOf x) f = pick t.traced where
            pick : (traced : Bool) → FirmStage made caller lost lived o.position o.op (one_or traced (AskedOf x) (stage_told t n t.answer traced))
            pick true = tt
            pick false = told false
          firm-dead (TracedAt x) f = pick t.traced where
            pick : (traced : Bool) → FirmStage made caller lost lived o.position o.op (one_or traced (stage_told t n t.answer traced) (TracedAt x))
            pick true = told true
            pick false = tt

pub op-learned : (t : Told) (n : ℕ) (call : Option OpenCall) → op_of (call_learned t n call) ≡ op_of call
op-learned t n None = refl
op-learned t n (Some o) = refl

-- a call that is given up
pub asks-given-up : (made : List Made) (caller position : ℕ) (op asked : Asked) (stage : Stage)
    → AskStage made caller position op stage → AskStage made caller position op (stage_given_up asked stage)
asks-given-up made caller position op asked Unasked a = a
asks-given-up made caller position op asked Unknown a = a
asks-given-up made caller position op asked (Answered t n) a = a
asks-given-up made caller position op asked (TracedAt x) a = a
asks-given-up made caller position op asked (AskedOf x) a = by (again-which asked.act) where
  by : (again asked.act ≡ Unasked) ⊎ (again asked.act ≡ Unknown) → AskStage made caller position op (again asked.act)
  by (inl is) = subst (AskStage made caller position op) (sym is) tt
  by (inr is) = subst (AskStage made caller position op) (sym is) a

pub firm-given-up : (made : List Made) (caller : ℕ) (lost : Bool) (lived position : ℕ) (op asked : Asked)
    (stage : Stage) → FirmStage made caller lost lived position op stage
    → FirmStage made caller lost lived position op (stage_given_up asked stage)
firm-given-up made caller lost lived position op asked Unasked f = f
firm-given-up made caller lost lived position op asked Unknown f = f
firm-given-up made caller lost lived position op asked (Answered t n) f = f
firm-given-up made caller lost lived position op asked (TracedAt x) f = tt
firm-given-up made caller lost lived position op asked (AskedOf x) f = by (again-which asked.act) where
  by : (again asked.act ≡ Unasked) ⊎ (again asked.act ≡ Unknown) → FirmStage made caller lost lived position op (again asked.act)
  by (inl is) = subst (FirmStage made caller lost lived position op) (sym is) tt
  by (inr is) = subst (FirmStage made caller lost lived position op) (sym is) tt
