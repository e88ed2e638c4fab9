-- Positions of a caller under which no entry is accepted, now or later: its ask was refused, or is gone, or only reads.
use Rattle.std.proofs.Common.{ℕ, ◌≡◌, ◌<◌, ◌≤◌, ◌==◌, nat_lt, ◌⊎◌, inl, inr, Bool, true, false, List, [], ◌∷◌, ◌++◌}
use Rattle.std.proofs.Common.{Option, Some, None, length, map, refl, sym, ap, subst, ◌∙◌, if◌then◌else◌, arith}
use Rattle.std.proofs.lemmas.Option.{slice_get_within}
use Rattle.std.specs.Prelude.{slice_get}
use Rattle.group_types.specs.Dimensions.{Dimensions}
use Rattle.group_types.specs.Each.{Each}
use Rattle.group_types.specs.Hash.{home_of}
use Rattle.group_types.specs.Lists.{at}
use Rattle.group_types.specs.declared.process.ProcessId.{ProcessId}
use Rattle.memc_table.specs.Act.{key_of}
use Rattle.memc_table.specs.Asked.{Asked}
use Rattle.memc_table.specs.declared.act.Act.TheVariants as act
use Rattle.memc_table.specs.declared.reply.Reply.{Reply}
use Rattle.group_calls.specs.Within.{IsTaken}
use Rattle.group_calls.specs.declared.event.Answer.{Answer}
use Rattle.group_calls.specs.declared.event.Answer.TheVariants as says
use Rattle.group_calls.specs.declared.event.Event.TheVariants as event
use Rattle.group_run.specs.Applying.{head_at, replica_of}
use Rattle.group_run.specs.Asking.{fate_from, fate_of, fate_unless, gone_or, is_adopted, is_in_log, reply_from}
use Rattle.group_run.specs.Heading.{partition}
use Rattle.group_run.specs.Process.{Head, Process}
use Rattle.group_message.specs.declared.kept.Kept.{Kept}
use Rattle.law_log.proofs.Turnings.{get-last, get-left}
use Rattle.group_run.specs.Causes.{asks_among}
use Rattle.group_wire.specs.Composed.{Made}
use Rattle.group_wire.specs.Sets.{Processes}
use Rattle.group_wire.specs.Serving.{handed_to, stage_told, told_of}
use Rattle.group_wire.specs.Shown.{events_before}
use Rattle.group_wire.specs.State.{AskFor, TraceOf, Told, Unknown, gateway_of}
use Rattle.group_wire.proofs.Answering.{take-all, take-front}
use Rattle.group_wire.proofs.Positions.{asked_by, asks-made}
use Rattle.group_wire.proofs.Wanting.{AskIs, ask-past}

-- the ask was made, and got neither a reply nor a ticket
pub record Refused (made : List Made) (caller position : ℕ) : Type 0 where
  pub place : ℕ
  pub it : Made
  pub op : Asked
  pub process : ProcessId
  pub there : slice_get made place ≡ Some it
  pub asks : it.event ≡ event.Ask caller op process
  pub before : asks_among caller (events_before made place) ≡ position
  pub refused : ¬ (IsTaken it.answer)

-- the ask was traced at its key's home, and is gone from there
pub record Vanished (k : ℕ) (made : List Made) (caller position : ℕ) : Type 0 where
  pub place : ℕ
  pub it : Made
  pub op : Asked
  pub d : ℕ
  pub process : ProcessId
  pub there : slice_get made place ≡ Some it
  pub traces : it.event ≡ event.Trace caller position (partition d) process
  pub gone : it.answer ≡ says.Gone
  pub home : home_of (key_of op.act) k ≡ d
  pub low : position < asked_by made caller
  pub asks : AskIs made caller position op

-- the ask was made, and only reads
pub record Reads (made : List Made) (caller position : ℕ) : Type 0 where
  pub op : Asked
  pub key : List ℕ
  pub reads : op.act ≡ act.Get key
  pub low : position < asked_by made caller
  pub asks : AskIs made caller position op

abbrev pub Void : ℕ → List Made → ℕ → ℕ → Type 0
Void k made caller position = Refused made caller position ⊎ (Vanished k made caller position ⊎ Reads made caller position)

later-asked : (made more : List Made) (caller position : ℕ) → position < asked_by made caller → position < asked_by (made ++ more) caller
later-asked made more caller position low = let all = asks-made caller made more in omega (arith, low, all)

-- it stays so
pub void-more : (k : ℕ) (made more : List Made) (caller position : ℕ) → Void k made caller position → Void k (made ++ more) caller position
void-more k made more caller position (inl r) = inl (record {
  place = r.place;
  it = r.it;
  op = r.op;
  process = r.process;
  there = get-left made more r.place r.it r.there;
  asks = r.asks;
  before = ap (λ (ms : List Made). asks_among caller (map (λ x. x.event) ms))
      (take-front r.place made more (let low = slice_get_within made r.place r.it r.there in omega (arith, low)))
      ∙ r.before;
  refused = r.refused;
})
void-more k made more caller position (inr (inl v)) = inr (inl (record {
  place = v.place;
  it = v.it;
  op = v.op;
  d = v.d;
  process = v.process;
  there = get-left made more v.place v.it v.there;
  traces = v.traces;
  gone = v.gone;
  home = v.home;
  low = later-asked made more caller position v.low;
  asks = ask-past made more caller position v.op v.low v.asks;
}))
void-more k made more caller position (inr (inr r)) =
    inr (inr (record {
      op = r.op;
      key = r.key;
      reads = r.reads;
      low = later-asked made more caller position r.low;
      asks = ask-past made more caller position r.op r.low r.asks;
    }))

-- all positions from one up to another
abbrev pub AllVoid : ℕ → List Made → ℕ → ℕ → ℕ → Type 0
AllVoid k made caller from to = (n : ℕ) → from ≤ n → n < to → Void k made caller n

-- what is traced is of an ask that was made, at its key's home
abbrev pub Traced : ℕ → List Made → ℕ → ℕ → ℕ → Type 0
Traced k made caller call d = (op : Asked) × (call < asked_by made caller) × AskIs made caller call op × (home_of (key_of op.act) k ≡ d)

pub traced-more : (k : ℕ) (made more : List Made) (caller call d : ℕ) → Traced k made caller call d → Traced k (made ++ more) caller call d
traced-more k made more caller call d t = (t.0, later-asked made more caller call t.1, ask-past made more caller call t.0 t.1 t.2, t.3)

-- what a caller is told is a reply, or its position is void, or it doesn't know
abbrev pub Outcome : ℕ → List Made → Told → Type 0
Outcome k made t = ((reply : Reply) × (t.answer ≡ says.Reply reply)) ⊎ (Void k made t.caller t.call ⊎ ((n : ℕ) → stage_told t n t.answer t.traced ≡ Unknown))

-- a gateway that hasn't failed is told so
abbrev pub Fated : Dimensions → Processes → List Made → Told → Type 0
Fated s failed made t = failed (gateway_of s t.caller) ≡ false → Outcome s.k made t

pub fated-more : (s : Dimensions) (failed now : Processes) (made more : List Made)
    → ((x : ProcessId) → now x ≡ false → failed x ≡ false) → (t : Told) → Fated s failed made t
    → Fated s now (made ++ more) t
fated-more s failed now made more lives t f gl = by (f (lives (gateway_of s t.caller) gl)) where
  by : Outcome s.k made t → Outcome s.k (made ++ more) t
  by (inl reply) = inl reply
  by (inr (inl v)) = inr (inl (void-more s.k made more t.caller t.call v))
  by (inr (inr u)) = inr (inr u)

-- what is told of an ask
untaken : (answer a : Answer) → answer ≡ a → ((reply : Reply) → a ≡ says.Reply reply → ⊥) → ((n : ℕ) → a ≡ says.Ticket n → ⊥) → ¬ (IsTaken answer)
untaken answer a same reply ticket (inl (r, is)) = reply r (sym same ∙ is)
untaken answer a same reply ticket (inr (n, is)) = ticket n (sym same ∙ is)

pub fated-ask : (s : Dimensions) (failed : Processes) (made : List Made) (x : Made) (caller call : ℕ) (op : Asked)
    (p : ProcessId) → x.event ≡ event.Ask caller op p → call ≡ asked_by made caller
    → Each (Fated s failed (made ++ x ∷ [])) (told_of (AskFor caller call op) x.answer)
fated-ask s failed made x caller call op p is place = by x.answer refl where
  void : (a : Answer) → ¬ (IsTaken x.answer) → Fated s failed (made ++ x ∷ []) (record { caller = caller; call = call; traced = false; answer = a })
  void a refused gl = inr (inl (inl (record {
    place = length made;
    it = x;
    op = op;
    process = p;
    there = get-last made x;
    asks = is;
    before = ap (λ (ms : List Made). asks_among caller (map (λ x. x.event) ms)) (take-all made (x ∷ [])) ∙ sym place;
    refused = refused;
  })))

  one : (a : Answer) → x.answer ≡ a → ((reply : Reply) → a ≡ says.Reply reply → ⊥) → ((n : ℕ) → a ≡ says.Ticket n → ⊥)
      → Fated s failed (made ++ x ∷ []) (record { caller = caller; call = call; traced = false; answer = a })
  one a same reply ticket = void a (untaken x.answer a same reply ticket)

  by : (a : Answer) → x.answer ≡ a → Each (Fated s failed (made ++ x ∷ [])) (told_of (AskFor caller call op) a)
  by (says.Ticket n) same = tt
  by (says.Reply reply) same = (λ gl. inl (reply, refl), tt)
  by says.NotYet same = (one says.NotYet same (λ r e. cc e) (λ n e. cc e), tt)
  by says.NoSpace same = (one says.NoSpace same (λ r e. cc e) (λ n e. cc e), tt)
  by (says.Retry cause) same = (one (says.Retry cause) same (λ r e. cc e) (λ n e. cc e), tt)
  by says.Moved same = (one says.Moved same (λ r e. cc e) (λ n e. cc e), tt)
  by says.Lost same = (one says.Lost same (λ r e. cc e) (λ n e. cc e), tt)
  by says.Down same = (one says.Down same (λ r e. cc e) (λ n e. cc e), tt)
  by says.Idle same = (one says.Idle same (λ r e. cc e) (λ n e. cc e), tt)
  by says.Stranger same = (one says.Stranger same (λ r e. cc e) (λ n e. cc e), tt)
  by says.Done same = (one says.Done same (λ r e. cc e) (λ n e. cc e), tt)
  by says.AlreadyDead same = (one says.AlreadyDead same (λ r e. cc e) (λ n e. cc e), tt)
  by says.Gone same = (one says.Gone same (λ r e. cc e) (λ n e. cc e), tt)
  by (says.Stale n) same = (one (says.Stale n) same (λ r e. cc e) (λ m e. cc e), tt)

-- what a trace is answered: a reply, that the call is gone, or what leaves it unknown
abbrev IsFate : Answer → Type 0
IsFate a = ((reply : Reply) × (a ≡ says.Reply reply)) ⊎ ((a ≡ says.Gone) ⊎ ((t : Told) (n : ℕ) → stage_told t n a true ≡ Unknown))

gone-fate : (adopted : Bool) → IsFate (gone_or adopted)
gone-fate true = inr (inl refl)
gone-fate false = inr (inr (λ t n. refl))

kept-fate : (adopted : Bool) (call : ℕ) (kept : Option Kept) → IsFate (fate_from adopted call kept)
kept-fate adopted call None = gone-fate adopted
kept-fate adopted call (Some kept) = by (kept.call == call) (nat_lt call kept.call) where
  by : (same low : Bool) → IsFate (if same then says.Reply (reply_from kept.outcome) else (if low then says.Stale kept.call else gone_or adopted))
  by true low = inl (reply_from kept.outcome, refl)
  by false true = inr (inr (λ t n. refl))
  by false false = gone-fate adopted

fate-is : (s : Dimensions) (caller call d : ℕ) (p : Process) (h : Option Head) → IsFate (fate_of s caller call d p h)
fate-is s caller call d p None = inr (inr (λ t n. refl))
fate-is s caller call d p (Some h) = by (is_in_log caller call (replica_of p d).log) where
  by : (logged : Bool) → IsFate (fate_unless logged (fate_from (is_adopted s p h) call (at None (replica_of p d).kept caller)))
  by true = inr (inr (λ t n. refl))
  by false = kept-fate (is_adopted s p h) call (at None (replica_of p d).kept caller)

pub fated-trace : (s : Dimensions) (failed : Processes) (made : List Made) (x : Made) (caller call d : ℕ)
    (p : ProcessId) (w : Process) → x.event ≡ event.Trace caller call (partition d) p
    → x.answer ≡ fate_of s caller call d w (head_at w d)
    → (failed (gateway_of s caller) ≡ false → Traced s.k made caller call d)
    → Each (Fated s failed (made ++ x ∷ [])) (told_of (TraceOf caller call d) x.answer)
fated-trace s failed made x caller call d p w is answer traced = by x.answer refl where
  fate : IsFate x.answer
  fate = subst IsFate (sym answer) (fate-is s caller call d w (head_at w d))

  one : (a : Answer) → x.answer ≡ a → Fated s failed (made ++ x ∷ []) (record { caller = caller; call = call; traced = true; answer = a })
  one a same gl = which (subst IsFate same fate) where
    which : IsFate a → Outcome s.k (made ++ x ∷ []) (record { caller = caller; call = call; traced = true; answer = a })
    which (inl reply) = inl reply
    which (inr (inr unknown)) = inr (inr (λ n. unknown (record { caller = caller; call = call; traced = true; answer = a }) n))
    which (inr (inl gone)) =
        let t : Traced s.k (made ++ x ∷ []) caller call d = traced-more s.k made (x ∷ []) caller call d (traced gl) in
        inr (inl (inr
        (inl (record {
          place = length made;
          it = x;
          op = t.0;
          d = d;
          process = p;
          there = get-last made x;
          traces = is;
          gone = same ∙ gone;
          home = t.3;
          low = t.1;
          asks = t.2;
        }))))

  by : (a : Answer) → x.answer ≡ a → Each (Fated s failed (made ++ x ∷ [])) (told_of (TraceOf caller call d) a)
  by (says.Ticket n) same = tt
  by (says.Reply reply) same = (one (says.Reply reply) same, tt)
  by says.NotYet same = (one says.NotYet same, tt)
  by says.NoSpace same = (one says.NoSpace same, tt)
  by (says.Retry cause) same = (one (says.Retry cause) same, tt)
  by says.Moved same = (one says.Moved same, tt)
  by says.Lost same = (one says.Lost same, tt)
  by says.Down same = (one says.Down same, tt)
  by says.Idle same = (one says.Idle same, tt)
  by says.Stranger same = (one says.Stranger same, tt)
  by says.Done same = (one says.Done same, tt)
  by says.AlreadyDead same = (one says.AlreadyDead same, tt)
  by says.Gone same = (one says.Gone same, tt)
  by (says.Stale n) same = (one (says.Stale n) same, tt)

-- what is handed out is a reply
pub fated-handed : (s : Dimensions) (failed : Processes) (made : List Made) (caller call : ℕ) (a : Answer)
    → Each (Fated s failed made) (handed_to caller call a)
fated-handed s failed made caller call (says.Reply reply) = (λ gl. inl (reply, refl), tt)
fated-handed s failed made caller call (says.Ticket n) = tt
fated-handed s failed made caller call says.NotYet = tt
fated-handed s failed made caller call says.NoSpace = tt
fated-handed s failed made caller call (says.Retry cause) = tt
fated-handed s failed made caller call says.Moved = tt
fated-handed s failed made caller call says.Lost = tt
fated-handed s failed made caller call says.Down = tt
fated-handed s failed made caller call says.Idle = tt
fated-handed s failed made caller call says.Stranger = tt
fated-handed s failed made caller call says.Done = tt
fated-handed s failed made caller call says.AlreadyDead = tt
fated-handed s failed made caller call says.Gone = tt
fated-handed s failed made caller call (says.Stale n) = tt
