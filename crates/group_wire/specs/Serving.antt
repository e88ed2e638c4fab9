-- What each action makes of the gateways: their callers' calls, the requests and the answers.
use Rattle.std.specs.Prelude.{ℕ, suc, ◌==◌, Bool, true, false, List, [], ◌∷◌, ◌++◌, Option, Some, None}
use Rattle.std.specs.List.{range_with_len}
use Rattle.group_types.specs.Hash.{home_of}
use Rattle.group_types.specs.declared.process.ProcessId.{ProcessId}
use Rattle.memc_table.specs.Act.{key_of}
use Rattle.memc_table.specs.Asked.{Asked}
use Rattle.memc_table.specs.declared.act.Act.{Act}
use Rattle.memc_table.specs.declared.act.Act.TheVariants as act
use Rattle.group_calls.specs.declared.event.Answer.{Answer}
use Rattle.group_calls.specs.declared.event.Answer.TheVariants as says
use Rattle.group_run.specs.Asking.{collect_from}
use Rattle.group_wire.specs.Actions.{Action, Begin, Send, Read, Treat, Collect, Learn, GiveUp, Show, LetGo}
use Rattle.group_wire.specs.Sets.{changed, changed_at, changed_from, one_or, without_nth}
use Rattle.group_wire.specs.State.{Request, AskFor, TraceOf, Told, Stage, Unasked, AskedOf, Unknown, TracedAt, Answered, OpenCall, Gateways, Group, gateway_of}
use Rattle.group_wire.specs.Sending.{parked_at, sent_on, treating}

-- a gateway asks for a call under its next position, or traces it where its fate is unknown
abbrev pub gateways_asking : Group → ℕ → ProcessId → OpenCall → Gateways
gateways_asking g caller x opened = record g.gateways {
  call = changed_at g.gateways.call caller (Some (record opened { position = g.gateways.next caller; stage = AskedOf x }));
  next = changed_at g.gateways.next caller (suc (g.gateways.next caller));
  requests = sent_on g.words.cut g.gateways.requests (gateway_of g.shape caller) x (AskFor caller (g.gateways.next caller) opened.op);
}

abbrev pub traces_by : Group → ℕ → ProcessId → OpenCall → Gateways
traces_by g caller x opened = record g.gateways {
  call = changed_at g.gateways.call caller (Some (record opened { stage = TracedAt x }));
  requests = sent_on g.words.cut g.gateways.requests (gateway_of g.shape caller) x (TraceOf caller opened.position (home_of (key_of opened.op.act) g.shape.k));
}

abbrev pub sends_by : Group → ℕ → ProcessId → OpenCall → Stage → Gateways
sends_by g caller x opened Unasked = gateways_asking g caller x opened
sends_by g caller x opened Unknown = traces_by g caller x opened
sends_by g caller x opened _ = g.gateways

-- a call goes on to another stage
abbrev pub staged : ℕ → OpenCall → Stage → Gateways → Gateways
staged caller opened stage gateways = record gateways { call = changed_at gateways.call caller (Some (record opened { stage = stage })) }

-- the request at the front of a wire is read
abbrev pub read_first : ProcessId → ProcessId → List Request → Gateways → Gateways
read_first x p [] gateways = gateways
read_first x p (r ∷ rest) gateways = record gateways {
  requests = changed_from gateways.requests x p rest;
  parked = changed gateways.parked p (gateways.parked p ++ r ∷ []);
}

-- a member answers a request, but for a ticket, of which the gateway hears later
abbrev pub told_of : Request → Answer → List Told
told_of request (says.Ticket n) = []
told_of (AskFor caller call op) answer = record { caller = caller; call = call; traced = false; answer = answer } ∷ []
told_of (TraceOf caller call d) answer = record { caller = caller; call = call; traced = true; answer = answer } ∷ []

-- what is told goes to the callers' gateways
abbrev pub tell : Group → ProcessId → List Told → Gateways → Gateways
tell g p [] gateways = gateways
tell g p (t ∷ ts) gateways = tell g p ts (record gateways { answers = sent_on g.words.cut gateways.answers p (gateway_of g.shape t.caller) t })

-- a request is treated: it is no longer kept, and its answer is told
abbrev pub request_treated : Group → ProcessId → ℕ → Option Request → Gateways
request_treated g p place None = g.gateways
request_treated g p place (Some request) = tell g p (told_of request (treating g.shape request (g.works.process p)).answer)
    (record g.gateways { parked = changed g.gateways.parked p (without_nth (g.gateways.parked p) place) })

-- what is handed out goes to the caller's gateway, once there is a reply
abbrev pub handed_to : ℕ → ℕ → Answer → List Told
handed_to caller call (says.Reply reply) = record { caller = caller; call = call; traced = false; answer = says.Reply reply } ∷ []
handed_to caller call _ = []

-- the stage of a call that was told an answer: a reply and the want of space are shown, all else is asked again
abbrev pub stage_told : Told → ℕ → Answer → Bool → Stage
stage_told t pinged (says.Reply reply) traced = Answered t pinged
stage_told t pinged says.NoSpace traced = Answered t pinged
stage_told t pinged says.Gone true = Unasked
stage_told t pinged _ true = Unknown
stage_told t pinged _ false = Unasked

-- it is told where it waits for this answer
abbrev pub stage_learned : Told → ℕ → Stage → Stage
stage_learned t pinged (AskedOf x) = one_or t.traced (AskedOf x) (stage_told t pinged t.answer t.traced)
stage_learned t pinged (TracedAt x) = one_or t.traced (stage_told t pinged t.answer t.traced) (TracedAt x)
stage_learned t pinged stage = stage

-- the caller's open call learns what it was told under its position
abbrev pub call_learned : Told → ℕ → Option OpenCall → Option OpenCall
call_learned t pinged None = None
call_learned t pinged (Some opened) = Some (record opened { stage = one_or (opened.position == t.call) (stage_learned t pinged opened.stage) opened.stage })

-- the answer at the front of a wire is learned
abbrev pub learned_first : ProcessId → ProcessId → ℕ → List Told → Gateways → Gateways
learned_first x p pinged [] gateways = gateways
learned_first x p pinged (t ∷ rest) gateways = record gateways {
  answers = changed_from gateways.answers x p rest;
  call = changed_at gateways.call t.caller (call_learned t pinged (gateways.call t.caller));
}

-- a read that was given up is asked again, and a change is traced
abbrev pub again : Act → Stage
again (act.Get key) = Unasked
again _ = Unknown

abbrev pub stage_given_up : Asked → Stage → Stage
stage_given_up op (AskedOf x) = again op.act
stage_given_up op (TracedAt x) = Unknown
stage_given_up op stage = stage

-- what a gateway makes of the caller's open call, if there is one
abbrev pub if_open : Option OpenCall → Gateways → (OpenCall → Gateways) → Gateways
if_open None gateways f = gateways
if_open (Some opened) gateways f = f opened

-- the gateways after an action
abbrev pub gateways_after : Group → Action → Gateways
gateways_after g (Begin caller op) = record g.gateways { call = changed_at g.gateways.call caller (Some (record { op = op; position = 0; stage = Unasked })) }
gateways_after g (Send caller x) = if_open (g.gateways.call caller) g.gateways (λ opened. sends_by g caller x opened opened.stage)
gateways_after g (Read x p) = read_first x p (g.gateways.requests x p) g.gateways
gateways_after g (Treat p place) = request_treated g p place (parked_at g p place)
gateways_after g (Collect caller call p) =
    tell g p (handed_to caller call (collect_from caller call (g.works.process p) (range_with_len 0 g.shape.k)).answer)
    g.gateways
gateways_after g (Learn x p) = learned_first x p (g.signs.pinged p) (g.gateways.answers x p) g.gateways
gateways_after g (GiveUp caller) = if_open (g.gateways.call caller) g.gateways
    (λ opened. staged caller opened (stage_given_up opened.op opened.stage) g.gateways)
gateways_after g (Show caller ping) = record g.gateways { call = changed_at g.gateways.call caller None }
gateways_after g (LetGo caller) = record g.gateways { call = changed_at g.gateways.call caller None }
gateways_after g _ = g.gateways
