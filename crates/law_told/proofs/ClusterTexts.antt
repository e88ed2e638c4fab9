-- What lines of a script of several groups write.
use Rattle.std.proofs.Common.{ℕ, ◌≡◌, inl, inr, Bool, true, false, nat_lt, List, [], ◌∷◌, ◌++◌, codes, length}
use Rattle.std.proofs.Common.{Option, Some, None, Result, Ok, Err, if◌then◌else◌, refl, sym, ap, subst, ◌∙◌}
use Rattle.std.proofs.Common.{append_assoc}
use Rattle.std.proofs.lemmas.List.{append-nil}
use Rattle.std.specs.Fmt.{decimal}
use Rattle.group_types.specs.Lists.{at}
use Rattle.group_calls.specs.declared.event.Event.{Event}
use Rattle.group_calls.specs.declared.event.Event.TheVariants as happens
use Rattle.group_run.specs.Shown.{held, stamp_of}
use Rattle.scenario_text.specs.Meaning.{line_meaning}
use Rattle.scenario_text.specs.Words.{split_words}
use Rattle.scenario_text.specs.declared.line.Line.{Line}
use Rattle.scenario_text.specs.declared.line.Line.TheVariants.{Skipped, Ask, Collect, Deliver, Flush, Trace, Drain, Show, Time}
use Rattle.scenario_text.specs.declared.line.LineFault.{LineFault}
use Rattle.scenario_run.specs.Course.{Ends, Goes, Refused, text_in, turns_of_lines}
use Rattle.scenario_run.specs.Lines.{lines_of}
use Rattle.scenario_run.specs.Playing.{look}
use Rattle.scenario_run.proofs.Beginning.{Begins, Onward, along, begins}
use Rattle.group_layout.specs.Cluster.{Cluster, ClusterEntry, cluster_after, cluster_step, logged_in, moves_of}
use Rattle.group_layout.specs.declared.event.ClusterAnswer.{ClusterAnswer}
use Rattle.group_layout.specs.declared.event.ClusterAnswer.TheVariants.{Inner}
use Rattle.group_layout.specs.declared.event.ClusterEvent.{ClusterEvent}
use Rattle.group_layout.specs.declared.event.ClusterEvent.TheVariants.{InGroup}
use Rattle.group_layout.proofs.Moves.{log-moved}
use Rattle.group_cluster.specs.Plan.{IsPlan, Plan}
use Rattle.cluster_run.specs.Meaning.{failure_line, in_group}
use Rattle.cluster_run.specs.Playing.{ClusterNext, ClusterPlay, ClusterTurn, all_deliveries, by_drain, by_event}
use Rattle.cluster_run.specs.Playing.{by_line, by_trace, by_words, group_world, cluster_log_of, next_of, opening_of, cluster_from}
use Rattle.cluster_run.specs.Playing.{then_by, then_in, cluster_turns_from}
use Rattle.cluster_run.specs.Script.{cluster_script_events, plan_in, transcript}
use Rattle.cluster_run.specs.Texts.{cluster_answer_text, cluster_entries_text, cluster_entry_text}
use Rattle.cluster_run.specs.declared.fault.ClusterFault.TheVariants.{BadLine}
use Rattle.cluster_run.proofs.Leading.{after-append}
use Rattle.cluster_run.proofs.Promises.{opening-plan}
use Rattle.cluster_run.proofs.Running.{line-opens, never-ends}
use Rattle.law_told.specs.ClusterTexts.{ClusterLineTells, ClusterLinesTell, ClusterTranscriptsTell, answer_line, cluster_events_in}
use Rattle.law_told.specs.Lines.{TellsLines, is_log_line, text_of}
use Rattle.law_told.proofs.Lines as lines
use Rattle.law_told.proofs.Lines.{answer-other, tells-append, tells-none, tells-said}

-- ---- which lines are of the log

entry-marked : (e : ClusterEntry) → is_log_line (cluster_entry_text e) ≡ true
entry-marked e = refl

said-other : (a : ClusterAnswer) → is_log_line (answer_line a) ≡ false
said-other (Inner answer) = answer-other answer
said-other answer = refl

answer-is : (a : ClusterAnswer) → cluster_answer_text a ≡ answer_line a
answer-is (Inner answer) = refl
answer-is answer = refl

-- ---- the log

step-logs : (c : Cluster) (e : ClusterEvent) → (cluster_step c e).cluster.groups.log ≡ c.groups.log ++ logged_in (cluster_step c e).turns
step-logs c e = log-moved c.groups (moves_of c e)

events-log : (c : Cluster) (es : List ClusterEvent) → (cluster_after c es).groups.log ≡ c.groups.log ++ cluster_log_of (cluster_turns_from c es)
events-log c [] = sym (append-nil c.groups.log)
events-log c (e ∷ es) =
    events-log (cluster_step c e).cluster es
    ∙ ap (λ (log : List ClusterEntry). log ++ cluster_log_of (cluster_turns_from (cluster_step c e).cluster es)) (step-logs c e)
    ∙ append_assoc c.groups.log (logged_in (cluster_step c e).turns) (cluster_log_of (cluster_turns_from (cluster_step c e).cluster es))

events-are : (c : Cluster) (es : List ClusterEvent) → cluster_events_in (cluster_turns_from c es) ≡ es
events-are c [] = refl
events-are c (e ∷ es) = ap (λ (xs : List ClusterEvent). e ∷ xs) (events-are (cluster_step c e).cluster es)

-- what a line that goes on comes to
record Comes (p : ClusterPlay) (line : List ℕ) (next : Option ClusterPlay) (turns : List ClusterTurn) (text : List ℕ) : Type 0 where
  pub tells : ClusterLineTells p line turns text
  pub play : ClusterPlay
  pub is : next ≡ Some play
  pub to : play.cluster ≡ cluster_after p.cluster (cluster_events_in turns)

abbrev ComesTo : ClusterPlay → List ℕ → ClusterNext → Type 0
ComesTo p line (Goes next turns text) = Comes p line next turns text
ComesTo p line Ends = Unit {0}
ComesTo p line (Refused fault) = Unit {0}

-- ---- what each kind of line comes to

-- nothing is done, and these lines are said
idle : (p q : ClusterPlay) (line : List ℕ) (said : List (List ℕ)) → q.cluster ≡ p.cluster → lines.AreOthers said → Comes p line (Some q) [] (text_of said)
idle p q line said same others = record {
  tells = record {
    said = said;
    is_said = inl refl;
    logged = [];
    grows = sym (append-nil p.cluster.groups.log);
    tells = tells-said cluster_entry_text said others;
  };
  play = q;
  is = refl;
  to = same;
}

event-comes : (p : ClusterPlay) (line : List ℕ) (e : ClusterEvent) → ComesTo p line (by_event p e)
event-comes p line e =
    let answer : ClusterAnswer = (cluster_step p.cluster e).answer in
    let logged : List ClusterEntry = logged_in (cluster_step p.cluster e).turns in
    record {
      tells = record {
        said = answer_line answer ∷ [];
        is_said = inr (inl (record { event = e; only = refl; answer = refl }));
        logged = logged;
        grows = step-logs p.cluster e;
        tells = subst (λ (t : List ℕ). TellsLines cluster_entry_text (t ++ 10 ∷ cluster_entries_text logged) logged
            (answer_line answer ∷ [])) (sym (answer-is answer))
            (lines.said-first cluster_entry_text entry-marked (answer_line answer) logged (said-other answer));
      };
      play = record { cluster = (cluster_step p.cluster e).cluster; moment = p.moment };
      is = refl;
      to = refl;
    }

trace-comes : (p : ClusterPlay) (line : List ℕ) (j caller call : ℕ) (e : Event) → ComesTo p line (by_trace p j caller call e)
trace-comes p line j caller call e = by (nat_lt call (at 0 (group_world p j).asked caller)) where
  by : (b : Bool) → ComesTo p line (if b then by_event p (InGroup j e) else Refused BadLine)
  by true = event-comes p line (InGroup j e)
  by false = tt

drain-comes : (p : ClusterPlay) (line : List ℕ) (es : List ClusterEvent) → line_meaning (Some p.cluster.groups.shape) line
    ≡ Ok Drain → ComesTo p line (by_drain p es)
drain-comes p line es reads =
    let turns : List ClusterTurn = cluster_turns_from p.cluster es in
    let wrote : List ℕ = codes "drained " ++ decimal (length turns) in
    let same = ap (cluster_after p.cluster) (events-are p.cluster es) in
    record {
      tells = record {
        said = wrote ∷ [];
        is_said = inr (inr (record { drains = reads; many = refl }));
        logged = cluster_log_of turns;
        grows = ap (λ (c : Cluster). c.groups.log) same ∙ events-log p.cluster es;
        tells = subst (λ (t : List ℕ). TellsLines cluster_entry_text (cluster_entries_text (cluster_log_of turns) ++ t) (cluster_log_of turns) (wrote ∷ []))
            (append_assoc (codes "drained ") (decimal (length turns)) (codes "\n"))
            (lines.said-last cluster_entry_text entry-marked wrote (cluster_log_of turns) refl);
      };
      play = record { cluster = cluster_after p.cluster es; moment = p.moment };
      is = refl;
      to = sym same;
    }

show-comes : (p : ClusterPlay) (line : List ℕ) (text : List ℕ) → is_log_line text ≡ false → Comes p line (Some p) [] (text ++ 10 ∷ [])
show-comes p line text other = idle p p line (text ∷ []) refl (other, tt)

in-comes : (p : ClusterPlay) (line : List ℕ) (j : ℕ) (l : Line) → ComesTo p line (then_in p j l)
in-comes p line j (Ask caller from act) = event-comes p line (InGroup j (happens.Ask caller (record { moment = p.moment; act = act }) from))
in-comes p line j (Collect caller call from) = event-comes p line (InGroup j (happens.Collect caller call from))
in-comes p line j (Deliver from to) = event-comes p line (InGroup j (happens.Deliver from to))
in-comes p line j (Flush from) = event-comes p line (InGroup j (happens.Flush from))
in-comes p line j (Trace caller call partition from) = trace-comes p line j caller call (happens.Trace caller call partition from)
in-comes p line j (Show from run) = show-comes p line (look (group_world p j) from (held (group_world p j) from run))
    (lines.look-other (stamp_of (group_world p j) from) (group_world p j) from (held (group_world p j) from run))
in-comes p line j l = tt

then-comes : (p : ClusterPlay) (line : List ℕ) (l : Line) → line_meaning (Some p.cluster.groups.shape) line ≡ Ok l → ComesTo p line (then_by p l)
then-comes p line Skipped reads = idle p p line [] refl tt
then-comes p line Drain reads = drain-comes p line (all_deliveries p.cluster) reads
then-comes p line (Time moment) reads = idle p (record { cluster = p.cluster; moment = moment }) line [] refl tt
then-comes p line l reads = tt

inside : (p : ClusterPlay) (line : List ℕ) (j : ℕ) (l : Result Line LineFault) → ComesTo p line (by_line (then_in p j) l)
inside p line j (Err fault) = tt
inside p line j (Ok l) = in-comes p line j l

outside : (p : ClusterPlay) (line : List ℕ) (l : Result Line LineFault) → line_meaning (Some p.cluster.groups.shape) line ≡ l
    → ComesTo p line (by_line (then_by p) l)
outside p line (Err fault) reads = tt
outside p line (Ok l) reads = then-comes p line l reads

comes : (p : ClusterPlay) (line : List ℕ) → ComesTo p line (next_of (Some p) line)
comes p line = by (in_group (length p.cluster.groups.worlds) line) (failure_line (length p.cluster.failed) (split_words line)) where
  by : (named : Option (ℕ × List ℕ)) (failure : Option ClusterEvent) → ComesTo p line (by_words p line named failure)
  by (Some named) failure = inside p line named.0 (line_meaning (Some p.cluster.groups.shape) named.1)
  by None (Some failure) = event-comes p line failure
  by None None = outside p line (line_meaning (Some p.cluster.groups.shape) line) refl

pub cluster_lines_tell : ClusterLinesTell
cluster_lines_tell p line next turns text is = let come : Comes p line next turns text = subst (ComesTo p line) is (comes p line) in come.tells

-- ---- a whole script

-- what lines write behind a state
record Whole (c : Cluster) (turns : List ClusterTurn) (text : List ℕ) : Type 0 where
  pub said : List (List ℕ)
  pub logged : List ClusterEntry
  pub grows : (cluster_after c (cluster_events_in turns)).groups.log ≡ c.groups.log ++ logged
  pub tells : TellsLines cluster_entry_text text logged said

nothing : (c : Cluster) → Whole c [] []
nothing c = record { said = []; logged = []; grows = sym (append-nil c.groups.log); tells = tells-none cluster_entry_text }

-- events of turns, one after the other
events-append : (ts us : List ClusterTurn) → cluster_events_in (ts ++ us) ≡ cluster_events_in ts ++ cluster_events_in us
events-append [] us = refl
events-append (t ∷ ts) us = ap (λ (es : List ClusterEvent). t.event ∷ es) (events-append ts us)

-- each line goes on, and prolongs what is written
onward : (p : ClusterPlay) (line : List ℕ) (next : Option ClusterPlay) (turns : List ClusterTurn) (text : List ℕ)
    → Unit {0} → next_of (Some p) line ≡ Goes next turns text
    → Onward (λ q. Unit {0}) (λ q ts us. Whole q.cluster ts us) p next turns text
onward p line next turns text ready is = record { state = come.play; is = come.is; ready = tt; comes = more } where
  come : Comes p line next turns text
  come = subst (ComesTo p line) is (comes p line)

  more : (ts : List ClusterTurn) (us : List ℕ) → Whole come.play.cluster ts us → Whole p.cluster (turns ++ ts) (text ++ us)
  more ts us rest = let one = come.tells in record {
    said = one.said ++ rest.said;
    logged = one.logged ++ rest.logged;
    grows = ap (λ (es : List ClusterEvent). (cluster_after p.cluster es).groups.log) (events-append turns ts)
        ∙ ap (λ (c : Cluster). c.groups.log) (after-append p.cluster (cluster_events_in turns) (cluster_events_in ts))
        ∙ ap (λ (c : Cluster). (cluster_after c (cluster_events_in ts)).groups.log) (sym come.to)
        ∙ rest.grows
        ∙ ap (λ (c : Cluster). c.groups.log ++ rest.logged) come.to
        ∙ ap (λ (log : List ClusterEntry). log ++ rest.logged) one.grows
        ∙ append_assoc p.cluster.groups.log one.logged rest.logged;
    tells = tells-append cluster_entry_text text us one.logged rest.logged one.said rest.said one.tells rest.tells;
  }

whole : (p : ClusterPlay) (lines : List (List ℕ)) → Whole p.cluster (turns_of_lines next_of (Some p) lines) (text_in next_of (Some p) lines)
whole p lines = along next_of (λ q. Unit {0}) (λ q ts us. Whole q.cluster ts us) (λ q. nothing q.cluster) onward p lines tt

pub cluster_transcripts_tell : ClusterTranscriptsTell
cluster_transcripts_tell text ends =
    record {
      plan = plan;
      named = ap plan_in begun.named ∙ opening-plan plan begun.limits;
      said = all.said;
      tells = tells;
    } where
      begun : Begins next_of IsPlan cluster_from (lines_of text)
      begun = begins next_of BadLine IsPlan cluster_from line-opens never-ends 1 (lines_of text) ends

      plan : Plan
      plan = begun.start

      all : Whole (opening_of plan) (turns_of_lines next_of (Some (cluster_from plan)) begun.rest) (text_in next_of (Some (cluster_from plan)) begun.rest)
      all = whole (cluster_from plan) begun.rest

      tells : TellsLines cluster_entry_text (transcript text) (cluster_after (opening_of plan) (cluster_script_events text)).groups.log all.said
      tells = subst (λ (t : List ℕ). TellsLines cluster_entry_text t (cluster_after (opening_of plan) (cluster_script_events text)).groups.log all.said)
          (sym begun.text)
          (subst (λ (log : List ClusterEntry). TellsLines cluster_entry_text (text_in next_of (Some (cluster_from plan)) begun.rest) log all.said)
          (sym (ap (λ (ts : List ClusterTurn). (cluster_after (opening_of plan) (cluster_events_in ts)).groups.log) begun.turns ∙ all.grows)) all.tells)
