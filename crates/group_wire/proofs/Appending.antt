-- Two nodes of one process append alike.
use Rattle.std.proofs.Common.{ℕ, ◌≡◌, ◌≢◌, ◌+◌, ◌<◌, Bool, true, false, if◌then◌else◌, List, [], ◌∷◌, ◌++◌, map, refl, sym, ap, subst, ◌∙◌, arith}
use Rattle.std.specs.List.{range_with_len}
use Rattle.group_types.specs.Dimensions.{Dimensions}
use Rattle.group_types.specs.Lists.{at}
use Rattle.group_types.specs.Names.{IsProcess, index_of, process_at, same_process}
use Rattle.group_types.specs.declared.process.ProcessId.{ProcessId}
use Rattle.group_types.proofs.Lists.{at-map-range}
use Rattle.group_types.proofs.Names.{index-below, process_at-index, same-eq, same-refl}
use Rattle.membership.specs.Members.{knows_dead}
use Rattle.group_message.specs.declared.message.Message.{Message}
use Rattle.group_message.specs.declared.message.Message.TheVariants as tells
use Rattle.group_calls.specs.declared.event.Answer.{Answer}
use Rattle.group_calls.specs.declared.event.Answer.TheVariants as says
use Rattle.group_run.specs.Applying.{ProcessStep, head_at}
use Rattle.group_run.specs.Asking.{CallStep, ask_process, collect_from, fate_of}
use Rattle.group_run.specs.Process.{Node, Process}
use Rattle.group_run.specs.Receiving.{receive}
use Rattle.group_run.specs.World.{NodeStep, flush_process, if_up, link_after, link_emptied, node_after, sent_to, treated, unchanged}
use Rattle.group_wire.specs.Appending.{AreAlike, CallsAppendAlike, MessagesAppendAlike, StepAlike}

nothing-behind : {X : Type 0} (xs : List X) → xs ≡ xs ++ []
nothing-behind [] = refl
nothing-behind (x ∷ xs) = ap (λ (ys : _). x ∷ ys) (nothing-behind xs)

-- what comes behind a link
abbrev pub more_if : Bool → List Message → List Message
more_if true sent = []
more_if false sent = sent

abbrev pub more_to : Dimensions → ℕ → ProcessStep → List Message
more_to s x step = more_if (knows_dead step.process.known (process_at s x)) (sent_to (process_at s x) step.sent)

link-is : (b : Bool) (link sent : List Message) → link_after b link sent ≡ link ++ more_if b sent
link-is true link sent = nothing-behind link
link-is false link [] = nothing-behind link
link-is false link (m ∷ ms) = refl

in-range : (s : Dimensions) (f : ℕ → List Message) (x : ℕ) → x < s.k + s.m → at [] (map f (range_with_len 0 (s.k + s.m))) x ≡ f x
in-range s f x within = at-map-range [] f (s.k + s.m) 0 x within ∙ ap f (omega arith)

-- a step of its process appends to each link of a node
pub link-behind : (s : Dimensions) (step : ProcessStep) (node : Node) (x : ℕ) → x < s.k + s.m
    → at [] (node_after s step node).links x ≡ at [] node.links x ++ more_to s x step
link-behind s step node x within =
    in-range s (λ y. link_after (knows_dead step.process.known (process_at s y)) (at [] node.links y) (sent_to (process_at s y) step.sent)) x within
    ∙ link-is (knows_dead step.process.known (process_at s x)) (at [] node.links x) (sent_to (process_at s x) step.sent)

module _ (s : Dimensions) (a b : Node) (alike : AreAlike a b) where
  unchanged-alike : (answer other : Answer) → answer ≡ other → StepAlike s a b (unchanged answer a) (unchanged other b)
  unchanged-alike answer other same = record {
    made = record { process = alike.process; answer = same; settled = refl };
    links = λ x within. ([], nothing-behind (at [] a.links x), nothing-behind (at [] b.links x));
  }

  -- the process of each makes this step
  appended-alike : (step : Process → ProcessStep) (x : ℕ) → x < s.k + s.m
      → (more : List Message) × (at [] (node_after s (step a.process) a).links x ≡ at [] a.links x ++ more)
      × (at [] (node_after s (step b.process) b).links x ≡ at [] b.links x ++ more)
  appended-alike step x within = (
    more_to s x (step a.process),
    link-behind s (step a.process) a x within,
    link-behind s (step b.process) b x within ∙ ap (λ (p : Process). at [] b.links x ++ more_to s x (step p)) (sym alike.process),
  )

  treated-alike : (call : Process → CallStep) → StepAlike s a b (treated s a (call a.process)) (treated s b (call b.process))
  treated-alike call = record {
    made = record {
      process = ap (λ (p : Process). (call p).step.process) alike.process;
      answer = ap (λ (p : Process). (call p).answer) alike.process;
      settled = ap (λ (p : Process). (call p).step.settled) alike.process;
    };
    links = appended-alike (λ p. (call p).step);
  }

  up-alike : (down dead : Bool) (t u : NodeStep) → StepAlike s a b t u → StepAlike s a b (if_up down dead a t) (if_up down dead b u)
  up-alike true dead t u steps = unchanged-alike says.Down says.Down refl
  up-alike false true t u steps = unchanged-alike says.Lost says.Lost refl
  up-alike false false t u steps = steps

  both-up : (t u : NodeStep) → StepAlike s a b t u → StepAlike s a b (if_up a.down a.dead a t) (if_up b.down b.dead b u)
  both-up t u steps =
      subst (λ (down : Bool). StepAlike s a b (if_up a.down a.dead a t) (if_up down b.dead b u)) alike.down
      (subst (λ (dead : Bool). StepAlike s a b (if_up a.down a.dead a t) (if_up a.down dead b u)) alike.dead (up-alike a.down a.dead t u steps))

pub calls_append_alike : CallsAppendAlike
calls_append_alike s a b alike = record {
  ask = λ name op. both-up s a b alike _ _ (treated-alike s a b alike (ask_process s name op));
  collect = λ caller call. both-up s a b alike _ _ (treated-alike s a b alike (λ p. collect_from caller call p (range_with_len 0 s.k)));
  flush = both-up s a b alike _ _ (treated-alike s a b alike (flush_process s));
  trace = λ caller call d. both-up s a b alike _ _
      (unchanged-alike s a b alike _ _ (ap (λ (p : Process). fate_of s caller call d p (head_at p d)) alike.process));
}

-- a message empties no link but that of a process whose death it tells
by_name : (s : Dimensions) (dead : ProcessId) (x : ℕ) (links : List (List Message)) (same : Bool) → same_process (process_at s x) dead ≡ same
    → tells.Notice dead ≢ tells.Notice (process_at s x)
    → (if same then [] else at [] links x) ≡ at [] links x
by_name s dead x links true same other = absurd (other (ap tells.Notice (sym (same-eq (process_at s x) dead same))))
by_name s dead x links false same other = refl

pub others-stay : (s : Dimensions) (m : Message) (node : Node) (x : ℕ) → x < s.k + s.m → m ≢ tells.Notice (process_at s x)
    → at [] (link_emptied s m node).links x ≡ at [] node.links x
others-stay s (tells.Notice dead) node x within other =
    in-range s (λ y. if same_process (process_at s y) dead then [] else at [] node.links y) x within
    ∙ by_name s dead x node.links (same_process (process_at s x) dead) refl other
others-stay s (tells.Update r d u stable) node x within other = refl
others-stay s (tells.Ack r d n) node x within other = refl
others-stay s (tells.Stable r d n) node x within other = refl
others-stay s (tells.Adopt r d base list) node x within other = refl
others-stay s (tells.ReadBlock session block rows) node x within other = refl
others-stay s (tells.Block session bytes n) node x within other = refl
others-stay s (tells.Mark session r block d n) node x within other = refl
others-stay s (tells.Row session bytes stamp) node x within other = refl
others-stay s (tells.Cease upto) node x within other = refl

-- and that one it empties
its-own : (s : Dimensions) (dead : ProcessId) (node : Node) → IsProcess s dead → at [] (link_emptied s (tells.Notice dead) node).links (index_of s dead) ≡ []
its-own s dead node named =
    in-range s (λ y. if same_process (process_at s y) dead then [] else at [] node.links y) (index_of s dead) (index-below s dead named)
    ∙ ap (λ (b : Bool). if b then [] else at [] node.links (index_of s dead))
    (ap (λ (p : ProcessId). same_process p dead) (process_at-index s dead named) ∙ same-refl dead)

emptied-by : (s : Dimensions) (m : Message) (dead : ProcessId) (node : Node) → IsProcess s dead → m ≡ tells.Notice dead
    → at [] (link_emptied s m node).links (index_of s dead) ≡ []
emptied-by s m dead node named is = ap (λ (x : Message). at [] (link_emptied s x node).links (index_of s dead)) is ∙ its-own s dead node named

pub process-stays : (s : Dimensions) (m : Message) (node : Node) → (link_emptied s m node).process ≡ node.process
process-stays s (tells.Notice dead) node = refl
process-stays s (tells.Update r d u stable) node = refl
process-stays s (tells.Ack r d n) node = refl
process-stays s (tells.Stable r d n) node = refl
process-stays s (tells.Adopt r d base list) node = refl
process-stays s (tells.ReadBlock session block rows) node = refl
process-stays s (tells.Block session bytes n) node = refl
process-stays s (tells.Mark session r block d n) node = refl
process-stays s (tells.Row session bytes stamp) node = refl
process-stays s (tells.Cease upto) node = refl

pub messages_append_alike : MessagesAppendAlike
messages_append_alike s from m a b alike =
    let step = receive s from m in record {
      made = record {
        process = process-stays s m (node_after s (step a.process) a) ∙ ap (λ (p : Process). (step p).process) alike.process
            ∙ sym (process-stays s m (node_after s (step b.process) b));
        answer = refl;
        settled = ap (λ (p : Process). (step p).settled) alike.process;
      };
      links = λ x within other.
          let both = appended-alike s a b alike step x within in
          (both.0, others-stay s m _ x within other ∙ both.1, others-stay s m _ x within other ∙ both.2);
      emptied = λ dead named is. (emptied-by s m dead _ named is, emptied-by s m dead _ named is);
    }
