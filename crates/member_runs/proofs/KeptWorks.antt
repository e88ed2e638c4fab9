-- What an action of one member leaves of the process and the messages of another.
use Rattle.std.proofs.Common.{◌≡◌, ◌≢◌, Bool, false, List, [], ◌∷◌, ◌++◌, Option, Some, None, refl, sym, ap, ◌∙◌}
use Rattle.std.specs.List.{range_with_len}
use Rattle.group_types.specs.Dimensions.{Dimensions}
use Rattle.group_types.specs.Names.{same_process}
use Rattle.group_types.specs.declared.process.ProcessId.{ProcessId}
use Rattle.group_message.specs.declared.message.Message.{Message}
use Rattle.group_message.specs.declared.message.Message.TheVariants as tells
use Rattle.group_run.specs.Applying.{ProcessStep}
use Rattle.group_run.specs.Asking.{collect_from}
use Rattle.group_run.specs.Receiving.{receive}
use Rattle.group_run.specs.World.{flush_process, sent_to}
use Rattle.group_wire.specs.Actions.{Action, Begin, Send, Read, Treat, Collect, Flush, Learn, Receive, GiveUp, Cut, Say}
use Rattle.group_wire.specs.Actions.{Hear, Permit, Take, Ping, Pong, Count, Show, LetGo, Stop}
use Rattle.group_wire.specs.Sending.{parked_at, stepped, treating, works_after, works_received, works_treated}
use Rattle.group_wire.specs.Sets.{Processes, changed_from, one_or}
use Rattle.group_wire.specs.State.{Group, Request, Works}
use Rattle.member_runs.specs.Reading.{rest_of}
use Rattle.member_runs.proofs.Acting.{by_of, reads_message}
use Rattle.member_runs.proofs.Rows.{changed-other, less_if, row-empty, row-read}

-- the works of q stay, but that p may have read the first message
pub record KeepsWorks (w now : Works) (q p : ProcessId) (read : Bool) : Type 0 where
  pub process : now.process q ≡ w.process q
  pub messages : (r : ProcessId) → now.messages q r ≡ less_if read p (w.messages q) r

same-works : (w : Works) (q p : ProcessId) → KeepsWorks w w q p false
same-works w q p = record { process = refl; messages = λ r. refl }

-- the process of p makes a step behind it
stepped-behind : (cut : ProcessId → Processes) (t : ProcessStep) (w now : Works) (q p : ProcessId) (read : Bool) → q ≢ p → KeepsWorks w now q p read
    → KeepsWorks w (stepped cut p t now) q p read
stepped-behind cut t w now q p read other keeps = record {
  process = changed-other now.process p q t.process other ∙ keeps.process;
  messages = λ r.
      ap (λ (row : ProcessId → List Message). row r)
      (changed-other now.messages p q (λ to. one_or (cut p to) (now.messages p to) (now.messages p to ++ sent_to to t.sent)) other)
      ∙ keeps.messages r;
}

stepped-works : (cut : ProcessId → Processes) (t : ProcessStep) (w : Works) (q p : ProcessId) → q ≢ p → KeepsWorks w (stepped cut p t w) q p false
stepped-works cut t w q p other = stepped-behind cut t w w q p false other (same-works w q p)

treated-works : (s : Dimensions) (cut : ProcessId → Processes) (o : Option Request) (w : Works) (q p : ProcessId) → q ≢ p
    → KeepsWorks w (works_treated s cut p o w) q p false
treated-works s cut None w q p other = same-works w q p
treated-works s cut (Some r) w q p other = stepped-works cut (treating s r (w.process p)).step w q p other

received-works : (s : Dimensions) (cut : ProcessId → Processes) (w : Works) (q x p : ProcessId) (wire : List Message) → wire ≡ w.messages x p → q ≢ p
    → KeepsWorks w (works_received s cut x p wire w) q p (same_process q x)
received-works s cut w q x p [] is other = record { process = refl; messages = λ r. row-empty w.messages x p (sym is) q r }
received-works s cut w q x p (m ∷ rest) is other =
    let read : Works = record w { messages = changed_from w.messages x p rest } in
    stepped-behind cut (receive s x m (w.process p)) w read q p (same_process q x) other
    (record { process = refl; messages = λ r. row-read w.messages x p rest (ap rest_of is) q r })

pub keeps-works : (g : Group) (a : Action) (q : ProcessId) → q ≢ by_of g.shape a → KeepsWorks g.works (works_after g a) q (by_of g.shape a) (reads_message a q)
keeps-works g (Treat p place) q other = treated-works g.shape g.words.cut (parked_at g p place) g.works q p other
keeps-works g (Collect caller call p) q other =
    stepped-works g.words.cut (collect_from caller call (g.works.process p) (range_with_len 0 g.shape.k)).step g.works q p other
keeps-works g (Flush p) q other = stepped-works g.words.cut (flush_process g.shape (g.works.process p)).step g.works q p other
keeps-works g (Receive x p) q other = received-works g.shape g.words.cut g.works q x p (g.works.messages x p) refl other
keeps-works g (Take x p) q other = stepped-works g.words.cut (receive g.shape x (tells.Notice x) (g.works.process p)) g.works q p other
keeps-works g (Begin caller op) q other = same-works _ _ _
keeps-works g (Send caller to) q other = same-works _ _ _
keeps-works g (Read x p) q other = same-works _ _ _
keeps-works g (Learn x p) q other = same-works _ _ _
keeps-works g (GiveUp caller) q other = same-works _ _ _
keeps-works g (Cut x p) q other = same-works _ _ _
keeps-works g (Say p) q other = same-works _ _ _
keeps-works g (Hear x p) q other = same-works _ _ _
keeps-works g (Permit p) q other = same-works _ _ _
keeps-works g (Ping to p) q other = same-works _ _ _
keeps-works g (Pong x p) q other = same-works _ _ _
keeps-works g (Count x p) q other = same-works _ _ _
keeps-works g (Show caller ping) q other = same-works _ _ _
keeps-works g (LetGo caller) q other = same-works _ _ _
keeps-works g (Stop p) q other = same-works _ _ _
