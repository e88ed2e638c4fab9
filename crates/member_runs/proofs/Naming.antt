-- A member that makes a call keeps its name: a group in which another has stopped tells them apart.
use Rattle.std.proofs.Common.{◌≡◌, ◌≢◌, Bool, true, false, List, [], ◌∷◌, Option, Some, None, inl, inr, refl, sym, ap, ◌∙◌}
use Rattle.group_types.specs.Names.{same_process}
use Rattle.group_types.specs.declared.process.ProcessId.{ProcessId}
use Rattle.group_types.proofs.Names.{same-cases}
use Rattle.group_wire.specs.Actions.{Action, Begin, Send, Read, Treat, Collect, Flush, Learn, Receive, GiveUp, Cut, Say}
use Rattle.group_wire.specs.Actions.{Hear, Permit, Take, Ping, Pong, Count, Show, LetGo, Stop}
use Rattle.group_wire.specs.Sets.{Processes, one_or, with_one}
use Rattle.group_wire.specs.State.{Group}
use Rattle.group_wire.specs.Stepping.{gone_after, group_after}
use Rattle.group_member.specs.Acting.{group_after_all}
use Rattle.group_member.specs.Standing.{HandedFrames, Member, MemberStands}
use Rattle.member_runs.specs.Calls.{HasCalled, MemberCall, actions_of}
use Rattle.member_runs.specs.Reading.{APing, APong, AMessage, ARequest, ASet, AnAnswer, Delivery, HandedFrame, read_by}
use Rattle.member_runs.proofs.Calling.{called-where}
use Rattle.member_runs.proofs.Reading.{Comes, FrameComes}
use Rattle.member_runs.proofs.Rows.{changed-here, changed-other}

true-too : (b : Bool) → one_or b true true ≡ true
true-too true = refl
true-too false = refl

-- one that is gone stays so
gone-on : (gone : Processes) (a : Action) (r : ProcessId) → gone r ≡ true → gone_after gone a r ≡ true
gone-on gone (Stop p) r is = ap (λ (b : Bool). one_or (same_process r p) true b) is ∙ true-too (same_process r p)
gone-on gone (Begin caller op) r is = is
gone-on gone (Send caller to) r is = is
gone-on gone (Read x p) r is = is
gone-on gone (Treat p place) r is = is
gone-on gone (Collect caller call p) r is = is
gone-on gone (Flush p) r is = is
gone-on gone (Learn x p) r is = is
gone-on gone (Receive x p) r is = is
gone-on gone (GiveUp caller) r is = is
gone-on gone (Cut x p) r is = is
gone-on gone (Say p) r is = is
gone-on gone (Hear x p) r is = is
gone-on gone (Permit p) r is = is
gone-on gone (Take x p) r is = is
gone-on gone (Ping to p) r is = is
gone-on gone (Pong x p) r is = is
gone-on gone (Count x p) r is = is
gone-on gone (Show caller ping) r is = is
gone-on gone (LetGo caller) r is = is

gone-all : (g : Group) (actions : List Action) (r : ProcessId) → g.gone r ≡ true → (group_after_all g actions).gone r ≡ true
gone-all g [] r is = is
gone-all g (a ∷ actions) r is = gone-all (group_after g a) actions r (gone-on g.gone a r is)

-- the group, in which one has stopped
abbrev stopped : Group → ProcessId → Group
stopped g r = record g { gone = with_one g.gone r }

frame-stopped : (f : HandedFrame) (x p r : ProcessId) (g : Group) → FrameComes f x p g → FrameComes f x p (stopped g r)
frame-stopped (AMessage m) x p r g comes = comes
frame-stopped (ASet set) x p r g comes = comes
frame-stopped (APing ping) x p r g comes = comes
frame-stopped (APong ping) x p r g comes = comes
frame-stopped (ARequest q) x p r g comes = comes
frame-stopped (AnAnswer t) x p r g comes = comes

comes-stopped : (d : Option Delivery) (p r : ProcessId) (g : Group) → Comes d p g → Comes d p (stopped g r)
comes-stopped None p r g comes = tt
comes-stopped (Some d) p r g comes = frame-stopped d.frame d.from p r g comes

stands-stopped : (g : Group) (r : ProcessId) (out : HandedFrames) (v : Member) → v.words.name ≢ r → MemberStands g out v → MemberStands (stopped g r) out v
stands-stopped g r out v other st = record {
  shape = st.shape;
  here = record { member = st.here.member; runs = changed-other g.gone r v.words.name true other ∙ st.here.runs };
  words = st.words;
  works = st.works;
  signs = st.signs;
  own = st.own;
  callers = st.callers;
  requests = st.requests;
}

pub keeps-name : (c : MemberCall) (before after : Member) (g : Group) (out : HandedFrames) → HasCalled c before after → MemberStands g out before
    → Comes (read_by c) before.words.name g → after.words.name ≡ before.words.name
keeps-name c before after g out called st comes = elim (same-cases after.words.name before.words.name) [
  | inl same ↦ same
  | inr other ↦
      let r = after.words.name in
      let acts = called-where c before after called (stopped g r) out (stands-stopped g r out before (λ same. other (sym same)) st)
      (comes-stopped (read_by c) before.words.name r g comes) in
      absurd (cc (acts.stands.here.runs, gone-all (stopped g r) (actions_of c before) r (changed-here g.gone r true)))
]
