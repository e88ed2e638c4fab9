-- A member whose frame another reads stands without that frame.
use Rattle.std.proofs.Common.{◌≡◌, ◌≢◌, Bool, List, [], ◌∷◌, ◌++◌, Option, Some, None, refl, sym, ap, subst, ◌∙◌}
use Rattle.std.specs.Prelude.{⊤}
use Rattle.group_types.specs.Dimensions.{Dimensions}
use Rattle.group_types.specs.Names.{IsProcess}
use Rattle.group_types.specs.declared.process.ProcessId.{ProcessId}
use Rattle.group_types.proofs.Names.{same-refl}
use Rattle.membership.specs.Members.{Membership}
use Rattle.group_message.specs.declared.message.Message.{Message}
use Rattle.group_wire.specs.Actions.{Action, Count, Hear, Learn, Pong, Read, Receive}
use Rattle.group_wire.specs.FromWhom.{NameTheirCallers}
use Rattle.group_wire.specs.Sets.{Processes}
use Rattle.group_wire.specs.State.{Group}
use Rattle.group_wire.specs.Stepping.{group_after}
use Rattle.group_member.specs.Acting.{AnswerComes, IsFirst, MessageComes, PingComes, PongComes, RequestComes, SetComes}
use Rattle.group_member.specs.Standing.{AreSets, HandedFrames, IsSetOf, Member, MemberStands}
use Rattle.member_runs.specs.Reading.{APing, APong, AMessage, ARequest, ASet, AnAnswer, Delivery, HandedFrame, IsFirstFor, without_first}
use Rattle.member_runs.proofs.Others.{others-stand}
use Rattle.member_runs.proofs.Rows.{less_if}

-- the action by which p reads a frame of x
abbrev pub reading : HandedFrame → ProcessId → ProcessId → Action
reading (AMessage m) x p = Receive x p
reading (ASet set) x p = Hear x p
reading (APing ping) x p = Pong x p
reading (APong ping) x p = Count x p
reading (ARequest r) x p = Read x p
reading (AnAnswer t) x p = Learn x p

-- the frame stands in front on the wire from x to p
abbrev pub FrameComes : HandedFrame → ProcessId → ProcessId → Group → Type 0
FrameComes (AMessage m) x p g = MessageComes x p m g
FrameComes (ASet set) x p g = SetComes x p set g
FrameComes (APing ping) x p g = PingComes x p ping g
FrameComes (APong ping) x p g = PongComes x p ping g
FrameComes (ARequest r) x p g = RequestComes x p r g
FrameComes (AnAnswer t) x p g = AnswerComes x p t g

abbrev pub Comes : Option Delivery → ProcessId → Group → Type 0
Comes None p g = ⊤
Comes (Some d) p g = FrameComes d.frame d.from p g

module _ (g : Group) (p : ProcessId) (out : HandedFrames) (v : Member) where
  -- the first that was handed out stands in front on its wire
  sets-first : (sets : List Processes) (known : List Membership) (set : Membership) (rest : List Membership) → known ≡ set ∷ rest → AreSets sets known
      → (first : Processes) × IsFirst sets first × IsSetOf first set
  sets-first [] known set rest is are = absurd (subst (λ (l : List Membership). AreSets [] l) is are)
  sets-first (first ∷ sets) known set rest is are =
      let both = subst (λ (l : List Membership). AreSets (first ∷ sets) l) is are in (first, (sets, refl), both.0)

  pub frame-comes : (f : HandedFrame) → IsProcess g.shape p → p ≢ v.words.name → IsFirstFor p f out → MemberStands g out v → FrameComes f v.words.name p g
  frame-comes (AMessage m) member other first st =
      let ahead = st.works.links p (subst (λ (s : Dimensions). IsProcess s p) st.shape member) in
      (first.0 ++ ahead.behind, ahead.is ∙ ap (λ (l : List Message). l ++ ahead.behind) first.1)
  frame-comes (ASet set) member other first st = sets-first (g.words.said v.words.name p) (out.said p) set first.0 first.1 (st.words.said p)
  frame-comes (APing ping) member other first st = (first.0, st.signs.pings p ∙ first.1)
  frame-comes (APong ping) member other first st = (first.0, st.signs.pongs p ∙ first.1)
  frame-comes (ARequest r) member other first st = (first.0, st.requests.requests p other ∙ first.1)
  frame-comes (AnAnswer t) member other first st = (first.0, st.requests.answers p other ∙ first.1)

  pub reader-stands : (f : HandedFrame) → NameTheirCallers g.shape g.gateways → v.words.name ≢ p → IsFirstFor p f out → MemberStands g out v
      → MemberStands (group_after g (reading f v.words.name p)) (without_first p f out) v
  reader-stands (AMessage m) theirs other first st = others-stand g (Receive v.words.name p) out (without_first p (AMessage m) out) v theirs other (record {
    messages = λ r. ap (λ (b : Bool). less_if b p out.messages r) (sym (same-refl v.words.name));
    said = λ r. refl;
    pings = λ r. refl;
    pongs = λ r. refl;
    requests = λ r. refl;
    answers = λ r. refl;
    handed = λ is. (m, first);
  }) st
  reader-stands (ASet set) theirs other first st = others-stand g (Hear v.words.name p) out (without_first p (ASet set) out) v theirs other (record {
    messages = λ r. refl;
    said = λ r. ap (λ (b : Bool). less_if b p out.said r) (sym (same-refl v.words.name));
    pings = λ r. refl;
    pongs = λ r. refl;
    requests = λ r. refl;
    answers = λ r. refl;
    handed = λ is. absurd (cc is);
  }) st
  reader-stands (APing ping) theirs other first st = others-stand g (Pong v.words.name p) out (without_first p (APing ping) out) v theirs other (record {
    messages = λ r. refl;
    said = λ r. refl;
    pings = λ r. ap (λ (b : Bool). less_if b p out.pings r) (sym (same-refl v.words.name));
    pongs = λ r. refl;
    requests = λ r. refl;
    answers = λ r. refl;
    handed = λ is. absurd (cc is);
  }) st
  reader-stands (APong ping) theirs other first st = others-stand g (Count v.words.name p) out (without_first p (APong ping) out) v theirs other (record {
    messages = λ r. refl;
    said = λ r. refl;
    pings = λ r. refl;
    pongs = λ r. ap (λ (b : Bool). less_if b p out.pongs r) (sym (same-refl v.words.name));
    requests = λ r. refl;
    answers = λ r. refl;
    handed = λ is. absurd (cc is);
  }) st
  reader-stands (ARequest q) theirs other first st = others-stand g (Read v.words.name p) out (without_first p (ARequest q) out) v theirs other (record {
    messages = λ r. refl;
    said = λ r. refl;
    pings = λ r. refl;
    pongs = λ r. refl;
    requests = λ r. ap (λ (b : Bool). less_if b p out.requests r) (sym (same-refl v.words.name));
    answers = λ r. refl;
    handed = λ is. absurd (cc is);
  }) st
  reader-stands (AnAnswer t) theirs other first st = others-stand g (Learn v.words.name p) out (without_first p (AnAnswer t) out) v theirs other (record {
    messages = λ r. refl;
    said = λ r. refl;
    pings = λ r. refl;
    pongs = λ r. refl;
    requests = λ r. refl;
    answers = λ r. ap (λ (b : Bool). less_if b p out.answers r) (sym (same-refl v.words.name));
    handed = λ is. absurd (cc is);
  }) st
