-- A step of members side by side: its actions may come, and then every member stands.
use Rattle.std.proofs.Common.{◌≡◌, ◌≢◌, List, [], ◌∷◌, Option, Some, None, inl, inr, refl, sym, subst, ◌∙◌}
use Rattle.group_types.specs.Dimensions.{Dimensions}
use Rattle.group_types.specs.Names.{IsProcess}
use Rattle.group_types.specs.declared.process.ProcessId.{ProcessId}
use Rattle.group_types.proofs.Names.{same-cases}
use Rattle.group_wire.specs.Actions.{Action}
use Rattle.group_wire.specs.Composed.{AreActionsFrom, Composed, composed_from, composed_with}
use Rattle.group_wire.specs.FromWhom.{CallersAreTheirs}
use Rattle.group_wire.specs.State.{Group}
use Rattle.group_member.specs.Standing.{HandedFrames, Member, MemberStands}
use Rattle.member_runs.specs.Calls.{actions_of, hands_of}
use Rattle.member_runs.specs.Reading.{APing, APong, AMessage, ARequest, ASet, AnAnswer, Delivery, HandedFrame, read_by, without_first}
use Rattle.member_runs.specs.System.{IsReadable, MayStep, System, SystemStep, after_step, out_read}
use Rattle.member_runs.proofs.Acting.{by_of, from_of}
use Rattle.member_runs.proofs.Calling.{ActsBy, AreOwn, called-by, called-where}
use Rattle.member_runs.proofs.Naming.{keeps-name}
use Rattle.member_runs.proofs.Others.{unread-stand}
use Rattle.member_runs.proofs.Reaching.{IsReached, all-come, goes-on, group-all, shape-reached, theirs-reached}
use Rattle.member_runs.proofs.Reading.{Comes, FrameComes, frame-comes, reader-stands, reading}
use Rattle.member_runs.proofs.Rows.{changed-here, changed-other}

-- the member of each process has its name, and stands
abbrev pub StandsAt : Group → System → ProcessId → Type 0
StandsAt g y p = ((y.members p).words.name ≡ p) × MemberStands g (y.out p) (y.members p)

abbrev pub Stand : Dimensions → Group → System → Type 0
Stand s g y = (p : ProcessId) → IsProcess s p → StandsAt g y p

reading-by : (s : Dimensions) (f : HandedFrame) (x p : ProcessId) → (by_of s (reading f x p) ≡ p) × (from_of s (reading f x p) ≡ x)
reading-by s (AMessage m) x p = (refl, refl)
reading-by s (ASet set) x p = (refl, refl)
reading-by s (APing ping) x p = (refl, refl)
reading-by s (APong ping) x p = (refl, refl)
reading-by s (ARequest r) x p = (refl, refl)
reading-by s (AnAnswer t) x p = (refl, refl)

module _ (always : CallersAreTheirs) (s : Dimensions) where
  -- actions of p that read no wire of another leave the others as they stand
  own-leave : (c : Composed) (actions : List Action) (p : ProcessId) (out : HandedFrames) (v : Member) → IsReached s c → AreActionsFrom c actions
      → AreOwn c.group.shape p actions → v.words.name ≢ p → MemberStands c.group out v → MemberStands (composed_from c actions).group out v
  own-leave c [] p out v reached are own other st = st
  own-leave c (a ∷ actions) p out v reached are own other st =
      own-leave (composed_with c a) actions p out v (goes-on s c (a ∷ []) reached (are.0, tt)) are.1 own.2 other
      (unread-stand c.group a out v (theirs-reached always s c reached) (λ same. other (same ∙ own.0)) (λ same. other (same ∙ own.1)) st)

  module _ (c : Composed) (y : System) (reached : IsReached s c) (stand : Stand s c.group y) where
    comes-to : (p : ProcessId) (d : Option Delivery) → IsProcess s p → IsReadable s y p d → Comes d p c.group
    comes-to p None member reads = tt
    comes-to p (Some d) member reads =
        let sender = stand d.from reads.sender in
        subst (λ (x : ProcessId). FrameComes d.frame x p c.group) sender.0
        (frame-comes c.group p (y.out d.from) (y.members d.from) d.frame (subst (λ (z : Dimensions). IsProcess z p) (sym (shape-reached s c reached)) member)
        (λ same. reads.other (sym (same ∙ sender.0))) reads.first sender.1)

    -- where p reads a frame of x
    read-leaves : (p : ProcessId) (d : Delivery) → IsReadable s y p (Some d) → (q : ProcessId) → IsProcess s q → q ≢ p
        → MemberStands (composed_with c (reading d.frame d.from p)).group (out_read p (Some d) y.out q) (y.members q)
    read-leaves p d reads q member other = elim (same-cases q d.from) [
      | inl same ↦
          let sender = stand d.from reads.sender in
          let x = (y.members d.from).words.name in
          let apart : x ≢ p = λ is. reads.other (sym sender.0 ∙ is) in
          let theirs = theirs-reached always s c reached in
          let stands = reader-stands c.group p (y.out d.from) (y.members d.from) d.frame theirs apart reads.first sender.1 in
          let named = subst (λ (z : ProcessId). MemberStands (composed_with c (reading d.frame z p)).group
          (without_first p d.frame (y.out d.from)) (y.members d.from)) sender.0 stands in
          let there = subst (λ (out : HandedFrames). MemberStands (composed_with c (reading d.frame d.from p)).group out (y.members d.from))
          (sym (changed-here y.out d.from (without_first p d.frame (y.out d.from)))) named in
          subst (λ (z : ProcessId). MemberStands (composed_with c (reading d.frame d.from p)).group
          (out_read p (Some d) y.out z) (y.members z)) (sym same) there
      | inr apart ↦
          let own = stand q member in
          let a = reading d.frame d.from p in
          let by = reading-by c.group.shape d.frame d.from p in
          subst (λ (out : HandedFrames). MemberStands (composed_with c a).group out (y.members q))
          (sym (changed-other y.out d.from q (without_first p d.frame (y.out d.from)) apart))
          (unread-stand c.group a (y.out q) (y.members q) (theirs-reached always s c reached) (λ same. other (sym own.0 ∙ same ∙ by.0))
          (λ same. apart (sym own.0 ∙ same ∙ by.1)) own.1)
    ]

    others-leave : (p : ProcessId) (d : Option Delivery) (actions : List Action) → IsReadable s y p d
        → ActsBy d c.group.shape p actions → AreActionsFrom c actions
        → (q : ProcessId) → IsProcess s q → q ≢ p → MemberStands (composed_from c actions).group (out_read p d y.out q) (y.members q)
    others-leave p None actions reads own are q member other =
        let at = stand q member in own-leave c actions p (y.out q) (y.members q) reached are own (λ same. other (sym at.0 ∙ same)) at.1
    others-leave p (Some d) actions reads is are q member other =
        subst (λ (l : List Action). MemberStands (composed_from c l).group (out_read p (Some d) y.out q) (y.members q))
        (sym is) (read-leaves p d reads q member other)

    pub step-stands : (t : SystemStep) → MayStep s y t → AreActionsFrom c (actions_of t.call (y.members t.at))
        × Stand s (composed_from c (actions_of t.call (y.members t.at))).group (after_step y t)
    step-stands t may =
        let p = t.at in
        let before = y.members p in
        let actions = actions_of t.call before in
        let own = stand p may.member in
        let comes = subst (λ (z : ProcessId). Comes (read_by t.call) z c.group) (sym own.0) (comes-to p (read_by t.call) may.member may.reads) in
        let acts = called-where t.call before t.after may.called c.group (y.out p) own.1 comes in
        let are = all-come c actions acts.may in
        let after = (composed_from c actions).group in
        let named = keeps-name t.call before t.after c.group (y.out p) may.called own.1 comes ∙ own.0 in
        let standing = subst (λ (g : Group). MemberStands g (hands_of t.call before (y.out p)) t.after) (sym (group-all c actions)) acts.stands in
        let shape = own.1.shape in
        let by = subst (λ (z : ProcessId). ActsBy (read_by t.call) c.group.shape z actions) own.0
        (subst (λ (z : Dimensions). ActsBy (read_by t.call) z before.words.name actions) (sym shape)
        (called-by t.call before t.after own.1.own (subst (λ (z : Dimensions). IsProcess z before.words.name) shape own.1.here.member) may.called)) in (
          are,
          λ q member. elim (same-cases q p) [
            | inl same ↦ subst (λ (z : ProcessId). StandsAt after (after_step y t) z) (sym same)
                (subst (λ (v : Member). (v.words.name ≡ p) × MemberStands after ((after_step y t).out p) v) (sym (changed-here y.members p t.after))
                (subst (λ (out : HandedFrames). (t.after.words.name ≡ p) × MemberStands after out t.after)
                (sym (changed-here (out_read p (read_by t.call) y.out) p (hands_of t.call before (y.out p)))) (named, standing)))
            | inr other ↦
                (subst (λ (v : Member). (v.words.name ≡ q) × MemberStands after ((after_step y t).out q) v) (sym (changed-other y.members p q t.after other))
                (subst (λ (out : HandedFrames). ((y.members q).words.name ≡ q) × MemberStands after out (y.members q))
                (sym (changed-other (out_read p (read_by t.call) y.out) p q (hands_of t.call before (y.out p)) other))
                ((stand q member).0, others-leave p (read_by t.call) actions may.reads by are q member other)))
          ],
        )
