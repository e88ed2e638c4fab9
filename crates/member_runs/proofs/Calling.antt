-- The clauses of a member's calls, in one form: what a call reads, and by whom its actions are.
use Rattle.std.proofs.Common.{ℕ, ◌≡◌, List, [], ◌∷◌, Option, Some, None, refl}
use Rattle.std.specs.Prelude.{⊤}
use Rattle.group_types.specs.Dimensions.{Dimensions}
use Rattle.group_types.specs.Names.{IsProcess}
use Rattle.group_types.specs.declared.process.ProcessId.{ProcessId}
use Rattle.group_wire.specs.Actions.{Action}
use Rattle.group_wire.specs.State.{gateway_of}
use Rattle.group_member.specs.Acting.{ActsWhere}
use Rattle.group_member.specs.Callers.{AreCallersOf, IsItsCaller}
use Rattle.group_member.specs.Standing.{Member}
use Rattle.member_runs.specs.Calls.{Begins, Collects, Counts, Cuts, Flushes, GivesUp, HandsOut, HasCalled, Hears}
use Rattle.member_runs.specs.Calls.{Learns, LetsGo, MemberCall, Permits, Pings, Pongs, Reads, Receives, Says, Sends}
use Rattle.member_runs.specs.Calls.{SendsHere, Shows, Takes, TakesLost, Treats, actions_of, hands_of}
use Rattle.member_runs.specs.Reading.{Delivery, read_by}
use Rattle.member_runs.proofs.Acting.{by_of, from_of}
use Rattle.member_runs.proofs.Others.{its-gateway}
use Rattle.member_runs.proofs.Reading.{Comes, reading}

pub called-where : (c : MemberCall) (before after : Member) → HasCalled c before after
    → ActsWhere (Comes (read_by c) before.words.name) (actions_of c before) (hands_of c before) before after
called-where (Receives from m) before after called = called
called-where (Cuts x) before after called = λ g out st none. called g out st
called-where (Says set) before after called = λ g out st none. called g out st
called-where (Hears from set) before after called = called
called-where Permits before after called = λ g out st none. called g out st
called-where (Takes x) before after called = λ g out st none. called g out st
called-where Flushes before after called = λ g out st none. called g out st
called-where (HandsOut to m) before after called = λ g out st none. called g out st
called-where TakesLost before after called = λ g out st none. called g out st
called-where (Pings to ping) before after called = λ g out st none. called g out st
called-where (Pongs from ping) before after called = called
called-where (Counts from ping) before after called = called
called-where (Begins caller op) before after called = λ g out st none. called.1 g out st
called-where (Sends caller to r) before after called = λ g out st none. called.1 g out st
called-where (SendsHere caller) before after called = λ g out st none. called.1 g out st
called-where (Reads from r) before after called = called
called-where (Treats place told) before after called = λ g out st none. called g out st
called-where (Learns from t) before after called = called
called-where (Collects caller call told) before after called = λ g out st none. called g out st
called-where (GivesUp caller) before after called = λ g out st none. called.1 g out st
called-where (Shows caller ping) before after called = λ g out st none. called.1 g out st
called-where (LetsGo caller) before after called = λ g out st none. called.1 g out st

-- actions of p that read no wire of another
abbrev pub AreOwn : Dimensions → ProcessId → List Action → Type 0
AreOwn s p [] = ⊤
AreOwn s p (a ∷ actions) = (by_of s a ≡ p) × (from_of s a ≡ p) × AreOwn s p actions

-- the actions of a call are such, or are the one that reads
abbrev pub ActsBy : Option Delivery → Dimensions → ProcessId → List Action → Type 0
ActsBy None s p actions = AreOwn s p actions
ActsBy (Some d) s p actions = actions ≡ reading d.frame d.from p ∷ []

pub called-by : (c : MemberCall) (before after : Member) → AreCallersOf before.words.shape before.words.name before.callers
    → IsProcess before.words.shape before.words.name → HasCalled c before after
    → ActsBy (read_by c) before.words.shape before.words.name (actions_of c before)
called-by c before after own member called = by c called where
  its : (caller : ℕ) → IsItsCaller before.callers caller → gateway_of before.words.shape caller ≡ before.words.name
  its caller mine = its-gateway before.words.shape before.words.name before.callers caller own member mine

  by : (c : MemberCall) → HasCalled c before after → ActsBy (read_by c) before.words.shape before.words.name (actions_of c before)
  by (Receives from m) called = refl
  by (Cuts x) called = (refl, refl, tt)
  by (Says set) called = (refl, refl, tt)
  by (Hears from set) called = refl
  by Permits called = (refl, refl, tt)
  by (Takes x) called = (refl, refl, tt)
  by Flushes called = (refl, refl, tt)
  by (HandsOut to m) called = tt
  by TakesLost called = tt
  by (Pings to ping) called = (refl, refl, tt)
  by (Pongs from ping) called = refl
  by (Counts from ping) called = refl
  by (Begins caller op) called = (its caller called.0, its caller called.0, tt)
  by (Sends caller to r) called = (its caller called.0, its caller called.0, tt)
  by (SendsHere caller) called = (its caller called.0, its caller called.0, (refl, refl, (refl, refl, (refl, refl, tt))))
  by (Reads from r) called = refl
  by (Treats place told) called = (refl, refl, (refl, refl, tt))
  by (Learns from t) called = refl
  by (Collects caller call told) called = (refl, refl, (refl, refl, tt))
  by (GivesUp caller) called = (its caller called.0, its caller called.0, tt)
  by (Shows caller ping) called = (its caller called.0, its caller called.0, tt)
  by (LetsGo caller) called = (its caller called.0, its caller called.0, tt)
