-- The calls of a member by which its process treats a request, or hands out a reply, are the group's actions.
use Rattle.std.proofs.Common.{ℕ, ◌≡◌, List, [], ◌∷◌, ◌++◌, length, refl, sym, ap, subst}
use Rattle.std.specs.List.{range_with_len}
use Rattle.std.specs.Prelude.{Option, Some, None}
use Rattle.group_types.specs.Hash.{home_of}
use Rattle.group_types.specs.declared.process.ProcessId.{ProcessId}
use Rattle.memc_table.specs.Act.{key_of}
use Rattle.group_run.specs.Asking.{collect_from}
use Rattle.group_run.specs.Process.{Node}
use Rattle.group_wire.specs.Actions.{Collect, Learn, Read, Send, Treat}
use Rattle.group_wire.specs.May.{MayAct}
use Rattle.group_wire.specs.Sending.{treating}
use Rattle.group_wire.specs.Serving.{handed_to, told_of}
use Rattle.group_wire.specs.Sets.{entry_at, without_nth}
use Rattle.group_wire.specs.State.{Request, AskFor, TraceOf, Told, Unasked, Unknown, OpenCall, Group}
use Rattle.group_wire.specs.Stepping.{group_after}
use Rattle.group_member.specs.Acting.{Acts, ActsHanding, answer_handed, request_handed}
use Rattle.group_member.specs.Callers.{CanBeAsked, CanBeTraced, IsItsCaller, OwnCaller, ask_for, ask_of, asked_of}
use Rattle.group_member.specs.Callers.{caller_of, is_unasked, is_unknown, trace_of, with_caller}
use Rattle.group_member.specs.Requests.{HasGateway}
use Rattle.group_member.specs.Standing.{HandedFrames, Member, MemberStands}
use Rattle.group_member.specs.Telling.{callers_heard, handed_of}
use Rattle.group_member.specs.Treating.{sent_here}
use Rattle.group_member.specs.Words.{AreWords, CanReadFrom}
use Rattle.group_member.proofs.Asked.{open-at, unasked-is, unknown-is}
use Rattle.group_member.proofs.Calls.{StandsWith, stands-with, with-stands}
use Rattle.group_member.proofs.Learned.{read-own, reads-from}
use Rattle.group_member.proofs.Sent.{ask-own, ask-to, may-send, state_asked, state_traced, trace-own, trace-to}
use Rattle.group_member.proofs.Told.{IsOwns, learns-own, listed, own_of}
use Rattle.group_member.proofs.Treated.{HasStep, collected, treated-at}

-- the entry behind a list, and the list without it
entry-behind : {X : Type 0} (xs : List X) (x : X) → entry_at (xs ++ x ∷ []) (length xs) ≡ Some x
entry-behind [] x = refl
entry-behind (y ∷ xs) x = entry-behind xs x

without-behind : {X : Type 0} (xs : List X) (x : X) → without_nth (xs ++ x ∷ []) (length xs) ≡ xs
without-behind [] x = refl
without-behind (y ∷ xs) x = ap (λ (l : List _). y ∷ l) (without-behind xs x)

-- a member reads its own wires
reads-own : (g : Group) (out : HandedFrames) (v : Member) (asked : List Request) (told : List Told) → AreWords v.words
    → StandsWith g out v asked told → MayAct g (Learn v.words.name v.words.name)
reads-own g out v asked told words st = reads-from g out v asked told st v.words.name words.member words.lives

-- a call is asked of another, or traced there
pub ask-acts : (v : Member) (caller : ℕ) (x : ProcessId) (o : OpenCall) → IsItsCaller v.callers caller
    → (caller_of v.callers caller).call ≡ Some o → o.stage ≡ Unasked
    → CanReadFrom v.words x → ActsHanding (Send caller x ∷ []) (request_handed x (AskFor caller (caller_of v.callers caller).next o.op)) v
    (record v { callers = with_caller v.callers caller (state_asked v caller x) })
ask-acts v caller x o its opened unasked can g out st = record {
  may = (may-send g out v (stands-with st) caller its o opened x can.member, tt);
  stands = with-stands (ask-to g out v (stands-with st) caller its o opened x can unasked);
}

pub trace-acts : (v : Member) (caller : ℕ) (x : ProcessId) (o : OpenCall) → IsItsCaller v.callers caller
    → (caller_of v.callers caller).call ≡ Some o → o.stage ≡ Unknown
    → CanReadFrom v.words x
    → ActsHanding (Send caller x ∷ []) (request_handed x (TraceOf caller o.position (home_of (key_of o.op.act) v.words.shape.k))) v
    (record v { callers = with_caller v.callers caller (state_traced v caller x) })
trace-acts v caller x o its opened unknown can g out st = record {
  may = (may-send g out v (stands-with st) caller its o opened x can.member, tt);
  stands = with-stands (trace-to g out v (stands-with st) caller its o opened x can unknown);
}

-- a request that was read is treated, and what the member tells itself it learns
pub treat-acts : (v : Member) (place : ℕ) (r : Request) (node : Node) (t : Option Told) → AreWords v.words → entry_at v.parked place ≡ Some r
    → HasStep v (treating v.words.shape r v.node.process) node → told_of r (treating v.words.shape r v.node.process).answer ≡ listed t → IsOwns v t
    → ActsHanding (Treat v.words.name place ∷ Learn v.words.name v.words.name ∷ []) (answer_handed v.words.shape (handed_of v.words t)) v
    (record v { callers = callers_heard v.words v.signs.pinged t v.callers; parked = without_nth v.parked place; node = node })
treat-acts v place r node t words there step tells its g out st =
    let u = treating v.words.shape r v.node.process in
    let p = v.words.name in
    let after : Member = record v { parked = without_nth v.parked place; node = node } in
    let frames = answer_handed v.words.shape (handed_of v.words t) out in
    let made = treated-at g out v (stands-with st) words.lives u node step t place r there refl tells in
    let h = group_after g (Treat p place) in
    record {
      may = (st.here, (reads-own h frames after [] (own_of v.words t) words made, tt));
      stands = with-stands (learns-own h frames after t its made);
    }

pub collect-acts : (v : Member) (caller call : ℕ) (node : Node) (t : Option Told) → AreWords v.words → HasGateway v.words.shape caller
    → HasStep v (collect_from caller call v.node.process (range_with_len 0 v.words.shape.k)) node
    → handed_to caller call (collect_from caller call v.node.process (range_with_len 0 v.words.shape.k)).answer ≡ listed t → IsOwns v t
    → ActsHanding (Collect caller call v.words.name ∷ Learn v.words.name v.words.name ∷ []) (answer_handed v.words.shape (handed_of v.words t)) v
    (record v { callers = callers_heard v.words v.signs.pinged t v.callers; node = node })
collect-acts v caller call node t words can step tells its g out st =
    let u = collect_from caller call v.node.process (range_with_len 0 v.words.shape.k) in
    let after : Member = record v { node = node } in
    let frames = answer_handed v.words.shape (handed_of v.words t) out in
    let made = collected g out v (stands-with st) words.lives u node step t caller call refl tells in
    let h = group_after g (Collect caller call v.words.name) in
    record {
      may = ((can.low, st.here), (reads-own h frames after [] (own_of v.words t) words made, tt));
      stands = with-stands (learns-own h frames after t its made);
    }

-- what a member sends itself it reads, treats and learns
module _ (v : Member) (caller : ℕ) (o : OpenCall) (its : IsItsCaller v.callers caller)
    (opened : (caller_of v.callers caller).call ≡ Some o) (words : AreWords v.words) where
  here-acts : (state : OwnCaller) (r : Request) (node : Node) (t : Option Told)
      → ((g : Group) (out : HandedFrames) → MemberStands g out v
      → StandsWith (group_after g (Send caller v.words.name)) out (record v { callers = with_caller v.callers caller state }) (r ∷ []) [])
      → HasStep v (treating v.words.shape r v.node.process) node → told_of r (treating v.words.shape r v.node.process).answer ≡ listed t
      → handed_of v.words t ≡ None → IsOwns (record v { callers = with_caller v.callers caller state }) t
      → Acts (sent_here v caller) v (record v { callers = callers_heard v.words v.signs.pinged t (with_caller v.callers caller state); node = node })
  here-acts state r node t sent step tells nothing owns g out st =
      let p = v.words.name in
      let n = length v.parked in
      let asked : Member = record v { callers = with_caller v.callers caller state } in
      let read : Member = record asked { parked = v.parked ++ r ∷ [] } in
      let without-it = without-behind v.parked r in
      let g1 = group_after g (Send caller p) in
      let g2 = group_after g1 (Read p p) in
      let g3 = group_after g2 (Treat p n) in
      let one = sent g out st in
      let two = read-own g1 out asked r one in
      let three = treated-at g2 out read two words.lives (treating v.words.shape r v.node.process) node
      (record { process = step.process; sends = step.sends }) t n r
      (entry-behind v.parked r) refl tells in
      let treated : Member = record read { parked = without_nth read.parked n; node = node } in
      let there = subst (λ (h : Option Told). StandsWith g3 (answer_handed v.words.shape h out) treated [] (own_of v.words t)) nothing three in
      let four = learns-own g3 out treated t owns there in
      record {
        may = (
          may-send g out v (stands-with st) caller its o opened p words.member,
          (reads-from g1 out asked (r ∷ []) [] one p words.member words.lives, (two.here, (reads-own g3 out treated [] (own_of v.words t) words there, tt))),
        );
        stands = subst (λ (parked : List Request). MemberStands (group_after g3 (Learn p p)) out
            (record v { callers = callers_heard v.words v.signs.pinged t (with_caller v.callers caller state); parked = parked; node = node }))
            without-it (with-stands four);
      }

  pub ask-here-acts : o.stage ≡ Unasked → (node : Node) (t : Option Told)
      → HasStep v (treating v.words.shape (AskFor caller (caller_of v.callers caller).next o.op) v.node.process) node
      → told_of (AskFor caller (caller_of v.callers caller).next o.op)
      (treating v.words.shape (AskFor caller (caller_of v.callers caller).next o.op) v.node.process).answer ≡ listed t
      → handed_of v.words t ≡ None → IsOwns (record v { callers = with_caller v.callers caller (state_asked v caller v.words.name) }) t
      → Acts (sent_here v caller) v
      (record v { callers = callers_heard v.words v.signs.pinged t (with_caller v.callers caller (state_asked v caller v.words.name)); node = node })
  ask-here-acts unasked node t step tells nothing owns =
      here-acts (state_asked v caller v.words.name) (AskFor caller (caller_of v.callers caller).next o.op) node t
      (λ g out st. ask-own g out v (stands-with st) caller its o opened words.lives unasked) step tells nothing owns

  pub trace-here-acts : o.stage ≡ Unknown → (node : Node) (t : Option Told)
      → HasStep v (treating v.words.shape (TraceOf caller o.position (home_of (key_of o.op.act) v.words.shape.k)) v.node.process) node
      → told_of (TraceOf caller o.position (home_of (key_of o.op.act) v.words.shape.k))
      (treating v.words.shape (TraceOf caller o.position (home_of (key_of o.op.act) v.words.shape.k)) v.node.process).answer ≡ listed t
      → handed_of v.words t ≡ None → IsOwns (record v { callers = with_caller v.callers caller (state_traced v caller v.words.name) }) t
      → Acts (sent_here v caller) v
      (record v { callers = callers_heard v.words v.signs.pinged t (with_caller v.callers caller (state_traced v caller v.words.name)); node = node })
  trace-here-acts unknown node t step tells nothing owns =
      here-acts (state_traced v caller v.words.name) (TraceOf caller o.position (home_of (key_of o.op.act) v.words.shape.k)) node t
      (λ g out st. trace-own g out v (stands-with st) caller its o opened words.lives unknown) step tells nothing owns

-- the same by the request that is handed out
pub asks : (v : Member) (caller : ℕ) (x : ProcessId) → CanBeAsked v.callers caller → CanReadFrom v.words x → (r : Request) → Some r ≡ ask_of v.callers caller
    → ActsHanding (Send caller x ∷ []) (request_handed x r) v (record v { callers = with_caller v.callers caller (asked_of x (caller_of v.callers caller)) })
asks v caller x can reads r is =
    let one = open-at is_unasked (caller_of v.callers caller).call can.unasked in
    let n = (caller_of v.callers caller).next in
    let same : r ≡ AskFor caller n one.opened.op = cc (is, ap (ask_for caller n) one.is) in
    subst (λ (q : Request). ActsHanding (Send caller x ∷ []) (request_handed x q) v
    (record v { callers = with_caller v.callers caller (asked_of x (caller_of v.callers caller)) })) (sym same)
    (ask-acts v caller x one.opened can.its one.is (unasked-is one.opened.stage one.stage) reads)

pub traces : (v : Member) (caller : ℕ) (x : ProcessId) → CanBeTraced v.callers caller → CanReadFrom v.words x → (r : Request)
    → Some r ≡ trace_of v.words.shape.k caller (caller_of v.callers caller).call
    → ActsHanding (Send caller x ∷ []) (request_handed x r) v (record v { callers = with_caller v.callers caller (state_traced v caller x) })
traces v caller x can reads r is =
    let one = open-at is_unknown (caller_of v.callers caller).call can.unknown in
    let o = one.opened in
    let same : r ≡ TraceOf caller o.position (home_of (key_of o.op.act) v.words.shape.k) = cc (is, ap (trace_of v.words.shape.k caller) one.is) in
    subst (λ (q : Request). ActsHanding (Send caller x ∷ []) (request_handed x q) v
    (record v { callers = with_caller v.callers caller (state_traced v caller x) })) (sym same)
    (trace-acts v caller x o can.its one.is (unknown-is o.stage one.stage) reads)
