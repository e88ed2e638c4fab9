-- An action of one member leaves each other standing, whose frames lose the first where it was read.
use Rattle.std.proofs.Common.{ℕ, ◌≡◌, ◌≢◌, ◌<◌, ◌≤◌, ◌+◌, ◌-◌, ◌*◌, ◌/◌, Bool, true, false, List, [], ◌∷◌, ◌++◌, length, refl, sym, ap, subst, ◌∙◌, arith}
use Rattle.std.proofs.lemmas.Nat.{div-mul-add}
use Rattle.group_types.specs.Dimensions.{Dimensions, callers}
use Rattle.group_types.specs.Lists.{at}
use Rattle.group_types.specs.Names.{IsProcess, index_of, process_at, same_process}
use Rattle.group_types.specs.declared.process.ProcessId.{ProcessId}
use Rattle.group_types.proofs.Names.{process_at-index, same-eq, same-ne}
use Rattle.membership.specs.Members.{Membership, knows_dead}
use Rattle.group_message.specs.declared.message.Message.{Message}
use Rattle.group_wire.specs.Actions.{Action}
use Rattle.group_wire.specs.FromWhom.{NameTheirCallers}
use Rattle.group_wire.specs.Sets.{Processes, one_or}
use Rattle.group_wire.specs.State.{Group, gateway_of}
use Rattle.group_wire.specs.Stepping.{group_after}
use Rattle.group_member.specs.Acting.{IsFirst}
use Rattle.group_member.specs.Callers.{AreCallersOf, IsItsCaller, OwnCallers}
use Rattle.group_member.specs.Standing.{AreSets, HandedFrames, IsAhead, Member, MemberStands}
use Rattle.member_runs.specs.Reading.{rest_of}
use Rattle.member_runs.proofs.Acting.{by_of, from_of, leaves-wires, reads_answer, reads_message, reads_ping, reads_pong, reads_request, reads_set}
use Rattle.member_runs.proofs.KeptGateways.{keeps-gateways}
use Rattle.member_runs.proofs.KeptSigns.{keeps-here, keeps-signs}
use Rattle.member_runs.proofs.KeptWords.{keeps-words}
use Rattle.member_runs.proofs.KeptWorks.{keeps-works}
use Rattle.member_runs.proofs.Rows.{less_if}

-- an action of p makes this of what q handed out
pub record LosesFirst (a : Action) (q p : ProcessId) (out now : HandedFrames) : Type 0 where
  pub messages : (r : ProcessId) → now.messages r ≡ less_if (reads_message a q) p out.messages r
  pub said : (r : ProcessId) → now.said r ≡ less_if (reads_set a q) p out.said r
  pub pings : (r : ProcessId) → now.pings r ≡ less_if (reads_ping a q) p out.pings r
  pub pongs : (r : ProcessId) → now.pongs r ≡ less_if (reads_pong a q) p out.pongs r
  pub requests : (r : ProcessId) → now.requests r ≡ less_if (reads_request a q) p out.requests r
  pub answers : (r : ProcessId) → now.answers r ≡ less_if (reads_answer a q) p out.answers r
  pub handed : reads_message a q ≡ true → (m : Message) × IsFirst (out.messages p) m

-- the same lists lose the same
same-less : {X : Type 0} (b : Bool) (p : ProcessId) (row frames : ProcessId → List X) (r : ProcessId) → ((z : ProcessId) → row z ≡ frames z)
    → less_if b p row r ≡ less_if b p frames r
same-less true p row frames r same =
    ap (λ (l : List _). one_or (same_process r p) (rest_of l) (row r)) (same p)
    ∙ ap (λ (l : List _). one_or (same_process r p) (rest_of (frames p)) l) (same r)
same-less false p row frames r same = same r

rest-sets : (sets : List Processes) (known : List Membership) → AreSets sets known → AreSets (rest_of sets) (rest_of known)
rest-sets [] [] are = tt
rest-sets (set ∷ sets) (k ∷ known) are = are.1
rest-sets [] (k ∷ known) are = absurd are
rest-sets (set ∷ sets) [] are = absurd are

sets-less : (b : Bool) (p : ProcessId) (row : ProcessId → List Processes) (frames : ProcessId → List Membership) (r : ProcessId)
    → ((z : ProcessId) → AreSets (row z) (frames z)) → AreSets (less_if b p row r) (less_if b p frames r)
sets-less false p row frames r are = are r
sets-less true p row frames r are = by (same_process r p) where
  by : (c : Bool) → AreSets (one_or c (rest_of (row p)) (row r)) (one_or c (rest_of (frames p)) (frames r))
  by true = rest-sets (row p) (frames p) (are p)
  by false = are r

ahead-rest : (cut : Bool) (wire out held : List Message) (m : Message) → IsFirst out m → IsAhead cut wire out held
    → IsAhead cut (rest_of wire) (rest_of out) held
ahead-rest cut wire out held m first ahead = record {
  behind = ahead.behind;
  is = ap rest_of (ahead.is ∙ ap (λ (l : List Message). l ++ ahead.behind) first.1) ∙ ap (λ (l : List Message). rest_of l ++ ahead.behind) (sym first.1);
  kept = ahead.kept;
}

ahead-less : (cut b : Bool) (p : ProcessId) (row frames : ProcessId → List Message) (held : List Message) (r : ProcessId)
    → (b ≡ true → (m : Message) × IsFirst (frames p) m) → (r ≡ p → IsAhead cut (row p) (frames p) held) → IsAhead cut (row r) (frames r) held
    → IsAhead cut (less_if b p row r) (less_if b p frames r) held
ahead-less cut false p row frames held r handed here ahead = ahead
ahead-less cut true p row frames held r handed here ahead = by (same_process r p) refl where
  by : (c : Bool) → same_process r p ≡ c → IsAhead cut (one_or c (rest_of (row p)) (row r)) (one_or c (rest_of (frames p)) (frames r)) held
  by true same = let first = handed refl in ahead-rest cut (row p) (frames p) held first.0 first.1 (here (same-eq r p same))
  by false other = ahead

-- what stands in a row for one that doesn't read
own-row : {X : Type 0} (b : Bool) (p q : ProcessId) (row : ProcessId → List X) → q ≢ p → less_if b p row q ≡ row q
own-row true p q row other = ap (λ (c : Bool). one_or c (rest_of (row p)) (row q)) (same-ne q p other)
own-row false p q row other = refl

-- the same lists but for those of q lose the same
other-less : {X : Type 0} (b : Bool) (p q : ProcessId) (row frames : ProcessId → List X) (r : ProcessId) → q ≢ p → ((z : ProcessId) → z ≢ q → row z ≡ frames z)
    → r ≢ q → less_if b p row r ≡ less_if b p frames r
other-less true p q row frames r other same apart =
    ap (λ (l : List _). one_or (same_process r p) (rest_of l) (row r)) (same p (λ here. other (sym here)))
    ∙ ap (λ (l : List _). one_or (same_process r p) (rest_of (frames p)) l) (same r apart)
other-less false p q row frames r other same apart = same r apart

-- the quotient of a number between two multiples
quotient : (c n i : ℕ) → i * n ≤ c → c < i * n + n → c / n ≡ i
quotient c n i low high =
    let base = i * n in
    let is : base + (c - base) ≡ c = omega (arith, low) in
    ap (λ (z : ℕ). z / n) (sym is) ∙ div-mul-add i n (c - base) (omega (arith, low, high))

-- a caller of a member has this member as its gateway
pub its-gateway : (s : Dimensions) (name : ProcessId) (v : OwnCallers) (caller : ℕ) → AreCallersOf s name v → IsProcess s name → IsItsCaller v caller
    → gateway_of s caller ≡ name
its-gateway s name v caller own member its =
    let k = own.limits.k in
    let m = own.limits.m in
    let each = callers / (s.k + s.m) in
    let i = index_of s name in
    let first : v.first ≡ i * each = own.first in
    let many : length v.states ≡ each = own.many in
    let low : i * each ≤ caller = omega (arith, first, its.from) in
    let high : caller < i * each + each = omega (arith, first, many, its.below) in
    let index : caller / each ≡ i = quotient caller each i low high in
    ap (process_at s) index ∙ process_at-index s name member

module _ (g : Group) (a : Action) (out now : HandedFrames) (v : Member) (theirs : NameTheirCallers g.shape g.gateways) where
  pub others-stand : v.words.name ≢ by_of g.shape a → LosesFirst a v.words.name (by_of g.shape a) out now
      → MemberStands g out v → MemberStands (group_after g a) now v
  others-stand other loses st =
      let q = v.words.name in
      let p = by_of g.shape a in
      let words = keeps-words g.words q g.shape a other in
      let works = keeps-works g a q other in
      let signs = keeps-signs g.words.cut g.signs q g.shape a other in
      let gates = keeps-gateways g q a theirs other in
      let its : (c : ℕ) → IsItsCaller v.callers c → gateway_of g.shape c ≡ q =
      λ c mine. ap (λ (s : Dimensions). gateway_of s c) st.shape ∙ its-gateway v.words.shape q v.callers c st.own
      (subst (λ (s : Dimensions). IsProcess s q) st.shape st.here.member) mine in
      record {
        shape = st.shape;
        here = record { member = st.here.member; runs = keeps-here g.shape g.gone a q other ∙ st.here.runs };
        words = record {
          cut = λ x. ap (λ (set : Processes). set x) words.cut ∙ st.words.cut x;
          heard = λ r within x. ap (λ (row : ProcessId → Processes). row r x) words.heard ∙ st.words.heard r within x;
          permitted = λ x. ap (λ (set : Processes). set x) words.permitted ∙ st.words.permitted x;
          taken = λ x. ap (λ (set : Processes). set x) words.taken ∙ st.words.taken x;
          said = λ r.
              subst (λ (sets : List Processes). AreSets sets (now.said r)) (sym (words.said r))
              (subst (λ (known : List Membership). AreSets (less_if (reads_set a q) p (g.words.said q) r) known) (sym (loses.said r))
              (sets-less (reads_set a q) p (g.words.said q) out.said r st.words.said));
        };
        works = record {
          process = works.process ∙ st.works.process;
          links = λ r within.
              let held = at [] v.node.links (index_of v.words.shape r) in
              let ahead = ahead-less (knows_dead v.words.cut r) (reads_message a q) p (g.works.messages q) out.messages held r loses.handed
              (λ same. subst (λ (z : ProcessId). IsAhead (knows_dead v.words.cut r) (g.works.messages q z)
              (out.messages z) held) same (st.works.links r within))
              (st.works.links r within) in
              subst (λ (wire : List Message). IsAhead (knows_dead v.words.cut r) wire (now.messages r) held) (sym (works.messages r))
              (subst (λ (frames : List Message). IsAhead (knows_dead v.words.cut r) (less_if (reads_message a q) p (g.works.messages q) r) frames held)
              (sym (loses.messages r)) ahead);
        };
        signs = record {
          pinged = signs.pinged ∙ st.signs.pinged;
          answered = λ r j within. ap (λ (row : ℕ → Processes). row j r) signs.answered ∙ st.signs.answered r j within;
          pings = λ r. signs.pings r ∙ same-less (reads_ping a q) p (g.signs.pings q) out.pings r st.signs.pings ∙ sym (loses.pings r);
          pongs = λ r. signs.pongs r ∙ same-less (reads_pong a q) p (g.signs.pongs q) out.pongs r st.signs.pongs ∙ sym (loses.pongs r);
        };
        own = st.own;
        callers = record {
          call = λ c mine. gates.call c (its c mine) ∙ st.callers.call c mine;
          next = λ c mine. gates.next c (its c mine) ∙ st.callers.next c mine;
        };
        requests = record {
          requests = λ r apart. gates.requests r ∙ other-less (reads_request a q) p q (g.gateways.requests q)
              out.requests r other st.requests.requests apart ∙ sym (loses.requests r);
          answers = λ r apart. gates.answers r ∙ other-less (reads_answer a q) p q (g.gateways.answers q) out.answers r
              other st.requests.answers apart ∙ sym (loses.answers r);
          parked = gates.parked ∙ st.requests.parked;
          own_requests = gates.requests q ∙ own-row (reads_request a q) p q (g.gateways.requests q) other ∙ st.requests.own_requests;
          own_answers = gates.answers q ∙ own-row (reads_answer a q) p q (g.gateways.answers q) other ∙ st.requests.own_answers;
        };
      }

-- one whose wires aren't read stands with what it handed out
pub unread-stand : (g : Group) (a : Action) (out : HandedFrames) (v : Member) → NameTheirCallers g.shape g.gateways → v.words.name ≢ by_of g.shape a
    → v.words.name ≢ from_of g.shape a → MemberStands g out v → MemberStands (group_after g a) out v
unread-stand g a out v theirs other apart st =
    let p = by_of g.shape a in
    let leaves = leaves-wires g.shape a v.words.name apart in
    others-stand g a out out v theirs other
    (record {
      messages = λ r. ap (λ (b : Bool). less_if b p out.messages r) (sym leaves.0);
      said = λ r. ap (λ (b : Bool). less_if b p out.said r) (sym leaves.1);
      pings = λ r. ap (λ (b : Bool). less_if b p out.pings r) (sym leaves.2);
      pongs = λ r. ap (λ (b : Bool). less_if b p out.pongs r) (sym leaves.3);
      requests = λ r. ap (λ (b : Bool). less_if b p out.requests r) (sym leaves.4);
      answers = λ r. ap (λ (b : Bool). less_if b p out.answers r) (sym leaves.5);
      handed = λ is. absurd (cc (is, leaves.0));
    }) st
