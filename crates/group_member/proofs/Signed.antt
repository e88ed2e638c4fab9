-- What a member pings, answers and counts are the group's actions.
use Rattle.std.proofs.Common.{ℕ, suc, ◌≡◌, ◌+◌, nat_le, nat_lt, max, Bool, true, false, List, [], ◌∷◌, ◌++◌, refl, sym, ap, subst, inl, inr, ◌∙◌, arith}
use Rattle.std.proofs.lemmas.Grind.{common_steps}
use Rattle.group_types.specs.Dimensions.{Dimensions}
use Rattle.group_types.specs.Lists.{at, put}
use Rattle.group_types.specs.Names.{IsProcess, index_of}
use Rattle.group_types.specs.declared.process.ProcessId.{ProcessId}
use Rattle.group_types.proofs.Lists.{at-put, at-put-other}
use Rattle.group_types.proofs.Names.{index-one, same-cases}
use Rattle.membership.specs.Members.{knows_dead}
use Rattle.group_wire.specs.Actions.{Ping, Pong, Count}
use Rattle.group_wire.specs.May.{MayReadOther}
use Rattle.group_wire.specs.Sets.{Processes, changed, one_or, with_one}
use Rattle.group_wire.specs.State.{Group}
use Rattle.group_wire.specs.Stepping.{answered_first, counted_first}
use Rattle.group_member.specs.Acting.{ActsHanding, ActsWhere, PingComes, PongComes, behind_at, ping_handed, pong_handed}
use Rattle.group_member.specs.Standing.{HandedFrames, Member, MemberStands}
use Rattle.group_member.specs.Words.{CanReadFrom}
use Rattle.group_member.proofs.Calls.{requests-stay}
use Rattle.group_member.proofs.Reading.{changed-here, changed-other}

pub reads-other : (v : Member) (from : ProcessId) (g : Group) (out : HandedFrames) → CanReadFrom v.words from
    → MemberStands g out v → MayReadOther g from v.words.name
reads-other v from g out can st = record {
  reads = record {
    here = st.here;
    sender = subst (λ (d : Dimensions). IsProcess d from) (sym st.shape) can.member;
    uncut = st.words.cut from ∙ can.uncut;
  };
  other = can.other;
}

pub ping-acts : (v : Member) (to : Processes) → ActsHanding (Ping to v.words.name ∷ []) (ping_handed to v.words.cut v.signs.pinged) v
    (record v { signs = record v.signs { pinged = v.signs.pinged + 1 } })
ping-acts v to g out st =
    let w = v.words in
    let p = w.name in
    let frames : ProcessId → List ℕ = λ q. one_or (g.words.cut p q) (g.signs.pings p q) (g.signs.pings p q ++ one_or (to q) (g.signs.pinged p ∷ []) []) in
    record {
      may = (st.here, tt);
      stands = record {
        shape = st.shape;
        here = record { member = st.here.member; runs = st.here.runs };
        words = record { cut = st.words.cut; heard = st.words.heard; permitted = st.words.permitted; taken = st.words.taken; said = st.words.said };
        works = record { process = st.works.process; links = st.works.links };
        signs = record {
          pinged = changed-here g.signs.pinged p (suc (g.signs.pinged p)) ∙ (let is = st.signs.pinged in omega (arith, is));
          answered = st.signs.answered;
          pings = λ q. ap (λ (row : ProcessId → List ℕ). row q) (changed-here g.signs.pings p frames)
              ∙ ap (λ (b : Bool). one_or b (g.signs.pings p q) (g.signs.pings p q ++ one_or (to q) (g.signs.pinged p ∷ []) [])) (st.words.cut q)
              ∙ ap (λ (l : List ℕ). one_or (knows_dead w.cut q) l (l ++ one_or (to q) (g.signs.pinged p ∷ []) [])) (st.signs.pings q)
              ∙ ap (λ (n : ℕ). one_or (knows_dead w.cut q) (out.pings q) (out.pings q ++ one_or (to q) (n ∷ []) [])) st.signs.pinged;
          pongs = st.signs.pongs;
        };
        own = st.own;
        callers = st.callers;
        requests = requests-stay (ping_handed to w.cut v.signs.pinged out) refl refl st.requests;
      };
    }

pub pong-acts : (v : Member) (from : ProcessId) (ping : ℕ) → CanReadFrom v.words from
    → ActsWhere (PingComes from v.words.name ping) (Pong from v.words.name ∷ []) (pong_handed from ping) v v
pong-acts v from ping can g out st comes =
    let w = v.words in
    let p = w.name in
    let rest = comes.0 in
    let more = one_or (g.words.cut p from) (g.signs.pongs p from) (g.signs.pongs p from ++ ping ∷ []) in
    let row : ProcessId → List ℕ = changed (g.signs.pongs p) from more in
    record {
      may = (reads-other v from g out can st, tt);
      stands = subst (λ (wire : List ℕ). MemberStands (record {
        shape = g.shape;
        gone = g.gone;
        words = g.words;
        works = g.works;
        gateways = g.gateways;
        signs = answered_first g.words.cut from p wire g.signs;
      }) (pong_handed from ping out) v) (sym comes.1) (record {
        shape = st.shape;
        here = record { member = st.here.member; runs = st.here.runs };
        words = record { cut = st.words.cut; heard = st.words.heard; permitted = st.words.permitted; taken = st.words.taken; said = st.words.said };
        works = record { process = st.works.process; links = st.works.links };
        signs = record {
          pinged = st.signs.pinged;
          answered = st.signs.answered;
          pings = λ q. ap (λ (f : ProcessId → List ℕ). f q)
              (changed-other g.signs.pings from p (changed (g.signs.pings from) p rest) (λ same. can.other (sym same)))
              ∙ st.signs.pings q;
          pongs = λ q. ap (λ (f : ProcessId → List ℕ). f q) (changed-here g.signs.pongs p row)
              ∙ elim (same-cases q from) [
                | inl same ↦ ap row same ∙ changed-here (g.signs.pongs p) from more
                    ∙ ap (λ (b : Bool). one_or b (g.signs.pongs p from) (g.signs.pongs p from ++ ping ∷ [])) (st.words.cut from ∙ can.uncut)
                    ∙ ap (λ (l : List ℕ). l ++ ping ∷ []) (st.signs.pongs from)
                    ∙ sym (changed-here out.pongs from (out.pongs from ++ ping ∷ []))
                    ∙ ap (behind_at out.pongs from ping) (sym same)
                | inr other ↦ changed-other (g.signs.pongs p) from q more other ∙ st.signs.pongs q
                    ∙ sym (changed-other out.pongs from q (out.pongs from ++ ping ∷ []) other)
              ];
        };
        own = st.own;
        callers = st.callers;
        requests = requests-stay (pong_handed from ping out) refl refl st.requests;
      });
    }

-- the pings that one has answered after a pong
counted : (j ping before : ℕ) → one_or (nat_le j ping) true (nat_lt j before) ≡ nat_lt j (max before (ping + 1))
counted j ping before = grind (arith, common_steps)

kept : (b old : Bool) → one_or b old old ≡ old
kept true old = refl
kept false old = refl

pick : (b : Bool) (q : ProcessId) (set other : Processes) → one_or b set other q ≡ one_or b (set q) (other q)
pick true q set other = refl
pick false q set other = refl

pub count-acts : (v : Member) (from : ProcessId) (ping : ℕ) → CanReadFrom v.words from
    → ActsWhere (PongComes from v.words.name ping) (Count from v.words.name ∷ []) (λ out. out) v
    (record v {
      signs = record v.signs {
        answered = put 0 v.signs.answered (index_of v.words.shape from)
            (max (at 0 v.signs.answered (index_of v.words.shape from)) (ping + 1));
      };
    })
count-acts v from ping can g out st comes =
    let w = v.words in
    let p = w.name in
    let i = index_of w.shape from in
    let old = v.signs.answered in
    let most = max (at 0 old i) (ping + 1) in
    let after : Member = record v { signs = record v.signs { answered = put 0 old i most } } in
    let rest = comes.0 in
    let now : ℕ → Processes = λ j. one_or (nat_le j ping) (with_one (g.signs.answered p j) from) (g.signs.answered p j) in
    record {
      may = (reads-other v from g out can st, tt);
      stands = subst (λ (wire : List ℕ). MemberStands (record {
        shape = g.shape;
        gone = g.gone;
        words = g.words;
        works = g.works;
        gateways = g.gateways;
        signs = counted_first from p wire g.signs;
      }) out after) (sym comes.1) (record {
        shape = st.shape;
        here = record { member = st.here.member; runs = st.here.runs };
        words = record { cut = st.words.cut; heard = st.words.heard; permitted = st.words.permitted; taken = st.words.taken; said = st.words.said };
        works = record { process = st.works.process; links = st.works.links };
        signs = record {
          pinged = st.signs.pinged;
          answered = λ q j member. ap (λ (f : ℕ → Processes). f j q) (changed-here g.signs.answered p now)
              ∙ pick (nat_le j ping) q (with_one (g.signs.answered p j) from) (g.signs.answered p j)
              ∙ elim (same-cases q from) [
                | inl same ↦ ap (λ (r : ProcessId). one_or (nat_le j ping) (with_one (g.signs.answered p j) from r) (g.signs.answered p j r)) same
                    ∙ ap (λ (b : Bool). one_or (nat_le j ping) b (g.signs.answered p j from)) (changed-here (g.signs.answered p j) from true)
                    ∙ ap (λ (b : Bool). one_or (nat_le j ping) true b) (st.signs.answered from j can.member)
                    ∙ counted j ping (at 0 old i)
                    ∙ ap (nat_lt j) (sym (at-put 0 0 old i most))
                    ∙ ap (λ (r : ProcessId). nat_lt j (at 0 (put 0 old i most) (index_of w.shape r))) (sym same)
                | inr other ↦ ap (λ (b : Bool). one_or (nat_le j ping) b (g.signs.answered p j q)) (changed-other (g.signs.answered p j) from q true other)
                    ∙ kept (nat_le j ping) (g.signs.answered p j q)
                    ∙ st.signs.answered q j member
                    ∙ ap (nat_lt j) (sym (at-put-other 0 old i (index_of w.shape q) most (λ same. other (index-one w.shape q from member can.member same))))
              ];
          pings = st.signs.pings;
          pongs = λ q. ap (λ (f : ProcessId → List ℕ). f q)
              (changed-other g.signs.pongs from p (changed (g.signs.pongs from) p rest) (λ same. can.other (sym same)))
              ∙ st.signs.pongs q;
        };
        own = st.own;
        callers = st.callers;
        requests = st.requests;
      });
    }
