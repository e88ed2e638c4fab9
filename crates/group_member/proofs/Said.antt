-- What a member cuts, says, hears and permits are the group's actions.
use Rattle.std.proofs.Common.{ℕ, ◌≡◌, ◌≢◌, ◌≤◌, ◌||◌, Bool, true, false, List, [], ◌∷◌, ◌++◌, refl, sym, ap, subst, inl, inr, ◌∙◌, arith}
use Rattle.group_types.specs.Dimensions.{Dimensions}
use Rattle.group_types.specs.Lists.{at}
use Rattle.group_types.specs.Names.{IsProcess, index_of, same_process}
use Rattle.group_types.specs.declared.process.ProcessId.{ProcessId}
use Rattle.group_types.proofs.Names.{index-one, same-cases}
use Rattle.membership.specs.Members.{Membership, all_living, knows_dead, with_dead}
use Rattle.group_wire.specs.Actions.{Cut, Say, Hear, Permit}
use Rattle.group_wire.specs.Sets.{Processes, changed, either, one_or, size_of, with_one}
use Rattle.group_wire.specs.Sending.{heard_first}
use Rattle.group_wire.proofs.Sizes.{sizes_are_counts}
use Rattle.group_member.specs.Acting.{Acts, ActsHanding, ActsWhere, SetComes, set_handed}
use Rattle.group_member.specs.Standing.{AreSets, IsSetOf, Member, OwnWords, MemberStands, heard_of}
use Rattle.group_member.specs.Words.{AreWords, CanCut, CanPermit, CanReadFrom}
use Rattle.group_member.proofs.Keeping.{known-of, with-is}
use Rattle.group_member.proofs.Calls.{requests-stay}
use Rattle.group_member.proofs.Reading.{changed-here, changed-other, size-same, unknown-before}

pub cut-acts : (v : Member) (x : ProcessId) → CanCut v.words x → AreWords v.words
    → Acts (Cut x v.words.name ∷ []) v (record v { words = record v.words { cut = with_dead v.words.cut x } })
cut-acts v x can whole g out st =
    let w = v.words in
    let more = with_one (g.words.cut w.name) x in
    let same : (q : ProcessId) → more q ≡ knows_dead (with_dead w.cut x) q =
    λ q. ap (λ (b : Bool). one_or (same_process q x) true b) (st.words.cut q) ∙ sym (with-is w.cut x q) in
    let size = size-same w.shape more (knows_dead (with_dead w.cut x)) same
    ∙ sizes_are_counts w.shape (with_dead w.cut x) (known-of (IsProcess w.shape) w.cut x can.member whole.named) in
    let most = can.few in
    let few : size_of w.shape more ≤ w.shape.m = omega (arith, size, most) in
    record {
      may = (
        (
          st.here,
          subst (λ (s : Dimensions). IsProcess s x) (sym st.shape) can.member,
          can.other,
          subst (λ (s : Dimensions). size_of s more ≤ s.m) (sym st.shape) few,
        ),
        tt,
      );
      stands = record {
        shape = st.shape;
        here = record { member = st.here.member; runs = st.here.runs };
        words = record {
          cut = λ q. ap (λ (set : Processes). set q) (changed-here g.words.cut w.name more) ∙ same q;
          heard = st.words.heard;
          permitted = st.words.permitted;
          taken = st.words.taken;
          said = st.words.said;
        };
        works = record {
          process = st.works.process;
          links = λ q member. let ahead = st.works.links q member in record {
            behind = ahead.behind;
            is = ahead.is;
            kept = λ off. ahead.kept (unknown-before w.cut x q off);
          };
        };
        signs = record { pinged = st.signs.pinged; answered = st.signs.answered; pings = st.signs.pings; pongs = st.signs.pongs };
        own = st.own;
        callers = st.callers;
        requests = st.requests;
      };
    }

pub permit-acts : (v : Member) → CanPermit v.words → Acts (Permit v.words.name ∷ []) v (record v { words = record v.words { permitted = v.words.cut } })
permit-acts v can g out st =
    let w = v.words in record {
      may = (
        (
          st.here,
          λ r member other uncut x cut.
              let named = subst (λ (s : Dimensions). IsProcess s r) st.shape member in
              st.words.heard r named x ∙ can r named other (sym (st.words.cut r) ∙ uncut) x (sym (st.words.cut x) ∙ cut),
        ),
        tt,
      );
      stands = record {
        shape = st.shape;
        here = record { member = st.here.member; runs = st.here.runs };
        words = record {
          cut = st.words.cut;
          heard = st.words.heard;
          permitted = λ q. ap (λ (set : Processes). set q) (changed-here g.words.permitted w.name (g.words.cut w.name)) ∙ st.words.cut q;
          taken = st.words.taken;
          said = st.words.said;
        };
        works = record { process = st.works.process; links = st.works.links };
        signs = record { pinged = st.signs.pinged; answered = st.signs.answered; pings = st.signs.pings; pongs = st.signs.pongs };
        own = st.own;
        callers = st.callers;
        requests = st.requests;
      };
    }

-- a set more, at the end of both
one-more : (sets : List Processes) (known : List Membership) (set : Processes) (more : Membership) → AreSets sets known → IsSetOf set more
    → AreSets (sets ++ set ∷ []) (known ++ more ∷ [])
one-more [] [] set more are is = (is, tt)
one-more [] (k ∷ ks) set more are is = absurd are
one-more (s ∷ ss) [] set more are is = absurd are
one-more (s ∷ ss) (k ∷ ks) set more are is = (are.0, one-more ss ks set more are.1 is)

said-to : (b : Bool) (sets : List Processes) (known : List Membership) (set : Processes) (more : Membership) → AreSets sets known → IsSetOf set more
    → AreSets (one_or b sets (sets ++ set ∷ [])) (one_or b known (known ++ more ∷ []))
said-to true sets known set more are is = are
said-to false sets known set more are is = one-more sets known set more are is

pub say-acts : (v : Member) → ActsHanding (Say v.words.name ∷ []) (set_handed v.words.cut) v v
say-acts v g out st =
    let w = v.words in
    let frames : ProcessId → List Processes = λ q. one_or (g.words.cut w.name q) (g.words.said w.name q) (g.words.said w.name q ++ g.words.cut w.name ∷ []) in
    record {
      may = (st.here, tt);
      stands = record {
        shape = st.shape;
        here = record { member = st.here.member; runs = st.here.runs };
        words = record {
          cut = st.words.cut;
          heard = st.words.heard;
          permitted = st.words.permitted;
          taken = st.words.taken;
          said = λ q. subst (λ (sets : List Processes). AreSets sets ((set_handed w.cut out).said q))
              (sym (ap (λ (row : ProcessId → List Processes). row q) (changed-here g.words.said w.name frames)
              ∙ ap (λ (b : Bool). one_or b (g.words.said w.name q) (g.words.said w.name q ++ g.words.cut w.name ∷ [])) (st.words.cut q)))
              (said-to (knows_dead w.cut q) (g.words.said w.name q) (out.said q) (g.words.cut w.name) w.cut (st.words.said q) st.words.cut);
        };
        works = record { process = st.works.process; links = st.works.links };
        signs = record { pinged = st.signs.pinged; answered = st.signs.answered; pings = st.signs.pings; pongs = st.signs.pongs };
        own = st.own;
        callers = st.callers;
        requests = requests-stay {out = out} (set_handed w.cut out) refl refl st.requests;
      };
    }

-- what is heard of one, and of others
pub record HasHeard (w : OwnWords) (from : ProcessId) (set : Membership) (heard : List Membership) : Type 0 where
  pub others : (q : ℕ) → q ≢ index_of w.shape from → at (all_living w.shape) heard q ≡ at (all_living w.shape) w.heard q
  pub here : (x : ProcessId) → knows_dead (at (all_living w.shape) heard (index_of w.shape from)) x ≡ (knows_dead (heard_of w from) x || knows_dead set x)

both : (a b c d : Bool) → a ≡ b → c ≡ d → (a || c) ≡ (b || d)
both a b c d one other = ap (λ (x : Bool). x || c) one ∙ ap (λ (y : Bool). b || y) other

pub hear-acts : (v : Member) (from : ProcessId) (known : Membership) (heard : List Membership) → CanReadFrom v.words from → HasHeard v.words from known heard
    → ActsWhere (SetComes from v.words.name known) (Hear from v.words.name ∷ []) (λ out. out) v (record v { words = record v.words { heard = heard } })
hear-acts v from known heard can has g out st comes =
    let w = v.words in
    let p = w.name in
    let set = comes.0 in
    let rest = comes.1.0 in
    let is = comes.1.1 in
    let sets = comes.2 in
    let after : Member = record v { words = record w { heard = heard } } in
    let row : ProcessId → Processes = changed (g.words.heard p) from (either (g.words.heard p from) set) in
    record {
      may = (
        (record {
          reads = record {
            here = st.here;
            sender = subst (λ (s : Dimensions). IsProcess s from) (sym st.shape) can.member;
            uncut = st.words.cut from ∙ can.uncut;
          };
          other = can.other;
        }),
        tt,
      );
      stands = subst (λ (wire : List Processes). MemberStands (record {
        shape = g.shape;
        gone = g.gone;
        words = heard_first from p wire g.words;
        works = g.works;
        gateways = g.gateways;
        signs = g.signs;
      }) out after) (sym is) (record {
        shape = st.shape;
        here = record { member = st.here.member; runs = st.here.runs };
        words = record {
          cut = st.words.cut;
          heard = λ q member x. ap (λ (f : ProcessId → Processes). f q x) (changed-here g.words.heard p row)
              ∙ elim (same-cases q from) [
                | inl same ↦ ap (λ (r : ProcessId). row r x) same
                    ∙ ap (λ (f : Processes). f x) (changed-here (g.words.heard p) from (either (g.words.heard p from) set))
                    ∙ both _ _ _ _ (st.words.heard from can.member x) (sets x)
                    ∙ sym (has.here x)
                    ∙ ap (λ (r : ProcessId). knows_dead (at (all_living w.shape) heard (index_of w.shape r)) x) (sym same)
                | inr other ↦ ap (λ (f : Processes). f x) (changed-other (g.words.heard p) from q (either (g.words.heard p from) set) other)
                    ∙ st.words.heard q member x
                    ∙ ap (λ (m : Membership). knows_dead m x)
                    (sym (has.others (index_of w.shape q)
                    (λ same. other (index-one w.shape q from member can.member same))))
              ];
          permitted = st.words.permitted;
          taken = st.words.taken;
          said = λ q. subst (λ (sets : List Processes). AreSets sets (out.said q))
              (sym (ap (λ (f : ProcessId → List Processes). f q)
              (changed-other g.words.said from p (changed (g.words.said from) p rest)
              (λ same. can.other (sym same)))))
              (st.words.said q);
        };
        works = record { process = st.works.process; links = st.works.links };
        signs = record { pinged = st.signs.pinged; answered = st.signs.answered; pings = st.signs.pings; pongs = st.signs.pongs };
        own = st.own;
        callers = st.callers;
        requests = st.requests;
      });
    }
