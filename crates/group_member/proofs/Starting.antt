-- A member at the start stands in its group.
use Rattle.std.proofs.Common.{arith, ℕ, ◌≡◌, ◌+◌, ◌-◌, ◌*◌, nat_lt, replicate, false, [], refl, sym, ap, subst, ◌∙◌}
use Rattle.std.proofs.lemmas.List.{length-replicate}
use Rattle.std.proofs.lemmas.Grind.{common_steps}
use Rattle.group_types.specs.Dimensions.{Dimensions}
use Rattle.group_types.specs.Names.{IsProcess, index_of}
use Rattle.group_types.specs.Shape.{IsShape}
use Rattle.group_types.specs.declared.process.ProcessId.{ProcessId}
use Rattle.group_types.specs.declared.process.ProcessId.TheVariants.{DataNode, ParityNode}
use Rattle.group_types.proofs.Lists.{at-replicate}
use Rattle.membership.specs.Members.{Membership, all_living, knows_dead}
use Rattle.group_run.specs.Process.{Node}
use Rattle.group_run.specs.World.{opening_node}
use Rattle.group_wire.specs.State.{opening_group}
use Rattle.group_member.specs.Acting.{nothing_out}
use Rattle.group_member.specs.Callers.{AreCallersOf, OwnCaller, OwnCallers, callers_each, no_caller}
use Rattle.group_member.specs.Opening.{opening_callers, opening_member, opening_words}
use Rattle.group_member.specs.Standing.{MemberStands, OwnSigns, OwnWords}

all-live : (s : Dimensions) (x : ProcessId) → knows_dead (all_living s) x ≡ false
all-live s (DataNode d) = at-replicate false 16 d
all-live s (ParityNode i) = at-replicate false 4 i

none-below : (j : ℕ) → nat_lt j 0 ≡ false
none-below j = grind (arith, common_steps)

abbrev pub opening_signs : Dimensions → OwnSigns
opening_signs s = record { pinged = 0; answered = replicate (s.k + s.m) 0 }

pub opening-own : (s : Dimensions) (name : ProcessId) → IsShape s → AreCallersOf s name (opening_callers s name)
opening-own s name limits = record { limits = limits; first = refl; many = length-replicate (callers_each s) no_caller }

starts : (s : Dimensions) (name : ProcessId) → IsShape s → IsProcess s name → MemberStands (opening_group s) nothing_out (opening_member s name)
starts s name limits member =
    let living : (x : ProcessId) → false ≡ knows_dead (all_living s) x = λ x. sym (all-live s x) in
    record {
      shape = refl;
      here = record { member = member; runs = refl };
      words = record {
        cut = living;
        heard = λ q within x. living x ∙ sym (ap (λ (known : Membership). knows_dead known x) (at-replicate (all_living s) (s.k + s.m) (index_of s q)));
        permitted = living;
        taken = living;
        said = λ q. tt;
      };
      works = record {
        process = refl;
        links = λ q within. record { behind = []; is = refl; kept = λ off. sym (at-replicate [] (s.k + s.m) (index_of s q)) };
      };
      signs = record {
        pinged = refl;
        answered = λ q j within. sym (ap (nat_lt j) (at-replicate 0 (s.k + s.m) (index_of s q)) ∙ none-below j);
        pings = λ q. refl;
        pongs = λ q. refl;
      };
      own = opening-own s name limits;
      callers = record {
        call = λ caller its. sym (ap (λ (c : OwnCaller). c.call) (at-replicate no_caller (callers_each s) (caller - index_of s name * callers_each s)));
        next = λ caller its. sym (ap (λ (c : OwnCaller). c.next) (at-replicate no_caller (callers_each s) (caller - index_of s name * callers_each s)));
      };
      requests = record { requests = λ q other. refl; answers = λ q other. refl; parked = refl; own_requests = refl; own_answers = refl };
    }

pub starts-as : (s : Dimensions) (name : ProcessId) (w : OwnWords) (v : OwnSigns) (c : OwnCallers) (node : Node)
    → IsShape s → IsProcess s name → w ≡ opening_words s name
    → v ≡ opening_signs s → c ≡ opening_callers s name → node ≡ opening_node s name
    → MemberStands (opening_group s) nothing_out (record { words = w; signs = v; callers = c; parked = []; node = node })
starts-as s name w v c node limits member words signs callers process =
    subst (λ (u : OwnWords). MemberStands (opening_group s) nothing_out (record { words = u; signs = v; callers = c; parked = []; node = node })) (sym words)
    (subst (λ (u : OwnSigns). MemberStands (opening_group s) nothing_out
    (record { words = opening_words s name; signs = u; callers = c; parked = []; node = node })) (sym signs)
    (subst (λ (u : OwnCallers). MemberStands (opening_group s) nothing_out
    (record { words = opening_words s name; signs = opening_signs s; callers = u; parked = []; node = node }))
    (sym callers)
    (subst (λ (n : Node). MemberStands (opening_group s) nothing_out
    (record { words = opening_words s name; signs = opening_signs s; callers = opening_callers s name; parked = []; node = n })) (sym process)
    (starts s name limits member))))
