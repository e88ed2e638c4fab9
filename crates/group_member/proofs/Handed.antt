-- What a member hands out of its node's links, and how it opens.
use Rattle.std.proofs.Common.{◌≡◌, ◌≢◌, ◌+◌, Bool, true, false, List, [], ◌∷◌, ◌++◌, drop, refl, sym, ap, subst, inl, inr, ◌∙◌}
use Rattle.std.specs.Prelude.{IfSome, Option, Some, None, slice_get}
use Rattle.std.proofs.lemmas.List.{append_assoc, length-replicate}
use Rattle.group_types.specs.Dimensions.{Dimensions}
use Rattle.group_types.specs.Lists.{at}
use Rattle.group_types.specs.Names.{IsProcess, index_of}
use Rattle.group_types.specs.declared.process.ProcessId.{ProcessId}
use Rattle.group_types.proofs.Lists.{at-put, at-put-other}
use Rattle.group_types.proofs.Names.{index-one, same-cases}
use Rattle.membership.specs.Members.{knows_dead}
use Rattle.group_message.specs.declared.message.Message.{Message}
use Rattle.group_run.specs.Process.{Node}
use Rattle.group_run.specs.World.{opening_node, with_link}
use Rattle.group_member.specs.Acting.{Acts, ActsHanding, message_handed}
use Rattle.group_member.specs.Opening.{opening_member, opening_words}
use Rattle.group_member.specs.Whole.{IsWholeMember}
use Rattle.group_member.specs.Words.{AreWords}
use Rattle.group_member.specs.Standing.{IsAhead, Member}
use Rattle.group_member.proofs.Calls.{requests-stay}
use Rattle.group_member.proofs.Reading.{changed-here, changed-other}

-- a node without the first message of its link to q
abbrev pub handed : Dimensions → ProcessId → Node → Node
handed s q node = with_link s q (drop 1 (at [] node.links (index_of s q))) node

first-then : (link : List Message) (m : Message) → slice_get link 0 ≡ Some m → link ≡ m ∷ drop 1 link
first-then [] m is = absurd (cc is)
first-then (n ∷ rest) m is = let same : n ≡ m = cc is in ap (λ (x : Message). x ∷ rest) same

-- the first message goes over to what was handed out
moved : (wire out link : List Message) (m : Message) → IsAhead false wire out link → slice_get link 0 ≡ Some m
    → IsAhead false wire (out ++ m ∷ []) (drop 1 link)
moved wire out link m ahead is = record {
  behind = drop 1 link;
  is = ahead.is ∙ ap (λ (l : List Message). out ++ l) (ahead.kept refl ∙ first-then link m is) ∙ sym (append_assoc out (m ∷ []) (drop 1 link));
  kept = λ off. refl;
}

module _ (v : Member) (q : ProcessId) (member : IsProcess v.words.shape q) where
  abbrev s : Dimensions
  s = v.words.shape

  link-there : at [] (handed s q v.node).links (index_of s q) ≡ drop 1 (at [] v.node.links (index_of s q))
  link-there = at-put [] [] v.node.links (index_of s q) (drop 1 (at [] v.node.links (index_of s q)))

  link-elsewhere : (r : ProcessId) → IsProcess s r → r ≢ q → at [] (handed s q v.node).links (index_of s r) ≡ at [] v.node.links (index_of s r)
  link-elsewhere r named other = at-put-other [] v.node.links (index_of s q) (index_of s r) (drop 1 (at [] v.node.links (index_of s q)))
      (λ same. other (index-one s r q named member same))

  pub hand-acts : (m : Message) → knows_dead v.words.cut q ≡ false → slice_get (at [] v.node.links (index_of s q)) 0 ≡ Some m
      → ActsHanding [] (message_handed q m) v (record v { node = handed s q v.node })
  hand-acts m uncut first g out st = record {
    may = tt;
    stands = record {
      shape = st.shape;
      here = st.here;
      words = record { cut = st.words.cut; heard = st.words.heard; permitted = st.words.permitted; taken = st.words.taken; said = st.words.said };
      works = record {
        process = st.works.process;
        links = λ r named. elim (same-cases r q) [
          | inl same ↦ subst (λ (x : ProcessId). IsAhead (knows_dead v.words.cut x) (g.works.messages v.words.name x) ((message_handed q m out).messages x)
              (at [] (handed s q v.node).links (index_of s x))) (sym same)
              (subst (λ (b : Bool). IsAhead b (g.works.messages v.words.name q) ((message_handed q m out).messages q)
              (at [] (handed s q v.node).links (index_of s q))) (sym uncut)
              (subst (λ (more : List Message). IsAhead false (g.works.messages v.words.name q) more (at [] (handed s q v.node).links (index_of s q)))
              (sym (changed-here out.messages q (out.messages q ++ m ∷ [])))
              (subst (λ (link : List Message). IsAhead false (g.works.messages v.words.name q) (out.messages q ++ m ∷ []) link) (sym link-there)
              (moved (g.works.messages v.words.name q) (out.messages q) (at [] v.node.links (index_of s q)) m
              (subst (λ (b : Bool). IsAhead b (g.works.messages v.words.name q) (out.messages q)
              (at [] v.node.links (index_of s q))) uncut (st.works.links q member)) first))))
          | inr other ↦ let ahead = st.works.links r named in record {
            behind = ahead.behind;
            is = ahead.is ∙ ap (λ (l : List Message). l ++ ahead.behind) (sym (changed-other out.messages q r (out.messages q ++ m ∷ []) other));
            kept = λ off. ahead.kept off ∙ sym (link-elsewhere r named other);
          }
        ];
      };
      signs = record { pinged = st.signs.pinged; answered = st.signs.answered; pings = st.signs.pings; pongs = st.signs.pongs };
      own = st.own;
      callers = st.callers;
      requests = requests-stay (message_handed q m out) refl refl st.requests;
    };
  }

  -- what is for one that is cut is thrown away
  pub drop-acts : knows_dead v.words.cut q ≡ true → Acts [] v (record v { node = handed s q v.node })
  drop-acts cut g out st = record {
    may = tt;
    stands = record {
      shape = st.shape;
      here = st.here;
      words = st.words;
      works = record {
        process = st.works.process;
        links = λ r named. elim (same-cases r q) [
          | inl same ↦ let ahead = st.works.links r named in record {
            behind = ahead.behind;
            is = ahead.is;
            kept = λ off. absurd (cc (off, cut, ap (knows_dead v.words.cut) same));
          }
          | inr other ↦ let ahead = st.works.links r named in record {
            behind = ahead.behind;
            is = ahead.is;
            kept = λ off. ahead.kept off ∙ sym (link-elsewhere r named other);
          }
        ];
      };
      signs = st.signs;
      own = st.own;
      callers = st.callers;
      requests = st.requests;
    };
  }

-- a new member is whole
pub opening-whole : (s : Dimensions) (name : ProcessId) → AreWords (opening_words s name)
    → IsWholeMember s (opening_words s name) (opening_member s name).signs (opening_node s name)
opening-whole s name words = record {
  words = words;
  shape_is = refl;
  lives = refl;
  up = refl;
  known = λ x is. is;
  counts = length-replicate (s.k + s.m) 0;
}

-- a member that has handed out a message is whole
pub handed-whole : (v : Member) (q : ProcessId) → IsWholeMember v.words.shape v.words v.signs v.node
    → IsWholeMember v.words.shape v.words v.signs (handed v.words.shape q v.node)
handed-whole v q whole = record { words = whole.words; shape_is = refl; lives = whole.lives; up = whole.up; known = whole.known; counts = whole.counts }

pub hands-some : (v : Member) (q : ProcessId) → IsProcess v.words.shape q → knows_dead v.words.cut q ≡ false
    → (node : Node) → node ≡ handed v.words.shape q v.node
    → (first : Option Message) → first ≡ slice_get (at [] v.node.links (index_of v.words.shape q)) 0
    → IfSome first (λ m. ActsHanding [] (message_handed q m) v (record v { node = node }))
hands-some v q member uncut node is None first = tt
hands-some v q member uncut node is (Some m) first =
    subst (λ (now : Node). ActsHanding [] (message_handed q m) v (record v { node = now })) (sym is) (hand-acts v q member m uncut (sym first))
