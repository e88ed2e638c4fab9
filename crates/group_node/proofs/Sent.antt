-- One message that goes into its link, or into none.
use Rattle.std.proofs.Common.{ℕ, suc, ◌≡◌, ◌≢◌, ◌<◌, ◌+◌, ◌-◌, Bool, true, false, List, [], ◌∷◌, ◌++◌, length, refl, sym, ap, subst, ◌∙◌, arith}
use Rattle.std.proofs.lemmas.List.{append_assoc}
use Rattle.group_types.specs.Dimensions.{Dimensions}
use Rattle.group_types.specs.Lists.{at, put}
use Rattle.group_types.specs.Names.{IsProcess, index_of, process_at, same_process}
use Rattle.group_types.specs.declared.process.ProcessId.{ProcessId}
use Rattle.group_types.proofs.Lists.{at-put, at-put-other}
use Rattle.group_types.proofs.Names.{index-below, index-process_at, process_at-in, process_at-index, same-eq, same-refl}
use Rattle.membership.specs.Members.{Membership, knows_dead}
use Rattle.group_message.specs.declared.message.Message.{Message}
use Rattle.law_answers.specs.Steps.{FewForEach}
use Rattle.group_run.specs.Applying.{Sent}
use Rattle.group_run.specs.World.{front_if, link_after, links_after, sent_to}
use Rattle.link_core.specs.Outgoing.{Link, link_to, with_link_to}
use Rattle.group_node.specs.Rooms.{HaveRoom, HaveRoomFor, IsLiving, messages}
use Rattle.group_node.proofs.Links.{messages-at, messages-long, messages-with}
use Rattle.group_node.proofs.Ranges.{entries-same, range-below}

-- what goes to a dead process is none
link-dead : (b : Bool) (link xs ys : List Message) → b ≡ true → link_after b link xs ≡ link_after b link ys
link-dead true link xs ys dead = refl
link-dead false link xs ys dead = absurd (cc dead)

-- a message and then others are the others behind it
link-more : (b : Bool) (link : List Message) (m : Message) (rest : List Message) → b ≡ false → link_after b (link ++ m ∷ []) rest ≡ link_after b link (m ∷ rest)
link-more true link m rest lives = absurd (cc lives)
link-more false link m [] lives = refl
link-more false link m (y ∷ ys) lives = append_assoc link (m ∷ []) (y ∷ ys)

module _ (s : Dimensions) (known : Membership) (one : Sent) (rest : List Sent) where
  -- the link to a process after one message and the rest, whether it is for the process or not
  abbrev after : Bool → ProcessId → List Message → List Message
  after b q link = link_after (knows_dead known q) link (front_if b one.message (sent_to q rest))

  -- a message to none of the living
  pub none-sent : (links : List (List Message)) → ¬ (IsLiving s known one.to) → links_after s known rest links ≡ links_after s known (one ∷ rest) links
  none-sent links other = range-below (λ x. after false (process_at s x) (at [] links x))
      (λ x. after (same_process one.to (process_at s x)) (process_at s x) (at [] links x)) (s.k + s.m)
      (λ x below. by (process_at s x) (at [] links x) (process_at-in s x below) (same_process one.to (process_at s x)) refl) where
        dead : (q : ProcessId) → IsProcess s q → one.to ≡ q → (b : Bool) → knows_dead known q ≡ b → knows_dead known q ≡ true
        dead q qin same true is = is
        dead q qin same false is = absurd (other (record {
          named = subst (λ (p : ProcessId). IsProcess s p) (sym same) qin;
          unknown = ap (knows_dead known) same ∙ is;
        }))

        by : (q : ProcessId) (link : List Message) → IsProcess s q → (b : Bool) → same_process one.to q ≡ b → after false q link ≡ after b q link
        by q link qin false e = refl
        by q link qin true e = link-dead (knows_dead known q) link (sent_to q rest) (one.message ∷ sent_to q rest)
            (dead q qin (same-eq one.to q e) (knows_dead known q) refl)

  -- a message to one of the living
  pub one-sent : (links : List (List Message)) → IsLiving s known one.to
      → links_after s known rest
      (put [] links (index_of s one.to) (at [] links (index_of s one.to) ++ one.message ∷ [])) ≡ links_after s known
      (one ∷ rest) links
  one-sent links lives = range-below (λ x. after false (process_at s x) (at [] more x))
      (λ x. after (same_process one.to (process_at s x)) (process_at s x) (at [] links x)) (s.k + s.m)
      (λ x below. by x (same_process one.to (process_at s x)) refl) where
        to : ℕ
        to = index_of s one.to

        more : List (List Message)
        more = put [] links to (at [] links to ++ one.message ∷ [])

        by : (x : ℕ) (b : Bool) → same_process one.to (process_at s x) ≡ b → after false (process_at s x) (at [] more x)
            ≡ after b (process_at s x) (at [] links x)
        by x false e = ap (after false (process_at s x)) (at-put-other [] links to x _ apart) where
          apart : x ≢ to
          apart same = cc (e, same-refl one.to, ap (λ (q : ProcessId). same_process one.to q) (ap (process_at s) same ∙ process_at-index s one.to lives.named))
        by x true e =
            let q : ProcessId = process_at s x in
            let same : one.to ≡ q = same-eq one.to q e in
            let here : to ≡ x = ap (index_of s) same ∙ index-process_at s x in
            let living : knows_dead known q ≡ false = ap (knows_dead known) (sym same) ∙ lives.unknown in
            ap (λ (y : ℕ). after false q (at [] more y)) (sym here)
            ∙ ap (after false q) (at-put [] [] links to (at [] links to ++ one.message ∷ []))
            ∙ ap (λ (y : ℕ). after false q (at [] links y ++ one.message ∷ [])) here
            ∙ link-more (knows_dead known q) (at [] links x) one.message (sent_to q rest) living

module _ (s : Dimensions) (known : Membership) where
  -- one message was sent to one of the living
  pub one-behind : (one : Sent) (old new : List (Link Message)) (to : ℕ) → length old ≡ s.k + s.m → IsLiving s known one.to → to ≡ index_of s one.to
      → new ≡ with_link_to old to ((link_to old to).messages ++ one.message ∷ []) ((link_to old to).spare - 1)
      → (rest : List Sent) → links_after s known rest (messages new) ≡ links_after s known (one ∷ rest) (messages old)
  one-behind one old new to long lives is made rest =
      let within : to < length old = let below = index-below s one.to lives.named in omega (arith, below, is, long) in
      ap (λ (links : List (Link Message)). links_after s known rest (messages links)) made
      ∙ ap (links_after s known rest) (messages-with old to ((link_to old to).messages ++ one.message ∷ []) ((link_to old to).spare - 1) within)
      ∙ ap (λ (link : List Message). links_after s known rest (put [] (messages old) to (link ++ one.message ∷ []))) (sym (messages-at old to))
      ∙ ap (λ (x : ℕ). links_after s known rest (put [] (messages old) x (at [] (messages old) x ++ one.message ∷ []))) is
      ∙ one-sent s known one rest (messages old) lives

  -- what is left to send goes behind what was sent, of all of it
  pub record IsSending (all rest : List Sent) (before links : List (Link Message)) : Type 0 where
    pub many : length links ≡ length before
    pub messages_are : links_after s known rest (messages links) ≡ links_after s known all (messages before)
    pub room : HaveRoomFor s rest links

  -- one more was sent
  pub sends-on : (one : Sent) (all rest : List Sent) (before old new : List (Link Message)) → IsSending all (one ∷ rest) before old → length new ≡ length old
      → ((left : List Sent) → links_after s known left (messages new) ≡ links_after s known (one ∷ left) (messages old))
      → ((left : List Sent) → HaveRoomFor s (one ∷ left) old → HaveRoomFor s left new) → IsSending all rest before new
  sends-on one all rest before old new sends many behind room = record
      { many = many ∙ sends.many; messages_are = behind rest ∙ sends.messages_are; room = room rest sends.room }

  pub nothing-behind : (links : List (List Message)) → length links ≡ s.k + s.m → links_after s known [] links ≡ links
  nothing-behind links long = sym
      (entries-same [] (λ x. link_after (knows_dead known (process_at s x)) (at [] links x) []) links (s.k + s.m) long
      (λ x below. by (knows_dead known (process_at s x)) (at [] links x))) where
        by : (b : Bool) (link : List Message) → link ≡ link_after b link []
        by true link = refl
        by false link = refl

  pub all-sent : (all : List Sent) (before links : List (Link Message)) → length before ≡ s.k + s.m → IsSending all [] before links
      → messages links ≡ links_after s known all (messages before)
  all-sent all before links long sends = sym (nothing-behind (messages links) (messages-long links ∙ sends.many ∙ long)) ∙ sends.messages_are

enough-for : (s : Dimensions) (sent : List Sent) (links : List (Link Message)) → FewForEach s sent → HaveRoom (suc (suc s.k)) links → HaveRoomFor s sent links
enough-for s sent links few room x below = let most = few (process_at s x) in let spare = room x below in omega (arith, most, spare)

pub some-room : (s : Dimensions) (sent : List Sent) (links : List (Link Message)) → HaveRoomFor s sent links → HaveRoom 1 links
some-room s sent links room x below = let most = room x below in omega (arith, most)

pub starts-sending : (s : Dimensions) (known : Membership) (all : List Sent) (links : List (Link Message)) → FewForEach s all → HaveRoom (suc (suc s.k)) links
    → IsSending s known all all links links
starts-sending s known all links few room = record { many = refl; messages_are = refl; room = enough-for s all links few room }

pub none-left : {X : Type 0} (xs : List X) → length xs ≡ 0 → xs ≡ []
none-left [] long = refl
none-left (x ∷ xs) long = absurd (omega (arith, long))
