-- What is read of links after one of them changed.
use Rattle.std.proofs.Common.{ℕ, zero, suc, ◌≡◌, ◌<◌, List, [], ◌∷◌, length, All, refl, ap, arith}
use Rattle.group_types.specs.Lists.{at, put}
use Rattle.group_message.specs.declared.message.Message.{Message}
use Rattle.link_core.specs.Outgoing.{Link, link_to, with_link_to}
use Rattle.group_node.specs.Rooms.{messages}

-- the messages of one link
pub messages-at : (links : List (Link Message)) (x : ℕ) → at [] (messages links) x ≡ (link_to links x).messages
messages-at [] x = refl
messages-at (l ∷ ls) zero = refl
messages-at (l ∷ ls) (suc x) = messages-at ls x

pub messages-long : (links : List (Link Message)) → length (messages links) ≡ length links
messages-long [] = refl
messages-long (l ∷ ls) = ap suc (messages-long ls)

-- the messages after one link got others
pub messages-with : (links : List (Link Message)) (x : ℕ) (ms : List Message) (n : ℕ) → x < length links
    → messages (with_link_to links x ms n) ≡ put [] (messages links) x ms
messages-with [] x ms n within = absurd (omega arith)
messages-with (l ∷ ls) zero ms n within = refl
messages-with (l ∷ ls) (suc x) ms n within = ap (λ (rest : List (List Message)). l.messages ∷ rest) (messages-with ls x ms n (omega arith))

pub many-with : (links : List (Link Message)) (x : ℕ) (ms : List Message) (n : ℕ) → length (with_link_to links x ms n) ≡ length links
many-with [] x ms n = refl
many-with (l ∷ ls) zero ms n = refl
many-with (l ∷ ls) (suc x) ms n = ap suc (many-with ls x ms n)

-- links with the same messages, one by one
pub messages-same : (old new : List (Link Message)) → length new ≡ length old → ((x : ℕ) → (link_to new x).messages ≡ (link_to old x).messages)
    → messages new ≡ messages old
messages-same [] [] long same = refl
messages-same [] (n ∷ ns) long same = absurd (omega (arith, long))
messages-same (o ∷ os) [] long same = absurd (omega (arith, long))
messages-same (o ∷ os) (n ∷ ns) long same =
    let first : n.messages ≡ o.messages = same 0 in
    let rest : messages ns ≡ messages os = messages-same os ns (omega (arith, long)) (λ x. same (suc x)) in
    λ j. first j ∷ rest j

-- no message waits in any link, told by the links and by their places
pub idle-at : (links : List (Link Message)) → All (λ l. l.messages ≡ []) links → (x : ℕ) → at [] (messages links) x ≡ []
idle-at [] idle x = refl
idle-at (l ∷ ls) idle zero = idle zero l (omega arith)
idle-at (l ∷ ls) idle (suc x) = idle-at ls (λ k d below. idle (suc k) d (omega (arith, below))) x

pub all-idle : (links : List (Link Message)) → ((x : ℕ) → at [] (messages links) x ≡ []) → All (λ l. l.messages ≡ []) links
all-idle [] idle k d below = absurd (omega (arith, below))
all-idle (l ∷ ls) idle zero d below = idle zero
all-idle (l ∷ ls) idle (suc k) d below = all-idle ls (λ x. idle (suc x)) k d (omega (arith, below))
