-- What is read of nodes and links after one of them changed.
use Rattle.std.proofs.Common.{ℕ, ◌≡◌, ◌≢◌, ◌+◌, Bool, false, List, [], ◌∷◌, ◌++◌, length, take, map, if◌then◌else◌}
use Rattle.std.proofs.Common.{refl, sym, ap, ◌∙◌, arith, Option, Some, None}
use Rattle.std.proofs.lemmas.List.{append-nil}
use Rattle.std.specs.List.{range_with_len}
use Rattle.group_types.specs.Dimensions.{Dimensions}
use Rattle.group_types.specs.Lists.{at}
use Rattle.group_types.specs.Names.{IsProcess, index_of, process_at, same_process}
use Rattle.group_types.specs.declared.process.ProcessId.{ProcessId}
use Rattle.group_types.proofs.Lists.{at-put, at-put-within, at-map-range, length-put, put-at}
use Rattle.group_types.proofs.Names.{process_at-index, index-below, index-one, same-ne}
use Rattle.membership.specs.Members.{Membership, knows_dead}
use Rattle.group_message.specs.declared.message.Message.{Message}
use Rattle.group_message.specs.declared.message.Message.TheVariants as tells
use Rattle.group_run.specs.Applying.{Sent}
use Rattle.group_run.specs.Process.{Node}
use Rattle.group_run.specs.World.{grown, links_without, links_after, link_after, links_cut, node_in, opening_node, sent_to, with_node}

pub grown-is : {X : Type 0} (xs ys : List X) → grown xs ys ≡ xs ++ ys
grown-is xs [] = sym (append-nil xs)
grown-is xs (y ∷ ys) = refl

-- two processes of the group have different indices
pub index-apart : (s : Dimensions) (p q : ProcessId) → IsProcess s p → IsProcess s q → q ≢ p → index_of s q ≢ index_of s p
index-apart s p q pin qin other same = other (index-one s q p qin pin same)

module _ (s : Dimensions) (nodes : List Node) where
  -- the node that was put
  pub node-here : (p : ProcessId) (node : Node) → node_in s (with_node s p node nodes) p ≡ node
  node-here p node = at-put (opening_node s p) (opening_node s p) nodes (index_of s p) node

  -- the nodes of the others
  pub node-other : (p q : ProcessId) (node : Node) → IsProcess s p → IsProcess s q → q ≢ p → length nodes ≡ s.k + s.m
      → node_in s (with_node s p node nodes) q ≡ node_in s nodes q
  node-other p q node pin qin other size =
      at-put-within (opening_node s q) (opening_node s p) nodes (index_of s p) (index_of s q) node
      (index-apart s p q pin qin other) (let low = index-below s q qin in omega arith)

  -- the nodes where one was put back
  pub node-back : (p : ProcessId) → IsProcess s p → length nodes ≡ s.k + s.m → with_node s p (node_in s nodes p) nodes ≡ nodes
  node-back p pin size = put-at (opening_node s p) (opening_node s p) nodes (index_of s p) (let low = index-below s p pin in omega arith)

  pub size-with_node : (p : ProcessId) (node : Node) → IsProcess s p → length nodes ≡ s.k + s.m → length (with_node s p node nodes) ≡ s.k + s.m
  size-with_node p node pin size = length-put (opening_node s p) nodes (index_of s p) node (let low = index-below s p pin in omega arith) ∙ size

-- what is made for each index, read at a process
pub at-indices : {X : Type 0} (s : Dimensions) (d : X) (f : ℕ → X) (q : ProcessId) → IsProcess s q
    → at d (map f (range_with_len 0 (s.k + s.m))) (index_of s q) ≡ f (index_of s q)
at-indices s d f q qin = at-map-range d f (s.k + s.m) 0 (index_of s q) (index-below s q qin) ∙ ap f (omega arith)

-- the link to a process, after messages were sent
pub link-sent : (s : Dimensions) (known : Membership) (sent : List Sent) (links : List (List Message)) (q : ProcessId) → IsProcess s q
    → at [] (links_after s known sent links) (index_of s q) ≡ link_after (knows_dead known q) (at [] links (index_of s q)) (sent_to q sent)
link-sent s known sent links q qin =
    at-indices s [] (λ x. link_after (knows_dead known (process_at s x)) (at [] links x) (sent_to (process_at s x) sent)) q qin
    ∙ ap (λ (x : ProcessId). link_after (knows_dead known x) (at [] links (index_of s q)) (sent_to x sent)) (process_at-index s q qin)

-- to one that isn't known to be dead they stand behind
pub link-living : (s : Dimensions) (known : Membership) (sent : List Sent) (links : List (List Message)) (q : ProcessId)
    → IsProcess s q → knows_dead known q ≡ false
    → at [] (links_after s known sent links) (index_of s q) ≡ at [] links (index_of s q) ++ sent_to q sent
link-living s known sent links q qin living =
    link-sent s known sent links q qin
    ∙ ap (λ (b : Bool). link_after b (at [] links (index_of s q)) (sent_to q sent)) living
    ∙ grown-is (at [] links (index_of s q)) (sent_to q sent)

-- the link to a process, after the sender died
pub link-cut : (s : Dimensions) (x : ProcessId) (keep : ℕ) (links : List (List Message)) (q : ProcessId) → IsProcess s q
    → at [] (links_cut s x keep links) (index_of s q) ≡ take keep (at [] links (index_of s q)) ++ tells.Notice x ∷ []
link-cut s x keep links q qin = at-indices s [] (λ y. take keep (at [] links y) ++ tells.Notice x ∷ []) q qin

-- the link to a process, after the one to another was emptied
pub link-others : (s : Dimensions) (dead : ProcessId) (links : List (List Message)) (q : ProcessId) → IsProcess s q → q ≢ dead
    → at [] (links_without s dead links) (index_of s q) ≡ at [] links (index_of s q)
link-others s dead links q qin other =
    at-indices s [] (λ x. if same_process (process_at s x) dead then [] else at [] links x) q qin
    ∙ ap (λ (x : ProcessId). if same_process x dead then [] else at [] links (index_of s q)) (process_at-index s q qin)
    ∙ ap (λ (b : Bool). if b then [] else at [] links (index_of s q)) (same-ne q dead other)

-- one thing stands in an option
pub some-same : {X : Type 0} (a b : X) → Some a ≡ Some b → a ≡ b
some-same a b is = ap (λ (o : Option _). elim o [ None ↦ a | Some x ↦ x ]) is
