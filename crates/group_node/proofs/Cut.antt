-- Links that are cut, one after the other.
use Rattle.std.proofs.Common.{ℕ, ◌≡◌, ◌≢◌, ◌<◌, ◌≤◌, ◌+◌, ◌-◌, ◌⊎◌, inl, inr, true, false, List, [], ◌∷◌, ◌++◌, length, take, refl, sym, ap, subst, ◌∙◌, arith}
use Rattle.std.proofs.lemmas.Bool.Decides.{eqb_tells}
use Rattle.std.proofs.Math.Dec.{eqb}
use Rattle.std.proofs.lemmas.List.{get_or-set_same, get_or-set_other}
use Rattle.group_types.specs.Dimensions.{Dimensions}
use Rattle.group_types.specs.Lists.{at}
use Rattle.group_types.specs.declared.process.ProcessId.{ProcessId}
use Rattle.group_message.specs.declared.message.Message.{Message}
use Rattle.group_message.specs.declared.message.Message.TheVariants as tells
use Rattle.group_run.specs.World.{links_cut}
use Rattle.link_core.specs.Outgoing.{Link, empty_link, link_to, with_link_to}
use Rattle.group_node.specs.Rooms.{HaveRoom, messages}
use Rattle.group_node.proofs.Links.{many-with, messages-at, messages-long}
use Rattle.group_node.proofs.Ranges.{entries-same}

-- the first messages, and the notice behind them
abbrev pub cut_to : ProcessId → ℕ → List Message → List Message
cut_to dead keep link = take keep link ++ tells.Notice dead ∷ []

-- the links below n are cut, and the others as they were
pub record IsCutting (dead : ProcessId) (keep n : ℕ) (before links : List (Link Message)) : Type 0 where
  pub many : length links ≡ length before
  pub cut : (x : ℕ) → x < n → x < length before → (link_to links x).messages ≡ cut_to dead keep (link_to before x).messages
  pub left : (x : ℕ) → n ≤ x → link_to links x ≡ link_to before x

pub none-cut : (dead : ProcessId) (keep : ℕ) (links : List (Link Message)) → IsCutting dead keep 0 links links
none-cut dead keep links = record { many = refl; cut = λ x below within. absurd (omega arith); left = λ x from. refl }

module _ (dead : ProcessId) (keep n : ℕ) (before links once new : List (Link Message)) (within : n < length before)
    (cutting : IsCutting dead keep n before links)
    (is_once : once ≡ with_link_to links n (take keep (link_to links n).messages) (link_to links n).spare) where
  inside : n < length links
  inside = let many = cutting.many in omega (arith, many, within)

  here : link_to once n ≡ record { messages = take keep (link_to links n).messages; spare = (link_to links n).spare }
  here = ap (λ (ls : List (Link Message)). link_to ls n) is_once ∙ get_or-set_same links n _ empty_link inside

  pub has-place : length once ≡ length before
  has-place = ap length is_once ∙ many-with links n _ _ ∙ cutting.many

  -- there is room for the notice
  pub has-room : HaveRoom 1 before → 0 < (link_to once n).spare
  has-room room =
      let spare = room n within in
      let same : (link_to once n).spare ≡ (link_to before n).spare = ap (λ (l : Link Message). l.spare)
      (here ∙ ap (λ (l : Link Message). record { messages = take keep l.messages; spare = l.spare }) (cutting.left n (omega arith))) in
      omega (arith, spare, same)

  -- one more is cut
  pub cuts-on : new ≡ with_link_to once n ((link_to once n).messages ++ tells.Notice dead ∷ [])
      ((link_to once n).spare - 1) → IsCutting dead keep (n + 1) before new
  cuts-on is_new = record {
    many = ap length is_new ∙ many-with once n _ _ ∙ has-place;
    cut = λ x below under. by x below under (eqb_tells x n);
    left = λ x from. apart x (λ (same : x ≡ n). absurd (omega (arith, from, same))) ∙ cutting.left x (omega (arith, from));
  } where
    apart : (x : ℕ) → x ≢ n → link_to new x ≡ link_to links x
    apart x other =
        ap (λ (ls : List (Link Message)). link_to ls x) is_new ∙ get_or-set_other once n x _ empty_link other
        ∙ ap (λ (ls : List (Link Message)). link_to ls x) is_once ∙ get_or-set_other links n x _ empty_link other

    there : (link_to new n).messages ≡ cut_to dead keep (link_to before n).messages
    there =
        ap (λ (ls : List (Link Message)). (link_to ls n).messages) is_new
        ∙ ap (λ (l : Link Message). l.messages)
        (get_or-set_same once n
        (record {
          messages = (link_to once n).messages ++ tells.Notice dead ∷ [];
          spare = (link_to once n).spare - 1;
        }) empty_link place)
        ∙ ap (λ (l : Link Message). l.messages ++ tells.Notice dead ∷ []) here
        ∙ ap (λ (l : Link Message). cut_to dead keep l.messages) (cutting.left n (omega arith)) where
          place : n < length once
          place = let long = has-place in omega (arith, long, within)

    by : (x : ℕ) → x < n + 1 → x < length before → ((eqb x n ≡ true) × (x ≡ n)) ⊎ ((eqb x n ≡ false) × (x ≢ n))
        → (link_to new x).messages ≡ cut_to dead keep (link_to before x).messages
    by x below under (inl same) = subst (λ (y : ℕ). (link_to new y).messages ≡ cut_to dead keep (link_to before y).messages) (sym same.1) there
    by x below under (inr other) = let not_n = other.1 in ap (λ (l : Link Message). l.messages) (apart x not_n)
        ∙ cutting.cut x (below-n x below not_n) under where
          below-n : (y : ℕ) → y < n + 1 → y ≢ n → y < n
          below-n y low other = omega (arith, low, other)

-- all links are cut
pub all-cut : (s : Dimensions) (dead : ProcessId) (keep n : ℕ) (before links : List (Link Message)) → length before ≡ s.k + s.m → s.k + s.m ≤ n
    → IsCutting dead keep n before links
    → messages links ≡ links_cut s dead keep (messages before)
all-cut s dead keep n before links long all cutting =
    entries-same [] (λ x. cut_to dead keep (at [] (messages before) x)) (messages links) (s.k + s.m) (messages-long links ∙ cutting.many ∙ long)
    (λ x below. messages-at links x ∙ cutting.cut x (omega (arith, all, below)) (omega (arith, long, below))
    ∙ ap (cut_to dead keep) (sym (messages-at before x)))
