-- What members know of one another, along runs: who has failed is cut by all that haven't, and all of a permitted set fail
-- at once.
use Rattle.std.proofs.Common.{◌≡◌, ◌≢◌, ◌≤◌, ◌||◌, ◌⊎◌, inl, inr, Bool, true, false, List, [], ◌∷◌, ◌++◌, refl, sym, ap, ◌∙◌, arith}
use Rattle.std.specs.List.{list_any}
use Rattle.group_types.specs.Dimensions.{Dimensions}
use Rattle.group_types.specs.Names.{IsProcess}
use Rattle.group_types.specs.declared.process.ProcessId.{ProcessId}
use Rattle.group_types.proofs.Names.{same-cases}
use Rattle.group_wire.specs.Actions.{Action, Begin, Send, Read, Treat, Collect, Flush, Learn, Receive, GiveUp, Cut, Say}
use Rattle.group_wire.specs.Actions.{Hear, Permit, Take, Ping, Pong, Count, Show, LetGo, Stop}
use Rattle.group_wire.specs.Composed.{Composed, failed_after}
use Rattle.group_wire.specs.May.{MayAct}
use Rattle.group_wire.specs.Sets.{IsSubset, Processes, changed, either, nobody, one_or, size_of, with_one}
use Rattle.group_wire.specs.State.{Words, opening_group}
use Rattle.group_wire.specs.Sending.{heard_first, words_after}
use Rattle.group_wire.proofs.Changes.{changed-each, changed-here, changed-other, changed-pairs, either-left}
use Rattle.group_wire.proofs.Changes.{either-right, either-which, either-not, grown-set, size-within, size-nobody}

-- r has said to p that it has cut x, which p has heard or which is on the wire
abbrev pub told : Words → ProcessId → ProcessId → Processes
told w r p x = w.heard p r x || list_any (λ set. set x) (w.said r p)

-- the last member that made others fail: it permitted itself all of them, whoever is none of them has told it so, and what
-- it has told one of them is of them
pub record Deposed (s : Dimensions) (w : Words) (failed : Processes) : Type 0 where
  pub by : ProcessId
  pub member : IsProcess s by
  pub permitted : IsSubset failed (w.permitted by)
  pub told_them : (g x : ProcessId) → failed g ≡ true → told w by g x ≡ true → failed x ≡ true
  pub heard : (r : ProcessId) → IsProcess s r → r ≢ by → failed r ≡ false → IsSubset failed (w.heard by r)

-- what holds of the words of members and of who has failed
pub record Barred (s : Dimensions) (w : Words) (failed : Processes) : Type 0 where
  pub own : (p : ProcessId) → w.cut p p ≡ false
  pub said : (r p : ProcessId) → IsSubset (told w r p) (w.cut r)
  pub not_both : (r p x : ProcessId) → told w r p x ≡ true → told w r x p ≡ true → ⊥
  pub permitted : (p : ProcessId) → IsSubset (w.permitted p) (w.cut p)
  pub all_said : (p r : ProcessId) → IsProcess s r → r ≢ p → w.permitted p r ≡ false → IsSubset (w.permitted p) (w.heard p r)
  pub taken : (p : ProcessId) → IsSubset (w.taken p) (w.permitted p)
  pub few : (p : ProcessId) → size_of s (w.cut p) ≤ s.m
  pub cut : (r x : ProcessId) → IsProcess s r → failed r ≡ false → failed x ≡ true → w.cut r x ≡ true
  pub permits : (p : ProcessId) → IsProcess s p → failed p ≡ false → IsSubset (w.permitted p) failed
  pub lost : size_of s failed ≤ s.m
  pub deposed : ((x : ProcessId) → failed x ≡ false) ⊎ Deposed s w failed

pub any-push : (f : Processes → Bool) (sets : List Processes) (set : Processes) → list_any f (sets ++ set ∷ []) ≡ true
    → (list_any f sets ≡ true) ⊎ (f set ≡ true)
any-push f [] set some = by (f set) some where
  by : (b : Bool) → (b || false) ≡ true → (false ≡ true) ⊎ (b ≡ true)
  by true is = inr refl
  by false is = cc is
any-push f (y ∷ sets) set some = by (f y) (any-push f sets set) some where
  by : (b : Bool) → (list_any f (sets ++ set ∷ []) ≡ true → (list_any f sets ≡ true) ⊎ (f set ≡ true))
      → (b || list_any f (sets ++ set ∷ [])) ≡ true → ((b || list_any f sets) ≡ true) ⊎ (f set ≡ true)
  by true rest is = inl refl
  by false rest is = rest is

pub or-which : (a b : Bool) → (a || b) ≡ true → (a ≡ true) ⊎ (b ≡ true)
or-which true b is = inl refl
or-which false b is = inr is

pub or-left : (a b : Bool) → a ≡ true → (a || b) ≡ true
or-left a b is = ap (λ (c : Bool). c || b) is

pub or-right : (a b : Bool) → b ≡ true → (a || b) ≡ true
or-right true b is = refl
or-right false b is = is

-- what was told after p said whom it has cut
told-said : (w : Words) (p r q x : ProcessId) → told (words_after w (Say p)) r q x ≡ true
    → (told w r q x ≡ true) ⊎ ((r ≡ p) × (w.cut p q ≡ false) × (w.cut p x ≡ true))
told-said w p r q x is = changed-each
    (λ r row. (w.heard q r x || list_any (λ set. set x) (row q)) ≡ true → (told w r q x ≡ true) ⊎ ((r ≡ p) × (w.cut p q ≡ false) × (w.cut p x ≡ true)))
    w.said p (λ q. one_or (w.cut p q) (w.said p q) (w.said p q ++ w.cut p ∷ []))
    (by (w.cut p q) refl) (λ r other is. inl is) r is
  where
    by : (b : Bool) → w.cut p q ≡ b → (w.heard q p x || list_any (λ set. set x) (one_or b (w.said p q) (w.said p q ++ w.cut p ∷ []))) ≡ true
        → (told w p q x ≡ true) ⊎ ((p ≡ p) × (w.cut p q ≡ false) × (w.cut p x ≡ true))
    by true uncut is = inl is
    by false uncut is = which (or-which (w.heard q p x) (list_any (λ set. set x) (w.said p q ++ w.cut p ∷ [])) is) where
      last : (list_any (λ set. set x) (w.said p q) ≡ true) ⊎ (w.cut p x ≡ true) → (told w p q x ≡ true) ⊎ ((p ≡ p) × (w.cut p q ≡ false) × (w.cut p x ≡ true))
      last (inl some) = inl (or-right (w.heard q p x) (list_any (λ set. set x) (w.said p q)) some)
      last (inr cut) = inr (refl, uncut, cut)

      which : (w.heard q p x ≡ true) ⊎ (list_any (λ set. set x) (w.said p q ++ w.cut p ∷ []) ≡ true)
          → (told w p q x ≡ true) ⊎ ((p ≡ p) × (w.cut p q ≡ false) × (w.cut p x ≡ true))
      which (inl heard) = inl (or-left (w.heard q p x) (list_any (λ set. set x) (w.said p q)) heard)
      which (inr some) = last (any-push (λ set. set x) (w.said p q) (w.cut p) some)

-- what was told after a set was heard is what was told before
told-heard : (w : Words) (y p : ProcessId) (sets : List Processes) → w.said y p ≡ sets → (r q x : ProcessId)
    → told (heard_first y p sets w) r q x ≡ true → told w r q x ≡ true
told-heard w y p [] is r q x some = some
told-heard w y p (set ∷ rest) is r q x some = by (same-cases r y) (same-cases q p) some where
  after : Words
  after = heard_first y p (set ∷ rest) w

  both : (r ≡ y) × (q ≡ p) → told after r q x ≡ true → told w r q x ≡ true
  both (ry, qp) some =
      let heard : after.heard q r x ≡ (w.heard p y x || set x) =
      ap (λ (a : ProcessId). after.heard a r x) qp ∙ ap (λ (b : ProcessId). after.heard p b x) ry
      ∙ ap (λ (row : ProcessId → Processes). row y x) (changed-here w.heard p (changed (w.heard p) y (either (w.heard p y) set)))
      ∙ ap (λ (c : Processes). c x) (changed-here (w.heard p) y (either (w.heard p y) set)) in
      let said : after.said r q ≡ rest =
      ap (λ (b : ProcessId). after.said b q) ry ∙ ap (λ (a : ProcessId). after.said y a) qp
      ∙ ap (λ (row : ProcessId → List Processes). row p) (changed-here w.said y (changed (w.said y) p rest))
      ∙ changed-here (w.said y) p rest in
      let there : ((w.heard p y x || set x) || list_any (λ set. set x) rest) ≡ true =
      sym (λ i. heard i || list_any (λ set. set x) (said i)) ∙ some in
      let whole : (w.heard p y x || list_any (λ set. set x) (w.said y p)) ≡ true =
      ap (λ (sets : List Processes). w.heard p y x || list_any (λ set. set x) sets) is ∙ regroup (w.heard p y x) (set x) (list_any (λ set. set x) rest) there in
      ap (λ (b : ProcessId). told w b q x) ry ∙ ap (λ (a : ProcessId). told w y a x) qp ∙ whole
    where
      regroup : (a b c : Bool) → ((a || b) || c) ≡ true → (a || (b || c)) ≡ true
      regroup true b c is = refl
      regroup false b c is = is

  heard-other : (r ≢ y) ⊎ (q ≢ p) → after.heard q r x ≡ w.heard q r x
  heard-other (inr other) = ap (λ (row : ProcessId → Processes). row r x) (changed-other w.heard p q (changed (w.heard p) y (either (w.heard p y) set)) other)
  heard-other (inl other) = which (same-cases q p) where
    which : (q ≡ p) ⊎ (q ≢ p) → after.heard q r x ≡ w.heard q r x
    which (inr far) = ap (λ (row : ProcessId → Processes). row r x) (changed-other w.heard p q (changed (w.heard p) y (either (w.heard p y) set)) far)
    which (inl same) =
        ap (λ (a : ProcessId). after.heard a r x) same
        ∙ ap (λ (row : ProcessId → Processes). row r x) (changed-here w.heard p (changed (w.heard p) y (either (w.heard p y) set)))
        ∙ ap (λ (c : Processes). c x) (changed-other (w.heard p) y r (either (w.heard p y) set) other)
        ∙ ap (λ (a : ProcessId). w.heard a r x) (sym same)

  said-other : (r ≢ y) ⊎ (q ≢ p) → after.said r q ≡ w.said r q
  said-other (inl other) = ap (λ (row : ProcessId → List Processes). row q) (changed-other w.said y r (changed (w.said y) p rest) other)
  said-other (inr other) = which (same-cases r y) where
    which : (r ≡ y) ⊎ (r ≢ y) → after.said r q ≡ w.said r q
    which (inr far) = ap (λ (row : ProcessId → List Processes). row q) (changed-other w.said y r (changed (w.said y) p rest) far)
    which (inl same) =
        ap (λ (a : ProcessId). after.said a q) same
        ∙ ap (λ (row : ProcessId → List Processes). row q) (changed-here w.said y (changed (w.said y) p rest))
        ∙ changed-other (w.said y) p q rest other
        ∙ ap (λ (a : ProcessId). w.said a q) (sym same)

  apart : (r ≢ y) ⊎ (q ≢ p) → told after r q x ≡ true → told w r q x ≡ true
  apart which some = sym (λ i. heard-other which i || list_any (λ set. set x) (said-other which i)) ∙ some

  by : (r ≡ y) ⊎ (r ≢ y) → (q ≡ p) ⊎ (q ≢ p) → told after r q x ≡ true → told w r q x ≡ true
  by (inl ry) (inl qp) some = both (ry, qp) some
  by (inr other) which some = apart (inl other) some
  by (inl ry) (inr other) some = apart (inr other) some

-- what was heard is heard still
pub heard-grows : (w : Words) (y p : ProcessId) (sets : List Processes) (q r : ProcessId) → IsSubset (w.heard q r) ((heard_first y p sets w).heard q r)
heard-grows w y p [] q r x some = some
heard-grows w y p (set ∷ rest) q r x some =
    changed-pairs (λ q r now. w.heard q r x ≡ true → now x ≡ true) w.heard p y (either (w.heard p y) set)
    (λ old. either-left (w.heard p y) set x old) (λ a b old. old) q r some

-- where words and who has failed stay, all holds; the moves that change them keep it
module _ (s : Dimensions) (w : Words) (failed : Processes) (b : Barred s w failed) where
  -- a member cuts another
  barred-cut : (x p : ProcessId) → x ≢ p → size_of s (with_one (w.cut p) x) ≤ s.m → Barred s (words_after w (Cut x p)) failed
  barred-cut x p other few = record {
    own = changed-each (λ q set. set q ≡ false) w.cut p (with_one (w.cut p) x)
        (changed-other (w.cut p) x p true (λ (same : p ≡ x). other (sym same)) ∙ b.own p) (λ q _. b.own q);
    said = λ r q y is. grows r y (b.said r q y is);
    not_both = b.not_both;
    permitted = λ q y is. grows q y (b.permitted q y is);
    all_said = b.all_said;
    taken = b.taken;
    few = changed-each (λ q set. size_of s set ≤ s.m) w.cut p (with_one (w.cut p) x) few (λ q _. b.few q);
    cut = λ r y rin lives fails. grows r y (b.cut r y rin lives fails);
    permits = b.permits;
    lost = b.lost;
    deposed = depose b.deposed;
  } where
    depose : ((x : ProcessId) → failed x ≡ false) ⊎ Deposed s w failed → ((x : ProcessId) → failed x ≡ false) ⊎ Deposed s (words_after w (Cut x p)) failed
    depose (inl none) = inl none
    depose (inr d) = inr (record { by = d.by; member = d.member; permitted = d.permitted; told_them = d.told_them; heard = d.heard })

    grows : (r : ProcessId) → IsSubset (w.cut r) (changed w.cut p (with_one (w.cut p) x) r)
    grows = changed-each (λ r set. IsSubset (w.cut r) set) w.cut p (with_one (w.cut p) x) (grown-set (w.cut p) x) (λ r _ y is. is)

  -- a member says whom it has cut
  barred-said : (p : ProcessId) → Barred s (words_after w (Say p)) failed
  barred-said p = record {
    own = b.own;
    said = λ r q x is. here r q x (told-said w p r q x is);
    not_both = λ r q x one two. both r q x (told-said w p r q x one) (told-said w p r x q two);
    permitted = b.permitted;
    all_said = b.all_said;
    taken = b.taken;
    few = b.few;
    cut = b.cut;
    permits = b.permits;
    lost = b.lost;
    deposed = depose b.deposed;
  } where
    Says : ProcessId → ProcessId → ProcessId → Type 0
    Says r q x = (told w r q x ≡ true) ⊎ ((r ≡ p) × (w.cut p q ≡ false) × (w.cut p x ≡ true))

    here : (r q x : ProcessId) → Says r q x → w.cut r x ≡ true
    here r q x (inl old) = b.said r q x old
    here r q x (inr (same, uncut, cut)) = ap (λ (a : ProcessId). w.cut a x) same ∙ cut

    both : (r q x : ProcessId) → Says r q x → Says r x q → ⊥
    both r q x (inl one) (inl two) = b.not_both r q x one two
    both r q x (inr (same, uncut, cut)) two = let is : w.cut r q ≡ true = here r x q two in cc (is, uncut, ap (λ (a : ProcessId). w.cut a q) same)
    both r q x (inl one) (inr (same, uncut, cut)) = let is : w.cut r x ≡ true = b.said r q x one in cc (is, uncut, ap (λ (a : ProcessId). w.cut a x) same)

    depose : ((x : ProcessId) → failed x ≡ false) ⊎ Deposed s w failed → ((x : ProcessId) → failed x ≡ false) ⊎ Deposed s (words_after w (Say p)) failed
    depose (inl none) = inl none
    depose (inr d) = inr (record {
      by = d.by;
      member = d.member;
      permitted = d.permitted;
      told_them = λ g x fails is. of_them g x fails (told-said w p d.by g x is);
      heard = d.heard;
    }) where
      of_them : (g x : ProcessId) → failed g ≡ true → Says d.by g x → failed x ≡ true
      of_them g x fails (inl old) = d.told_them g x fails old
      of_them g x fails (inr (same, uncut, cut)) =
          let is : w.cut d.by g ≡ true = b.permitted d.by g (d.permitted g fails) in cc (is, uncut, ap (λ (a : ProcessId). w.cut a g) same)

  -- a member hears such a set
  barred-heard : (y p : ProcessId) (sets : List Processes) → w.said y p ≡ sets → Barred s (heard_first y p sets w) failed
  barred-heard y p [] is = b
  barred-heard y p (set ∷ rest) is = record {
    own = b.own;
    said = λ r q x some. b.said r q x (before r q x some);
    not_both = λ r q x one two. b.not_both r q x (before r q x one) (before r x q two);
    permitted = b.permitted;
    all_said = λ q r rin other out x inside. heard-grows w y p (set ∷ rest) q r x (b.all_said q r rin other out x inside);
    taken = b.taken;
    few = b.few;
    cut = b.cut;
    permits = b.permits;
    lost = b.lost;
    deposed = depose b.deposed;
  } where
    before : (r q x : ProcessId) → told (heard_first y p (set ∷ rest) w) r q x ≡ true → told w r q x ≡ true
    before = told-heard w y p (set ∷ rest) is

    depose : ((x : ProcessId) → failed x ≡ false) ⊎ Deposed s w failed → ((x : ProcessId) → failed x ≡ false)
        ⊎ Deposed s (heard_first y p (set ∷ rest) w) failed
    depose (inl none) = inl none
    depose (inr d) = inr (record {
      by = d.by;
      member = d.member;
      permitted = d.permitted;
      told_them = λ g x fails some. d.told_them g x fails (before d.by g x some);
      heard = λ r rin other lives x fails. heard-grows w y p (set ∷ rest) d.by r x (d.heard r rin other lives x fails);
    })

  -- a member takes a death that it may take
  barred-taken : (x p : ProcessId) → w.permitted p x ≡ true → Barred s (words_after w (Take x p)) failed
  barred-taken x p may = record {
    own = b.own;
    said = b.said;
    not_both = b.not_both;
    permitted = b.permitted;
    all_said = b.all_said;
    taken = changed-each (λ q set. IsSubset set (w.permitted q)) w.taken p (with_one (w.taken p) x) one_more (λ q _. b.taken q);
    few = b.few;
    cut = b.cut;
    permits = b.permits;
    lost = b.lost;
    deposed = depose b.deposed;
  } where
    one_more : IsSubset (with_one (w.taken p) x) (w.permitted p)
    one_more = changed-each (λ y is. is ≡ true → w.permitted p y ≡ true) (w.taken p) x true (λ _. may) (λ y _ is. b.taken p y is)

    depose : ((x : ProcessId) → failed x ≡ false) ⊎ Deposed s w failed → ((x : ProcessId) → failed x ≡ false) ⊎ Deposed s (words_after w (Take x p)) failed
    depose (inl none) = inl none
    depose (inr d) = inr (record { by = d.by; member = d.member; permitted = d.permitted; told_them = d.told_them; heard = d.heard })

  -- a member permits itself all that it has cut
  module _ (p : ProcessId) (pin : IsProcess s p) (all : (r : ProcessId) → IsProcess s r → r ≢ p → w.cut p r ≡ false → IsSubset (w.cut p) (w.heard p r)) where
    abbrev pub may_take : Words
    may_take = words_after w (Permit p)

    permitted_now : (q : ProcessId) → IsSubset (may_take.permitted q) (w.cut q)
    permitted_now = changed-each (λ q set. IsSubset set (w.cut q)) w.permitted p (w.cut p) (λ x is. is) (λ q _. b.permitted q)

    all_said_now : (q r : ProcessId) → IsProcess s r → r ≢ q → may_take.permitted q r ≡ false → IsSubset (may_take.permitted q) (w.heard q r)
    all_said_now q r rin other = changed-each (λ q set. r ≢ q → set r ≡ false → IsSubset set (w.heard q r)) w.permitted p (w.cut p)
        (λ other out. all r rin other out) (λ q _ other out. b.all_said q r rin other out) q other

    taken_now : (q : ProcessId) → IsSubset (w.taken q) (may_take.permitted q)
    taken_now = changed-each (λ q set. IsSubset (w.taken q) set) w.permitted p (w.cut p) (λ x is. b.permitted p x (b.taken p x is)) (λ q _. b.taken q)

    -- and has failed itself: nobody fails
    barred-ghost : failed p ≡ true → Barred s may_take failed
    barred-ghost ghost = record {
      own = b.own;
      said = b.said;
      not_both = b.not_both;
      permitted = permitted_now;
      all_said = all_said_now;
      taken = taken_now;
      few = b.few;
      cut = b.cut;
      permits = changed-each (λ q set. IsProcess s q → failed q ≡ false → IsSubset set failed) w.permitted p (w.cut p)
          (λ qin lives. cc (lives, ghost)) (λ q _. b.permits q);
      lost = b.lost;
      deposed = depose b.deposed;
    } where
      depose : ((x : ProcessId) → failed x ≡ false) ⊎ Deposed s w failed → ((x : ProcessId) → failed x ≡ false) ⊎ Deposed s may_take failed
      depose (inl none) = inl none
      depose (inr d) = inr (record {
        by = d.by;
        member = d.member;
        permitted = changed-each (λ q set. IsSubset failed (w.permitted q) → IsSubset failed set) w.permitted p
            (w.cut p) (λ old x fails. b.permitted p x (old x fails)) (λ q _ old. old) d.by d.permitted;
        told_them = d.told_them;
        heard = d.heard;
      })

    -- and hasn't failed: all of them fail, and nobody else has
    module _ (lives : failed p ≡ false) where
      abbrev pub now : Processes
      now = either failed (w.cut p)

      pub permitted-fails : IsSubset now (w.cut p)
      permitted-fails x fails = by (either-which failed (w.cut p) x fails) where
        by : (failed x ≡ true) ⊎ (w.cut p x ≡ true) → w.cut p x ≡ true
        by (inl before) = b.cut p x pin lives before
        by (inr cut) = cut

      barred-new : Barred s may_take now
      barred-new = record {
        own = b.own;
        said = b.said;
        not_both = b.not_both;
        permitted = permitted_now;
        all_said = all_said_now;
        taken = taken_now;
        few = b.few;
        cut = λ r x rin living fails. cuts r x rin (either-not failed (w.cut p) r living) (either-which failed (w.cut p) x fails);
        permits = changed-each (λ q set. IsProcess s q → now q ≡ false → IsSubset set now) w.permitted p (w.cut p)
            (λ qin living. either-right failed (w.cut p))
            (λ q _ qin living x is. either-left failed (w.cut p) x (b.permits q qin (either-not failed (w.cut p) q living).0 x is));
        lost = let fewer = size-within s now (w.cut p) permitted-fails in let few = b.few p in omega (arith, fewer, few);
        deposed = inr (record {
          by = p;
          member = pin;
          permitted = λ x fails. ap (λ (set : Processes). set x) (changed-here w.permitted p (w.cut p)) ∙ permitted-fails x fails;
          told_them = λ g x fails is. either-right failed (w.cut p) x (b.said p g x is);
          heard = λ r rin other living x fails. all r rin other (either-not failed (w.cut p) r living).1 x (permitted-fails x fails);
        });
      } where
        cuts : (r x : ProcessId) → IsProcess s r → (failed r ≡ false) × (w.cut p r ≡ false) → (failed x ≡ true) ⊎ (w.cut p x ≡ true) → w.cut r x ≡ true
        cuts r x rin out (inl before) = b.cut r x rin out.0 before
        cuts r x rin out (inr cut) = which (same-cases r p) where
          which : (r ≡ p) ⊎ (r ≢ p) → w.cut r x ≡ true
          which (inl same) = ap (λ (a : ProcessId). w.cut a x) same ∙ cut
          which (inr other) = b.said r p x (or-left (w.heard p r x) (list_any (λ set. set x) (w.said r p)) (all r rin other out.1 x cut))

    pub barred-permit : Barred s may_take (one_or (failed p) failed (either failed (w.cut p)))
    barred-permit = by (failed p) refl where
      by : (ghost : Bool) → failed p ≡ ghost → Barred s may_take (one_or ghost failed (either failed (w.cut p)))
      by true ghost = barred-ghost ghost
      by false lives = barred-new lives

-- at the start nobody knows anything
pub barred-opening : (s : Dimensions) → Barred s (opening_group s).words nobody
barred-opening s = record {
  own = λ p. refl;
  said = λ r p x is. cc is;
  not_both = λ r p x one two. cc one;
  permitted = λ p x is. cc is;
  all_said = λ p r rin other out x is. cc is;
  taken = λ p x is. cc is;
  few = λ p. let none = size-nobody s nobody (λ x. refl) in omega (arith, none);
  cut = λ r x rin lives fails. cc fails;
  permits = λ p pin lives x is. cc is;
  lost = let none = size-nobody s nobody (λ x. refl) in omega (arith, none);
  deposed = inl (λ x. refl);
}

-- every action that may come keeps it
pub barred-step : (c : Composed) (a : Action) → MayAct c.group a → Barred c.group.shape c.group.words c.failed
    → Barred c.group.shape (words_after c.group.words a) (failed_after c a)
barred-step c (Begin caller op) may b = b
barred-step c (Send caller x) may b = b
barred-step c (Read x p) may b = b
barred-step c (Treat p place) may b = b
barred-step c (Collect caller call p) may b = b
barred-step c (Flush p) may b = b
barred-step c (Learn x p) may b = b
barred-step c (Receive x p) may b = b
barred-step c (GiveUp caller) may b = b
barred-step c (Cut x p) may b = barred-cut c.group.shape c.group.words c.failed b x p may.2 may.3
barred-step c (Say p) may b = barred-said c.group.shape c.group.words c.failed b p
barred-step c (Hear x p) may b = barred-heard c.group.shape c.group.words c.failed b x p (c.group.words.said x p) refl
barred-step c (Permit p) may b = barred-permit c.group.shape c.group.words c.failed b p may.0.member may.1
barred-step c (Take x p) may b = barred-taken c.group.shape c.group.words c.failed b x p may.2
barred-step c (Ping to p) may b = b
barred-step c (Pong x p) may b = b
barred-step c (Count x p) may b = b
barred-step c (Show caller ping) may b = b
barred-step c (LetGo caller) may b = b
barred-step c (Stop p) may b = b
