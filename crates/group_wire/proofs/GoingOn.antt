-- The members that are not named take the deaths of all that are: they cut them, say so, hear it, permit themselves and take.
use Rattle.std.proofs.Common.{◌≡◌, ◌≢◌, ◌≤◌, ◌⊎◌, inl, inr, Bool, true, false, List, [], ◌∷◌, ◌++◌, refl, sym, ap, subst, ◌∙◌, arith}
use Rattle.std.specs.List.{list_any}
use Rattle.group_types.specs.Dimensions.{Dimensions}
use Rattle.group_types.specs.Names.{IsProcess}
use Rattle.group_types.specs.declared.process.ProcessId.{ProcessId}
use Rattle.group_types.proofs.Names.{same-cases}
use Rattle.group_wire.specs.Actions.{Action, Cut, Say, Hear, Permit, Take}
use Rattle.group_wire.specs.Composed.{AreActions, AreActionsFrom, Composed, composed_from, composed, composed_with, opening_composed}
use Rattle.group_wire.specs.GoingOn.{NamedCanBeTaken, OthersAreHere, TakesNamed}
use Rattle.group_wire.specs.May.{IsHere, MayReadOther}
use Rattle.group_wire.specs.Sets.{IsSubset, Processes, changed, either, one_or, size_of, with_one}
use Rattle.group_wire.specs.State.{Group, Words}
use Rattle.group_wire.specs.Sending.{heard_first}
use Rattle.group_wire.proofs.Barrier.{heard-grows, or-left, or-right, or-which}
use Rattle.group_wire.proofs.Changes.{changed-each, changed-here, either-right, grown-set, size-within}
use Rattle.group_wire.proofs.Checks.{CutsInside, cuts-inside}
use Rattle.group_wire.proofs.Honest.{shape-from}
use Rattle.group_wire.proofs.Reaching.{Reaches, can-be, reaches-by, reaches-each, reaches-here, reaches-then, reaches-weaker}

-- what is needed of a group to go on
pub record Going (s : Dimensions) (named : Processes) (g : Group) : Type 0 where
  pub shape : g.shape ≡ s
  pub cut : (q : ProcessId) → IsSubset (g.words.cut q) named
  pub inside : CutsInside s g.words
  pub here : (q : ProcessId) → IsProcess s q → named q ≡ false → g.gone q ≡ false

-- what members know of one another grows, and calls stay
pub record Knows (s : Dimensions) (named : Processes) (c d : Composed) : Type 0 where
  pub going : Going s named d.group
  pub cut : (p : ProcessId) → IsSubset (c.group.words.cut p) (d.group.words.cut p)
  pub heard : (p r : ProcessId) → IsSubset (c.group.words.heard p r) (d.group.words.heard p r)
  pub taken : (p : ProcessId) → IsSubset (c.group.words.taken p) (d.group.words.taken p)
  pub gateways : d.group.gateways ≡ c.group.gateways

knows-trans : (s : Dimensions) (named : Processes) (c d e : Composed) → Knows s named c d → Knows s named d e → Knows s named c e
knows-trans s named c d e one two = record {
  going = two.going;
  cut = λ p x is. two.cut p x (one.cut p x is);
  heard = λ p r x is. two.heard p r x (one.heard p r x is);
  taken = λ p x is. two.taken p x (one.taken p x is);
  gateways = two.gateways ∙ one.gateways;
}

-- two sets of processes: those that go on, and those that are cut
abbrev pub IsOther : Dimensions → Processes → ProcessId → Type 0
IsOther s named p = IsProcess s p × (named p ≡ false)

abbrev pub IsNamed : Dimensions → Processes → ProcessId → Type 0
IsNamed s named p = IsProcess s p × (named p ≡ true)

module _ (s : Dimensions) (named : Processes) (few : size_of s named ≤ s.m) where
  knows-self : (c : Composed) → Going s named c.group → Knows s named c c
  knows-self c g = record { going = g; cut = λ p x is. is; heard = λ p r x is. is; taken = λ p x is. is; gateways = refl }

  -- whoever isn't named is uncut, and here
  pub uncut : (g : Group) → Going s named g → (p q : ProcessId) → named q ≡ false → g.words.cut p q ≡ false
  uncut g going p q out = by (g.words.cut p q) refl where
    by : (b : Bool) → g.words.cut p q ≡ b → g.words.cut p q ≡ false
    by false is = is
    by true is = cc (going.cut p q is, out)

  pub here-other : (g : Group) → Going s named g → (p : ProcessId) → IsOther s named p → IsHere g p
  here-other g going p pin = record { member = subst (λ (t : Dimensions). IsProcess t p) (sym going.shape) pin.0; runs = going.here p pin.0 pin.1 }

  pub reads-other : (g : Group) → Going s named g → (r p : ProcessId) → IsOther s named r → IsOther s named p → r ≢ p → MayReadOther g r p
  reads-other g going r p rin pin other = record {
    reads = record {
      here = here-other g going p pin;
      sender = subst (λ (t : Dimensions). IsProcess t r)
          (sym going.shape) rin.0;
      uncut = uncut g going p r rin.1;
    };
    other = other;
  }

  -- one that isn't named cuts one that is
  going-cut : (c : Composed) → Going s named c.group → (p x : ProcessId) → IsNamed s named x → Going s named (composed_with c (Cut x p)).group
  going-cut c g p x xin = record {
    shape = g.shape;
    cut = changed-each (λ q set. IsSubset set named) c.group.words.cut p (with_one (c.group.words.cut p) x)
        (changed-each (λ y is. is ≡ true → named y ≡ true) (c.group.words.cut p) x true (λ _. xin.1) (λ y _ is. g.cut p y is)) (λ q _. g.cut q);
    inside = changed-each (λ q set. (y : ProcessId) → set y ≡ true → IsProcess s y) c.group.words.cut p (with_one (c.group.words.cut p) x)
        (changed-each (λ y is. is ≡ true → IsProcess s y) (c.group.words.cut p) x true (λ _. xin.0) (λ y _ is. g.inside p y is)) (λ q _ y is. g.inside q y is);
    here = g.here;
  }

  cuts : (c : Composed) → Going s named c.group → (p x : ProcessId) → IsOther s named p → IsNamed s named x
      → Reaches (Knows s named) c (λ d. d.group.words.cut p x ≡ true)
  cuts c g p x pin xin = reaches-by (Knows s named) c (λ d. d.group.words.cut p x ≡ true) (Cut x p) tt
      (here-other c.group g p pin, subst (λ (t : Dimensions). IsProcess t x) (sym g.shape) xin.0, (λ same. cc (xin.1, pin.1, ap named same)), room)
      (record { going = going-cut c g p x xin; cut = grows; heard = λ q r y is. is; taken = λ q y is. is; gateways = refl })
      (ap (λ (set : Processes). set x) (changed-here c.group.words.cut p (with_one (c.group.words.cut p) x)) ∙ changed-here (c.group.words.cut p) x true)
    where
      grows : (q : ProcessId) → IsSubset (c.group.words.cut q) (changed c.group.words.cut p (with_one (c.group.words.cut p) x) q)
      grows = changed-each (λ q set. IsSubset (c.group.words.cut q) set) c.group.words.cut p
          (with_one (c.group.words.cut p) x) (grown-set (c.group.words.cut p) x) (λ q _ y is. is)

      room : size_of c.group.shape (with_one (c.group.words.cut p) x) ≤ c.group.shape.m
      room = subst (λ (t : Dimensions). size_of t (with_one (c.group.words.cut p) x) ≤ t.m) (sym g.shape)
          (let fewer = size-within s (with_one (c.group.words.cut p) x) named
          (changed-each (λ y is. is ≡ true → named y ≡ true) (c.group.words.cut p) x true (λ _. xin.1)
          (λ y _ is. g.cut p y is)) in omega (arith, fewer, few))

  -- a set is heard
  cut-heard : (w : Words) (r p : ProcessId) (sets : List Processes) → (heard_first r p sets w).cut ≡ w.cut
  cut-heard w r p [] = refl
  cut-heard w r p (set ∷ rest) = refl

  taken-heard : (w : Words) (r p : ProcessId) (sets : List Processes) → (heard_first r p sets w).taken ≡ w.taken
  taken-heard w r p [] = refl
  taken-heard w r p (set ∷ rest) = refl

  knows-heard : (c : Composed) → Going s named c.group → (r p : ProcessId) → Knows s named c (composed_with c (Hear r p))
  knows-heard c g r p = record {
    going = record {
      shape = g.shape;
      cut = λ q x is. g.cut q x (ap (λ (f : ProcessId → Processes). f q x) (sym same) ∙ is);
      inside = λ q x is. g.inside q x (ap (λ (f : ProcessId → Processes). f q x) (sym same) ∙ is);
      here = g.here;
    };
    cut = λ q x is. ap (λ (f : ProcessId → Processes). f q x) same ∙ is;
    heard = λ q y x is. heard-grows c.group.words r p (c.group.words.said r p) q y x is;
    taken = λ q x is. ap (λ (f : ProcessId → Processes). f q x) (taken-heard c.group.words r p (c.group.words.said r p)) ∙ is;
    gateways = refl;
  } where
    same : (heard_first r p (c.group.words.said r p) c.group.words).cut ≡ c.group.words.cut
    same = cut-heard c.group.words r p (c.group.words.said r p)

  -- all sets of a wire are heard
  abbrev pub AllHeard : ProcessId → ProcessId → List Processes → Composed → Type 0
  AllHeard r p sets d = (x : ProcessId) → list_any (λ set. set x) sets ≡ true → d.group.words.heard p r x ≡ true

  hears : (r p : ProcessId) → IsOther s named r → IsOther s named p → r ≢ p → (sets : List Processes) (c : Composed)
      → Going s named c.group → c.group.words.said r p ≡ sets → Reaches (Knows s named) c (AllHeard r p sets)
  hears r p rin pin other [] c g is = reaches-here (Knows s named) c (AllHeard r p []) (knows-self c g) (λ x some. cc some)
  hears r p rin pin other (set ∷ rest) c g is =
      reaches-then (Knows s named) (knows-trans s named) c Next (AllHeard r p (set ∷ rest))
      (reaches-by (Knows s named) c Next (Hear r p) tt (reads-other c.group g r p rin pin other) (knows-heard c g r p) next)
      (λ d kept both. reaches-weaker (Knows s named) d (AllHeard r p rest) (AllHeard r p (set ∷ rest))
      (λ e later tail x some. by e x later tail (both.1 x) (or-which (set x) (list_any (λ set. set x) rest) some))
      (hears r p rin pin other rest d kept.going both.0))
    where
      Next : Composed → Type 0
      Next d = (d.group.words.said r p ≡ rest) × ((x : ProcessId) → set x ≡ true → d.group.words.heard p r x ≡ true)

      next : Next (composed_with c (Hear r p))
      next = subst (λ (sets : List Processes). ((heard_first r p sets c.group.words).said r p ≡ rest)
          × ((x : ProcessId) → set x ≡ true → (heard_first r p sets c.group.words).heard p r x ≡ true)) (sym is) (
            ap (λ (row : ProcessId → List Processes). row p)
                (changed-here c.group.words.said r (changed (c.group.words.said r) p rest))
                ∙ changed-here (c.group.words.said r) p rest,
            λ x here.
                ap (λ (row : ProcessId → Processes). row r x)
                (changed-here c.group.words.heard p
                (changed (c.group.words.heard p) r (either (c.group.words.heard p r) set)))
                ∙ ap (λ (f : Processes). f x) (changed-here (c.group.words.heard p) r (either (c.group.words.heard p r) set))
                ∙ either-right (c.group.words.heard p r) set x here,
          )

      by : {d : Composed} (e : Composed) (x : ProcessId) → Knows s named d e → AllHeard r p rest e
          → (set x ≡ true → d.group.words.heard p r x ≡ true) → (set x ≡ true) ⊎ (list_any (λ set. set x) rest ≡ true)
          → e.group.words.heard p r x ≡ true
      by e x later tail first (inl here) = later.heard p r x (first here)
      by e x later tail first (inr there) = tail x there

  -- one says whom it has cut, and another hears it
  says : (c : Composed) → Going s named c.group → (r p : ProcessId) → IsOther s named r → IsOther s named p → r ≢ p
      → Reaches (Knows s named) c (λ d. IsSubset (c.group.words.cut r) (d.group.words.heard p r))
  says c g r p rin pin other =
      reaches-then (Knows s named) (knows-trans s named) c (λ d. d.group.words.said r p ≡ c.group.words.said r p
      ++ c.group.words.cut r ∷ []) (λ d. IsSubset (c.group.words.cut r) (d.group.words.heard p r))
      (reaches-by (Knows s named) c (λ d. d.group.words.said r p ≡ c.group.words.said r p ++ c.group.words.cut r ∷ []) (Say r) tt (here-other c.group g r rin)
      (record {
        going = record { shape = g.shape; cut = g.cut; inside = g.inside; here = g.here };
        cut = λ q x is. is;
        heard = λ q y x is. is;
        taken = λ q x is. is;
        gateways = refl;
      })
      (ap (λ (row : ProcessId → List Processes). row p)
      (changed-here c.group.words.said r (λ q. one_or (c.group.words.cut r q) (c.group.words.said r q)
      (c.group.words.said r q ++ c.group.words.cut r ∷ [])))
      ∙ ap (λ (b : Bool). one_or b (c.group.words.said r p) (c.group.words.said r p ++ c.group.words.cut r ∷ [])) (uncut c.group g r p pin.1)))
      (λ d kept is. reaches-weaker (Knows s named) d (AllHeard r p (c.group.words.said r p ++ c.group.words.cut r ∷ []))
      (λ e. IsSubset (c.group.words.cut r) (e.group.words.heard p r))
      (λ e later all x inside. all x (any-last (c.group.words.said r p) (c.group.words.cut r) x inside))
      (hears r p rin pin other (c.group.words.said r p ++ c.group.words.cut r ∷ []) d kept.going is))
    where
      any-last : (sets : List Processes) (set : Processes) (x : ProcessId) → set x ≡ true → list_any (λ set. set x) (sets ++ set ∷ []) ≡ true
      any-last [] set x is = or-left (set x) false is
      any-last (y ∷ sets) set x is = or-right (y x) (list_any (λ set. set x) (sets ++ set ∷ [])) (any-last sets set x is)

  -- all named are cut by all others
  abbrev pub AllCut : Composed → Type 0
  AllCut d = (p : ProcessId) → IsProcess s p → (x : ProcessId) → IsProcess s x → named p ≡ false → named x ≡ true → d.group.words.cut p x ≡ true

  -- each other has heard so of each
  abbrev pub AllSaid : Composed → Type 0
  AllSaid d = (p : ProcessId) → IsProcess s p → (r : ProcessId) → IsProcess s r → named p ≡ false → named r ≡ false
      → r ≢ p → (x : ProcessId) → IsNamed s named x → d.group.words.heard p r x ≡ true

  -- and has taken their deaths
  abbrev pub AllTaken : Composed → Type 0
  AllTaken d = (p : ProcessId) → IsProcess s p → (x : ProcessId) → IsProcess s x → named p ≡ false → named x ≡ true → d.group.words.taken p x ≡ true

  -- what is reached where p isn't named and x is, is reached
  guarded : (c : Composed) → Going s named c.group → (p x : ProcessId) (P : Composed → Type 0)
      → (named p ≡ false → named x ≡ true → Reaches (Knows s named) c P)
      → Reaches (Knows s named) c (λ d. named p ≡ false → named x ≡ true → P d)
  guarded c g p x P step = by (named p) refl (named x) refl where
    by : (a : Bool) → named p ≡ a → (b : Bool) → named x ≡ b → Reaches (Knows s named) c (λ d. named p ≡ false → named x ≡ true → P d)
    by true pn b xn = reaches-here (Knows s named) c (λ d. named p ≡ false → named x ≡ true → P d) (knows-self c g) (λ out inside. cc (pn, out))
    by false pn false xn = reaches-here (Knows s named) c (λ d. named p ≡ false → named x ≡ true → P d) (knows-self c g) (λ out inside. cc (xn, inside))
    by false pn true xn = reaches-weaker (Knows s named) c P (λ d. named p ≡ false → named x ≡ true → P d) (λ d kept is out inside. is) (step pn xn)

  all-cut : (c : Composed) → Going s named c.group → Reaches (Knows s named) c AllCut
  all-cut c g = reaches-each (Knows s named) (knows-trans s named) s
      (λ p d. (x : ProcessId) → IsProcess s x → named p ≡ false → named x ≡ true → d.group.words.cut p x ≡ true)
      (λ p d e kept all x xin out inside. kept.cut p x (all x xin out inside)) c (knows-self c g)
      (λ d kept p pin. reaches-each (Knows s named) (knows-trans s named) s (λ x d. named p ≡ false → named x ≡ true → d.group.words.cut p x ≡ true)
      (λ x d e more is out inside. more.cut p x (is out inside)) d (knows-self d kept.going)
      (λ e later x xin. guarded e later.going p x (λ d. d.group.words.cut p x ≡ true) (λ out inside. cuts e later.going p x (pin, out) (xin, inside))))

  all-said : (c : Composed) → Going s named c.group → AllCut c → Reaches (Knows s named) c AllSaid
  all-said c g all = reaches-each (Knows s named) (knows-trans s named) s
      (λ p d. (r : ProcessId) → IsProcess s r → named p ≡ false → named r ≡ false → r ≢ p → (x : ProcessId)
      → IsNamed s named x → d.group.words.heard p r x ≡ true)
      (λ p d e kept said r rin out far other x xin. kept.heard p r x (said r rin out far other x xin)) c (knows-self c g)
      (λ d kept p pin. reaches-each (Knows s named) (knows-trans s named) s
      (λ r d. named p ≡ false → named r ≡ false → r ≢ p → (x : ProcessId) → IsNamed s named x → d.group.words.heard p r x ≡ true)
      (λ r d e more said out far other x xin. more.heard p r x (said out far other x xin)) d (knows-self d kept.going)
      (λ e later r rin. one e later.going p r pin rin (λ x xin far. later.cut r x (kept.cut r x (all r rin x xin.0 far xin.1)))))
    where
      Said : ProcessId → ProcessId → Composed → Type 0
      Said p r d = named p ≡ false → named r ≡ false → r ≢ p → (x : ProcessId) → IsNamed s named x → d.group.words.heard p r x ≡ true

      one : (e : Composed) → Going s named e.group → (p r : ProcessId) → IsProcess s p → IsProcess s r
          → ((x : ProcessId) → IsNamed s named x → named r ≡ false → e.group.words.cut r x ≡ true)
          → Reaches (Knows s named) e (Said p r)
      one e ge p r pin rin cut = by (named p) refl (named r) refl (same-cases r p) where
        by : (a : Bool) → named p ≡ a → (b : Bool) → named r ≡ b → (r ≡ p) ⊎ (r ≢ p) → Reaches (Knows s named) e (Said p r)
        by true pn b rn which = reaches-here (Knows s named) e (Said p r) (knows-self e ge) (λ out far other x xin. cc (pn, out))
        by false pn true rn which = reaches-here (Knows s named) e (Said p r) (knows-self e ge) (λ out far other x xin. cc (rn, far))
        by false pn false rn (inl same) = reaches-here (Knows s named) e (Said p r) (knows-self e ge) (λ out far other x xin. absurd (other same))
        by false pn false rn (inr other) = reaches-weaker (Knows s named) e (λ d. IsSubset (e.group.words.cut r) (d.group.words.heard p r)) (Said p r)
            (λ d later heard out far _ x xin. heard x (cut x xin far)) (says e ge r p (rin, rn) (pin, pn) other)

  -- one that has heard all takes a death
  takes : (c : Composed) → Going s named c.group → AllCut c → AllSaid c → (p x : ProcessId) → IsOther s named p
      → IsNamed s named x → Reaches (Knows s named) c (λ d. d.group.words.taken p x ≡ true)
  takes c g all said p x pin xin = by (c.group.words.taken p x) refl where
    permitted : Composed
    permitted = composed_with c (Permit p)

    going-permitted : Going s named permitted.group
    going-permitted = record { shape = g.shape; cut = g.cut; inside = g.inside; here = g.here }

    heard : (r : ProcessId) → IsProcess c.group.shape r → r ≢ p → c.group.words.cut p r ≡ false → IsSubset (c.group.words.cut p) (c.group.words.heard p r)
    heard r rin other out y inside = said p pin.0 r r_in pin.1 (unnamed (named r) refl) other y (g.inside p y inside, g.cut p y inside) where
      r_in : IsProcess s r
      r_in = subst (λ (t : Dimensions). IsProcess t r) g.shape rin

      unnamed : (b : Bool) → named r ≡ b → named r ≡ false
      unnamed false is = is
      unnamed true is = cc (all p pin.0 r r_in pin.1 is, out)

    may : permitted.group.words.permitted p x ≡ true
    may = ap (λ (set : Processes). set x) (changed-here c.group.words.permitted p (c.group.words.cut p)) ∙ all p pin.0 x xin.0 pin.1 xin.1

    grows : (q : ProcessId) → IsSubset (c.group.words.taken q) (changed c.group.words.taken p (with_one (c.group.words.taken p) x) q)
    grows = changed-each (λ q set. IsSubset (c.group.words.taken q) set) c.group.words.taken p
        (with_one (c.group.words.taken p) x) (grown-set (c.group.words.taken p) x) (λ q _ y is. is)

    by : (b : Bool) → c.group.words.taken p x ≡ b → Reaches (Knows s named) c (λ d. d.group.words.taken p x ≡ true)
    by true is = reaches-here (Knows s named) c (λ d. d.group.words.taken p x ≡ true) (knows-self c g) is
    by false is = (
      Permit p ∷ Take x p ∷ [],
      (
        (here-other c.group g p pin, heard),
        (
          (
            here-other permitted.group going-permitted p pin,
            subst (λ (t : Dimensions). IsProcess t x) (sym g.shape)
                xin.0,
            may,
            is,
          ),
          tt,
        ),
      ),
      record {
        going = record { shape = g.shape; cut = g.cut; inside = g.inside; here = g.here };
        cut = λ q y is. is;
        heard = λ q y z is. is;
        taken = grows;
        gateways = refl;
      },
      ap (λ (set : Processes). set x) (changed-here c.group.words.taken p (with_one (c.group.words.taken p) x)) ∙ changed-here (c.group.words.taken p) x true,
      (tt, (tt, tt)),
    )

  all-taken : (c : Composed) → Going s named c.group → AllCut c → AllSaid c → Reaches (Knows s named) c AllTaken
  all-taken c g all said = reaches-each (Knows s named) (knows-trans s named) s
      (λ p d. (x : ProcessId) → IsProcess s x → named p ≡ false → named x ≡ true → d.group.words.taken p x ≡ true)
      (λ p d e kept is x xin out inside. kept.taken p x (is x xin out inside)) c (knows-self c g)
      (λ d kept p pin. reaches-each (Knows s named) (knows-trans s named) s (λ x d. named p ≡ false → named x ≡ true → d.group.words.taken p x ≡ true)
      (λ x d e more is out inside. more.taken p x (is out inside)) d (knows-self d kept.going)
      (λ e later x xin. guarded e later.going p x (λ d. d.group.words.taken p x ≡ true)
      (λ out inside. takes e later.going (λ q qin y yin far near. later.cut q y (kept.cut q y (all q qin y yin far near)))
      (λ q qin r rin far near other y yin. later.heard q r y (kept.heard q r y (said q qin r rin far near other y yin))) p x (pin, out) (xin, inside))))

  pub named-taken : (c : Composed) → Going s named c.group → Reaches (Knows s named) c AllTaken
  named-taken c g =
      reaches-then (Knows s named) (knows-trans s named) c AllCut AllTaken (all-cut c g)
      (λ d kept all. reaches-then (Knows s named) (knows-trans s named) d AllSaid AllTaken (all-said d kept.going all)
      (λ e later said. all-taken e later.going (λ q qin y yin far near. later.cut q y (all q qin y yin far near)) said))

-- members cut members
inside-from : (c : Composed) (actions : List Action) → AreActionsFrom c actions → CutsInside c.group.shape c.group.words
    → CutsInside c.group.shape (composed_from c actions).group.words
inside-from c [] run inside = inside
inside-from c (a ∷ rest) run inside = inside-from (composed_with c a) rest run.1 (cuts-inside c.group a run.0 inside)

-- what a run's group is
pub going-of : (s : Dimensions) (actions : List Action) (named : Processes) → AreActions s actions
    → OthersAreHere (composed s actions).group named → Going s named (composed s actions).group
going-of s actions named run others = record {
  shape = shape;
  cut = others.cut;
  inside = inside-from (opening_composed s) actions run.1 (λ p x cut. cc cut);
  here = λ q qin out. (others.here q (subst (λ (t : Dimensions). IsProcess t q) (sym shape) qin) out).runs;
} where
  shape : (composed s actions).group.shape ≡ s
  shape = shape-from (opening_composed s) actions

pub few-of : (s : Dimensions) (actions : List Action) (named : Processes) → OthersAreHere (composed s actions).group named → size_of s named ≤ s.m
few-of s actions named others = subst (λ (t : Dimensions). size_of t named ≤ t.m) (shape-from (opening_composed s) actions) others.few

pub others-of : (s : Dimensions) (named : Processes) → size_of s named ≤ s.m → (g : Group) → Going s named g → OthersAreHere g named
others-of s named few g going = record {
  few = subst (λ (t : Dimensions). size_of t named ≤ t.m) (sym going.shape) few;
  cut = going.cut;
  here = λ q qin out. here-other s named few g going q (subst (λ (t : Dimensions). IsProcess t q) going.shape qin, out);
}

pub named_can_be_taken : NamedCanBeTaken
named_can_be_taken s actions named run others =
    can-be (Knows s named) (λ d. TakesNamed (composed s actions).group d.group named) s actions run
    (reaches-weaker (Knows s named) (composed s actions) (AllTaken s named few) (λ d. TakesNamed (composed s actions).group d.group named)
    (λ d kept all. record {
      others = others-of s named few d.group kept.going;
      taken = λ p x pin out xin inside. all p (subst (λ (t : Dimensions). IsProcess t p) kept.going.shape pin) x
          (subst (λ (t : Dimensions). IsProcess t x) kept.going.shape xin) out inside;
      gateways = kept.gateways;
    })
    (named-taken s named few (composed s actions) (going-of s actions named run others)))
  where
    few : size_of s named ≤ s.m
    few = few-of s actions named others
