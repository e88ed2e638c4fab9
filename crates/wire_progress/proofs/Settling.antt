-- What stands between two members that go on is read, treated and learned, so that a call that waited for one waits no more,
-- but where its update does.
use Rattle.std.proofs.Common.{ℕ, ◌≡◌, ◌≢◌, ◌≤◌, ◌==◌, ◌⊎◌, inl, inr, Bool, true, false, List, [], ◌∷◌, Option, Some, None, refl, sym, ap, subst, ◌∙◌}
use Rattle.std.proofs.lemmas.Bool.{cases_eq, eq-eqb, ne_eqb}
use Rattle.group_types.specs.Dimensions.{Dimensions}
use Rattle.group_types.specs.declared.process.ProcessId.{ProcessId}
use Rattle.memc_table.specs.Asked.{Asked}
use Rattle.group_wire.specs.Actions.{Read, Treat, Learn}
use Rattle.group_wire.specs.Composed.{Composed}
use Rattle.group_wire.specs.May.{awaited_member}
use Rattle.group_wire.specs.Sets.{Processes, changed, entry_at, one_or, size_of, without_nth}
use Rattle.group_wire.specs.State.{Request, Told, Stage, OpenCall, Gateways, Group}
use Rattle.group_wire.specs.Sending.{parked_at, treating}
use Rattle.group_wire.specs.Serving.{call_learned, learned_first, read_first, request_treated, stage_learned, told_of}
use Rattle.group_wire.proofs.AtOnce.{may-read, pair-here}
use Rattle.group_wire.proofs.Changes.{changed-here}
use Rattle.group_wire.proofs.GoingOn.{Going, IsOther, here-other}
use Rattle.group_wire.proofs.Reaching.{Reaches, reaches-by, reaches-here, reaches-then}
use Rattle.wire_progress.proofs.Stages.{IsFree, learned-same, learned-waits}
use Rattle.wire_progress.proofs.Tells.{tell-call, tell-parked, tell-requests}

-- the call of a caller is open, for the same op, and waits for nobody but x
abbrev pub IsOpenFor : ℕ → Asked → ProcessId → Gateways → Type 0
IsOpenFor caller op x gw = (o : OpenCall) × (gw.call caller ≡ Some o) × (o.op ≡ op) × ((y : ProcessId) → awaited_member o.stage ≡ Some y → y ≡ x)

-- it is this one, and waits for nobody
abbrev pub IsFreeCall : ℕ → OpenCall → Gateways → Type 0
IsFreeCall caller o gw = (gw.call caller ≡ Some o) × IsFree o.stage

pub record Settles (s : Dimensions) (named : Processes) (caller : ℕ) (op : Asked) (x : ProcessId) (c d : Composed) : Type 0 where
  pub going : Going s named d.group
  pub words : d.group.words ≡ c.group.words
  pub open_for : IsOpenFor caller op x c.group.gateways → IsOpenFor caller op x d.group.gateways
  pub free : (o : OpenCall) → IsFreeCall caller o c.group.gateways → IsFreeCall caller o d.group.gateways

settles-trans : (s : Dimensions) (named : Processes) (caller : ℕ) (op : Asked) (x : ProcessId) (c d e : Composed)
    → Settles s named caller op x c d → Settles s named caller op x d e → Settles s named caller op x c e
settles-trans s named caller op x c d e one two = record {
  going = two.going;
  words = two.words ∙ one.words;
  open_for = λ is. two.open_for (one.open_for is);
  free = λ o is. two.free o (one.free o is);
}

pub read-call : (x p : ProcessId) (rs : List Request) (gw : Gateways) → (read_first x p rs gw).call ≡ gw.call
read-call x p [] gw = refl
read-call x p (r ∷ rest) gw = refl

pub treated-call : (g : Group) (p : ProcessId) (place : ℕ) (r : Option Request) → (request_treated g p place r).call ≡ g.gateways.call
treated-call g p place None = refl
treated-call g p place (Some r) = tell-call g p (told_of r (treating g.shape r (g.works.process p)).answer)
    (record g.gateways { parked = changed g.gateways.parked p (without_nth (g.gateways.parked p) place) })

treated-requests : (g : Group) (p : ProcessId) (place : ℕ) (r : Option Request) → (request_treated g p place r).requests ≡ g.gateways.requests
treated-requests g p place None = refl
treated-requests g p place (Some r) = tell-requests g p (told_of r (treating g.shape r (g.works.process p)).answer)
    (record g.gateways { parked = changed g.gateways.parked p (without_nth (g.gateways.parked p) place) })

module _ (caller : ℕ) (op : Asked) (x : ProcessId) where
  -- calls that stay are open as before
  open-same : (gw after : Gateways) → after.call ≡ gw.call → IsOpenFor caller op x gw → IsOpenFor caller op x after
  open-same gw after same is = (is.0, ap (λ (calls : ℕ → Option OpenCall). calls caller) same ∙ is.1, is.2, is.3)

  free-same : (gw after : Gateways) → after.call ≡ gw.call → (o : OpenCall) → IsFreeCall caller o gw → IsFreeCall caller o after
  free-same gw after same o is = (ap (λ (calls : ℕ → Option OpenCall). calls caller) same ∙ is.0, is.1)

  -- and so are those that an answer comes to
  module _ (y p : ProcessId) (n : ℕ) where
    own : (t : Told) (gw : Gateways) (o : OpenCall) (rest : List Told) → gw.call caller ≡ Some o → caller ≡ t.caller
        → (learned_first y p n (t ∷ rest) gw).call caller ≡ Some (record o { stage = one_or (o.position == t.call) (stage_learned t n o.stage) o.stage })
    own t gw o rest call same =
        ap (λ (b : Bool). one_or b (call_learned t n (gw.call t.caller)) (gw.call caller)) (eq-eqb caller t.caller same)
        ∙ ap (λ (c : Option OpenCall). call_learned t n c) (ap gw.call (sym same) ∙ call)

    other : (t : Told) (gw : Gateways) (rest : List Told) → caller ≢ t.caller → (learned_first y p n (t ∷ rest) gw).call caller ≡ gw.call caller
    other t gw rest apart = ap (λ (b : Bool). one_or b (call_learned t n (gw.call t.caller)) (gw.call caller)) (ne_eqb caller t.caller apart)

    open-learned : (ts : List Told) (gw : Gateways) → IsOpenFor caller op x gw → IsOpenFor caller op x (learned_first y p n ts gw)
    open-learned [] gw is = is
    open-learned (t ∷ rest) gw (o, call, same_op, waits) = by (cases_eq caller t.caller) where
      still : (b : Bool) (z : ProcessId) → awaited_member (one_or b (stage_learned t n o.stage) o.stage) ≡ Some z → awaited_member o.stage ≡ Some z
      still true z is = learned-waits t n o.stage z is
      still false z is = is

      by : (caller ≡ t.caller) ⊎ (caller ≢ t.caller) → IsOpenFor caller op x (learned_first y p n (t ∷ rest) gw)
      by (inl same) = (
        record o { stage = one_or (o.position == t.call) (stage_learned t n o.stage) o.stage },
        own t gw o rest call same,
        same_op,
        λ z is. waits z (still (o.position == t.call) z is),
      )
      by (inr apart) = (o, other t gw rest apart ∙ call, same_op, waits)

    free-learned : (ts : List Told) (gw : Gateways) (o : OpenCall) → IsFreeCall caller o gw → IsFreeCall caller o (learned_first y p n ts gw)
    free-learned [] gw o is = is
    free-learned (t ∷ rest) gw o (call, free) = by (cases_eq caller t.caller) where
      same-stage : (b : Bool) → one_or b (stage_learned t n o.stage) o.stage ≡ o.stage
      same-stage true = learned-same t n o.stage free
      same-stage false = refl

      by : (caller ≡ t.caller) ⊎ (caller ≢ t.caller) → IsFreeCall caller o (learned_first y p n (t ∷ rest) gw)
      by (inl same) = (own t gw o rest call same ∙ ap (λ (stage : Stage). Some (record o { stage = stage })) (same-stage (o.position == t.call)), free)
      by (inr apart) = (other t gw rest apart ∙ call, free)

module _ (s : Dimensions) (named : Processes) (few : size_of s named ≤ s.m) (caller : ℕ) (op : Asked) (g x : ProcessId)
    (gin : IsOther s named g) (xin : IsOther s named x) where
  abbrev K : Composed → Composed → Type 0
  K = Settles s named caller op x

  self : (c : Composed) → Going s named c.group → Settles s named caller op x c c
  self c going = record { going = going; words = refl; open_for = λ is. is; free = λ o is. is }

  abbrev pub NoRequest : Composed → Type 0
  NoRequest d = d.group.gateways.requests g x ≡ []

  abbrev pub NoneKept : Composed → Type 0
  NoneKept d = (d.group.gateways.parked x ≡ []) × (d.group.gateways.requests g x ≡ [])

  -- nothing stands between the two
  abbrev pub NoAnswer : Composed → Type 0
  NoAnswer d = (d.group.gateways.answers x g ≡ []) × (d.group.gateways.parked x ≡ []) × (d.group.gateways.requests g x ≡ [])

  reads-all : (rs : List Request) (c : Composed) → Going s named c.group → c.group.gateways.requests g x ≡ rs → Reaches K c NoRequest
  reads-all [] c going is = reaches-here K c NoRequest (self c going) is
  reads-all (r ∷ rest) c going is =
      reaches-then K (settles-trans s named caller op x) c (λ d. d.group.gateways.requests g x ≡ rest) NoRequest
      (reaches-by K c (λ d. d.group.gateways.requests g x ≡ rest) (Read g x) tt (may-read s named few c going g x gin xin)
      (record {
        going = record { shape = going.shape; cut = going.cut; inside = going.inside; here = going.here };
        words = refl;
        open_for = open-same caller op x c.group.gateways
            (read_first g x (c.group.gateways.requests g x) c.group.gateways)
            (read-call g x (c.group.gateways.requests g x) c.group.gateways);
        free = free-same caller op x c.group.gateways (read_first g x (c.group.gateways.requests g x) c.group.gateways)
            (read-call g x (c.group.gateways.requests g x) c.group.gateways);
      })
      (subst (λ (rs : List Request). (read_first g x rs c.group.gateways).requests g x ≡ rest) (sym is) (pair-here c.group.gateways.requests g x rest)))
      (λ d kept left. reads-all rest d kept.going left)

  treats-all : (rs : List Request) (c : Composed) → Going s named c.group → c.group.gateways.parked x ≡ rs
      → c.group.gateways.requests g x ≡ [] → Reaches K c NoneKept
  treats-all [] c going is none = reaches-here K c NoneKept (self c going) (is, none)
  treats-all (r ∷ rest) c going is none =
      reaches-then K (settles-trans s named caller op x) c Next NoneKept
      (reaches-by K c Next (Treat x 0) tt (here-other s named few c.group going x xin)
      (record {
        going = record { shape = going.shape; cut = going.cut; inside = going.inside; here = going.here };
        words = refl;
        open_for = open-same caller op x c.group.gateways (request_treated c.group x 0 (parked_at c.group x 0))
            (treated-call c.group x 0 (parked_at c.group x 0));
        free = free-same caller op x c.group.gateways (request_treated c.group x 0 (parked_at c.group x 0)) (treated-call c.group x 0 (parked_at c.group x 0));
      })
      (left, ap (λ (w : ProcessId → ProcessId → List Request). w g x) (treated-requests c.group x 0 (parked_at c.group x 0)) ∙ none))
      (λ d kept next. treats-all rest d kept.going next.0 next.1)
    where
      Next : Composed → Type 0
      Next d = (d.group.gateways.parked x ≡ rest) × (d.group.gateways.requests g x ≡ [])

      there : parked_at c.group x 0 ≡ Some r
      there = ap (λ (rs : List Request). entry_at rs 0) is

      left : (request_treated c.group x 0 (parked_at c.group x 0)).parked x ≡ rest
      left = subst (λ (q : Option Request). (request_treated c.group x 0 q).parked x ≡ rest) (sym there)
          (ap (λ (w : ProcessId → List Request). w x)
          (tell-parked c.group x (told_of r (treating c.group.shape r (c.group.works.process x)).answer)
          (record c.group.gateways {
            parked = changed c.group.gateways.parked x
                (without_nth (c.group.gateways.parked x) 0);
          }))
          ∙ changed-here c.group.gateways.parked x (without_nth (c.group.gateways.parked x) 0)
          ∙ ap (λ (rs : List Request). without_nth rs 0) is)

  learns-all : (ts : List Told) (c : Composed) → Going s named c.group → c.group.gateways.answers x g ≡ ts → NoneKept c → Reaches K c NoAnswer
  learns-all [] c going is none = reaches-here K c NoAnswer (self c going) (is, none.0, none.1)
  learns-all (t ∷ rest) c going is none =
      reaches-then K (settles-trans s named caller op x) c Next NoAnswer
      (reaches-by K c Next (Learn x g) tt (may-read s named few c going x g xin gin)
      (record {
        going = record { shape = going.shape; cut = going.cut; inside = going.inside; here = going.here };
        words = refl;
        open_for = open-learned caller op x x g (c.group.signs.pinged g) (c.group.gateways.answers x g) c.group.gateways;
        free = free-learned caller op x x g (c.group.signs.pinged g) (c.group.gateways.answers x g) c.group.gateways;
      })
      (subst (λ (ts : List Told). ((learned_first x g (c.group.signs.pinged g) ts c.group.gateways).answers x g ≡ rest)
      × (((learned_first x g (c.group.signs.pinged g) ts c.group.gateways).parked x ≡ [])
      × ((learned_first x g (c.group.signs.pinged g) ts c.group.gateways).requests g x ≡ [])))
      (sym is) (pair-here c.group.gateways.answers x g rest, (none.0, none.1))))
      (λ d kept next. learns-all rest d kept.going next.0 next.1)
    where
      Next : Composed → Type 0
      Next d = (d.group.gateways.answers x g ≡ rest) × ((d.group.gateways.parked x ≡ []) × (d.group.gateways.requests g x ≡ []))

  pub settles-all : (c : Composed) → Going s named c.group → Reaches K c NoAnswer
  settles-all c going =
      reaches-then K (settles-trans s named caller op x) c NoRequest NoAnswer (reads-all (c.group.gateways.requests g x) c going refl)
      (λ d kept none. reaches-then K (settles-trans s named caller op x) d NoneKept NoAnswer (treats-all (d.group.gateways.parked x) d kept.going refl none)
      (λ e later empty. learns-all (e.group.gateways.answers x g) e later.going refl empty))
