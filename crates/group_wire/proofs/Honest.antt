-- The barrier and the pings along every run, and what follows of an answer that is shown.
use Rattle.std.proofs.Common.{ℕ, ◌≡◌, ◌≢◌, ◌<◌, ◌≤◌, ◌+◌, ◌⊎◌, ◌&&◌, not, inl, inr, Bool, true, false, List, [], ◌∷◌, refl, sym, ap, subst, ◌∙◌, arith}
use Rattle.std.proofs.lemmas.Bool.{cases_lt}
use Rattle.std.specs.List.{list_any}
use Rattle.group_types.specs.Dimensions.{Dimensions}
use Rattle.group_types.specs.Names.{IsProcess}
use Rattle.group_types.specs.declared.process.ProcessId.{ProcessId}
use Rattle.group_wire.specs.Actions.{Action, Show}
use Rattle.group_wire.specs.Composed.{AreActions, AreActionsFrom, Composed, composed, composed_from, composed_with, opening_composed}
use Rattle.group_wire.specs.Laws.{BarrierAlways, FewAreNamed, MoreDataThanParity, NoTwoHoldAll, PermitsExactly, SentAlive, ShownByLiving}
use Rattle.group_wire.specs.May.{MayAct, answerers}
use Rattle.group_wire.specs.Sets.{IsSubset, either, one_or, size_of}
use Rattle.group_wire.specs.State.{gateway_of}
use Rattle.group_wire.proofs.Barrier.{Barred, Deposed, barred-opening, barred-step, or-left, permitted-fails, told}
use Rattle.group_wire.proofs.Changes.{either-not, either-right, either-which, size-within}
use Rattle.group_wire.proofs.Counting.{lacks, size-apart, size-either}
use Rattle.group_wire.proofs.Signs.{Signed, signed-opening, signed-step}

-- both at once
pub record Honest (c : Composed) : Type 0 where
  pub barred : Barred c.group.shape c.group.words c.failed
  pub signed : Signed c.group.signs c.failed c.lived

pub honest-from : (c : Composed) (actions : List Action) → AreActionsFrom c actions → Honest c → Honest (composed_from c actions)
honest-from c [] run h = h
honest-from c (a ∷ rest) run h = honest-from (composed_with c a) rest run.1
    (record { barred = barred-step c a run.0 h.barred; signed = signed-step c a run.0 h.barred h.signed })

pub shape-from : (c : Composed) (actions : List Action) → (composed_from c actions).group.shape ≡ c.group.shape
shape-from c [] = refl
shape-from c (a ∷ rest) = shape-from (composed_with c a) rest

pub honest : (s : Dimensions) (actions : List Action) → AreActions s actions → Honest (composed s actions)
honest s actions run = honest-from (opening_composed s) actions run.1 (record { barred = barred-opening s; signed = signed-opening s })

pub barrier_always : BarrierAlways
barrier_always s actions run =
    let h = honest s actions run in record { few = h.barred.lost; cut = λ r rin lives x fails. h.barred.cut r x rin lives fails }

same-words : (a b : Bool) → (a ≡ true → b ≡ true) → (b ≡ true → a ≡ true) → a ≡ b
same-words true true there back = refl
same-words false false there back = refl
same-words true false there back = cc (there refl)
same-words false true there back = cc (back refl)

pub permits_exactly : PermitsExactly
permits_exactly s actions p run may lives x =
    ap (λ (ghost : Bool). one_or ghost c.failed (either c.failed (c.group.words.cut p)) x) lives
    ∙ same-words (either c.failed (c.group.words.cut p) x) (c.group.words.cut p x)
    (permitted-fails c.group.shape c.group.words c.failed (honest s actions run).barred p may.0.member may.1 lives x)
    (either-right c.failed (c.group.words.cut p) x)
  where
    c : Composed
    c = composed s actions

-- of two words that are both true, and of one of which the other isn't
and-both : (a b : Bool) → (a && not b) ≡ true → (a ≡ true) × (b ≡ false)
and-both true false is = (refl, refl)
and-both true true is = cc is
and-both false b is = cc is

module _ (c : Composed) (h : Honest c) (apart : NoTwoHoldAll c.group) where
  -- whose deaths a failed member may take have failed
  takes-failed : (g : ProcessId) → IsProcess c.group.shape g → c.failed g ≡ true → IsSubset (c.group.words.permitted g) c.failed
  takes-failed g gin lost x may = by h.barred.deposed where
    by : ((x : ProcessId) → c.failed x ≡ false) ⊎ Deposed c.group.shape c.group.words c.failed → c.failed x ≡ true
    by (inl none) = cc (none g, lost)
    by (inr d) = which (c.group.words.permitted g d.by) refl where
      not_self : g ≢ d.by
      not_self same =
          let is : c.group.words.cut d.by g ≡ true = h.barred.permitted d.by g (d.permitted g lost) in
          cc (is, h.barred.own d.by, ap (λ (a : ProcessId). c.group.words.cut d.by a) same)

      which : (b : Bool) → c.group.words.permitted g d.by ≡ b → c.failed x ≡ true
      which false out =
          d.told_them g x lost
          (or-left (c.group.words.heard g d.by x) (list_any (λ set. set x) (c.group.words.said d.by g))
          (h.barred.all_said g d.by d.member (λ same. not_self (sym same)) out x may))
      which true inside = absurd (none (apart g d.by)) where
        none : (r : ProcessId) × IsProcess c.group.shape r × (c.group.words.permitted g r ≡ false) × (c.group.words.permitted d.by r ≡ false) → ⊥
        none (r, rin, out_g, out_q) =
            let living : (b : Bool) → c.failed r ≡ b → c.failed r ≡ false =
            λ b is. elim b as (λ b. c.failed r ≡ b → c.failed r ≡ false)
            [ true ↦ λ is. cc (d.permitted r is, out_q) | false ↦ λ is. is ] is in
            let told_q : told c.group.words r d.by g ≡ true = or-left (c.group.words.heard d.by r g) (list_any (λ set. set g) (c.group.words.said r d.by))
            (d.heard r rin (λ same. cc (inside, out_g, ap (c.group.words.permitted g) same)) (living (c.failed r) refl) g lost) in
            let told_g : told c.group.words r g d.by ≡ true = or-left (c.group.words.heard g r d.by) (list_any (λ set. set d.by) (c.group.words.said r g))
            (h.barred.all_said g r rin (λ same. cc (d.permitted g lost, out_q, ap (c.group.words.permitted d.by) same)) out_g d.by inside) in
            h.barred.not_both r d.by g told_q told_g

  -- a member that has failed isn't answered by enough
  pub too-few : (g : ProcessId) (ping : ℕ) → IsProcess c.group.shape g → c.failed g ≡ true → c.lived g ≤ ping
      → c.group.shape.m ≤ size_of c.group.shape (answerers c.group g ping) + size_of c.group.shape (c.group.words.taken g) → ⊥
  too-few g ping gin lost late enough =
      let all = size-apart c.group.shape (answerers c.group g ping) (c.group.words.taken g) c.failed g gin answered-failed taken-failed lost
      (λ x answers takes. cc ((and-both (c.group.signs.answered g ping x) (c.group.words.taken g x) answers).1, takes)) not_self not_taken in
      let few = h.barred.lost in
      absurd (omega (arith, all, few, enough))
    where
      answered-failed : IsSubset (answerers c.group g ping) c.failed
      answered-failed x is = (h.signed.answered g x ping (and-both (c.group.signs.answered g ping x) (c.group.words.taken g x) is).0).0.fails lost late

      taken-failed : IsSubset (c.group.words.taken g) c.failed
      taken-failed x is = takes-failed g gin lost x (h.barred.taken g x is)

      false-unless : (b : Bool) → (b ≡ true → ⊥) → b ≡ false
      false-unless true never = absurd (never refl)
      false-unless false never = refl

      not_self : answerers c.group g ping g ≡ false
      not_self = false-unless (answerers c.group g ping g)
          (λ is. (h.signed.answered g g ping (and-both (c.group.signs.answered g ping g) (c.group.words.taken g g)
          is).0).1 refl)

      not_taken : c.group.words.taken g g ≡ false
      not_taken = false-unless (c.group.words.taken g g) (λ is. cc (h.barred.permitted g g (h.barred.taken g g is), h.barred.own g))

  pub shown-alive : (caller ping : ℕ) → MayAct c.group (Show caller ping) → SentAlive c (gateway_of c.group.shape caller) ping
  shown-alive caller ping may = by (c.failed (gateway_of c.group.shape caller)) refl (cases_lt ping (c.lived (gateway_of c.group.shape caller))) where
    by : (b : Bool) → c.failed (gateway_of c.group.shape caller) ≡ b
        → (ping < c.lived (gateway_of c.group.shape caller)) ⊎ (c.lived (gateway_of c.group.shape caller) ≤ ping)
        → SentAlive c (gateway_of c.group.shape caller) ping
    by false lives which = inl lives
    by true lost (inl early) = inr early
    by true lost (inr late) = absurd (too-few (gateway_of c.group.shape caller) ping may.0.gateway.member lost late may.1.enough)

pub shown_by_living : ShownByLiving
shown_by_living s actions caller ping run apart may =
    subst (λ (t : Dimensions). SentAlive (composed s actions) (gateway_of t caller) ping) (shape-from (opening_composed s) actions)
    (shown-alive (composed s actions) (honest s actions run) apart caller ping may)

-- two sets that hold fewer than all leave one member out
apart-by-size : (c : Composed) → Honest c
    → ((p q : ProcessId) → size_of c.group.shape (either (c.group.words.permitted p) (c.group.words.permitted q))
    < c.group.shape.k + c.group.shape.m) → NoTwoHoldAll c.group
apart-by-size c h small p q = by (lacks c.group.shape (either (c.group.words.permitted p) (c.group.words.permitted q)) (small p q)) where
  by : (x : ProcessId) × IsProcess c.group.shape x × (either (c.group.words.permitted p) (c.group.words.permitted q) x ≡ false)
      → (x : ProcessId) × IsProcess c.group.shape x × (c.group.words.permitted p x ≡ false) × (c.group.words.permitted q x ≡ false)
  by (x, xin, out) = let both = either-not (c.group.words.permitted p) (c.group.words.permitted q) x out in (x, xin, both.0, both.1)

pub more_data_than_parity : MoreDataThanParity
more_data_than_parity s actions run more = apart-by-size c h (λ p q.
    let both = size-either c.group.shape (c.group.words.permitted p) (c.group.words.permitted q) in
    let one = size-within c.group.shape (c.group.words.permitted p) (c.group.words.cut p) (h.barred.permitted p) in
    let two = size-within c.group.shape (c.group.words.permitted q) (c.group.words.cut q) (h.barred.permitted q) in
    let few = h.barred.few p in let fewer = h.barred.few q in
    let wide : c.group.shape.m < c.group.shape.k = subst (λ (t : Dimensions). t.m < t.k) (sym (shape-from (opening_composed s) actions)) more in
    omega (arith, both, one, two, few, fewer, wide))
  where
    c : Composed
    c = composed s actions

    h : Honest c
    h = honest s actions run

pub few_are_named : FewAreNamed
few_are_named s actions named run few within = apart-by-size c h (λ p q.
    let both : size_of c.group.shape (either (c.group.words.permitted p) (c.group.words.permitted q)) ≤ size_of c.group.shape named =
    size-within c.group.shape (either (c.group.words.permitted p) (c.group.words.permitted q)) named (named-both p q) in
    let some : 1 ≤ c.group.shape.k = subst (λ (t : Dimensions). 1 ≤ t.k) (sym (shape-from (opening_composed s) actions)) run.0.k.0 in
    let most : size_of c.group.shape named ≤ c.group.shape.m = subst (λ (t : Dimensions). size_of t named ≤ t.m)
    (sym (shape-from (opening_composed s) actions)) few in
    omega (arith, both, some, most))
  where
    c : Composed
    c = composed s actions

    h : Honest c
    h = honest s actions run

    named-both : (p q : ProcessId) → IsSubset (either (c.group.words.permitted p) (c.group.words.permitted q)) named
    named-both p q x is = by (either-which (c.group.words.permitted p) (c.group.words.permitted q) x is) where
      by : (c.group.words.permitted p x ≡ true) ⊎ (c.group.words.permitted q x ≡ true) → named x ≡ true
      by (inl one) = within p x (h.barred.permitted p x one)
      by (inr two) = within q x (h.barred.permitted q x two)
