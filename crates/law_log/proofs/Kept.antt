-- What replicas keep of callers is what the last applied update of each left.
use Rattle.std.proofs.Common.{ℕ, ◌≡◌, ◌≢◌, ◌==◌, Bool, true, false, List, [], ◌∷◌, take, replicate, Option, Some, None}
use Rattle.std.proofs.Common.{if◌then◌else◌, ◌⊎◌, inl, inr, refl, sym, ap, ◌∙◌, arith}
use Rattle.std.proofs.lemmas.Bool.{cases_eq, eq-eqb, ne_eqb}
use Rattle.std.proofs.lemmas.Grind.{common_steps}
use Rattle.std.proofs.lemmas.List.Elements.{Contains-append_right}
use Rattle.group_types.specs.Dimensions.{Dimensions}
use Rattle.group_types.specs.Lists.{at, put}
use Rattle.group_types.proofs.Lists.{at-put, at-put-other, at-replicate}
use Rattle.group_message.specs.declared.kept.Kept.{Kept}
use Rattle.group_message.specs.declared.update.Update.{Update}
use Rattle.group_run.specs.Applying.{replica_of}
use Rattle.group_run.specs.Replica.{Replica, callers, kept_after}
use Rattle.law_moves.specs.State.{State}
use Rattle.law_histories.proofs.HistoryWords.{ItemsFit}
use Rattle.law_histories.proofs.Reach.{Any, Reach}
use Rattle.law_histories.proofs.Keeping.{reach_always}
use Rattle.law_log.specs.Stands.{IsSettledAs}
use Rattle.law_log.proofs.KeptWords.{KeptAlways, KeptFits, KeptStand, kept_last}
use Rattle.law_log.proofs.Held.{contains-taken}

abbrev kept_of : Update → Kept
kept_of u = record { call = u.call; outcome = u.outcome }

-- what is kept of one caller
kept-is : (caller : ℕ) (us : List Update) (kept : List (Option Kept)) → at None (kept_after kept us) caller ≡ kept_last caller (at None kept caller) us
kept-is caller [] kept = refl
kept-is caller (u ∷ us) kept = kept-is caller us (put None kept u.caller (Some (kept_of u)))
    ∙ ap (λ (o : Option Kept). kept_last caller o us) (by (cases_eq u.caller caller)) where
      by : (u.caller ≡ caller) ⊎ (u.caller ≢ caller) → at None (put None kept u.caller (Some (kept_of u))) caller
          ≡ (if u.caller == caller then Some (kept_of u) else at None kept caller)
      by (inl same) =
          ap (at None (put None kept u.caller (Some (kept_of u)))) (sym same) ∙ at-put None None kept u.caller (Some (kept_of u))
          ∙ sym (ap (λ (b : Bool). if b then Some (kept_of u) else at None kept caller) (eq-eqb u.caller caller same))
      by (inr other) =
          at-put-other None kept u.caller caller (Some (kept_of u)) (λ same. other (sym same))
          ∙ sym (ap (λ (b : Bool). if b then Some (kept_of u) else at None kept caller) (ne_eqb u.caller caller other))

-- it is of one of the updates, or from before
last-among : (caller : ℕ) (us : List Update) (before : Option Kept) (x : Kept) → kept_last caller before us ≡ Some x
    → (before ≡ Some x) ⊎ IsSettledAs us (record { caller = caller; call = x.call }) x.outcome
last-among caller [] before x is = inl is
last-among caller (u ∷ us) before x is =
    by (u.caller == caller) refl (last-among caller us (if u.caller == caller then Some (kept_of u) else before) x
    is) where
      behind : IsSettledAs us (record { caller = caller; call = x.call }) x.outcome → IsSettledAs (u ∷ us) (record { caller = caller; call = x.call }) x.outcome
      behind of = record { update = of.update; there = Contains-append_right (u ∷ []) us of.update of.there; named = of.named; ended = of.ended }

      by : (b : Bool) → (u.caller == caller) ≡ b → ((if b then Some (kept_of u) else before) ≡ Some x)
          ⊎ IsSettledAs us (record { caller = caller; call = x.call }) x.outcome
          → (before ≡ Some x) ⊎ IsSettledAs (u ∷ us) (record { caller = caller; call = x.call }) x.outcome
      by b test (inr of) = inr (behind of)
      by false test (inl old) = inl old
      by true test (inl here) =
          let own : u.caller ≡ caller = grind (arith, common_steps) in
          let same : kept_of u ≡ x = ap (λ (o : Option Kept). elim o [ None ↦ x | Some y ↦ y ]) here in
          let call : u.call ≡ x.call = ap (λ (k : Kept). k.call) same in
          inr (record {
            update = u;
            there = (0, omega arith, refl);
            named = λ i. record { caller = own i; call = call i };
            ended = ap (λ (k : Kept). k.outcome) same;
          })

-- what fits its settled updates keeps what they leave
pub kept-fits : (settled : List Update) (r : Replica) → ItemsFit settled r → KeptFits settled r
kept-fits settled r fits =
    record {
      last = last;
      settled_as = λ caller x is.
          by caller x (last-among caller (take r.applied settled) None x (sym (last caller) ∙ is));
    } where
      last : (caller : ℕ) → at None r.kept caller ≡ kept_last caller None (take r.applied settled)
      last caller =
          ap (λ (kept : List (Option Kept)). at None kept caller) fits.kept ∙ kept-is caller (take r.applied settled) (replicate callers None)
          ∙ ap (λ (o : Option Kept). kept_last caller o (take r.applied settled)) (at-replicate None callers caller)

      by : (caller : ℕ) (x : Kept) → (None ≡ Some x) ⊎ IsSettledAs (take r.applied settled) (record { caller = caller; call = x.call }) x.outcome
          → IsSettledAs settled (record { caller = caller; call = x.call }) x.outcome
      by caller x (inl none) = absurd (cc none)
      by caller x (inr of) = record { update = of.update; there = contains-taken r.applied settled of.update of.there; named = of.named; ended = of.ended }

pub kept-stand : (F : ℕ → ℕ → List Update → Type 0) (s : Dimensions) (v : State) → Reach F s v → KeptStand s v
kept-stand F s v reach p d pin living below keeps = kept-fits (v.settled d) (replica_of (v.process p) d) ((reach d below).replicas p pin living keeps).holds

pub kept_always : KeptAlways
kept_always s es run = kept-stand Any s _ (reach_always s es run).1
