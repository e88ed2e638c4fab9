-- A call is looked for partition by partition.
use Rattle.std.proofs.Common.{ℕ, suc, ◌≡◌, ◌<◌, ◌+◌, ◌-◌, nat_le, Bool, true, false, List, [], length, Option, Some}
use Rattle.std.proofs.Common.{None, is_some, refl, sym, ap, subst, ◌∙◌, arith}
use Rattle.std.specs.Prelude.{find}
use Rattle.std.specs.List.{range_with_len}
use Rattle.group_types.specs.Lists.{at, put}
use Rattle.group_types.proofs.Lists.{put-at}
use Rattle.group_calls.specs.declared.event.Answer.{Answer}
use Rattle.group_run.specs.Asking.{CallStep, collect_from, collect_held, handed_out, is_call, only}
use Rattle.group_run.specs.Process.{Held, Process}
use Rattle.group_run.specs.Replica.{empty_replica}
use Rattle.head_service.specs.Fates.{fate_answer, kept_of, kept_when, told_when}
use Rattle.head_service.specs.Serving.{Serving, serving}

module _ (caller call k d : ℕ) (v : Serving) (b : Process) (below : d < k) where
  abbrev calls : List Held
  calls = at [] v.held d

  abbrev found : Option Held
  found = find (is_call caller call) calls

  abbrev applied : ℕ
  applied = (at empty_replica v.replicas d).applied

  abbrev rest : CallStep
  rest = collect_from caller call (serving v b) (range_with_len (d + 1) (k - (d + 1)))

  looked : collect_from caller call (serving v b) (range_with_len d (k - d)) ≡ collect_held d found (serving v b) rest
  looked = let e : k - d ≡ suc (k - (d + 1)) = omega (arith, below) in ap (λ (n : ℕ). collect_from caller call (serving v b) (range_with_len d n)) e

  pub passed : found ≡ None → collect_from caller call (serving v b) (range_with_len d (k - d)) ≡ rest
  passed none = looked ∙ ap (λ (x : Option Held). collect_held d x (serving v b) rest) none

  abbrev kept : Option Held → Process
  kept x = serving (record v { held = put [] v.held d (kept_of applied x calls) }) b

  handed : (h : Held) (settled : Bool) → d < length v.held → nat_le h.number applied ≡ settled
      → handed_out settled d h (serving v b) ≡ only (fate_answer applied (Some h)) (kept (Some h))
  handed h true within is = ap (λ (x : Bool). only (told_when x h) (serving (record v { held = put [] v.held d (kept_when x h calls) }) b)) (sym is)
  handed h false within is =
      ap (λ (held : List (List Held)). only (told_when false h) (serving (record v { held = held }) b)) (sym (put-at [] [] v.held d within))
      ∙ ap (λ (x : Bool). only (told_when x h) (serving (record v { held = put [] v.held d (kept_when x h calls) }) b)) (sym is)

  pub collected : d < length v.held → (h : Held) → found ≡ Some h
      → collect_from caller call (serving v b) (range_with_len d (k - d)) ≡ only (fate_answer applied found) (kept found)
  collected within h here =
      looked
      ∙ ap (λ (y : Option Held). collect_held d y (serving v b) rest) here
      ∙ handed h (nat_le h.number applied) within refl
      ∙ ap (λ (y : Option Held). only (fate_answer applied y) (kept y)) (sym here)

  -- what was handed out of these calls
  pub collected-as : d < length v.held → (answer : Answer) (number : ℕ) (mine left : List Held) → number ≡ applied → mine ≡ calls
      → answer ≡ fate_answer number (find (is_call caller call) mine) → left ≡ kept_of number (find (is_call caller call) mine) mine
      → is_some (find (is_call caller call) mine) ≡ true
      → collect_from caller call (serving v b) (range_with_len d (k - d)) ≡ only answer (serving (record v { held = put [] v.held d left }) b)
  collected-as within answer number mine left number-is mine-is told kept-are some =
      let own : (f : Option Held) → found ≡ f → is_some f ≡ true
      → collect_from caller call (serving v b) (range_with_len d (k - d)) ≡ only (fate_answer applied found) (kept found)
      = λ f is some. by f is some in
      own found refl (subst (λ (xs : List Held). is_some (find (is_call caller call) xs) ≡ true) mine-is some)
      ∙ ap (λ (xs : List Held). only (fate_answer applied (find (is_call caller call) xs))
      (serving (record v { held = put [] v.held d (kept_of applied (find (is_call caller call) xs) xs) }) b))
      (sym mine-is)
      ∙ ap (λ (n : ℕ). only (fate_answer n (find (is_call caller call) mine))
      (serving (record v { held = put [] v.held d (kept_of n (find (is_call caller call) mine) mine) }) b))
      (sym number-is)
      ∙ ap (λ (a : Answer). only a (serving (record v { held = put [] v.held d (kept_of number (find (is_call caller call) mine) mine) }) b)) (sym told)
      ∙ ap (λ (xs : List Held). only answer (serving (record v { held = put [] v.held d xs }) b)) (sym kept-are) where
        by : (f : Option Held) → found ≡ f → is_some f ≡ true
            → collect_from caller call (serving v b) (range_with_len d (k - d)) ≡ only (fate_answer applied found)
            (kept found)
        by None is some = absurd (cc some)
        by (Some h) is some = collected within h is
