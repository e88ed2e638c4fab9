-- What is applied is settled: the updates that a replica applies stand among the settled ones, right behind
-- those that it had applied.
use Rattle.std.proofs.Common.{ℕ, ◌≡◌, ◌<◌, ◌≤◌, ◌+◌, ◌-◌, max, List, [], ◌∷◌, ◌++◌, length, replicate, take, drop}
use Rattle.std.proofs.Common.{Option, None, ◌⊎◌, inl, inr, refl, sym, ap, ◌∙◌, arith}
use Rattle.std.proofs.Math.Seq.{take-add}
use Rattle.std.proofs.lemmas.Bool.{cases_lt}
use Rattle.std.proofs.lemmas.List.{drop-take, take-take}
use Rattle.group_message.specs.declared.kept.Kept.{Kept}
use Rattle.group_message.specs.declared.update.Update.{Update}
use Rattle.group_run.specs.Applying.{Settlement}
use Rattle.group_run.specs.Fitting.{NumberedFrom}
use Rattle.group_run.specs.Heading.{settlements}
use Rattle.group_run.specs.History.{settled_with, history}
use Rattle.group_run.specs.Replica.{Items, Replica, applied_to, callers, item_settled, items_after, kept_after, last_of, up_to}
use Rattle.law_histories.proofs.LaneWords.{Prolongs}
use Rattle.law_histories.proofs.HistoryWords.{ItemsFit, AppliedIsSettled}
use Rattle.law_histories.proofs.Histories.{applied-is, length-history, log-is, settled-more, settled-no-more}
use Rattle.law_histories.proofs.Lanes.{begins-append}

-- what was settled stays in front
pub settled-begins : (t : List Settlement) (d : ℕ) (settled : List Update) → Prolongs settled (settled_with t d settled)
settled-begins t d settled = begins-append settled _

-- part of a history up to n, behind the first a
cut-same : (a n : ℕ) (whole settled : List Update) → n ≤ length settled → Prolongs settled whole → take (n - a) (drop a whole) ≡ take (n - a) (drop a settled)
cut-same a n whole settled low prolongs =
    sym (cut (length settled) whole low) ∙ ap (λ (us : List Update). take (n - a) (drop a us)) prolongs.front
  where
    cut : (c : ℕ) (us : List Update) → n ≤ c → take (n - a) (drop a (take c us)) ≡ take (n - a) (drop a us)
    cut c us most = by (cases_lt a c) where
      by : (a < c) ⊎ (c ≤ a) → take (n - a) (drop a (take c us)) ≡ take (n - a) (drop a us)
      by (inl less) =
          let split : c ≡ a + (c - a) = omega (arith, less) in
          ap (λ (k : ℕ). take (n - a) (drop a (take k us))) split ∙ ap (take (n - a)) (drop-take a (c - a) us)
          ∙ take-take (n - a) (c - a) (drop a us) (omega (arith, most))
      by (inr none) =
          let zero_left : n - a ≡ 0 = omega (arith, none, most) in
          ap (λ (k : ℕ). take k (drop a (take c us))) zero_left ∙ sym (ap (λ (k : ℕ). take k (drop a us)) zero_left)

-- a replica that applies up to a settled number applies the settled updates behind its own
pub applies-settled : AppliedIsSettled
applies-settled settled r n applied prolongs low =
    ap (take (n - r.applied)) (sym (log-is settled r applied)) ∙ cut-same r.applied n (history settled r) settled low prolongs

-- items and what is kept, after updates behind others
pub items-append : (items : Items) (us vs : List Update) → items_after items (us ++ vs) ≡ items_after (items_after items us) vs
items-append items [] vs = refl
items-append items (u ∷ us) vs = items-append (item_settled u items) us vs

pub kept-append : (kept : List (Option Kept)) (us vs : List Update) → kept_after kept (us ++ vs) ≡ kept_after (kept_after kept us) vs
kept-append kept [] vs = refl
kept-append kept (u ∷ us) vs = kept-append _ us vs

-- a replica that applies what is settled holds what that leaves
pub items-applied : (settled : List Update) (r : Replica) (n : ℕ) → r.applied ≤ length settled → Prolongs settled (history settled r) → n ≤ length settled
    → ItemsFit settled r → ItemsFit settled (applied_to n r)
items-applied settled r n applied prolongs low holds = record {
  items = ap (λ (items : Items). items_after items (up_to n r)) holds.items
      ∙ sym (items-append [] (take r.applied settled) (up_to n r)) ∙ ap (items_after []) (sym more);
  kept =
      ap (λ (kept : List (Option Kept)). kept_after kept (up_to n r)) holds.kept
      ∙ sym (kept-append (replicate callers None) (take r.applied settled) (up_to n r)) ∙ ap (kept_after (replicate callers None)) (sym more);
} where
  within : n ≤ last_of r
  within = let long = length-history settled r applied in let reach = prolongs.reaches in omega (arith, long, reach, low)

  number : (applied_to n r).applied ≡ r.applied + (n - r.applied)
  number = let moves = applied-is settled r applied n within in omega (arith, moves)

  more : take (applied_to n r).applied settled ≡ take r.applied settled ++ up_to n r
  more =
      ap (λ (k : ℕ). take k settled) number ∙ take-add r.applied (n - r.applied) settled
      ∙ ap (λ (us : List Update). take r.applied settled ++ us) (sym (applies-settled settled r n applied prolongs low))

-- where more is settled it holds the same
pub items-grown : (settled more : List Update) (r : Replica) → r.applied ≤ length settled → Prolongs settled more → ItemsFit settled r → ItemsFit more r
items-grown settled more r applied begins holds =
    record {
      items = holds.items ∙ ap (items_after []) same;
      kept = holds.kept
          ∙ ap (kept_after (replicate callers None)) same;
    } where
      same : take r.applied settled ≡ take r.applied more
      same = ap (take r.applied) (sym begins.front) ∙ take-take r.applied (length settled) more applied

-- what is settled after a head settled up to a number: its history up to there, or what was settled if that
-- is more
pub settles-is : (d : ℕ) (settled : List Update) (r : Replica) (n : ℕ) → r.applied ≤ length settled
    → Prolongs settled (history settled r) → NumberedFrom 1 (history settled r) → n ≤ last_of r
    → settled_with (settlements d (up_to n r)) d settled ≡ take (max (length settled) n) (history settled r)
settles-is d settled r n applied prolongs numbers within = by (cases_lt (length settled) n) where
  by : (length settled < n) ⊎ (n ≤ length settled) → settled_with (settlements d (up_to n r)) d settled ≡ take (max (length settled) n) (history settled r)
  by (inl above) =
      let most : n ≡ max (length settled) n = omega (arith, above) in
      settled-more d n settled r applied prolongs numbers (omega (arith, above)) within ∙ ap (λ (k : ℕ). take k (history settled r)) most
  by (inr low) =
      let most : length settled ≡ max (length settled) n = omega (arith, low) in
      settled-no-more d n settled r applied prolongs numbers low ∙ sym prolongs.front ∙ ap (λ (k : ℕ). take k (history settled r)) most
