-- Histories that are clean of what was told to be gone: they stay so in every move, as what is issued is of a new
-- call; and what is settled is as clean as they are.
use Rattle.std.proofs.Common.{ℕ, zero, suc, ◌≡◌, ◌≢◌, ◌<◌, false, List, [], ◌∷◌, ◌++◌, length, ◌%◌, ◌⊎◌, inl, inr, sym, ap, subst, ◌∙◌, arith}
use Rattle.std.proofs.lemmas.List.Elements.{Contains-append_cases}
use Rattle.std.specs.Prelude.{Contains}
use Rattle.group_types.specs.Dimensions.{Dimensions}
use Rattle.group_types.specs.Hash.{fnv1a, home_of}
use Rattle.group_types.specs.Lists.{at}
use Rattle.group_types.specs.Names.{IsProcess}
use Rattle.group_types.specs.Shape.{IsShape}
use Rattle.group_types.specs.declared.process.ProcessId.{ProcessId}
use Rattle.group_types.proofs.Eaches.{each-append, each-take}
use Rattle.memc_table.specs.Act.{key_of}
use Rattle.memc_table.specs.Asked.{Asked}
use Rattle.group_message.specs.declared.update.Update.{Update}
use Rattle.group_calls.specs.Turns.{CallName, Turn}
use Rattle.group_calls.specs.Within.{Traces}
use Rattle.group_calls.specs.declared.event.Answer.TheVariants as says
use Rattle.group_run.specs.Applying.{replica_of}
use Rattle.group_run.specs.World.{update_name}
use Rattle.group_run.specs.History.{history}
use Rattle.law_moves.specs.State.{State}
use Rattle.law_moves.proofs.Members.{Members}
use Rattle.law_histories.proofs.HistoryWords.{HistoryLaws}
use Rattle.law_histories.proofs.Issuing.{IssueKeeps}
use Rattle.law_histories.proofs.Reach.{Reach}
use Rattle.law_histories.proofs.Around.{GrewBy, keeper-rank}
use Rattle.law_histories.proofs.Keeping.{Leaves_both}
use Rattle.law_histories.proofs.Ranks.{head-from}
use Rattle.law_histories.proofs.LaneWords.{Prolongs}
use Rattle.law_log.proofs.GoneWords.{IsClean, IsUnnamed, TracesAsked}

pub unnamed-front : (name : CallName) (us vs : List Update) → Prolongs us vs → IsUnnamed name vs → IsUnnamed name us
unnamed-front name us vs begins all = subst (IsUnnamed name) begins.front (each-take (λ u. update_name u ≢ name) (length us) vs all)

-- one turn more
contained-one : (last turn : Turn) → Contains (last ∷ []) turn → last ≡ turn
contained-one last turn (zero, low, is) = is
contained-one last turn (suc i, low, is) = absurd (omega (arith, low))

pub contained-last : (turns : List Turn) (last turn : Turn) → Contains (turns ++ last ∷ []) turn → Contains turns turn ⊎ (last ≡ turn)
contained-last turns last turn there = by (Contains-append_cases turns (last ∷ []) turn there) where
  by : Contains turns turn ⊎ Contains (last ∷ []) turn → Contains turns turn ⊎ (last ≡ turn)
  by (inl before) = inl before
  by (inr here) = inr (contained-one last turn here)

-- what is clean stays so with one turn more, if it is clean of that
pub clean-more : (turns : List Turn) (last : Turn) (d a b : ℕ) (us : List Update) → IsClean turns d a us
    → ((name : CallName) → Traces last.event name d → last.answer ≡ says.Gone → IsUnnamed name us) → IsClean (turns ++ last ∷ []) d b us
clean-more turns last d a b us clean more turn name there traced gone = by (contained-last turns last turn there) where
  by : Contains turns turn ⊎ (last ≡ turn) → IsUnnamed name us
  by (inl before) = clean turn name before traced gone
  by (inr here) = more name (subst (λ (t : Turn). Traces t.event name d) (sym here) traced) (ap (λ (t : Turn). t.answer) here ∙ gone)

module _ (turns : List Turn) where
  pub clean-laws : HistoryLaws (IsClean turns)
  clean-laws = record {
    start = λ d turn name there traced gone. tt;
    rises = λ d a b history clean low high turn name there traced gone. clean turn name there traced gone;
  }

  pub clean-front : (d a b : ℕ) (us vs : List Update) → Prolongs us vs → IsClean turns d a vs → IsClean turns d b us
  clean-front d a b us vs begins clean turn name there traced gone = unnamed-front name us vs begins (clean turn name there traced gone)

  module _ (s : Dimensions) (shaped : IsShape s) where
    -- a new call's update keeps histories clean
    pub issue-clean : (asked : List ℕ) → TracesAsked s.k asked turns → (v : State) → Members s v
        → Reach (IsClean turns) s v → (p : ProcessId) → IsProcess s p → v.dead p ≡ false
        → (name : CallName) (op : Asked) → name.call ≡ at 0 asked name.caller → IssueKeeps (IsClean turns) s v p name op
    issue-clean asked were v members reach p pin living name op new h body outcome heads decided turn other there traced gone =
        let e : ℕ = home_of (key_of op.act) s.k in
        let keeps = (reach e below_e).replicas p pin living (keeper-rank e h.rank p (head-from s v e members below_e p h pin living heads).0) in
        each-append (λ u. update_name u ≢ other) (history (v.settled e) (replica_of (v.process p) e)) (_ ∷ [])
        (keeps.fine.1 turn other there traced gone) ((λ same. fresh (sym same)), tt)
      where
        below_e : fnv1a (key_of op.act) % s.k < s.k
        below_e = let first = shaped.k in omega (arith, first)

        fresh : other ≡ name → ⊥
        fresh same =
            let old : other.call < at 0 asked other.caller = (were turn other (home_of (key_of op.act) s.k) there traced).1 in
            let now : name.call < at 0 asked name.caller = subst (λ (n : CallName). n.call < at 0 asked n.caller) same old in
            omega (arith, now, new)

    -- what is settled is clean where it grows, since a head has it
    pub settled-clean : (v w : State) (p : ProcessId) → Leaves_both (IsClean turns) clean-laws s shaped v w p → Members s w → IsProcess s p → w.dead p ≡ false
        → (d : ℕ) → d < s.k → IsClean turns d 0 (v.settled d) → IsClean turns d 0 (w.settled d)
    settled-clean v w p leaves members pin living d below clean = by (leaves d below).2 where
      by : GrewBy d (v.settled d) (w.settled d) (w.process p) → IsClean turns d 0 (w.settled d)
      by (inl same) = subst (IsClean turns d 0) (sym same) clean
      by (inr has) =
          let keeps = ((leaves d below).0).replicas p pin living
          (keeper-rank d has.head.rank p (head-from s w d members below p has.head pin living has.heads).0) in
          clean-front d (replica_of (w.process p) d).applied 0 (w.settled d) (history (w.settled d) (replica_of (w.process p) d))
          keeps.prolongs keeps.fine.1
