-- A row, or a block, comes to the leader of its session: what it has gathered goes on following the plan.
use Rattle.std.proofs.Common.{◌≡◌, ◌≢◌, ℕ, ◌<◌, ◌≤◌, ◌==◌, Bool, true, false, not, List, find, Option, Some, None}
use Rattle.std.proofs.Common.{IfSome, ◌⊎◌, inl, inr, sym, ap, subst, ◌∙◌, refl}
use Rattle.std.specs.Prelude.{Contains}
use Rattle.std.proofs.lemmas.Bool.{cases_eq, eq-eqb, ne_eqb}
use Rattle.group_types.specs.Dimensions.{Dimensions}
use Rattle.group_types.specs.Lists.{at, put}
use Rattle.group_types.specs.declared.process.ProcessId.TheVariants.{ParityNode}
use Rattle.group_types.proofs.Lists.{at-put, at-put-other}
use Rattle.group_message.specs.declared.update.Update.{Update}
use Rattle.group_run.specs.Leaders.{block_comes, block_gathered, gathered_when, is_complete, open_session, row_comes}
use Rattle.group_run.specs.Leaders.{row_gathered, with_session, without_session}
use Rattle.group_run.specs.Process.{Gathering, LeaderState, Process}
use Rattle.law_bytes.specs.Areas.{IsBlock, code, value}
use Rattle.law_bytes.proofs.Finding.{found-apart, found-exchanged, found-passes}
use Rattle.law_bytes.proofs.Finds.{if-some}
use Rattle.law_bytes.proofs.Rebuilding.{with_block, with_row}
use Rattle.law_bytes.proofs.Local.{number-is}
use Rattle.law_bytes.proofs.Marks.{block-last, decoded-same, row-last}
use Rattle.law_bytes.proofs.Stamps.{GatheringFollows, Plan, planned}
use Rattle.law_bytes.proofs.Following.{Still, if-filter}

module _ (s : Dimensions) where
  -- what is said of the open session of a number, once something came in for a session: of that one, if it is it
  pub gathered-if : (P : Gathering → Type 0) (complete : Bool) (g h : Gathering) (state : LeaderState) (n number : ℕ)
      → open_session state number ≡ Some h → g.number ≡ number → (n ≡ number → P g)
      → IfSome (open_session state n) P → IfSome (open_session (gathered_when complete s g state) n) P
  gathered-if P true g h state n number opens is mine holds =
      subst (λ (gs : List Gathering). IfSome (find (λ x. x.number == n) gs) P)
      (sym (decoded-same s g g.lost (record state { sessions = without_session g.number state.sessions })).0)
      (if-filter (λ x. x.number == n) (λ x. not (x.number == g.number)) P (not (n == g.number)) state.sessions
      (λ x passes. ap (λ (a : ℕ). not (a == g.number)) (number-is x n passes)) holds)
  gathered-if P false g h state n number opens is mine holds = by (cases_eq n number) where
    by : (n ≡ number) ⊎ (n ≢ number) → IfSome (open_session (gathered_when false s g state) n) P
    by (inl here) =
        let found : find (λ x. x.number == g.number) (with_session g state.sessions) ≡ Some g =
        found-exchanged (λ x. x.number == g.number) g h state.sessions (eq-eqb g.number g.number refl)
        (ap (λ (k : ℕ). find (λ x. x.number == k) state.sessions) is ∙ opens) in
        subst (λ (k : ℕ). IfSome (find (λ x. x.number == k) (with_session g state.sessions)) P) (is ∙ sym here)
        (subst (λ o. IfSome o P) (sym found) (mine here))
    by (inr other) =
        let apart = found-apart (λ x. x.number == n) (λ x. x.number == g.number) g state.sessions (ne_eqb g.number n (λ same. other (sym (sym is ∙ same))))
        (λ x swap. ap (λ (k : ℕ). k == n) (number-is x g.number swap) ∙ ne_eqb g.number n (λ same. other (sym (sym is ∙ same)))) in
        subst (λ o. IfSome o P) (sym apart) holds

  module _ (settled : ℕ → List Update) (l n : ℕ) (plan : Plan) where
    -- a row for the session is kept
    pub row-more : (i : ℕ) (bytes : List ℕ) (g : Gathering) → Contains plan.rows i → IsBlock s plan.block (code s i (planned settled plan)) bytes
        → GatheringFollows s settled plan g → GatheringFollows s settled plan (with_row i bytes g)
    row-more i bytes g among is follows = record {
      block = follows.block;
      inside = follows.inside;
      rows = follows.rows;
      rows_in = λ j more there. by j more there (cases_eq j i);
      blocks_in = follows.blocks_in;
    } where
      by : (j : ℕ) (more : List ℕ) → at None (put None g.rows_in i (Some bytes)) j ≡ Some more → (j ≡ i) ⊎ (j ≢ i)
          → Contains plan.rows j × IsBlock s plan.block (code s j (planned settled plan)) more
      by j more there (inl same) =
          let now : Some bytes ≡ Some more = sym (at-put None None g.rows_in i (Some bytes))
          ∙ ap (at None (put None g.rows_in i (Some bytes))) (sym same) ∙ there in
          let bytes_are : bytes ≡ more = cc now in
          subst (λ (k : ℕ). Contains plan.rows k × IsBlock s plan.block (code s k (planned settled plan)) more) (sym same)
          (among, subst (IsBlock s plan.block (code s i (planned settled plan))) bytes_are is)
      by j more there (inr other) = follows.rows_in j more (sym (at-put-other None g.rows_in i j (Some bytes) other) ∙ there)

    pub block-more : (e : ℕ) (bytes : List ℕ) (g : Gathering) → e < s.k → IsBlock s plan.block (value (planned settled plan e)) bytes
        → GatheringFollows s settled plan g → GatheringFollows s settled plan (with_block e bytes g)
    block-more e bytes g below is follows = record {
      block = follows.block;
      inside = follows.inside;
      rows = follows.rows;
      rows_in = follows.rows_in;
      blocks_in = λ d more there. by d more there (cases_eq d e);
    } where
      by : (d : ℕ) (more : List ℕ) → at None (put None g.blocks_in e (Some bytes)) d ≡ Some more → (d ≡ e) ⊎ (d ≢ e)
          → (d < s.k) × IsBlock s plan.block (value (planned settled plan d)) more
      by d more there (inl same) =
          let now : Some bytes ≡ Some more = sym (at-put None None g.blocks_in e (Some bytes))
          ∙ ap (at None (put None g.blocks_in e (Some bytes))) (sym same) ∙ there in
          let bytes_are : bytes ≡ more = cc now in
          subst (λ (k : ℕ). (k < s.k) × IsBlock s plan.block (value (planned settled plan k)) more) (sym same)
          (below, subst (IsBlock s plan.block (value (planned settled plan e))) bytes_are is)
      by d more there (inr other) = follows.blocks_in d more (sym (at-put-other None g.blocks_in e d (Some bytes) other) ∙ there)

    -- what comes for the open session of a number
    row-comes : (number i : ℕ) (bytes : List ℕ) (state : LeaderState)
        → (n ≡ number → Contains plan.rows i × IsBlock s plan.block (code s i (planned settled plan)) bytes)
        → IfSome (open_session state n) (λ g. (n ≤ state.last_session) × GatheringFollows s settled plan g)
        → IfSome (open_session (row_gathered s i bytes (open_session state number) state) n)
        (λ g. (n ≤ (row_gathered s i bytes (open_session state number) state).last_session) × GatheringFollows s settled plan g)
    row-comes number i bytes state right holds =
        subst (λ (k : ℕ). IfSome (open_session (row_gathered s i bytes (open_session state number) state) n) (λ g. (n ≤ k) × GatheringFollows s settled plan g))
        (sym (row-last s i bytes (open_session state number) state))
        (by (open_session state number) refl)
      where
        by : (o : Option Gathering) → open_session state number ≡ o
            → IfSome (open_session (row_gathered s i bytes o state) n) (λ g. (n ≤ state.last_session)
            × GatheringFollows s settled plan g)
        by None is = holds
        by (Some g) is = gathered-if (λ g. (n ≤ state.last_session) × GatheringFollows s settled plan g)
            (is_complete s (with_row i bytes g)) (with_row i bytes g) g state n number is
            (number-is g number (found-passes (λ x. x.number == number) state.sessions g is))
            (λ here.
            let before = if-some (λ g. (n ≤ state.last_session) × GatheringFollows s settled plan g)
            (open_session state n) g (ap (open_session state) here ∙ is) holds in
            (before.0, row-more i bytes g (right here).0 (right here).1 before.1)) holds

    block-comes : (number e : ℕ) (bytes : List ℕ) (state : LeaderState) → e < s.k → (n ≡ number → IsBlock s plan.block (value (planned settled plan e)) bytes)
        → IfSome (open_session state n) (λ g. (n ≤ state.last_session) × GatheringFollows s settled plan g)
        → IfSome (open_session (block_gathered s e bytes (open_session state number) state) n)
        (λ g. (n ≤ (block_gathered s e bytes (open_session state number) state).last_session) × GatheringFollows s settled plan g)
    block-comes number e bytes state below right holds =
        subst
        (λ (k : ℕ). IfSome (open_session (block_gathered s e bytes (open_session state number) state) n) (λ g. (n ≤ k) × GatheringFollows s settled plan g))
        (sym (block-last s e bytes (open_session state number) state))
        (by (open_session state number) refl)
      where
        by : (o : Option Gathering) → open_session state number ≡ o
            → IfSome (open_session (block_gathered s e bytes o state) n) (λ g. (n ≤ state.last_session)
            × GatheringFollows s settled plan g)
        by None is = holds
        by (Some g) is = gathered-if (λ g. (n ≤ state.last_session) × GatheringFollows s settled plan g)
            (is_complete s (with_block e bytes g)) (with_block e bytes g) g state n number is
            (number-is g number (found-passes (λ x. x.number == number) state.sessions g is))
            (λ here.
            let before = if-some (λ g. (n ≤ state.last_session) × GatheringFollows s settled plan g)
            (open_session state n) g (ap (open_session state) here ∙ is) holds in
            (before.0, block-more e bytes g below (right here) before.1)) holds

    pub still-row : (number i : ℕ) (bytes : List ℕ) (p : Process)
        → (p.name ≡ ParityNode l → n ≡ number → Contains plan.rows i
        × IsBlock s plan.block (code s i (planned settled plan)) bytes)
        → Still s settled l n plan p (row_comes s number i bytes p)
    still-row number i bytes p right = record {
      name = refl;
      follows = λ is. record {
        copy = is.copy;
        session = λ named. row-comes number i bytes p.as_leader (right named) (is.session named);
      };
    }

    pub still-block : (number e : ℕ) (bytes : List ℕ) (p : Process) → e < s.k
        → (p.name ≡ ParityNode l → n ≡ number → IsBlock s plan.block (value (planned settled plan e)) bytes)
        → Still s settled l n plan p (block_comes s number e bytes p)
    still-block number e bytes p below right = record {
      name = refl;
      follows = λ is. record {
        copy = is.copy;
        session = λ named. block-comes number e bytes p.as_leader below (right named) (is.session named);
      };
    }
