-- What the laws of members say of ranks: messages of other heads are stale to a living head, and no other
-- living process heads its partition.
use Rattle.std.proofs.Common.{ℕ, zero, suc, ◌≡◌, ◌≢◌, ◌<◌, ◌≤◌, true, false, List, Some, ◌⊎◌, inl, inr, refl, sym, ap, subst, ◌∙◌, arith}
use Rattle.std.proofs.lemmas.Bool.{cases_lt}
use Rattle.std.specs.Prelude.{option_map}
use Rattle.group_types.specs.Dimensions.{Dimensions}
use Rattle.group_types.specs.Names.{IsProcess, heading_rank, of_rank}
use Rattle.group_types.specs.declared.process.ProcessId.{ProcessId}
use Rattle.group_types.specs.Each.{Each}
use Rattle.group_types.proofs.Eaches.{each-weaker}
use Rattle.group_message.specs.declared.message.Message.{Message}
use Rattle.group_message.specs.declared.message.Message.TheVariants as tells
use Rattle.group_run.specs.Applying.{head_at}
use Rattle.group_run.specs.Process.{Head}
use Rattle.law_moves.specs.State.{State}
use Rattle.law_moves.proofs.Members.{IsFrom, MayStand, Members, Reigns}
use Rattle.law_moves.proofs.Keeping.{ground_of, seat-from}
use Rattle.law_histories.proofs.Lanes.{Ranked, Stale, ranked-weaker}

pub rank-of_rank : (d r : ℕ) → heading_rank (of_rank d r) ≡ r
rank-of_rank d zero = refl
rank-of_rank d (suc i) = refl

pub rank-one : (d a b : ℕ) → of_rank d a ≡ of_rank d b → a ≡ b
rank-one d a b same = sym (rank-of_rank d a) ∙ ap heading_rank same ∙ rank-of_rank d b

module _ (s : Dimensions) (v : State) (d : ℕ) where
  -- a rank of partition d that process y has and that is in use
  abbrev pub Used : ProcessId → ℕ → Type 0
  Used y r = (y ≡ of_rank d r) × Reigns s v d r

  pub used : (y : ProcessId) (e r : ℕ) → e ≡ d → IsFrom s v y e r → Used y r
  used y e r here from = (from.0 ∙ ap (λ (n : ℕ). of_rank n r) here, subst (λ (n : ℕ). Reigns s v n r) here from.1)

  -- each message of the partition has such a rank
  pub may-used : (y q : ProcessId) (m : Message) → MayStand s v y q m → Ranked d (Used y) m
  may-used y q (tells.Update r e u stable) may = λ here. used y e.0 r.0 here may.0
  may-used y q (tells.Adopt r e base list) may = λ here. used y e.0 r.0 here may.0
  may-used y q (tells.Ack r e n) may = tt
  may-used y q (tells.Stable r e n) may = λ here. used y e.0 r.0 here may.0
  may-used y q (tells.ReadBlock session block rows) may = tt
  may-used y q (tells.Block session bytes n) may = tt
  may-used y q (tells.Mark session r block e n) may = λ here. used y e.0 r.0 here may.0
  may-used y q (tells.Row session bytes stamp) may = tt
  may-used y q (tells.Cease upto) may = tt
  may-used y q (tells.Notice dead) may = tt

  -- ranks of another process are lower than a living one's that is in use, or higher than that
  pub other-rank : (p y : ProcessId) (r rank : ℕ) → p ≡ of_rank d r → y ≢ p → Used y rank → rank ≢ r
  other-rank p y r rank is other from same = other (from.0 ∙ ap (of_rank d) same ∙ sym is)

  pub lower-rank : (p y : ProcessId) (r rank : ℕ) → p ≡ of_rank d r → v.dead p ≡ false → y ≢ p → Used y rank → rank < r
  lower-rank p y r rank is lives other from = by (cases_lt r rank) where
    by : (r < rank) ⊎ (rank ≤ r) → rank < r
    by (inl above) = absurd (cc (from.1.below r above, ap v.dead is, lives))
    by (inr low) = let apart : rank ≢ r = other-rank p y r rank is other from in omega (arith, low, apart)

  pub may-stale : (p y q : ProcessId) (r : ℕ) → p ≡ of_rank d r → v.dead p ≡ false → y ≢ p → (ms : List Message)
      → Each (MayStand s v y q) ms → Each (Stale d r) ms
  may-stale p y q r is lives other ms may =
      each-weaker (MayStand s v y q) (Stale d r)
      (λ m one. ranked-weaker d (Used y) (λ k. k < r) (λ k from. lower-rank p y r k is lives other from) m
      (may-used y q m one)) ms may

  module _ (members : Members s v) (below : d < s.k) where
    -- a living head has its rank
    pub head-from : (y : ProcessId) (h : Head) → IsProcess s y → v.dead y ≡ false → head_at (v.process y) d ≡ Some h → Used y h.rank
    head-from y h yin lives heads = seat-from s v (ground_of s v members) y d h.rank yin lives below (ap (option_map (λ (x : Head). x.rank)) heads)

    -- where all of lower rank are dead there is no other living head
    pub no-other : (p y : ProcessId) (r : ℕ) (h : Head) → p ≡ of_rank d r → v.dead p ≡ false → ((j : ℕ) → j < r → v.dead (of_rank d j) ≡ true) → IsProcess s y
        → y ≢ p → v.dead y ≡ false → head_at (v.process y) d ≡ Some h → ⊥
    no-other p y r h is lives lower yin other living heads =
        let from : Used y h.rank = head-from y h yin living heads in
        let low : h.rank < r = lower-rank p y r h.rank is lives other from in
        cc (lower h.rank low, ap v.dead from.0, living)
