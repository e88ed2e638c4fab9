-- What a session that follows a plan has gathered is right, and so is what it decodes to.
use Rattle.std.proofs.Common.{◌≡◌, ◌≢◌, ℕ, ◌<◌, ◌≤◌, ◌==◌, true, List, Some, None, ◌⊎◌, inl, inr, sym, subst, ◌∙◌}
use Rattle.std.specs.Prelude.{Contains}
use Rattle.std.proofs.lemmas.Bool.{cases_eq}
use Rattle.group_types.specs.Dimensions.{Dimensions}
use Rattle.group_types.specs.Lists.{at, put}
use Rattle.group_types.specs.Shape.{IsShape}
use Rattle.group_types.proofs.Lists.{at-put-other}
use Rattle.group_message.specs.declared.update.Update.{Update}
use Rattle.group_run.specs.Leaders.{is_complete}
use Rattle.group_run.specs.Process.{Gathering}
use Rattle.law_bytes.specs.Areas.{IsBlock, WritesBytes, code, value, SettledWrite}
use Rattle.law_bytes.specs.Decoding.{GathersRight}
use Rattle.law_bytes.proofs.Decode.{sessions_decode}
use Rattle.law_bytes.proofs.Rebuilding.{IsDecoded, with_block, with_row}
use Rattle.law_bytes.proofs.Rising.{among-contains}
use Rattle.law_bytes.specs.Leading.{IsSoundSession}
use Rattle.law_bytes.proofs.Finds.{found-each, if-some}
use Rattle.group_run.specs.Leaders.{open_session}
use Rattle.group_types.specs.declared.process.ProcessId.TheVariants.{ParityNode}
use Rattle.group_types.proofs.Eaches.{each-take}
use Rattle.law_bytes.proofs.Rebuilt.{SessionsGather}
use Rattle.law_bytes.proofs.Stamps.{GatheringFollows, Plan, planned}

module _ (s : Dimensions) (settled : ℕ → List Update) (write : SettledWrite s settled) (plan : Plan) where
  -- a sound session that follows a plan gathers right
  pub gathers-right : (g : Gathering) → IsSoundSession s g → GatheringFollows s settled plan g → GathersRight s (planned settled plan) g
  gathers-right g sound follows = record {
    lost = sound.lost;
    lost_in = sound.lost_in;
    rows = sound.rows;
    rows_in = sound.rows_in;
    as_many = sound.as_many;
    inside = follows.inside;
    write = λ d below. each-take (WritesBytes s) (plan.numbers d) (settled d) (write d below);
    blocks =
        λ d bytes there. let is = sound.blocks d bytes there in
        (is.0, is.1, subst (λ (b : ℕ). IsBlock s b (value (planned settled plan d)) bytes) (sym follows.block) (follows.blocks_in d bytes there).1);
    codes = λ i bytes there.
        let row = follows.rows_in i bytes there in (
          subst (λ (rows : List ℕ). Contains rows i) (sym follows.rows) row.0,
          subst (λ (b : ℕ). IsBlock s b (code s i (planned settled plan)) bytes) (sym follows.block) row.1,
        );
  }

  -- and what it decodes to are the lost partitions' values
  pub decodes-right : (g : Gathering) (d b : ℕ) (bytes : List ℕ) → IsShape s → IsSoundSession s g → GatheringFollows s settled plan g → is_complete s g ≡ true
      → IsDecoded s g g.lost d b bytes → IsBlock s b (value (planned settled plan d)) bytes
  decodes-right g d b bytes shaped sound follows complete decoded =
      subst (λ (c : ℕ). IsBlock s c (value (planned settled plan d)) bytes) (sym decoded.block)
      (subst (IsBlock s g.block (value (planned settled plan d))) (sym decoded.is)
      (sessions_decode s (planned settled plan) g shaped (gathers-right g sound follows) complete d (among-contains g.lost d decoded.lost)))

  -- a session stays sound with a row more, and with a block of a partition that isn't lost
  pub row-sound : (i : ℕ) (bytes : List ℕ) (g : Gathering) → IsSoundSession s g → IsSoundSession s (with_row i bytes g)
  row-sound i bytes g sound = record {
    lost = sound.lost;
    lost_in = sound.lost_in;
    rows = sound.rows;
    rows_in = sound.rows_in;
    as_many = sound.as_many;
    blocks = sound.blocks;
  }

  pub block-sound : (e : ℕ) (bytes : List ℕ) (g : Gathering) → e < s.k → ¬ (Contains g.lost e) → IsSoundSession s g → IsSoundSession s (with_block e bytes g)
  block-sound e bytes g below kept sound =
      record {
        lost = sound.lost;
        lost_in = sound.lost_in;
        rows = sound.rows;
        rows_in = sound.rows_in;
        as_many = sound.as_many;
        blocks = λ d more there. by d more there (cases_eq d e);
      } where
        by : (d : ℕ) (more : List ℕ) → at None (put None g.blocks_in e (Some bytes)) d ≡ Some more → (d ≡ e) ⊎ (d ≢ e) → (d < s.k) × (¬ (Contains g.lost d))
        by d more there (inl same) = subst (λ (c : ℕ). (c < s.k) × (¬ (Contains g.lost c))) (sym same) (below, kept)
        by d more there (inr other) = sound.blocks d more (sym (at-put-other None g.blocks_in e d (Some bytes) other) ∙ there)

pub sessions_gather : SessionsGather
sessions_gather s v sound up write stands l n g lin lives name opens =
    let one = stands l n lin in
    let here = one.1.processes (ParityNode l) lin lives in
    let follows = if-some (λ x. (n ≤ (v.process (ParityNode l)).as_leader.last_session) × GatheringFollows s v.settled one.0 x)
    (open_session (v.process (ParityNode l)).as_leader n) g opens (here.session name) in (
      one.0,
      one.1,
      gathers-right s v.settled write one.0 g
          (found-each (λ x. x.number == n) (IsSoundSession s) (v.process (ParityNode l)).as_leader.sessions g opens
          (sound up (ParityNode l) lin lives)).1 follows.1,
    )
