-- What an ask is told to wait for, and a stamp, go on from the updates of earlier eras.
use Rattle.std.proofs.Common.{ℕ, zero, suc, ◌≡◌, ◌<◌, ◌≤◌, ◌+◌, List, [], ◌∷◌, length, ◌⊎◌, inl, inr, refl, sym, ap, subst, ◌∙◌, arith}
use Rattle.std.specs.List.{range_with_len}
use Rattle.std.proofs.lemmas.List.{length-map}
use Rattle.group_types.specs.Hash.{home_of}
use Rattle.group_types.specs.Lists.{at}
use Rattle.group_types.specs.declared.process.Partition.{Partition}
use Rattle.group_types.specs.declared.process.ProcessId.{ProcessId}
use Rattle.group_types.specs.declared.process.ProcessId.TheVariants.{DataNode, ParityNode}
use Rattle.memc_table.specs.Act.{key_of}
use Rattle.memc_table.specs.Asked.{Asked}
use Rattle.group_calls.specs.declared.event.Answer.TheVariants as says
use Rattle.group_calls.specs.declared.event.Cause.TheVariants as cause
use Rattle.group_calls.specs.declared.event.Event.TheVariants.{Ask}
use Rattle.group_run.specs.Applying.{replica_of}
use Rattle.group_run.specs.Causes.{AskCause, FindsWindowFull, WaitsForInherited, WaitsForKey}
use Rattle.group_run.specs.Headline.{MayCome}
use Rattle.group_run.specs.Meaning.{process_of}
use Rattle.group_run.specs.Shown.{stamp_of}
use Rattle.group_run.specs.World.{World, step}
use Rattle.law_answers.proofs.Asks.{asks_always}
use Rattle.law_log.proofs.Tables.{home-below}
use Rattle.group_eras.specs.Eras.{turn_in}
use Rattle.group_eras.specs.Told.{Bases, op_for_era, told_answer, told_stamp, with_base}
use Rattle.group_eras.proofs.Making.{may-in}
use Rattle.group_eras.proofs.Promises.{led-stands}
use Rattle.group_eras.proofs.Standing.{Stands}
use Rattle.law_told.specs.Eras.{PendingsGoOn, StampsGoOn}
use Rattle.law_told.proofs.Bases.{base-is}

-- the update that an ask waits for is of a partition of the group
waits-below : (w after : World) (p : ProcessId) (op : Asked) (d : Partition) (n : ℕ) → 1 ≤ w.shape.k
    → AskCause w after p op (says.Retry (cause.Pending d n)) → d.0 < w.shape.k
waits-below w after p op d n some causes = by causes.2 where
  below : home_of (key_of op.act) w.shape.k < w.shape.k
  below = home-below (key_of op.act) w.shape.k some

  by : WaitsForKey w p op d.0 n ⊎ FindsWindowFull w p op d.0 n ⊎ WaitsForInherited w p op d.0 n → d.0 < w.shape.k
  by (inl key) = let home = key.home in omega (arith, home, below)
  by (inr (inl full)) = let home = full.home in omega (arith, home, below)
  by (inr (inr inherited)) = inherited.partition

pub pendings_go_on : PendingsGoOn
pendings_go_on e caller op p d n led may is =
    ap (told_answer e.bases (home_of (key_of op.act) e.world.shape.k)) is
    ∙ ap (λ (b : ℕ). says.Retry (cause.Pending d (b + n))) (base-is e stands d.0 below)
  where
    stands : Stands e
    stands = led-stands e led

    came : Asked
    came = op_for_era e.bases e.world.shape.k op

    causes : AskCause e.world (step e.world (Ask caller came p)).world p came (turn_in e (Ask caller op p)).answer
    causes = subst (λ (v : World). MayCome v (Ask caller came p) → AskCause v (step v (Ask caller came p)).world p came
        (step v (Ask caller came p)).turn.answer) (sym stands.era.stands)
        (asks_always e.world.shape stands.era.events stands.era.run caller came p) (may-in e.bases e.world.shape.k e.world (Ask caller op p) may.may)

    below : d.0 < e.world.shape.k
    below = waits-below e.world (step e.world (Ask caller came p)).world p came d n stands.era.run.0.k.0
        (subst (AskCause e.world (step e.world (Ask caller came p)).world p came) is causes)

-- place by place
told-at : (bases : Bases) (d : ℕ) (ns : List ℕ) (i : ℕ) → i < length ns → at 0 (told_stamp bases d ns) i ≡ with_base bases (d + i) (at 0 ns i)
told-at bases d [] i low = absurd (omega (arith, low))
told-at bases d (n ∷ ns) zero low = ap (λ (j : ℕ). with_base bases j n) (let same : d ≡ d + 0 = omega arith in same)
told-at bases d (n ∷ ns) (suc i) low = told-at bases (suc d) ns i (omega (arith, low))
    ∙ ap (λ (j : ℕ). with_base bases j (at 0 ns i)) (let same : suc d + i ≡ d + suc i = omega arith in same)

long-range : (a n : ℕ) → length (range_with_len a n) ≡ n
long-range a zero = refl
long-range a (suc n) = ap suc (long-range (a + 1) n)

pub stamps_go_on : StampsGoOn
stamps_go_on e (DataNode d) zero led pin low = ap (λ (b : ℕ). b + at 0 (stamp_of e.world (DataNode d)) 0) (base-is e (led-stands e led) d pin)
stamps_go_on e (DataNode d) (suc i) led pin low = absurd (omega (arith, low))
stamps_go_on e (ParityNode j) i led pin low =
    let long = length-map (range_with_len 0 e.world.shape.k) (λ (d : ℕ). (replica_of (process_of e.world (ParityNode j)) d).applied) in
    let many = long-range 0 e.world.shape.k in
    told-at e.bases 0 (stamp_of e.world (ParityNode j)) i low
    ∙ ap (λ (d : ℕ). with_base e.bases d (at 0 (stamp_of e.world (ParityNode j)) i)) (let same : 0 + i ≡ i = omega arith in same)
    ∙ ap (λ (b : ℕ). b + at 0 (stamp_of e.world (ParityNode j)) i) (base-is e (led-stands e led) i (omega (arith, low, long, many)))
