-- What a process holds is what the log tells, by the headline.
use Rattle.std.proofs.Common.{ℕ, zero, suc, ◌≡◌, ◌<◌, ◌+◌, map, Some, ap, ◌∙◌, arith}
use Rattle.std.specs.Prelude.{slice_get}
use Rattle.std.specs.List.{range_with_len}
use Rattle.std.proofs.lemmas.List.FromFn.{length-map-range_with_len}
use Rattle.erasure_code.specs.Spaces.{bytes_at}
use Rattle.group_types.specs.declared.process.ProcessId.{ProcessId}
use Rattle.group_types.specs.declared.process.ProcessId.TheVariants.{DataNode, ParityNode}
use Rattle.group_run.specs.Applying.{replica_of}
use Rattle.group_run.specs.Headline.{AgreeOnStamp}
use Rattle.group_run.specs.Meaning.{AgreesOn, Lives, process_of}
use Rattle.group_run.specs.World.{World}
use Rattle.law_headline.proofs.Headlines.{headline_always}
use Rattle.group_run.specs.Shown.{stamp_of, told_space}
use Rattle.law_headline.specs.Shown.{TruthAlways}

get-mapped : (f : ℕ → ℕ) (a n d : ℕ) → d < n → slice_get (map f (range_with_len a n)) d ≡ Some (f (a + d))
get-mapped f a zero d low = absurd (omega (arith, low))
get-mapped f a (suc n) zero low = ap (λ (x : ℕ). Some (f x)) (omega arith)
get-mapped f a (suc n) (suc d) low = let next : (a + 1) + d ≡ a + suc d = omega arith in
    get-mapped f (a + 1) n d (omega (arith, low)) ∙ ap (λ (x : ℕ). Some (f x)) next

agrees : (w : World) (i : ℕ) → AgreesOn w (stamp_of w (ParityNode i)) (ParityNode i)
agrees w i d low =
    let from_start : 0 + d ≡ d = omega arith in
    get-mapped (λ d. (replica_of (process_of w (ParityNode i)) d).applied) 0 w.shape.k d low
    ∙ ap (λ (x : ℕ). Some (replica_of (process_of w (ParityNode i)) x).applied) from_start

holds : (w : World) (p : ProcessId) → Lives w p → AgreeOnStamp w → (process_of w p).space ≡ told_space w p
holds w (DataNode d) lives agree = agree.data_holds d lives
holds w (ParityNode i) lives agree =
    agree.parity_holds i (stamp_of w (ParityNode i)) lives
    (length-map-range_with_len (λ d. (replica_of (process_of w (ParityNode i)) d).applied) 0 w.shape.k) (agrees w i)

pub truth_always : TruthAlways
truth_always s es run up p r lives = ap (bytes_at r.at r.len) (holds _ p lives ((headline_always s es run).agree up))
