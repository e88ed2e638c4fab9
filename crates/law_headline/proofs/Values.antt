-- What a head issued, seen byte by byte: it changes no byte of a block that isn't rebuilt.
use Rattle.std.proofs.Common.{ℕ, ◌≡◌, ◌<◌, ◌≤◌, ◌+◌, ◌-◌, ◌*◌, List, [], ◌∷◌, ◌++◌, length, take, drop, bit_xor, None}
use Rattle.std.proofs.Common.{refl, sym, ap, subst, ◌∙◌, append_assoc, arith}
use Rattle.std.specs.Int.Bits.{xor_zero_r}
use Rattle.std.proofs.lemmas.List.{drop-drop, length-take-le, take-append-drop, take-take}
use Rattle.std.proofs.Math.Seq.{drop_at}
use Rattle.group_types.specs.Dimensions.{Dimensions, space_of}
use Rattle.group_types.specs.declared.process.ProcessId.{ProcessId}
use Rattle.group_types.specs.declared.process.ProcessId.TheVariants.{ParityNode}
use Rattle.group_types.specs.Each.{Each}
use Rattle.group_types.proofs.Eaches.{each-drop, each-left}
use Rattle.group_message.specs.declared.update.Body.{Body}
use Rattle.group_message.specs.declared.update.Body.TheVariants.{Put, Remove, Touch}
use Rattle.group_message.specs.declared.update.Update.{Update}
use Rattle.group_run.specs.Applying.{replica_of}
use Rattle.group_run.specs.Asking.{found_at}
use Rattle.group_run.specs.Fitting.{Writes}
use Rattle.group_run.specs.Leaders.{rebuilt_block}
use Rattle.group_run.specs.Process.{Process}
use Rattle.group_run.specs.History.{history}
use Rattle.law_bytes.specs.Areas.{change, value}
use Rattle.law_bytes.proofs.Blocks.{run-apart}
use Rattle.law_bytes.proofs.Values.{value-append}
use Rattle.law_headline.proofs.Resting.{BlocksRest}
use Rattle.law_headline.proofs.Apart.{HeadOff, SameValues, StaysOff}
use Rattle.law_headline.proofs.Unders.{PutsFound, none-missing}

-- a value that a parity process puts where it found bytes stays off the blocks that it hasn't rebuilt
pub found-off : (s : Dimensions) (d i : ℕ) (p : Process) (name : ProcessId) (b : ℕ) → 0 < s.block → name ≡ ParityNode i → rebuilt_block p.as_leader d b ≡ None
    → (body : Body) → PutsFound (found_at s d p name) body → Writes (space_of s) body → (x : ℕ) → x < s.block → change body (b * s.block + x) ≡ 0
found-off s d i p name b some is unbuilt (Put flags until run delta) found writes x inside =
    run-apart s some d p.as_leader b unbuilt run delta x (none-missing s d p name i run found.0 is found.1) (sym writes.long) inside
found-off s d i p name b some is unbuilt Remove found writes x inside = refl
found-off s d i p name b some is unbuilt (Touch until) found writes x inside = refl

module _ (s : Dimensions) (b x : ℕ) (inside : x < s.block) where
  value-none : (us : List Update) → Each (StaysOff s b) us → value us (b * s.block + x) ≡ 0
  value-none [] all = refl
  value-none (u ∷ us) all = ap (λ (y : ℕ). bit_xor y (value us (b * s.block + x))) (all.0 x inside) ∙ ap (bit_xor 0) (value-none us all.1)

  pub value-off : (us news : List Update) → Each (StaysOff s b) news → value (us ++ news) (b * s.block + x) ≡ value us (b * s.block + x)
  value-off us news all = value-append us news (b * s.block + x) ∙ ap (bit_xor (value us (b * s.block + x)))
      (value-none news all) ∙ xor_zero_r (value us (b * s.block + x))

-- so a block that isn't rebuilt has the same values at all numbers from what the head inherited up to what it
-- has applied
pub off-value : (s : Dimensions) (d : ℕ) (settled : List Update) (p : Process) → (replica_of p d).applied
    ≤ length settled → HeadOff s d settled p → SameValues s d settled p
off-value s d settled p within off h b n x heads unbuilt from to inside =
    sym (ap (λ (us : List Update). value us (b * s.block + x)) whole ∙ value-off s b x inside (take n settled) mid mid-off)
  where
    c : ℕ
    c = (replica_of p d).applied

    log : List Update
    log = (replica_of p d).log

    mid : List Update
    mid = drop n (take c settled)

    short : take n (take c settled) ≡ take n settled
    short = take-take n c settled to

    whole : take (replica_of p d).applied settled ≡ take n settled ++ mid
    whole = sym (take-append-drop n (take c settled)) ∙ ap (λ (us : List Update). us ++ drop n (take c settled)) short

    behind : drop n (history settled (replica_of p d)) ≡ mid ++ log
    behind =
        ap (λ (us : List Update). drop n (us ++ log)) (sym (take-append-drop n (take c settled)))
        ∙ ap (drop n) (append_assoc (take n (take c settled)) mid log)
        ∙ drop_at (take n (take c settled)) (mid ++ log) n
        (length-take-le n (take c settled) (let long = length-take-le c settled within in omega (arith, long, to)))

    further : drop n (history settled (replica_of p d)) ≡ drop (n - h.inherited) (drop h.inherited (history settled (replica_of p d)))
    further = let split : n ≡ h.inherited + (n - h.inherited) = omega (arith, from) in
        ap (λ (k : ℕ). drop k (history settled (replica_of p d))) split ∙ sym (drop-drop (n - h.inherited) h.inherited (history settled (replica_of p d)))

    mid-off : Each (StaysOff s b) mid
    mid-off =
        each-left (StaysOff s b) mid log
        (subst (Each (StaysOff s b)) (sym further ∙ behind)
        (each-drop (StaysOff s b) (n - h.inherited) (drop h.inherited (history settled (replica_of p d)))
        (off h b heads unbuilt)))

-- the same, as a law
pub blocks_rest : BlocksRest
blocks_rest s d settled p within off = off-value s d settled p within off
