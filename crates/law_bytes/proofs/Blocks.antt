-- An update whose run meets only rebuilt blocks changes no other.
use Rattle.std.proofs.Common.{◌≡◌, ℕ, ◌+◌, ◌-◌, ◌*◌, ◌/◌, ◌<◌, ◌≤◌, Bool, false, not, List, [], ◌∷◌, ◌++◌, length}
use Rattle.std.proofs.Common.{bit_xor, is_some, Option, None, ◌⊎◌, inl, inr, sym, ap, subst, ◌∙◌, refl, arith}
use Rattle.std.proofs.Common.{if◌then◌else◌}
use Rattle.std.specs.Int.Bits.{xor_zero_r}
use Rattle.std.proofs.Math.Nat.{div-mul-le_self}
use Rattle.std.proofs.lemmas.Bool.{cases_lt, ne_eqb}
use Rattle.std.proofs.lemmas.List.{get_or_past}
use Rattle.std.proofs.lemmas.Nat.{div-mul-add, le-div}
use Rattle.std.specs.List.{range_with_len}
use Rattle.erasure_code.proofs.Nodes.{Among}
use Rattle.group_types.specs.Dimensions.{Dimensions}
use Rattle.group_types.specs.declared.run.Run.{Run}
use Rattle.group_types.specs.Each.{Each}
use Rattle.group_message.specs.declared.update.Body.{Body}
use Rattle.group_message.specs.declared.update.Body.TheVariants.{Put, Remove, Touch}
use Rattle.group_message.specs.declared.update.Update.{Update}
use Rattle.group_run.specs.Leaders.{blocks_met, missing_block, rebuilt_block}
use Rattle.group_run.specs.Process.{LeaderState}
use Rattle.law_bytes.specs.Areas.{change, shifted, value}
use Rattle.law_bytes.proofs.Areas.{shifted-before, shifted-from}
use Rattle.law_bytes.proofs.Finds.{found-none}
use Rattle.law_bytes.proofs.Rising.{among-range, each-among}
use Rattle.law_bytes.proofs.Values.{value-append}

-- the block of an address of a run is one of those that it meets
pub block-met : (s : Dimensions) (run : Run) (b x : ℕ) → 0 < s.block → x < s.block → run.at ≤ b * s.block + x
    → b * s.block + x < run.at + run.len → Among b (blocks_met s run)
block-met s run b x some inside from to =
    subst (λ (c : Bool). Among b (if c then [] else range_with_len first (last - first + 1)))
    (sym (ne_eqb run.len 0 (λ none. absurd (omega (arith, from, to, none))))) (among-range b first (last - first + 1) low (omega (arith, high, low))) where
      first : ℕ
      first = run.at / s.block

      last : ℕ
      last = (run.at + run.len - 1) / s.block

      low : first ≤ b
      low =
          let fits : first * s.block ≤ run.at = div-mul-le_self run.at s.block in
          let less = le-div first (b * s.block + x) s.block some (omega (arith, fits, from)) in
          let is = div-mul-add b s.block x inside in
          omega (arith, less, is)

      high : b ≤ last
      high = le-div b (run.at + run.len - 1) s.block some (omega (arith, to))

module _ (s : Dimensions) (some : 0 < s.block) (d : ℕ) (l : LeaderState) (b : ℕ) (unbuilt : rebuilt_block l d b ≡ None) where
  -- a run none of whose blocks is missing adds nothing to a block that isn't rebuilt
  pub run-apart : (run : Run) (delta : List ℕ) (x : ℕ) → missing_block s d run l ≡ None → length delta ≡ run.len
      → x < s.block → shifted run.at delta (b * s.block + x) ≡ 0
  run-apart run delta x none long inside = by (cases_lt (b * s.block + x) run.at) (cases_lt (b * s.block + x) (run.at + run.len)) where
    by : (b * s.block + x < run.at) ⊎ (run.at ≤ b * s.block + x) → (b * s.block + x < run.at + run.len)
        ⊎ (run.at + run.len ≤ b * s.block + x) → shifted run.at delta (b * s.block + x) ≡ 0
    by (inl before) _ = shifted-before run.at delta (b * s.block + x) before
    by (inr from) (inl to) =
        let fails : not (is_some (rebuilt_block l d b)) ≡ false =
        each-among (λ y. not (is_some (rebuilt_block l d y)) ≡ false) (blocks_met s run) b
        (found-none (λ y. not (is_some (rebuilt_block l d y))) (blocks_met s run) none) (block-met s run b x some inside from to) in
        absurd (cc (sym fails ∙ ap (λ (o : Option (List ℕ)). not (is_some o)) unbuilt))
    by (inr from) (inr past) =
        let place : run.at + (b * s.block + x - run.at) ≡ b * s.block + x = omega (arith, from) in
        ap (shifted run.at delta) (sym place) ∙ shifted-from run.at delta (b * s.block + x - run.at)
        ∙ get_or_past delta (b * s.block + x - run.at) 0 (omega (arith, long, past, from))

  -- an update that writes only where blocks are rebuilt
  abbrev pub MeetsRebuilt : Body → Type 0
  MeetsRebuilt (Put flags until run delta) = (missing_block s d run l ≡ None) × (length delta ≡ run.len)
  MeetsRebuilt Remove = Unit {0}
  MeetsRebuilt (Touch until) = Unit {0}

  change-apart : (body : Body) (x : ℕ) → MeetsRebuilt body → x < s.block → change body (b * s.block + x) ≡ 0
  change-apart (Put flags until run delta) x meets inside = run-apart run delta x meets.0 meets.1 inside
  change-apart Remove x meets inside = refl
  change-apart (Touch until) x meets inside = refl

  pub value-apart : (us : List Update) (x : ℕ) → Each (λ u. MeetsRebuilt u.body) us → x < s.block → value us (b * s.block + x) ≡ 0
  value-apart [] x meets inside = refl
  value-apart (u ∷ us) x meets inside = ap (λ (y : ℕ). bit_xor y (value us (b * s.block + x)))
      (change-apart u.body x meets.0 inside) ∙ ap (bit_xor 0) (value-apart us x meets.1 inside)

  -- such updates leave the values of the block
  pub value-stays : (us news : List Update) (x : ℕ) → Each (λ u. MeetsRebuilt u.body) news → x < s.block
      → value (us ++ news) (b * s.block + x) ≡ value us (b * s.block + x)
  value-stays us news x meets inside = value-append us news (b * s.block + x)
      ∙ ap (bit_xor (value us (b * s.block + x))) (value-apart news x meets inside)
      ∙ xor_zero_r (value us (b * s.block + x))
