-- How long blocks and copies are: a whole block, whatever is added to them.
use Rattle.std.proofs.Common.{◌≡◌, ℕ, ◌+◌, ◌*◌, ◌<◌, ◌≤◌, Bool, true, false, List, [], ◌∷◌, length, drop, map, is_some, None, refl, ◌∙◌, arith, if◌then◌else◌}
use Rattle.std.proofs.lemmas.List.{length-drop, length-take}
use Rattle.std.proofs.lemmas.Nat.{mul-le}
use Rattle.group_types.specs.Dimensions.{Dimensions, space_of}
use Rattle.group_types.specs.Lists.{at}
use Rattle.group_types.specs.declared.process.ProcessId.{ProcessId}
use Rattle.group_types.specs.Each.{Each}
use Rattle.group_types.proofs.Eaches.{each-weaker, each-map}
use Rattle.group_message.specs.declared.update.Body.{Body}
use Rattle.group_message.specs.declared.update.Body.TheVariants.{Put, Remove, Touch}
use Rattle.group_message.specs.declared.update.Update.{Update}
use Rattle.group_run.specs.Applying.{block_added, block_after, coded_delta, copy_after}
use Rattle.group_run.specs.Process.{Copy}
use Rattle.group_run.specs.Rows.{block_in}
use Rattle.law_bytes.proofs.Areas.{area_long}
use Rattle.law_headline.proofs.Sound.{CopySound}

module _ (s : Dimensions) where
  -- a block of a space is whole
  pub block-long : (b : ℕ) (space : List ℕ) → b < s.blocks → length space ≡ space_of s → length (block_in s b space) ≡ s.block
  block-long b space inside long =
      let fits : (b + 1) * s.block ≤ s.blocks * s.block = mul-le (b + 1) s.block s.blocks s.block (omega (arith, inside)) (omega arith) in
      let sum : (b + 1) * s.block ≡ b * s.block + s.block = omega arith in
      omega (arith, fits, sum, long, length-take s.block (drop (b * s.block) space), length-drop (b * s.block) space)

  added-long : (name : ProcessId) (d b : ℕ) (body : Body) (bytes : List ℕ) → length (block_added s name d b body bytes) ≡ length bytes
  added-long name d b (Put flags until run delta) bytes = area_long (b * s.block) run.at (coded_delta s name d delta) bytes
  added-long name d b Remove bytes = refl
  added-long name d b (Touch until) bytes = refl

  after-long : (name : ProcessId) (d b : ℕ) (us : List Update) (bytes : List ℕ) → length (block_after s name d b us bytes) ≡ length bytes
  after-long name d b [] bytes = refl
  after-long name d b (u ∷ us) bytes = after-long name d b us (block_added s name d b u.body bytes) ∙ added-long name d b u.body bytes

  -- a copy is of the same block after updates
  copy-after : (name : ProcessId) (d : ℕ) (us : List Update) (c : Copy) → CopySound s c → CopySound s (copy_after s name d us c)
  copy-after name d us c sound = by (is_some (at None c.marks d)) where
    by : (b : Bool) → CopySound s (if b then c else record c { bytes = block_after s name d c.block us c.bytes })
    by true = sound
    by false = record { inside = sound.inside; long = after-long name d c.block us c.bytes ∙ sound.long }

  pub copies-after : (name : ProcessId) (d : ℕ) (us : List Update) (cs : List Copy) → Each (CopySound s) cs
      → Each (CopySound s) (map (copy_after s name d us) cs)
  copies-after name d us cs all = each-map (CopySound s) (copy_after s name d us) cs
      (each-weaker (CopySound s) (λ c. CopySound s (copy_after s name d us c)) (copy-after name d us) cs all)
