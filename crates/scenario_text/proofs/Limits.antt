use Rattle.std.proofs.Common.{◌≡◌, ℕ, ◌==◌, ◌&&◌, nat_lt, not, true, false, List, Some, None, Ok, Err, refl, sym, ap, arith, Bool, Option, ◌∙◌}
use Rattle.std.proofs.lemmas.Bool.Decides.{nat_tests}
use Rattle.std.proofs.lemmas.Grind.{common_steps}
use Rattle.std.proofs.lemmas.List.Sums.{list_all-from_AllPass}
use Rattle.group_types.specs.Dimensions.{Dimensions}
use Rattle.group_types.specs.Key.{IsKey, IsKeyByte}
use Rattle.group_types.specs.Shape.{IsShape, IsFieldInRange, IsFirstOutOfRange}
use Rattle.group_types.specs.declared.shape.Field.{Field}
use Rattle.group_types.specs.declared.shape.Field.TheVariants.{K, M, Block, Blocks}
use Rattle.scenario_text.specs.Meaning.{is_in_range, first_out_of_range, group_within}
use Rattle.scenario_text.specs.Words.{key_of_word}
use Rattle.scenario_text.specs.declared.line.Line.TheVariants.{Group}
use Rattle.scenario_text.specs.declared.line.LineFault.TheVariants.{BadShape}

key_byte_passes : (b : ℕ) → IsKeyByte b → (nat_lt 32 b && not (b == 127)) ≡ true
key_byte_passes b (low, plain) = grind (arith, nat_tests, common_steps)

pub key_of_word-key : (word : List ℕ) → IsKey word → key_of_word word ≡ Some word
unfolding key_of_word
key_of_word-key word key =
    let bytes = list_all-from_AllPass (λ b. nat_lt 32 b && not (b == 127)) word (λ i d within. key_byte_passes _ (key.plain i d within)) in
    let some = key.some in
    let short = key.short in
    grind (arith, nat_tests, common_steps)

in_range : (d : Dimensions) (field : Field) → IsFieldInRange d field → is_in_range d field ≡ true
in_range d K within = grind (arith, nat_tests, common_steps)
in_range d M within = grind (arith, nat_tests, common_steps)
in_range d Block within = grind (arith, nat_tests, common_steps)
in_range d Blocks within = grind (arith, nat_tests, common_steps)

out_of_range : (d : Dimensions) (field : Field) → ¬ (IsFieldInRange d field) → is_in_range d field ≡ false
out_of_range d K out = grind (arith, nat_tests, common_steps)
out_of_range d M out = grind (arith, nat_tests, common_steps)
out_of_range d Block out = grind (arith, nat_tests, common_steps)
out_of_range d Blocks out = grind (arith, nat_tests, common_steps)

none_out : (d : Dimensions) → IsShape d → first_out_of_range d ≡ None
none_out d shape = rw (in_range d K shape.k, in_range d M shape.m, in_range d Block shape.block, in_range d Blocks shape.blocks) refl

first_out : (d : Dimensions) (field : Field) → IsFirstOutOfRange d field → first_out_of_range d ≡ Some field
first_out d K out = rw (out_of_range d K out) refl
first_out d M (k, out) = rw (in_range d K k, out_of_range d M out) refl
first_out d Block (k, m, out) = rw (in_range d K k, in_range d M m, out_of_range d Block out) refl
first_out d Blocks (k, m, block, out) = rw (in_range d K k, in_range d M m, in_range d Block block, out_of_range d Blocks out) refl

-- a field that passes is within its limits
passes : (d : Dimensions) (field : Field) → is_in_range d field ≡ true → IsFieldInRange d field
passes d K is = grind (arith, nat_tests, common_steps)
passes d M is = grind (arith, nat_tests, common_steps)
passes d Block is = grind (arith, nat_tests, common_steps)
passes d Blocks is = grind (arith, nat_tests, common_steps)

-- the first field that fails, of these that pass or fail
abbrev first_of : Bool → Bool → Bool → Bool → Option Field
first_of false m block blocks = Some K
first_of true false block blocks = Some M
first_of true true false blocks = Some Block
first_of true true true false = Some Blocks
first_of true true true true = None

first_is : (d : Dimensions) → (k m block blocks : Bool) → is_in_range d K ≡ k → is_in_range d M ≡ m
    → is_in_range d Block ≡ block → is_in_range d Blocks ≡ blocks
    → first_out_of_range d ≡ first_of k m block blocks
first_is d false m block blocks isk ism isblock isblocks = rw isk refl
first_is d true false block blocks isk ism isblock isblocks = rw (isk, ism) refl
first_is d true true false blocks isk ism isblock isblocks = rw (isk, ism, isblock) refl
first_is d true true true false isk ism isblock isblocks = rw (isk, ism, isblock, isblocks) refl
first_is d true true true true isk ism isblock isblocks = rw (isk, ism, isblock, isblocks) refl

pub shape-of : (d : Dimensions) → first_out_of_range d ≡ None → IsShape d
shape-of d none = by (is_in_range d K) (is_in_range d M) (is_in_range d Block) (is_in_range d Blocks) refl refl refl refl where
  by : (k m block blocks : Bool) → is_in_range d K ≡ k → is_in_range d M ≡ m → is_in_range d Block ≡ block → is_in_range d Blocks ≡ blocks → IsShape d
  by true true true true isk ism isblock isblocks =
      record {
        k = passes d K isk;
        m = passes d M ism;
        block = passes d Block isblock;
        blocks = passes d Blocks isblocks;
      }
  by false m block blocks isk ism isblock isblocks = absurd (cc (sym (first_is d false m block blocks isk ism isblock isblocks) ∙ none))
  by true false block blocks isk ism isblock isblocks = absurd (cc (sym (first_is d true false block blocks isk ism isblock isblocks) ∙ none))
  by true true false blocks isk ism isblock isblocks = absurd (cc (sym (first_is d true true false blocks isk ism isblock isblocks) ∙ none))
  by true true true false isk ism isblock isblocks = absurd (cc (sym (first_is d true true true false isk ism isblock isblocks) ∙ none))

pub group_within-shape : (d s : Dimensions) → s ≡ d → IsShape d → group_within d ≡ Ok (Group s)
unfolding group_within
group_within-shape d s same shape = rw (none_out d shape) (ap (λ (x : Dimensions). Ok (Group x)) (sym same))

-- the refusal of a group line names the field that group_types refuses
pub group_within-fault : (d : Dimensions) (field : Field) → IsFirstOutOfRange d field → group_within d ≡ Err (BadShape field)
unfolding group_within
group_within-fault d field out = rw (first_out d field out) refl
