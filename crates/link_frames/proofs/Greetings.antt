-- A greeting is read exactly where it is spelled.
use Rattle.std.proofs.Common.{◌≡◌, ◌≤◌, ◌<◌, ℕ, ◌*◌, ◌==◌, ◌&&◌, nat_le, Bool, true, false, eqb, cond, List, [], ◌∷◌}
use Rattle.std.proofs.Common.{◌++◌, length, Option, Some, None, refl, sym, ap, subst, ◌∙◌, append_assoc, arith}
use Rattle.std.specs.Int.{w16, w32, w64, is_power_of_two}
use Rattle.std.proofs.lemmas.Bool.{eqb-true, eq-eqb}
use Rattle.std.proofs.lemmas.Bool.Decides.{nat_tests}
use Rattle.std.proofs.lemmas.Grind.{common_steps}
use Rattle.std.proofs.lemmas.Nat.{mul-le}
use Rattle.group_types.specs.Dimensions.{Dimensions, space_of}
use Rattle.group_types.specs.Shape.{IsShape, IsFirstOutOfRange, most_space}
use Rattle.group_types.specs.declared.shape.Field.{Field}
use Rattle.group_types.specs.declared.shape.Field.TheVariants.{K, M, Block, Blocks}
use Rattle.group_types.specs.declared.process.ProcessId.{ProcessId}
use Rattle.wire_codec.specs.Fits.{IsOne, IsTwo, IsFour, IsEight, FitsProcess}
use Rattle.wire_codec.specs.Frame.{one, two, four, eight, process}
use Rattle.wire_codec.specs.Reading.{◌>>=◌, Read, one_at, decode_number, of_two, of_four, of_five, tested_at, decode_process}
use Rattle.wire_codec.proofs.Codes.{IsBytes, Took, Codes, step, join, codes_one, codes_two, codes_four, codes_eight}
use Rattle.wire_codec.proofs.Codes.{codes_tested, takes_two, takes_four, takes_five, again_two, again_four, again_five}
use Rattle.wire_codec.proofs.Spelled.{codes_process}
use Rattle.link_frames.specs.declared.hello.Hello.{Hello}
use Rattle.link_frames.specs.declared.hello.GroupId.{GroupId}
use Rattle.link_frames.specs.Limits.{FitsHello}
use Rattle.link_frames.specs.Spelling.{magic_word, dimensions, greeting, hello}
use Rattle.link_frames.specs.Texts.{passes_shape, dimensions_by, shape_at, group_at, ends_at, hello_by, greeting_at, hello_at}

-- the limits of a shape as a test
pub shape_passes : (s : Dimensions) → IsShape s → passes_shape s ≡ true
shape_passes s is =
    let k = is.k in
    let m = is.m in
    let block = is.block in
    let blocks = is.blocks in
    grind (arith, nat_tests, common_steps)

both : (a b : Bool) → (a && b) ≡ true → (a ≡ true) × (b ≡ true)
both true true is = (refl, refl)
both true false is = absurd cc
both false b is = absurd cc

record Eight (a b c d e f g h : Bool) : Type 0 where
  is_a : a ≡ true
  is_b : b ≡ true
  is_c : c ≡ true
  is_d : d ≡ true
  is_e : e ≡ true
  is_f : f ≡ true
  is_g : g ≡ true
  is_h : h ≡ true

all_eight : (a b c d e f g h : Bool) → (a && b && c && d && e && f && g && h) ≡ true → Eight a b c d e f g h
all_eight a b c d e f g h is =
    let to_g = both (a && b && c && d && e && f && g) h is in
    let to_f = both (a && b && c && d && e && f) g to_g.0 in
    let to_e = both (a && b && c && d && e) f to_f.0 in
    let to_d = both (a && b && c && d) e to_e.0 in
    let to_c = both (a && b && c) d to_d.0 in
    let to_b = both (a && b) c to_c.0 in
    let to_a = both a b to_b.0 in
    record { is_a = to_a.0; is_b = to_a.1; is_c = to_b.1; is_d = to_c.1; is_e = to_d.1; is_f = to_e.1; is_g = to_f.1; is_h = to_g.1 }

le_is : (a b : ℕ) → nat_le a b ≡ true → a ≤ b
le_is a b is = grind (arith, nat_tests)

pub passes_is_shape : (s : Dimensions) → passes_shape s ≡ true → IsShape s
passes_is_shape s passes =
    let all = all_eight (nat_le 1 s.k) (nat_le s.k 16) (nat_le s.m 4) (nat_le 16 s.block) (nat_le s.block 65536)
    (is_power_of_two s.block) (nat_le 1 s.blocks) (nat_le (space_of s) most_space) passes in
    record {
      k = (le_is 1 s.k all.is_a, le_is s.k 16 all.is_b);
      m = le_is s.m 4 all.is_c;
      block = (le_is 16 s.block all.is_d, le_is s.block 65536 all.is_e, all.is_f);
      blocks = (le_is 1 s.blocks all.is_g, le_is (space_of s) most_space all.is_h);
    }

abbrev FitsNumbers : Dimensions → Type 0
FitsNumbers s = IsOne s.k × IsOne s.m × IsFour s.blocks × IsFour s.block

codes_dimensions : Codes dimensions FitsNumbers (of_four dimensions_by one_at one_at (decode_number w32) (decode_number w32))
codes_dimensions = record {
  takes = takes_four dimensions FitsNumbers [] dimensions_by codes_one codes_one codes_four codes_four (λ a b c d. refl) (λ a b c d p q r s. (p, q, r, s));
  again = λ s rest fits. again_four dimensions_by codes_one codes_one codes_four codes_four s.k s.m s.blocks s.block rest fits.0 fits.1 fits.2 fits.3;
}

numbers_fit : (s : Dimensions) → IsShape s → FitsNumbers s
numbers_fit s is =
    let k = is.k.1 in
    let m = is.m in
    let least = is.block.0 in
    let block = is.block.1 in
    let space = is.blocks.1 in
    let product : s.blocks * 16 ≤ s.blocks * s.block = mul-le s.blocks 16 s.blocks s.block (omega arith) least in
    (omega (arith, k), omega (arith, m), omega (arith, product, space), omega (arith, block))

codes_shape : Codes dimensions IsShape shape_at
unfolding shape_at
codes_shape = codes_tested dimensions FitsNumbers IsShape
    (of_four dimensions_by one_at one_at (decode_number w32) (decode_number w32)) passes_shape codes_dimensions
    (λ s fits passes. passes_is_shape s passes) numbers_fit shape_passes

abbrev group : GroupId → List ℕ
group id = eight id.high ++ eight id.low

abbrev FitsGroup : GroupId → Type 0
FitsGroup id = IsEight id.high × IsEight id.low

abbrev group_by : ℕ → ℕ → GroupId
group_by high low = record { high = high; low = low }

codes_group : Codes group FitsGroup group_at
unfolding group_at
codes_group = record {
  takes = takes_two group FitsGroup [] group_by codes_eight codes_eight (λ a b. refl) (λ a b p q. (p, q));
  again = λ id rest fits. again_two group_by codes_eight codes_eight id.high id.low rest fits.0 fits.1;
}

abbrev ends : ProcessId × ProcessId → List ℕ
ends x = process x.0 ++ process x.1

abbrev FitEnds : ProcessId × ProcessId → Type 0
FitEnds x = FitsProcess x.0 × FitsProcess x.1

abbrev ends_by : ProcessId → ProcessId → ProcessId × ProcessId
ends_by from to = (from, to)

codes_ends : Codes ends FitEnds ends_at
unfolding ends_at
codes_ends = record {
  takes = takes_two ends FitEnds [] ends_by codes_process codes_process (λ a b. refl) (λ a b p q. (p, q));
  again = λ x rest fits. again_two ends_by codes_process codes_process x.0 x.1 rest fits.0 fits.1;
}

codes_greeting : Codes greeting FitsHello greeting_at
unfolding greeting_at
codes_greeting = record {
  takes = takes_five greeting FitsHello [] hello_by codes_two codes_group codes_shape codes_ends codes_eight
      (λ a b c d e. refl) (λ a b c d e p q r s t. (p, q, r, s, t));
  again = λ h rest fits. again_five hello_by codes_two codes_group codes_shape codes_ends codes_eight h.version h.group
      h.shape (h.from, h.to) h.drawn rest fits.0 fits.1 fits.2 fits.3 fits.4;
}

abbrev IsMagic : ℕ → Type 0
IsMagic word = (word ≡ magic_word) × IsEight word

codes_magic : Codes eight IsMagic (tested_at (λ word. word == magic_word) (decode_number w64))
codes_magic = codes_tested eight IsEight IsMagic (decode_number w64) (λ word. word == magic_word) codes_eight
    (λ word fits passes. (eqb-true _ _ passes, fits)) (λ word fits. fits.1) (λ word fits. eq-eqb _ _ fits.0)

hello_takes : (bytes : List ℕ) (h : Hello) (rest : List ℕ) → IsBytes bytes → hello_at bytes ≡ Some (h, rest) → Took hello FitsHello bytes h rest
unfolding hello_at
hello_takes bytes h rest is e =
    let s = step codes_magic (λ word. greeting_at word.1) bytes (h, rest) is e in
    let t = codes_greeting.takes s.0.1 h rest s.1.behind s.2 in
    let front : eight s.0.0 ≡ eight magic_word = ap eight s.1.fits.0 in
    record {
      parts = join bytes (eight s.0.0) s.0.1 (greeting h) rest s.1.parts t.parts ∙ ap (λ (t : List ℕ). (t ++ greeting h) ++ rest) front;
      fits = t.fits;
      behind = t.behind;
    }

magic_fits : IsEight magic_word
magic_fits = omega arith

hello_reads : (h : Hello) (rest : List ℕ) → FitsHello h → hello_at (hello h ++ rest) ≡ Some (h, rest)
unfolding hello_at
hello_reads h rest fits =
    ap hello_at (append_assoc (eight magic_word) (greeting h) rest)
    ∙ ap (λ (r : Option (ℕ × List ℕ)). r >>= (λ word. greeting_at word.1)) (codes_magic.again magic_word (greeting h ++ rest) (refl, magic_fits))
    ∙ codes_greeting.again h rest fits

pub codes_hello : Codes hello FitsHello hello_at
codes_hello = record { takes = hello_takes; again = hello_reads }

-- what a reader of a shape finds
refused : (d : Dimensions) (f : Field) → IsFirstOutOfRange d f → ¬ (IsShape d)
refused d K out is = out is.k
refused d M out is = out.1 is.m
refused d Block out is = out.2 is.block
refused d Blocks out is = out.3 is.blocks

fails_by : (b : Bool) (d : Dimensions) → passes_shape d ≡ b → (¬ (IsShape d)) → passes_shape d ≡ false
fails_by true d is none = absurd (none (passes_is_shape d is))
fails_by false d is none = is

pub shape_read : (bytes a b c rest : List ℕ) (k m blocks block : ℕ) → one_at bytes ≡ Some (k, a)
    → one_at a ≡ Some (m, b) → decode_number w32 b ≡ Some (blocks, c) → decode_number w32 c ≡ Some (block, rest)
    → IsShape (dimensions_by k m blocks block)
    → shape_at bytes ≡ Some (dimensions_by k m blocks block, rest)
unfolding shape_at
shape_read bytes a b c rest k m blocks block is_k is_m is_blocks is_block is =
    rw (is_k, is_m, is_blocks, is_block, shape_passes (dimensions_by k m blocks block) is) refl

pub shape_none : (bytes a b c rest : List ℕ) (k m blocks block : ℕ) (f : Field) → one_at bytes ≡ Some (k, a)
    → one_at a ≡ Some (m, b) → decode_number w32 b ≡ Some (blocks, c) → decode_number w32 c ≡ Some (block, rest)
    → IsFirstOutOfRange (dimensions_by k m blocks block) f
    → shape_at bytes ≡ None
unfolding shape_at
shape_none bytes a b c rest k m blocks block f is_k is_m is_blocks is_block out =
    rw (
      is_k,
      is_m,
      is_blocks,
      is_block,
      fails_by (passes_shape (dimensions_by k m blocks block))
          (dimensions_by k m blocks block) refl (refused (dimensions_by k m blocks block) f out),
    ) refl
