use Rattle.std.proofs.Common.{◌≡◌, ◌++◌, ◌≤◌, ℕ, List, All, Contains, None, is_some, get_or, length, ap, ap₂, sym, subst, ◌∙◌, arith}
use Rattle.std.specs.List.{list_all}
use Rattle.std.proofs.lemmas.Bool.{and_parts}
use Rattle.std.proofs.lemmas.List.{length-map}
use Rattle.std.proofs.lemmas.List.Elements.{All-contains_itself}
use Rattle.group_types.specs.Pieces.{bytes_of, length_of, numbers_of}
use Rattle.group_types.specs.Lists.{at}
use Rattle.group_types.specs.declared.piece_list.Piece.{Piece}
use Rattle.erasure_code.specs.Code.{Column, decoded}
use Rattle.cauchy_code.specs.Columns.{as_columns}
use Rattle.erasure_code.specs.Columns.{AreDifferent, IsEachBelow}
use Rattle.block_sessions.proofs.Lost.{complete_is, decoded_long, differ, each_once, one_length}
use Rattle.block_sessions.proofs.session.OpenSession.decode.Goals as goal

pub pieces-requires-2 : goal.pieces-requires-2
pieces-requires-2 c =
    let g = c.args.self.now in
    (and_parts (list_all (λ n. is_some (at None g.known.parts n)) g.known.numbers)
    (list_all (λ n. is_some (at None g.coded.parts n)) g.coded.numbers) (complete_is c.args.shape g c.requires.sound
    ∙ c.requires.complete)).0

pub decode-requires-clause-partitions : goal.decode-requires-clause-partitions
decode-requires-clause-partitions c =
    let g = c.args.self.now in
    subst (IsEachBelow c.args.shape.k) (sym (ap₂ (λ (a b : List ℕ). a ++ b) c.deref.ensures.value (c.pieces-2.ensures.numbers ∙ c.requires.sound.known)))
    (each_once c.args.shape g.lost.items g.coded.numbers c.requires.sound.lost)

pub decode-requires-clause-rows_differ : goal.decode-requires-clause-rows_differ
decode-requires-clause-rows_differ c = subst AreDifferent (sym c.pieces.ensures.numbers) (differ c.args.self.now.coded.numbers c.pieces.ensures.rising)

pub decode-requires-clause-out : goal.decode-requires-clause-out
decode-requires-clause-out c =
    let lost = c.args.self.now.lost.items in
    subst (λ (ls : List ℕ). All (λ d. Contains (numbers_of c.args.self.now.out) d) ls) (sym c.deref.ensures.value)
    (subst (λ (ns : List ℕ). All (λ d. Contains ns d) lost) (sym c.requires.sound.out.numbers) (All-contains_itself lost))

-- the lengths of all pieces that are decoded from
pub decode-requires-clause-long : goal.decode-requires-clause-long
decode-requires-clause-long c =
    let g = c.args.self.now in
    let sound = c.requires.sound in
    let rows = c.pieces.result.now in
    let some : 1 ≤ length rows =
    omega (
      arith,
      length-map rows (λ (p : Piece). p.number),
      ap length c.pieces.ensures.numbers,
      sound.lost.as_many,
      sound.lost.some,
    ) in
    (one_length c.args.shape.block rows c.pieces-2.result.now g.out some
    (subst (λ n. All (λ (p : Piece). length p.bytes ≡ n) rows) sound.coded_long c.pieces.ensures.long)
    (subst (λ n. All (λ (p : Piece). length p.bytes ≡ n) c.pieces-2.result.now) sound.known_long c.pieces-2.ensures.long)
    sound.out.long).1

pub returns-clause-decoded : goal.returns-clause-decoded
returns-clause-decoded c =
    let g = c.args.self.now in
    let s = c.args.shape in
    let sound = c.requires.sound in
    let rows = c.pieces.result.now in
    let known = c.pieces-2.result.now in
    let some : 1 ≤ length rows =
    omega (
      arith,
      length-map rows (λ (p : Piece). p.number),
      ap length c.pieces.ensures.numbers,
      sound.lost.as_many,
      sound.lost.some,
    ) in
    let long : length_of (rows ++ known ++ g.out) ≡ s.block = (one_length s.block rows known g.out some
    (subst (λ n. All (λ (p : Piece). length p.bytes ≡ n) rows) sound.coded_long c.pieces.ensures.long)
    (subst (λ n. All (λ (p : Piece). length p.bytes ≡ n) known) sound.known_long c.pieces-2.ensures.long)
    sound.out.long).0 in
    let numbers : numbers_of c.decode.new.out ≡ g.lost.items = c.decode.ensures.numbers ∙ sound.out.numbers in
    record {
      numbers = numbers;
      long = subst (λ n. All (λ l. length (bytes_of c.decode.new.out l) ≡ n) g.lost.items) long
          (decoded_long s.k s.m (length_of (rows ++ known ++ g.out)) g.lost.items (as_columns rows) (as_columns known)
          known c.decode.new.out sound.lost.below (c.pieces-2.ensures.numbers ∙ sound.known) numbers
          c.decode.ensures.agrees);
      decoded = λ i d below.
          let here = subst
          (λ (ls : List ℕ). All (λ l. bytes_of c.decode.new.out l ≡ decoded s.m (length_of (rows ++ known ++ g.out))
          ls (as_columns rows) (as_columns known) l) ls) c.deref.ensures.value c.decode.ensures.closed_form in
          here i d below ∙ (ap (λ n. decoded s.m n g.lost.items (as_columns rows) (as_columns known) (get_or g.lost.items i d)) long
          ∙ ap₂ (λ (rs ks : List Column). decoded s.m s.block g.lost.items rs ks (get_or g.lost.items i d))
          c.pieces.ensures.columns c.pieces-2.ensures.columns);
    }
