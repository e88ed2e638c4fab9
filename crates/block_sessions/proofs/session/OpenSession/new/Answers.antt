use Rattle.std.proofs.Common.{◌≡◌, ◌<◌, ℕ, List, All, None, length, ap, sym, subst, ◌∙◌}
use Rattle.std.specs.List.Sorted.{IsStrictlyIncreasing}
use Rattle.std.proofs.lemmas.List.{length-replicate}
use Rattle.group_types.specs.Pieces.{numbers_of, zero_pieces}
use Rattle.group_types.specs.declared.piece_list.Piece.{Piece}
use Rattle.block_sessions.specs.Awaited.{Awaited}
use Rattle.block_sessions.specs.Opened.{AreLost, known_of}
use Rattle.block_sessions.proofs.Arrived.{zero_long, zero_numbers}
use Rattle.block_sessions.proofs.Lost.{known_below, known_rises}
use Rattle.block_sessions.proofs.session.OpenSession.new.Goals as goal

pub new-requires-clause-rising : goal.new-requires-clause-rising
new-requires-clause-rising c = subst IsStrictlyIncreasing (sym (c.deref-2.ensures.value ∙ c.in_ok-known.ensures))
    (known_rises c.args.shape.k c.deref.result.now)

pub new-requires-clause-below : goal.new-requires-clause-below
new-requires-clause-below c =
    subst (λ (ns : List ℕ). All (λ n. n < c.k.result) ns) (sym (c.deref-2.ensures.value ∙ c.in_ok-known.ensures))
    (subst (λ k. All (λ n. n < k) (known_of c.args.shape.k c.deref.result.now)) (sym c.k.ensures.value) (known_below c.args.shape.k c.deref.result.now))

pub returns-clause-sound : goal.returns-clause-sound
returns-clause-sound c =
    let s = c.args.shape in
    record {
      block = c.requires.block;
      lost = subst (λ (rows : List ℕ). AreLost s c.args.lost.items rows) (sym (ap (λ (a : Awaited). a.numbers) c.in_ok-new-2.ensures)) c.requires.lost;
      known = ap (λ (a : Awaited). a.numbers) c.in_ok-new.ensures
          ∙ (c.deref-2.ensures.value ∙ (c.in_ok-known.ensures ∙ ap (known_of s.k) c.deref.ensures.value));
      blocks_in = ap (λ (a : Awaited). length a.parts) c.in_ok-new.ensures ∙ (length-replicate c.k.result None ∙ c.k.ensures.value);
      rows_in = ap (λ (a : Awaited). length a.parts) c.in_ok-new-2.ensures ∙ (length-replicate c.m.result None ∙ c.m.ensures.value);
      known_long = ap (λ (a : Awaited). a.block) c.in_ok-new.ensures ∙ c.block.ensures.value;
      coded_long = ap (λ (a : Awaited). a.block) c.in_ok-new-2.ensures ∙ c.block-2.ensures.value;
      out = record {
        numbers = ap numbers_of c.in_ok-new-3.ensures ∙ (zero_numbers c.block-3.result c.deref-3.result.now ∙ c.deref-3.ensures.value);
        long = subst (λ (ps : List Piece). All (λ p. length p.bytes ≡ s.block) ps) (sym c.in_ok-new-3.ensures)
            (subst (λ n. All (λ (p : Piece). length p.bytes ≡ n) (zero_pieces c.block-3.result c.deref-3.result.now))
            c.block-3.ensures.value (zero_long c.block-3.result c.deref-3.result.now));
      };
    }
