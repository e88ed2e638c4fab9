-- Rows, by computation.
use Rattle.std.proofs.Common.{refl, take}
use Rattle.std.specs.Fmt.{digits}
use Rattle.field_byte.specs.Field.{product_of_bits, product, inverse_below, inverse}
use Rattle.field_byte.specs.Vectors.{add_bytes, scale}
use Rattle.group_wire.specs.RowsOfSigns.{AnsweredByALaterPong, LetGoOfUnknownFate, LetGoWhileAsked}
use Rattle.group_wire.specs.RowsOfSigns.{answered_by_a_later_pong_actions, let_go_of_unknown_fate_actions}
use Rattle.group_wire.specs.RowsOfSigns.{let_go_while_asked_actions}
use Rattle.group_wire.proofs.Checks.{may-come}

pub row_answered_by_a_later_pong : AnsweredByALaterPong
unfolding digits product_of_bits product inverse_below inverse add_bytes scale
row_answered_by_a_later_pong = record {
  may = may-come 2 1 answered_by_a_later_pong_actions refl refl;
  answered = refl;
  same = refl;
  shows = refl;
  fails = refl;
}

pub row_let_go_of_unknown_fate : LetGoOfUnknownFate
unfolding digits product_of_bits product inverse_below inverse add_bytes scale
row_let_go_of_unknown_fate = record { may = may-come 1 1 let_go_of_unknown_fate_actions refl refl; answered = refl; same = refl; shows = refl; fails = refl }

pub row_let_go_while_asked : LetGoWhileAsked
unfolding digits product_of_bits product inverse_below inverse add_bytes scale
row_let_go_while_asked =
    record {
      refuses = record {
        there = refl;
        before = may-come 2 1 (take 2 let_go_while_asked_actions) refl refl;
        refused = λ may. cc may.1;
      };
      here = refl;
      there = refl;
    }
