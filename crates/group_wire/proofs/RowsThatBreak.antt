-- Rows, by computation.
use Rattle.std.proofs.Common.{arith, refl, take}
use Rattle.std.specs.Fmt.{digits}
use Rattle.field_byte.specs.Field.{product_of_bits, product, inverse_below, inverse}
use Rattle.field_byte.specs.Vectors.{add_bytes, scale}
use Rattle.group_wire.specs.Rows.{d0, p1}
use Rattle.group_wire.specs.RowsThatBreak.{AnsweredBehindTheCut, answered_behind_the_cut_actions, GivenUpAtTheCut}
use Rattle.group_wire.specs.RowsThatBreak.{MoreThanM, OnePongTooFew, PermittedTooEarly, ReadBehindTheCut}
use Rattle.group_wire.specs.RowsThatBreak.{given_up_at_the_cut_actions, more_than_m_actions, one_pong_too_few_actions}
use Rattle.group_wire.specs.RowsThatBreak.{permitted_too_early_actions, read_behind_the_cut_actions}
use Rattle.group_wire.proofs.Checks.{may-come}

pub row_permitted_too_early : PermittedTooEarly
unfolding digits product_of_bits product inverse_below inverse add_bytes scale
row_permitted_too_early =
    record {
      refuses = record {
        there = refl;
        before = may-come 1 2 (take 29 permitted_too_early_actions) refl refl;
        refused = λ may. cc (may.1 p1 (omega arith) (λ same. cc same) refl d0 refl);
      };
      here = refl;
      there = refl;
    }

pub row_read_behind_the_cut : ReadBehindTheCut
unfolding digits product_of_bits product inverse_below inverse add_bytes scale
row_read_behind_the_cut =
    record {
      refuses = record {
        there = refl;
        before = may-come 1 2 (take 31 read_behind_the_cut_actions) refl refl;
        refused = λ may. cc may.reads.uncut;
      };
      here = refl;
      there = refl;
    }

pub row_one_pong_too_few : OnePongTooFew
unfolding digits product_of_bits product inverse_below inverse add_bytes scale
row_one_pong_too_few =
    record {
      refuses = record {
        there = refl;
        before = may-come 1 1 (take 15 one_pong_too_few_actions) refl refl;
        refused = λ may. let enough = may.1.enough in omega (arith, enough);
      };
      shows = refl;
      log = refl;
    }

pub row_given_up_at_the_cut : GivenUpAtTheCut
unfolding digits product_of_bits product inverse_below inverse add_bytes scale
row_given_up_at_the_cut =
    record {
      refuses = record {
        there = refl;
        before = may-come 1 1 (take 3 given_up_at_the_cut_actions) refl refl;
        refused = λ may. cc (may.1.taken, may.1.waits);
      };
      here = refl;
      there = refl;
    }

pub row_more_than_m : MoreThanM
unfolding digits product_of_bits product inverse_below inverse add_bytes scale
row_more_than_m =
    record {
      refuses = record {
        there = refl;
        before = may-come 2 1 (take 38 more_than_m_actions) refl refl;
        refused = λ may. let few = may.3 in omega (arith, few);
      };
      here = refl;
      there = refl;
    }

pub row_answered_behind_the_cut : AnsweredBehindTheCut
unfolding digits product_of_bits product inverse_below inverse add_bytes scale
row_answered_behind_the_cut =
    record {
      refuses = record {
        there = refl;
        before = may-come 2 1 (take 63 answered_behind_the_cut_actions) refl refl;
        refused = λ may. cc may.uncut;
      };
      shows = refl;
      log = refl;
    }
