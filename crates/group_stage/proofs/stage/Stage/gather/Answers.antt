use Rattle.std.proofs.Common.{◌≡◌, ℕ, List, [], ◌∷◌, ◌++◌, length, map, ap, subst, ◌∙◌, arith, length-append}
use Rattle.group_node.specs.Standing.{NodeStanding}
use Rattle.group_stage.specs.Kept.{IsWholeSchedule}
use Rattle.group_stage.specs.Seated.{view_of}
use Rattle.group_stage.specs.Steps.{Sat}
use Rattle.group_stage.specs.Views.{joined_views}
use Rattle.group_stage.specs.declared.seat.Seat.{Seat}
use Rattle.group_stage.specs.declared.view.View.{View}
use Rattle.group_stage.proofs.Gathering.{first-whole, front-of, next-whole}
use Rattle.group_stage.proofs.Parting.{joins}
use Rattle.group_stage.proofs.stage.Stage.gather.Goals as goal

pub seats-init : goal.seats-init
seats-init c =
    let first = c.in-Some.first in
    let is = c.in-Some.ensures.last in
    let both = front-of c.args.self.now c.args.seats.seats c.take.new.self.seats first is c.requires.seats in
    let raw = c.into_raw-all.ensures in
    let parts = ap (λ (r : _). r.me.0.parts) raw in
    let one = first.is_seat.part in
    let many = ap (λ (l : List Seat). length l) is in
    let more = length-append c.take.new.self.seats (first ∷ []) in
    let all = c.requires.all in
    record {
      table = ap (λ (r : _). r.table_id) raw ∙ both.1.table;
      some = omega (arith, parts, one);
      parts = omega (arith, parts, one, many, more, all);
      idle = ap (λ (r : _). r.me.0.held) raw ∙ first.is_seat.idle;
      of_stage = both.0;
      whole = λ es whole. first-whole c.args.self.now.plan.shape c.args.seats.seats c.take.new.self.seats first is es
          (subst (λ (v : View). IsWholeSchedule c.args.self.now.plan.shape es (v ∷ map view_of c.take.new.self.seats)) (ap (λ (r : _). r.me.0) raw) whole);
    }

pub join_seat-requires : goal.join_seat-requires
join_seat-requires c =
    let seat = c.in-Some-take.seat in
    let is = c.in-Some-take.ensures.last in
    let i = c.seats.invariant in
    let both = front-of c.args.self.now c.seats.rest.seats c.take-in-seats.new.self.seats seat is i.of_stage in
    let raw = c.into_raw.ensures in
    let one = seat.is_seat.part in
    let parts = ap (λ (r : _). r.me.0.parts) raw in (
      i.table,
      ap (λ (r : _). r.table_id) raw ∙ both.1.table,
      ap (λ (r : _). r.me.1) raw ∙ seat.is_seat.slots,
      (let w = c.args.self.now.words in omega (arith, w)),
      joins c.args.self.now.table.shared.key c.seats.all.id c.into_raw.result.id c.seats.all.me.0 c.into_raw.result.me.0
          (record { parts = i.some; idle = i.idle; other_parts = omega (arith, parts, one); other_idle = ap (λ (r : _). r.me.0.held) raw ∙ seat.is_seat.idle }),
    )

pub seats-preserved : goal.seats-preserved
seats-preserved c =
    let seat = c.in-Some-take.seat in
    let is = c.in-Some-take.ensures.last in
    let i = c.seats.invariant in
    let both = front-of c.args.self.now c.seats.rest.seats c.take-in-seats.new.self.seats seat is i.of_stage in
    let raw = c.into_raw.ensures in
    let view : c.join_seat.new.seat.me.0 ≡ joined_views c.seats.all.me.0 (view_of seat) =
    ap (λ (m : Sat). m.0) c.join_seat.ensures.2 ∙ ap (λ (r : _). joined_views c.seats.all.me.0 r.me.0) raw in
    let sum = ap (λ (v : View). v.parts) view in
    let one = seat.is_seat.part in
    let many = ap (λ (l : List Seat). length l) is in
    let more = length-append c.take-in-seats.new.self.seats (seat ∷ []) in
    let before = i.parts in
    let some = i.some in
    record {
      table = c.join_seat.ensures.0 ∙ i.table;
      some = omega (arith, sum, some);
      parts = omega (arith, sum, one, many, more, before);
      idle = ap (λ (v : View). v.held) view ∙ ap (λ (hs : List (ℕ × NodeStanding)). hs ++ (view_of seat).held) i.idle ∙ seat.is_seat.idle;
      of_stage = both.0;
      whole = λ es whole. i.whole es (next-whole c.args.self.now.plan.shape c.seats.all.me.0 c.join_seat.new.seat.me.0
          c.seats.rest.seats c.take-in-seats.new.self.seats seat is view es whole);
    }
