use Rattle.std.proofs.Common.{◌≡◌, None, sym, ◌∙◌, arith}
use Rattle.std.proofs.lemmas.Bool.{true≢false}
use Rattle.page_map.specs.Pages.{page_in}
use Rattle.page_map.proofs.Unions.{none_unless}
use Rattle.block_sessions.proofs.Blocks.{kept, kept_holds, kept_there, less_room}
use Rattle.block_sessions.proofs.rebuilt.keep.Goals as goal

pub returns-then-not-has : goal.returns-then-not-has
returns-then-not-has c =
    let absent : page_in c.args.pages.now c.args.block ≡ None = none_unless (page_in c.args.pages.now c.args.block)
    (λ there. true≢false (sym (c.has.ensures.1 there) ∙ c.if-not-has.true)) in
    record {
      kept = kept c.args.shape 1 c.args.block c.args.bytes c.args.pages.now c.place.new.self c.requires.holds
          c.requires.below absent c.place.ensures.pages c.place.ensures.dimensions;
      holds = λ most holds. kept_holds c.args.shape most c.args.block c.args.bytes c.args.pages.now c.place.new.self
          holds c.requires.whole c.place.ensures.pages c.place.ensures.dimensions c.place.ensures.room;
    }

pub returns-else-not-has : goal.returns-else-not-has
returns-else-not-has c = record {
  kept = kept_there c.args.pages.now c.args.block c.args.bytes (omega (arith, c.requires.holds.blocks)) (c.has.ensures.0 c.if-not-has.false);
  holds = λ most holds. less_room c.args.shape most c.args.pages.now holds;
}
