use Rattle.std.proofs.Common.{ap, sym, ◌∙◌, is_some}
use Rattle.std.proofs.lemmas.Bool.{true≢false}
use Rattle.page_map.proofs.Places.{look_up_gap}
use Rattle.page_map.proofs.pages.place_of.Goals as goal

pub unreachable-requires : goal.unreachable-requires
unreachable-requires c = true≢false (sym c.requires.there ∙ ap is_some (look_up_gap c.args.pages.now c.args.number _ c.in-Err.ensures.absent))
