use Rattle.std.proofs.Common.{ap, sym, ◌∙◌, is_some}
use Rattle.std.proofs.lemmas.Bool.{true≢false}
use Rattle.page_map.proofs.Places.{look_up_at}
use Rattle.page_map.proofs.pages.gap_for.Goals as goal

pub unreachable-requires : goal.unreachable-requires
unreachable-requires c = true≢false (ap is_some (sym (look_up_at c.args.pages.now c.requires.sorted c.args.number _ c.in-Ok.ensures.found) ∙ c.requires.absent))
