use Rattle.std.proofs.Common.{◌≡◌, ◌*◌, ℕ, List, option_map, subst, sym, ◌∙◌}
use Rattle.group_run.specs.Applying.{area_added}
use Rattle.page_map.specs.Pages.{page_in}
use Rattle.block_sessions.proofs.Blocks.{put_blocks, remove_blocks, touch_blocks}
use Rattle.block_sessions.proofs.rebuilt.add.Goals as goal

pub returns-in-Put-clause-blocks : goal.returns-in-Put-clause-blocks
returns-in-Put-clause-blocks c = put_blocks c.args.shape c.args.d.0 c.args.update.now c.in-Put.flags c.in-Put.until
    c.in-Put.run' c.in-Put.delta c.args.pages.now c.add_run.new.pages c.in-Put.is
    ((c.add_run.ensures.holds 0 c.requires.holds).blocks ∙ sym c.requires.holds.blocks)
    (λ b. subst (λ (delta : List ℕ). page_in c.add_run.new.pages b
    ≡ option_map (area_added (b * c.args.shape.block) c.in-Put.run'.at delta) (page_in c.args.pages.now b))
    c.bytes.ensures (c.add_run.ensures.blocks b))

pub returns-in-Remove-clause-blocks : goal.returns-in-Remove-clause-blocks
returns-in-Remove-clause-blocks c = remove_blocks c.args.shape c.args.d.0 c.args.update.now c.args.pages.now c.in-Remove.is

pub returns-in-Touch-clause-blocks : goal.returns-in-Touch-clause-blocks
returns-in-Touch-clause-blocks c = touch_blocks c.args.shape c.args.d.0 c.args.update.now c.in-Touch.until c.args.pages.now c.in-Touch.is
