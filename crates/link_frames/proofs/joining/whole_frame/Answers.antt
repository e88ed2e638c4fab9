use Rattle.std.proofs.Common.{◌++◌, List, ℕ, subst, arith}
use Rattle.wire_codec.specs.Reading.{Gives}
use Rattle.link_frames.specs.Links.{frame_of_bytes}
use Rattle.link_frames.proofs.Joins.{found-whole, bad-whole, bytes-within}
use Rattle.link_frames.proofs.joining.whole_frame.Goals as goal

pub returns-clause-found : goal.returns-clause-found
returns-clause-found c =
    let front = c.args.front.now.items in
    found-whole c.args.shape front c.args.piece.now c.args.taken c.joined_frame.result
    (bytes-within front (λ i below. omega (arith, c.type_inv.front i, below)))
    (λ i. omega (arith, c.type_inv.piece i)) c.requires.partial
    c.requires.whole
    (subst (λ (t : List ℕ). Gives (λ f. f) c.joined_frame.result (frame_of_bytes c.args.shape (front ++ t)))
    c.split_at.ensures.front c.joined_frame.ensures.read)

pub returns-clause-bad : goal.returns-clause-bad
returns-clause-bad c =
    let front = c.args.front.now.items in
    bad-whole c.args.shape front c.args.piece.now c.args.taken c.joined_frame.result c.requires.partial c.requires.whole
    (subst (λ (t : List ℕ). Gives (λ f. f) c.joined_frame.result (frame_of_bytes c.args.shape (front ++ t)))
    c.split_at.ensures.front c.joined_frame.ensures.read)
