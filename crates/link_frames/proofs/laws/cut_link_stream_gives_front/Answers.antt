use Rattle.std.proofs.Common.{subst}
use Rattle.std.specs.List.{AllByRecursion}
use Rattle.link_frames.specs.Limits.{HasLink}
use Rattle.link_frames.proofs.Sequences.{link-front, link-never-broken, later-linked}
use Rattle.link_frames.proofs.laws.cut_link_stream_gives_front.Goals as goal

pub returns : goal.returns
returns c = λ s sent given input more rest each e reads.
    let cut = link-front s sent given input more rest each e reads in
    let all = later-linked s given cut.0 (subst (AllByRecursion (HasLink s)) cut.1 each) in
    (cut.0, cut.1, cut.2, link-never-broken s cut.0 rest more all cut.2)
