use Rattle.std.proofs.Common.{subst}
use Rattle.std.specs.List.{AllByRecursion}
use Rattle.wire_codec.specs.Fits.{HasFrame}
use Rattle.wire_codec.proofs.Streams.{cut-front, cut-never-bad, later-all}
use Rattle.wire_codec.proofs.laws.cut_stream_gives_front.Goals as goal

pub returns : goal.returns
returns c = λ sent given input more rest each e reads.
    let cut = cut-front sent given input more rest each e reads in
    let all = later-all given cut.0 (subst (AllByRecursion HasFrame) cut.1 each) in
    (cut.0, cut.1, cut.2, cut-never-bad cut.0 rest more all cut.2)
