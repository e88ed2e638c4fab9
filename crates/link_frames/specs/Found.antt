-- What a call of a reader gives.
use Rattle.std.specs.Prelude.{ℕ, ◌≡◌, ◌≤◌, false, List, [], ◌++◌, length, take}
use Rattle.link_frames.specs.Cuts.{Waiting}
use Rattle.link_frames.specs.Links.{IsPartialFrame, IsLinkFrame}
use Rattle.link_frames.specs.declared.reader.Next.{Next}
use Rattle.link_frames.specs.declared.reader.Next.TheVariants.{Partial, Whole}

-- all of the piece is kept, or the frame at the front is given and nothing is kept
abbrev pub IsNext : Waiting → Waiting → List ℕ → Next → Type 0
IsNext before after piece Partial = (after ≡ record before { front = before.front ++ piece }) × IsPartialFrame (before.front ++ piece)
IsNext before after piece (Whole f taken) = (after ≡ record before { front = [] }) × (taken ≤ length piece)
    × IsLinkFrame before.shape (before.front ++ take taken piece) f
