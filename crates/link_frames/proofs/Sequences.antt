-- Streams of frames with sums.
use Rattle.std.proofs.Common.{◌≡◌, ℕ, ◌+◌, ◌≤◌, List, [], ◌∷◌, ◌++◌, length, take, drop, Option, Some, refl, sym, ap, subst, ◌∙◌, append_assoc, arith}
use Rattle.std.specs.List.{AllByRecursion}
use Rattle.std.specs.Int.{w32}
use Rattle.std.proofs.lemmas.List.{length-append, append-nil, take_at, drop_at, take-append-drop, take-append-le}
use Rattle.std.proofs.lemmas.List.Concat.{flat_map-cons}
use Rattle.group_types.specs.Dimensions.{Dimensions}
use Rattle.wire_codec.specs.Stream.{announced, IsLength}
use Rattle.wire_codec.proofs.Cuts.{announced-more}
use Rattle.link_frames.specs.declared.frame.Frame.{Frame}
use Rattle.link_frames.specs.Limits.{HasLink}
use Rattle.link_frames.specs.Links.{link_frame, link_stream, HasNoFrame, IsPartialFrame, IsBroken, ReadsLink, frame_of_bytes}
use Rattle.link_frames.specs.Spelling.{link_text}
use Rattle.link_frames.proofs.Whole.{length-link, link_fronts, frame_again}
use Rattle.wire_codec.proofs.Codes.{some_is}

-- no frame is the front of another
pub link_once : (s : Dimensions) (f g : Frame) (x y : List ℕ) → HasLink s f → HasLink s g → link_frame f ++ x ≡ link_frame g ++ y → (f ≡ g) × (x ≡ y)
link_once s f g x y has other e =
    let one = link_fronts s (link_frame f ++ x) x f has refl in
    let two = link_fronts s (link_frame f ++ x) y g other e in
    let mine = one.says in
    let theirs = two.says in
    let long : length (link_frame f) ≡ length (link_frame g) = omega (arith, length-link f, length-link g, mine, theirs) in
    let n = length (link_frame f) in
    let same : link_frame f ≡ link_frame g = sym (take_at (link_frame f) x n refl) ∙ ap (λ (t : List ℕ). take n t) e ∙ take_at (link_frame g) y n (sym long) in
    let behind : x ≡ y = sym (drop_at (link_frame f) x n refl) ∙ ap (λ (t : List ℕ). drop n t) e ∙ drop_at (link_frame g) y n (sym long) in
    (some_is f g (sym (frame_again s f has) ∙ ap (frame_of_bytes s) same ∙ frame_again s g other), behind)

-- an input is read in one way
pub link-reads-once : (s : Dimensions) (frames others : List Frame) (input rest left : List ℕ)
    → ReadsLink s input frames rest → HasNoFrame s rest → ReadsLink s input others left → HasNoFrame s left
    → (frames ≡ others) × (rest ≡ left)
link-reads-once s [] [] input rest left one none other last = (refl, sym one.whole ∙ other.whole)
link-reads-once s [] (g ∷ others) input rest left one none other last =
    absurd (none g (link_stream others ++ left) other.each.0 (sym one.whole ∙ other.whole
    ∙ ap (λ (t : List ℕ). t ++ left) (flat_map-cons link_frame g others)
    ∙ append_assoc (link_frame g) (link_stream others) left))
link-reads-once s (f ∷ frames) [] input rest left one none other last =
    absurd (last f (link_stream frames ++ rest) one.each.0 (sym other.whole ∙ one.whole
    ∙ ap (λ (t : List ℕ). t ++ rest) (flat_map-cons link_frame f frames)
    ∙ append_assoc (link_frame f) (link_stream frames) rest))
link-reads-once s (f ∷ frames) (g ∷ others) input rest left one none other last =
    let mine : input ≡ link_frame f ++ (link_stream frames ++ rest) = one.whole
    ∙ ap (λ (t : List ℕ). t ++ rest) (flat_map-cons link_frame f frames)
    ∙ append_assoc (link_frame f) (link_stream frames) rest in
    let theirs : input ≡ link_frame g ++ (link_stream others ++ left) = other.whole
    ∙ ap (λ (t : List ℕ). t ++ left) (flat_map-cons link_frame g others)
    ∙ append_assoc (link_frame g) (link_stream others) left in
    let first = link_once s f g (link_stream frames ++ rest) (link_stream others ++ left) one.each.0 other.each.0 (sym mine ∙ theirs) in
    let tail = link-reads-once s frames others (link_stream frames ++ rest) rest left
    (record { whole = refl; each = one.each.1 }) none (record { whole = first.1; each = other.each.1 }) last in
    (same first.0 tail.0, tail.1)
  where
    same : {f g : Frame} {frames others : List Frame} → f ≡ g → frames ≡ others → (f ∷ frames) ≡ (g ∷ others)
    same first rest = cc

-- what was read of the front of a stream is a front of what was sent
pub link-front : (s : Dimensions) (sent given : List Frame) (input more rest : List ℕ) → AllByRecursion (HasLink s) sent
    → link_stream sent ≡ input ++ more → ReadsLink s input given rest → (later : List Frame) × (sent ≡ given ++ later)
    × (link_stream later ≡ rest ++ more)
link-front s sent [] input more rest each e reads = (sent, refl, e ∙ ap (λ (t : List ℕ). t ++ more) reads.whole)
link-front s [] (g ∷ given) input more rest each e reads =
    let long = ap length e in
    absurd (omega (
      arith,
      long,
      length-append input more,
      ap length reads.whole,
      length-append (link_stream (g ∷ given))
          rest,
      ap length (flat_map-cons link_frame g given),
      length-append (link_frame g) (link_stream given),
      length-link g,
    ))
link-front s (f ∷ sent) (g ∷ given) input more rest each e reads =
    let mine : link_stream (f ∷ sent) ≡ link_frame f ++ link_stream sent = flat_map-cons link_frame f sent in
    let theirs : input ++ more ≡ link_frame g ++ ((link_stream given ++ rest) ++ more) =
    ap (λ (t : List ℕ). t ++ more) (reads.whole ∙ ap (λ (t : List ℕ). t ++ rest) (flat_map-cons link_frame g given)
    ∙ append_assoc (link_frame g) (link_stream given) rest)
    ∙ append_assoc (link_frame g) (link_stream given ++ rest) more in
    let first = link_once s f g (link_stream sent) ((link_stream given ++ rest) ++ more) each.0 reads.each.0 (sym mine ∙ e ∙ theirs) in
    let tail = link-front s sent given (link_stream given ++ rest) more rest each.1 first.1 (record { whole = refl; each = reads.each.1 }) in
    (tail.0, same first.0 tail.1, tail.2)
  where
    same : {f g : Frame} {frames others : List Frame} → f ≡ g → frames ≡ others → (f ∷ frames) ≡ (g ∷ others)
    same first rest = cc

-- a frame that is no spelling isn't the front of a frame
broken-none : (s : Dimensions) (rest piece : List ℕ) (f : Frame) (more : List ℕ) → IsBroken s rest → HasLink s f → rest ++ piece ≡ link_frame f ++ more → ⊥
broken-none s rest piece f more bad has e =
    let l = link_fronts s (rest ++ piece) more f has e in
    let same : announced (rest ++ piece) ≡ announced rest = announced-more rest piece bad.header in
    let due = bad.due (subst IsLength same l.in_range) in
    let says = l.says in
    let n = length (link_frame f) in
    let le : n ≤ length rest = omega (arith, length-link f, due, same, says) in
    let front : take n (rest ++ piece) ≡ link_frame f = ap (λ (t : List ℕ). take n t) e ∙ take_at (link_frame f) more n refl in
    let is : rest ≡ link_frame f ++ drop n rest = sym (take-append-drop n rest) ∙ ap (λ (t : List ℕ). t ++ drop n rest)
    (sym (take-append-le n rest piece le) ∙ front) in
    bad.none f (drop n rest) has is

pub link-never-broken : (s : Dimensions) (later : List Frame) (rest more : List ℕ) → AllByRecursion (HasLink s) later
    → link_stream later ≡ rest ++ more → ¬ (IsBroken s rest)
link-never-broken s [] rest more each e bad =
    let header = bad.header in
    omega (arith, header, length-append rest more, ap length e)
link-never-broken s (f ∷ later) rest more each e bad =
    broken-none s rest more f (link_stream later) bad each.0 (sym e ∙ flat_map-cons link_frame f later)

pub later-linked : (s : Dimensions) (given later : List Frame) → AllByRecursion (HasLink s) (given ++ later) → AllByRecursion (HasLink s) later
later-linked s [] later all = all
later-linked s (g ∷ given) later all = later-linked s given later all.1
