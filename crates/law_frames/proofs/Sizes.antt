-- How long the texts of updates are, and of a whole log.
use Rattle.std.proofs.Common.{◌≤◌, ℕ, ◌+◌, ◌*◌, List, [], ◌∷◌, ◌++◌, length, Option, Some, None, ap, arith}
use Rattle.std.specs.List.{AllByRecursion, flat_map}
use Rattle.std.proofs.lemmas.List.{length-append}
use Rattle.std.proofs.lemmas.List.Concat.{flat_map-cons}
use Rattle.group_types.specs.Each.{Each}
use Rattle.group_types.specs.Shape.{most_space}
use Rattle.group_types.specs.declared.run.Run.{Run}
use Rattle.group_message.specs.declared.message.Message.TheVariants as tells
use Rattle.group_message.specs.declared.update.Body.{Body}
use Rattle.group_message.specs.declared.update.Body.TheVariants.{Put, Remove, Touch}
use Rattle.group_message.specs.declared.update.Outcome.{Outcome}
use Rattle.group_message.specs.declared.update.Outcome.TheVariants as ends
use Rattle.group_message.specs.declared.update.Update.{Update}
use Rattle.group_run.specs.Deciding.{window}
use Rattle.group_run.specs.Fitting.{Writes}
use Rattle.group_run.specs.Heading.{partition, rank}
use Rattle.wire_codec.specs.Fits.{HasFrame, IsEight, IsOne, FitsUpdate}
use Rattle.wire_codec.specs.Frame.{one, two, eight, four, short, maybe, run, body, outcome, update}
use Rattle.law_frames.proofs.Apart.{written, total}

length-until : (o : Option ℕ) → length (maybe eight o) ≤ 9
length-until None = omega arith
length-until (Some n) = omega arith

length-frees : (o : Option Run) → length (maybe run o) ≤ 9
length-frees None = omega arith
length-frees (Some r) = omega arith

length-body : (b : Body) → length (body b) ≤ 26 + written b
length-body (Put flags until r delta) =
    let few = length-until until in
    omega (
      arith,
      few,
      length-append (0 ∷ four flags ++ maybe eight until ++ run r) (four (length delta) ++ delta),
      length-append (0 ∷ four flags ++ maybe eight until) (run r),
      length-append (0 ∷ four flags) (maybe eight until),
      length-append (four (length delta)) delta,
    )
length-body Remove = omega arith
length-body (Touch until) = let few = length-until until in omega (arith, few)

length-outcome : (o : Outcome) → length (outcome o) ≤ 9
length-outcome ends.Stored = omega arith
length-outcome ends.Deleted = omega arith
length-outcome ends.Touched = omega arith
length-outcome (ends.Number n) = omega arith

length-update : (u : Update) → FitsUpdate u → length (update u) ≤ 312 + written u.body
length-update u fits =
    let key = fits.3.short in
    let wide = length-body u.body in
    let freed = length-frees u.frees in
    let told = length-outcome u.outcome in
    omega (
      arith,
      key,
      wide,
      freed,
      told,
      length-append (eight u.number ++ one u.caller ++ eight u.call ++ short u.key ++ body u.body ++ maybe run u.frees) (outcome u.outcome),
      length-append (eight u.number ++ one u.caller ++ eight u.call ++ short u.key ++ body u.body) (maybe run u.frees),
      length-append (eight u.number ++ one u.caller ++ eight u.call ++ short u.key) (body u.body),
      length-append (eight u.number ++ one u.caller ++ eight u.call) (short u.key),
    )

length-updates : (us : List Update) → Each FitsUpdate us → length (flat_map update us) ≤ 312 * length us + total us
length-updates [] all = omega arith
length-updates (u ∷ us) all =
    let first = length-update u all.0 in
    let rest = length-updates us all.1 in
    omega (arith, first, rest, ap length (flat_map-cons update u us), length-append (update u) (flat_map update us))

all-fit : (us : List Update) → Each FitsUpdate us → AllByRecursion FitsUpdate us
all-fit [] all = tt
all-fit (u ∷ us) all = (all.0, all-fit us all.1)

-- a whole log whose updates write no more than a space
pub adopt-frame : (r d base : ℕ) (us : List Update) → IsOne r → IsOne d → IsEight base → length us ≤ window
    → Each FitsUpdate us → total us ≤ most_space → HasFrame (tells.Adopt (rank r) (partition d) base us)
adopt-frame r d base us is_r is_d is_base few all small =
    let long = length-updates us all in
    record {
      fit = (is_r, is_d, is_base, omega (arith, few), all-fit us all);
      short = omega (arith, few, small, long, length-append (4 ∷ one r ++ one d ++ eight base ++ two (length us)) (flat_map update us));
    }

-- one update
pub update-frame : (r d stable : ℕ) (u : Update) → IsOne r → IsOne d → IsEight stable → FitsUpdate u
    → written u.body ≤ most_space → HasFrame (tells.Update (rank r) (partition d) u stable)
update-frame r d stable u is_r is_d is_stable fits small =
    let long = length-update u fits in
    record {
      fit = (is_r, is_d, fits, is_stable);
      short = omega (arith, small, long, length-append (1 ∷ one r ++ one d ++ update u) (eight stable), length-append (1 ∷ one r ++ one d) (update u));
    }

-- a body that lies in a space writes no more than that
pub written-few : (space : ℕ) (b : Body) → Writes space b → written b ≤ space
written-few space (Put flags until run delta) writes = let long = writes.long in let inside = writes.inside in omega (arith, long, inside)
written-few space Remove writes = omega arith
written-few space (Touch until) writes = omega arith
